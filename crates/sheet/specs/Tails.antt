-- What a put has to know of a draft.
use Rattle.std.specs.Prelude.{◌≡◌, ℕ, ◌≤◌, Bool, T, length, take, drop, Some, Option, Result}
use Rattle.record.specs.declared.row.PlacedRow.{PlacedRow}
use Rattle.record.specs.declared.refusal.Refusal.{Refusal}
use Rattle.sheet.specs.declared.tail.Tail.{Tail}
use Rattle.sheet.specs.Rows.{Rows, open_behind, open_in, last_place, all_close, pairs}
use Rattle.sheet.specs.Sheets.{follows, refusal, answer}

unfoldable pub tail_of : Rows → Tail
tail_of draft = record { last = last_place draft; starts = open_in draft }

unfoldable pub tail_refusal : Tail → PlacedRow → Bool → Option Refusal
tail_refusal t x room = refusal (follows t.last t.starts x) room x.place

abbrev pub judged : Tail → PlacedRow → Bool → Result (Unit {0}) Refusal
judged t x room = answer (tail_refusal t x room) tt

unfoldable pub tail_behind : Tail → PlacedRow → Tail
tail_behind t x = record { last = Some x.place; starts = open_behind t.starts x }

-- Of these rows the first n are sealed and pair, and the tail is that of the rest, a draft.
abbrev pub Drafted : ℕ → Tail → Rows → Type 0
Drafted n t xs =
    (n ≤ length xs) × (t ≡ tail_of (drop n xs)) × T (all_close 0 (drop n xs)) × T (pairs (take n xs))
