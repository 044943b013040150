-- Runs of calls to a new reader over a new sheet, and the book that is kept of them. Calls and events have the newest first.
use Rattle.std.specs.Prelude.{ℕ, Bool, true, false, cond, List, [], ◌∷◌, ◌++◌, reverse, length, Some, None, Ok, Err, Option, Result, ◌==◌}
use Rattle.record.specs.declared.row.Row.{Row}
use Rattle.record.specs.declared.row.PlacedRow.{PlacedRow}
use Rattle.record.specs.declared.refusal.Refusal.{Refusal}
use Rattle.record.specs.Refusals.{numbered}
use Rattle.file.specs.Form.{Contents, opened}
use Rattle.knowledge.specs.Understood.{Knows}
use Rattle.card.specs.Cards.{Name}
use Rattle.sheet.specs.Sheets.{Model, model}
use Rattle.rules.specs.Steps.{kept_rows}
use Rattle.calls.specs.declared.answer.Answer.{Answer}
use Rattle.calls.specs.declared.answer.Answer.TheVariants.{Done, Added, Refused}
use Rattle.calls.specs.Calls.{taken, Begun, begun, with_row, tokens_of, Reading, idle, Out, Call, begin, row, file, finish, abandon, step}

-- Runs.

-- what a reader and its sheet stand for
pub record State : Type 0 where
  pub reading : Reading
  pub sheet : Model

-- a new sheet: it has no rows, and a capacity and a cost of its own
pub record New : Type 0 where
  pub capacity : ℕ
  pub cost : ℕ → ℕ

abbrev pub at_start : New → State
at_start new = record { reading = idle; sheet = model [] [] new.capacity new.cost }

abbrev pub left : Out → State
left o = record { reading = o.reading; sheet = o.sheet }

-- after these calls to a new reader over the new sheet
abbrev pub after : New → List Call → State
after new [] = at_start new
after new (c ∷ past) = left (step c (after new past).reading (after new past).sheet)

-- what a call answers behind others
abbrev pub answer_to : New → Call → List Call → Answer
answer_to new c past = (step c (after new past).reading (after new past).sheet).answer

abbrev pub sealed_by : New → List Call → List PlacedRow
sealed_by new calls = (after new calls).sheet.sealed

-- a call's arguments besides the sheet, and its answer
pub record Event : Type 0 where
  pub call : Call
  pub answer : Answer

abbrev pub event : Call → Answer → Event
event c a = record { call = c; answer = a }

abbrev pub events : New → List Call → List Event
events new [] = []
events new (c ∷ past) = event c (answer_to new c past) ∷ events new past

-- The book: sealed rows and at most one open record, by events alone.

pub record Book : Type 0 where
  pub sealed : List PlacedRow
  pub current : Option Begun

abbrev pub book_of : List PlacedRow → Option Begun → Book
book_of sealed current = record { sealed = sealed; current = current }

abbrev pub is_accepted : Answer → Bool
is_accepted Done = true
is_accepted (Added n) = true
is_accepted (Refused e) = false

-- refusal 22, which closes the record
abbrev pub is_mismatch : Answer → Bool
is_mismatch Done = false
is_mismatch (Added n) = false
is_mismatch (Refused e) = (numbered e).number == 22

-- the kept rows of a record, with places
abbrev pub kept_in : Begun → List PlacedRow
kept_in b = kept_rows b.taken.knows b.taken.extensions (tokens_of b)

abbrev pub kept_in_any : Option Begun → List PlacedRow
kept_in_any None = []
kept_in_any (Some b) = kept_in b

abbrev pub grown : Row → Option Begun → Option Begun
grown r None = None
grown r (Some b) = Some (with_row r b)

-- the record of a file
abbrev pub record_in : Result Contents Refusal → Knows → List Name → Option Begun
record_in (Ok contents) knows extensions = Some (begun (taken contents.texts knows extensions) (reverse contents.rows))
record_in (Err e) knows extensions = None

abbrev pub enter : Call → Answer → Book → Book
enter (begin t) a b = cond (is_accepted a) (book_of b.sealed (Some (begun t []))) b
enter (row r) a b = cond (is_accepted a) (book_of b.sealed (grown r b.current)) b
enter (file bytes knows extensions) a b =
    cond (is_accepted a) (book_of (b.sealed ++ kept_in_any (record_in (opened bytes) knows extensions)) b.current) b
enter finish a b =
    cond (is_accepted a) (book_of (b.sealed ++ kept_in_any b.current) None) (cond (is_mismatch a) (book_of b.sealed None) b)
enter abandon a b = cond (is_accepted a) (book_of b.sealed None) b

abbrev pub book : List Event → Book
book [] = book_of [] None
book (e ∷ past) = enter e.call e.answer (book past)

-- Which call began the record that was begun last: the number of calls before it.

abbrev pub begun_at : Call → Answer → ℕ → ℕ → ℕ
begun_at (begin t) a here before = cond (is_accepted a) here before
begun_at (row r) a here before = before
begun_at (file bytes knows extensions) a here before = before
begun_at finish a here before = before
begun_at abandon a here before = before

abbrev pub begun_by : List Event → ℕ
begun_by [] = 0
begun_by (e ∷ past) = begun_at e.call e.answer (length past) (begun_by past)
