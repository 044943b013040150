-- When a progress is that of a record: its rows newest first, by the texts that their numbers name.
use Rattle.std.specs.Prelude.{◌≡◌, ℕ, Bool, not, ◌&&◌, List, length, ◌==◌}
use Rattle.text.specs.Bytes.{Bytes}
use Rattle.record.specs.declared.row.Row.{Row}
use Rattle.rules.specs.Elements.{Token, tokens, around}
use Rattle.rules.specs.Order.{has_ended}
use Rattle.rules.specs.Records.{waiting}
use Rattle.order.specs.declared.progress.Progress.{Progress}
use Rattle.order.specs.Waits.{waiting_of}

-- the place of the row that comes next
abbrev pub next_place : Progress → ℕ
next_place p = p.rows

-- the root's end has come: no element is open, and there are rows
abbrev pub is_ended : Progress → Bool
is_ended p = p.depth == 0 && not (p.rows == 0)

-- the element that waits to be judged
abbrev pub waiting_in : List Bytes → Progress → List Token
waiting_in texts p = waiting_of texts p.waiting

pub record Follows (texts : List Bytes) (rows : List Row) (p : Progress) : Type 0 where
  pub count : next_place p ≡ length rows
  pub depth : p.depth ≡ length (around (tokens texts rows))
  pub ended : is_ended p ≡ has_ended (tokens texts rows)
  pub waits : waiting_in texts p ≡ waiting (tokens texts rows)
