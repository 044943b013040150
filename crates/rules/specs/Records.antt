-- What is judged of a record so far, and so its draft; the outcome of a whole record.
use Rattle.std.specs.Prelude.{ℕ, cond, List, [], ◌∷◌, reverse, length, Some, None, Ok, Err, Option, Result}
use Rattle.std.specs.Option.{option_or}
use Rattle.text.specs.Bytes.{Bytes}
use Rattle.record.specs.declared.row.Row.{Row}
use Rattle.record.specs.declared.row.PlacedRow.{PlacedRow}
use Rattle.record.specs.declared.row.Kind.{Kind}
use Rattle.record.specs.declared.row.Kind.TheVariants.{Start, Declaration, Attribute, Text, End}
use Rattle.record.specs.declared.refusal.Refusal.{Refusal}
use Rattle.record.specs.declared.refusal.Refusal.TheVariants.{OutOfOrder}
use Rattle.knowledge.specs.Understood.{Knows}
use Rattle.card.specs.Cards.{Name}
use Rattle.rules.specs.Elements.{Token, tag, text, end, tokens}
use Rattle.rules.specs.Steps.{kept_rows}
use Rattle.rules.specs.Mismatches.{mismatches}
use Rattle.rules.specs.Faults.{first, faults}
use Rattle.rules.specs.Order.{row_faults, has_ended}

-- An element waits until the first row comes that is not its declaration or attribute; all else is judged.
unfoldable pub judged : List Token → List Token
judged [] = []
judged (tag t ∷ past) = past
judged (text x ∷ past) = text x ∷ past
judged (end x ∷ past) = end x ∷ past

-- the element that waits
unfoldable pub waiting : List Token → List Token
waiting [] = []
waiting (tag t ∷ past) = tag t ∷ []
waiting (text x ∷ past) = []
waiting (end x ∷ past) = []

-- what a row behind these tokens lets be judged, newest first: the element that waits, then the row itself if it is a text or an end
unfoldable pub newly_judged : Option Kind → PlacedRow → List Token → List Token
newly_judged (Some Start) x past = waiting past
newly_judged (Some Declaration) x past = []
newly_judged (Some Attribute) x past = []
newly_judged (Some Text) x past = text x ∷ waiting past
newly_judged (Some End) x past = end x ∷ waiting past
newly_judged None x past = []

-- what a record that is sealed adds to a sheet
pub record Sealed : Type 0 where
  pub rows : List PlacedRow
  pub count : ℕ

unfoldable pub sealing : List PlacedRow → Sealed
sealing rows = record { rows = rows; count = length rows }

unfoldable pub or_refused : Option Refusal → Result Sealed Refusal → Result Sealed Refusal
or_refused None rest = rest
or_refused (Some refusal) rest = Err refusal

-- by the texts of a record, a knowledge and an extension list; rows with the newest first
module _ (texts : List Bytes) (knows : Knows) (extensions : List Name) where
  -- the kept rows of what is judged
  unfoldable pub draft : List Row → List PlacedRow
  draft rows = kept_rows knows extensions (judged (tokens texts rows))

  -- The first refusal of a record's rows: each row is tried whether it may come next, then what it lets be judged.
  unfoldable pub refusal : List Row → Option Refusal
  refusal [] = None
  refusal (r ∷ past) =
      option_or (refusal past) (option_or (first (row_faults texts past r)) (first (faults knows extensions (judged (tokens texts (r ∷ past))))))

  -- finish, after the root's end; of the mismatches the first counts
  unfoldable pub finished : List Row → Result Sealed Refusal
  finished rows =
      cond (has_ended (tokens texts rows))
      (or_refused (first (mismatches knows extensions (tokens texts rows))) (Ok (sealing (kept_rows knows extensions (tokens texts rows)))))
      (Err (OutOfOrder (length rows)))

  -- The outcome of a whole record, its rows in order: the first refusal, or the first mismatch, or the kept rows and their number.
  unfoldable pub outcome : List Row → Result Sealed Refusal
  outcome rows = or_refused (refusal (reverse rows)) (finished (reverse rows))

-- opens the definitions of this file, for a proof that computes
unfoldable pub open_records : Unit {0}
unfolding judged waiting newly_judged sealing or_refused draft refusal finished outcome
open_records = tt
