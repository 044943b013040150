-- A case: what a record is read with, its rows, and what must come of it.
use Rattle.std.specs.Prelude.{◌≡◌, ℕ, List, map, Ok, Err, Result, slice_index_or}
use Rattle.std.specs.Str.{bytes_eq}
use Rattle.text.specs.Bytes.{Bytes}
use Rattle.record.specs.declared.row.Row.{Row}
use Rattle.record.specs.declared.refusal.Refusal.{Refusal}
use Rattle.knowledge.specs.Understood.{Knows}
use Rattle.card.specs.Cards.{Name}
use Rattle.card.specs.Rows.{some}
use Rattle.rules.specs.Records.{Sealed, outcome}

pub record Case : Type 0 where
  pub texts : List Bytes
  pub understood : List Bytes
  pub extensions : List Name
  pub rows : List Row
  pub expected : Result Sealed Refusal

-- Rows.

abbrev pub row : ℕ → ℕ → ℕ → ℕ → Row
row kind a b c = record { kind = kind; a = a; b = b; c = c }

abbrev pub start : ℕ → ℕ → Row
start namespace name = row 1 namespace name 0

abbrev pub declare : ℕ → ℕ → Row
declare prefix namespace = row 2 prefix namespace 0

abbrev pub attribute : ℕ → ℕ → ℕ → Row
attribute namespace name value = row 3 namespace name value

abbrev pub text : ℕ → Row
text n = row 4 n 0 0

abbrev pub end : Row
end = row 5 0 0 0

-- Outcomes: the rows at these places, so many in all; or a refusal.

abbrev pub keeps : List Row → List ℕ → ℕ → Result Sealed Refusal
keeps rows places count = Ok (record { rows = map (λ (p : ℕ). record { place = p; row = slice_index_or rows p end }) places; count = count })

abbrev pub refuses : Refusal → Result Sealed Refusal
refuses refusal = Err refusal

abbrev pub knowing : List Bytes → Knows
knowing names ns = some (λ (name : Bytes). bytes_eq name ns) names

abbrev pub come_of : Case → Result Sealed Refusal
come_of c = outcome c.texts (knowing c.understood) c.extensions c.rows

abbrev pub wanted : Case → Result Sealed Refusal
wanted c = c.expected

-- every case comes out as stated
abbrev pub AsStated : List Case → Type 0
AsStated cases = map come_of cases ≡ map wanted cases
