-- The kinds of a card's rows.
use Rattle.std.specs.Prelude.{◌≡◌, ℕ, cond, Some, None, Option, Result, MatchResult, ◌==◌}
use Rattle.record.specs.declared.row.UnknownKind.{UnknownKind}
use Rattle.card.specs.declared.kind.CardKind.{CardKind}
use Rattle.card.specs.declared.kind.CardKind.TheVariants.{Name, Stem, Extension}

abbrev pub kind_number : CardKind → ℕ
kind_number Name = 21
kind_number Stem = 22
kind_number Extension = 23

-- the kind with this number, if there is one
abbrev pub kind_of : ℕ → Option CardKind
kind_of n = cond (n == 21) (Some Name) (cond (n == 22) (Some Stem) (cond (n == 23) (Some Extension) None))

-- the result is the kind with this number, or the number, which no kind has
abbrev pub NamesKind : ℕ → Result CardKind UnknownKind → Type 0
NamesKind n r = MatchResult r (λ kind. kind_of n ≡ Some kind) (λ unknown. (unknown.0 ≡ n) × (kind_of n ≡ None))
