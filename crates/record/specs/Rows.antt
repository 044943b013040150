-- Rows and their kinds.
use Rattle.std.specs.Prelude.{◌≡◌, ℕ, cond, Some, None, Option, Result, MatchResult, ◌==◌}
use Rattle.record.specs.declared.row.Kind.{Kind}
use Rattle.record.specs.declared.row.UnknownKind.{UnknownKind}
use Rattle.record.specs.declared.row.Kind.TheVariants.{Start, Declaration, Attribute, Text, End}

abbrev pub kind_number : Kind → ℕ
kind_number Start = 1
kind_number Declaration = 2
kind_number Attribute = 3
kind_number Text = 4
kind_number End = 5

-- the kind with this number, if there is one
abbrev pub kind_of : ℕ → Option Kind
kind_of n =
    cond (n == 1) (Some Start)
    (cond (n == 2) (Some Declaration)
    (cond (n == 3) (Some Attribute)
    (cond (n == 4) (Some Text)
    (cond (n == 5) (Some End) None))))

-- the result is the kind with this number, or the number, which no kind has
abbrev pub NamesKind : ℕ → Result Kind UnknownKind → Type 0
NamesKind n r = MatchResult r (λ kind. kind_of n ≡ Some kind) (λ unknown. (unknown.0 ≡ n) × (kind_of n ≡ None))
