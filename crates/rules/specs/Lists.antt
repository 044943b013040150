-- Words for the laws: a member of a list, a list with some entries left out, places that rise, starts and ends that pair.
use Rattle.std.specs.Prelude.{◌≡◌, ℕ, zero, suc, ◌≤◌, ◌⊎◌, List, [], ◌∷◌, ◌++◌, length, Some, None, Option}
use Rattle.record.specs.declared.row.Row.{Row}
use Rattle.record.specs.declared.row.PlacedRow.{PlacedRow}
use Rattle.record.specs.declared.row.Kind.{Kind}
use Rattle.record.specs.declared.row.Kind.TheVariants.{Start, Declaration, Attribute, Text, End}
use Rattle.record.specs.Rows.{kind_of}
use Rattle.rules.specs.Elements.{placed_at}

abbrev pub In : {A : Type 0} → A → List A → Type 0
In x [] = ⊥
In x (y ∷ ys) = (x ≡ y) ⊎ In x ys

-- the first list is the second with some entries left out
pub data Sub (A : Type 0) : List A → List A → Type 0 where
  none : Sub A [] []
  skip : {x : A} {xs ys : List A} → Sub A xs ys → Sub A xs (x ∷ ys)
  same : {x : A} {xs ys : List A} → Sub A xs ys → Sub A (x ∷ xs) (x ∷ ys)

-- each number is above the one before, and the first is at least m
abbrev pub RisesFrom : ℕ → List ℕ → Type 0
RisesFrom m [] = Unit {0}
RisesFrom m (n ∷ ns) = (m ≤ n) × RisesFrom (suc n) ns

-- all rows of a record with their places, in order; given newest first
unfoldable pub placed_rows : List Row → List PlacedRow
placed_rows [] = []
placed_rows (r ∷ past) = placed_rows past ++ (placed_at (length past) r ∷ [])

-- how many starts are open after a row; none where an end has no start
abbrev pub opens : Option Kind → Option ℕ → Option ℕ
opens kind None = None
opens (Some Start) (Some n) = Some (suc n)
opens (Some Declaration) (Some n) = Some n
opens (Some Attribute) (Some n) = Some n
opens (Some Text) (Some n) = Some n
opens (Some End) (Some zero) = None
opens (Some End) (Some (suc n)) = Some n
opens None (Some n) = None

abbrev pub open_after : Option ℕ → List PlacedRow → Option ℕ
open_after n [] = n
open_after n (x ∷ xs) = open_after (opens (kind_of x.row.kind) n) xs
