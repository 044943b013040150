-- Rows with places: which may be held, what they cost, and how their starts and ends pair.
use Rattle.std.specs.Prelude.{ℕ, ◌+◌, ◌-◌, Bool, true, false, cond, not, ◌&&◌, ◌||◌, List, [], ◌∷◌, Some, None, fold, Option, ◌==◌, nat_lt}
use Rattle.record.specs.declared.row.Row.{Row}
use Rattle.record.specs.declared.row.PlacedRow.{PlacedRow}
use Rattle.record.specs.declared.row.Kind.{Kind}
use Rattle.record.specs.declared.row.Kind.TheVariants.{Start, Declaration, Attribute, Text, End}
use Rattle.record.specs.Rows.{kind_of, kind_number}

abbrev pub Rows : Type 0
Rows = List PlacedRow

abbrev pub is_start : PlacedRow → Bool
is_start x = x.row.kind == kind_number Start

abbrev pub is_end : PlacedRow → Bool
is_end x = x.row.kind == kind_number End

-- A row has a kind, and the numbers that rows of the kind do not use are 0.
abbrev pub formed : Option Kind → Row → Bool
formed None r = false
formed (Some Start) r = r.c == 0
formed (Some Declaration) r = r.c == 0
formed (Some Attribute) r = true
formed (Some Text) r = r.b == 0 && r.c == 0
formed (Some End) r = r.a == 0 && (r.b == 0 && r.c == 0)

unfoldable pub well_formed : Row → Bool
well_formed r = formed (kind_of r.kind) r

-- the starts that are open behind a row, from those before it
abbrev pub open_behind : ℕ → PlacedRow → ℕ
open_behind starts x = cond (is_start x) (starts + 1) (cond (is_end x) (starts - 1) starts)

-- the starts that rows leave open
unfoldable pub open_in : Rows → ℕ
open_in xs = fold open_behind 0 xs

-- an end has a start to close
abbrev pub closes : ℕ → PlacedRow → Bool
closes starts x = not (is_end x) || nat_lt 0 starts

-- each end of the rows has one, where so many starts are open before them
abbrev pub all_close : ℕ → Rows → Bool
all_close starts [] = true
all_close starts (x ∷ xs) = closes starts x && all_close (open_behind starts x) xs

-- Starts and ends pair: every end closes a start, and no start is left open.
unfoldable pub pairs : Rows → Bool
pairs xs = all_close 0 xs && open_in xs == 0

-- the place of the last row, if there is one
unfoldable pub last_place : Rows → Option ℕ
last_place xs = fold (λ _ x. Some x.place) None xs

abbrev pub is_above : Option ℕ → ℕ → Bool
is_above None place = true
is_above (Some last) place = nat_lt last place

-- what a row costs, fixed by the number of its kind, and what rows cost together
abbrev pub cost_of : (ℕ → ℕ) → PlacedRow → ℕ
cost_of cost x = cost x.row.kind

abbrev pub spent : (ℕ → ℕ) → Rows → ℕ
spent cost [] = 0
spent cost (x ∷ xs) = cost_of cost x + spent cost xs
