-- When the entries of an outline are in order.
use Rattle.std.specs.Prelude.{◌≡◌, ℕ, zero, suc, ◌+◌, ◌*◌, ◌≤◌, Bool, true, false, ◌&&◌, T, List, [], ◌∷◌, length, take, Some, None, Option, nat_le, nat_lt}
use Rattle.std.specs.List.{slice_get}
use Rattle.std.specs.List.Sorted.{IsNonDecreasingBy}
use Rattle.sheet.specs.Rows.{spent}
use Rattle.outline.specs.declared.entry.Entry.{Entry}
use Rattle.outline.specs.declared.entry.Span.{Span}
use Rattle.outline.specs.declared.entry.Span.TheVariants.{Leaf, Open, Closed}
use Rattle.outline.specs.Entries.{rows_of, outline_cost}
use Rattle.outline.specs.Found.{Findable, LeadsUp}

-- the last entry inside a closed start, itself number `k`, is before entry `i`
abbrev pub span_before : ℕ → ℕ → Span → Bool
span_before k i Leaf = true
span_before k i Open = true
span_before k i (Closed place between) = nat_lt (k + between) i

abbrev pub all_before : ℕ → ℕ → List Entry → Bool
all_before k i [] = true
all_before k i (e ∷ es) = span_before k i e.span && all_before (k + 1) i es

abbrev pub is_open : Span → Bool
is_open Leaf = false
is_open Open = true
is_open (Closed place between) = false

abbrev pub is_below : Option ℕ → ℕ → Bool
is_below None i = true
is_below (Some j) i = nat_lt j i

-- an open start, in the draft: no closed one before it reaches past it, and what is around it comes before it
abbrev pub opens_at : ℕ → List Entry → ℕ → (Option ℕ → Bool) → Option Entry → Bool
opens_at sealed es i rest None = false
opens_at sealed es i rest (Some e) =
    nat_le sealed i && (is_open e.span && (is_below e.around i && (all_before 0 i (take i es) && rest e.around)))

-- so many starts are open, each inside the next
abbrev pub chained : ℕ → List Entry → ℕ → Option ℕ → Bool
chained sealed es zero None = true
chained sealed es zero (Some i) = false
chained sealed es (suc n) None = false
chained sealed es (suc n) (Some i) = opens_at sealed es i (chained sealed es n) (slice_get es i)

-- Entries of which the first are sealed: so many rows, so many starts open in them, and the innermost of these.
-- Every row that is no end has an entry.
abbrev pub Kept : ℕ → List Entry → ℕ → ℕ → Option ℕ → Type 0
Kept sealed es total starts top =
    (length (rows_of es) ≡ total)
    × (spent outline_cost (rows_of es) ≡ length es)
    × (total + starts ≤ 2 * length es)
    × T (all_before 0 (length es) es)
    × T (chained sealed es starts top)

-- Such entries, by whose numbers each of their rows is found.
pub record Sound (sealed : ℕ) (es : List Entry) (total starts : ℕ) (top : Option ℕ) : Type 0 where
  pub kept : Kept sealed es total starts top
  pub rises : IsNonDecreasingBy (λ e. e.number) es
  pub finds : Findable es total (rows_of es)
  pub leads : LeadsUp es total top
