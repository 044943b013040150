-- The entries of an outline, and the rows that they stand for.
use Rattle.std.specs.Prelude.{ℕ, ◌+◌, cond, List, [], ◌∷◌, ◌++◌, Some, Option, ◌==◌}
use Rattle.record.specs.declared.row.PlacedRow.{PlacedRow}
use Rattle.record.specs.declared.row.Kind.TheVariants.{End}
use Rattle.record.specs.Rows.{kind_number}
use Rattle.sheet.specs.Rows.{Rows, is_start}
use Rattle.outline.specs.declared.entry.Entry.{Entry}
use Rattle.outline.specs.declared.entry.Span.{Span}
use Rattle.outline.specs.declared.entry.Span.TheVariants.{Leaf, Open, Closed}

abbrev pub end_row : ℕ → PlacedRow
end_row place = record { place = place; row = record { kind = kind_number End; a = 0; b = 0; c = 0 } }

-- An end costs nothing, since it has no entry.
abbrev pub outline_cost : ℕ → ℕ
outline_cost kind = cond (kind == kind_number End) 0 1

-- the end that stands right behind entry `i`, if it is that of entry `k`
abbrev pub end_of : ℕ → ℕ → Span → Rows
end_of k i Leaf = []
end_of k i Open = []
end_of k i (Closed place between) = cond (k + between == i) (end_row place ∷ []) []

-- the ends right behind entry `i`, the innermost first, where the first of the entries is number `k`
abbrev pub ends : ℕ → ℕ → List Entry → Rows
ends k i [] = []
ends k i (e ∷ es) = ends (k + 1) i es ++ end_of k i e.span

abbrev pub rows_from : (ℕ → Rows) → ℕ → List Entry → Rows
rows_from behind i [] = []
rows_from behind i (e ∷ es) = e.row ∷ (behind i ++ rows_from behind (i + 1) es)

-- The rows that entries stand for: each entry's, and right behind it the ends of the starts that it is the last inside of.
unfoldable pub rows_of : List Entry → Rows
rows_of es = rows_from (λ i. ends 0 i es) 0 es

-- How entries are made.

abbrev pub span_of : PlacedRow → Span
span_of x = cond (is_start x) Open Leaf

abbrev pub entry_of : PlacedRow → ℕ → Option ℕ → Entry
entry_of x number around = record { row = x; span = span_of x; number = number; around = around }

abbrev pub top_behind : PlacedRow → ℕ → Option ℕ → Option ℕ
top_behind x i top = cond (is_start x) (Some i) top

abbrev pub closed_by : Entry → ℕ → ℕ → Entry
closed_by e place between =
    record { row = e.row; span = Closed place between; number = e.number; around = e.around }

-- the innermost start whose end can stand right behind entry `i`
abbrev pub innermost : ℕ → Span → Option ℕ → Option ℕ
innermost i Leaf around = around
innermost i Open around = Some i
innermost i (Closed place between) around = Some i
