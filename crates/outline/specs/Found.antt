-- How a row is found by its number.
use Rattle.std.specs.Prelude.{◌≡◌, ℕ, zero, suc, ◌+◌, ◌-◌, ◌<◌, ◌≤◌, List, length, Some, None, Option}
use Rattle.std.specs.List.{slice_get}
use Rattle.record.specs.declared.row.PlacedRow.{PlacedRow}
use Rattle.sheet.specs.Rows.{Rows}
use Rattle.outline.specs.declared.entry.Entry.{Entry}
use Rattle.outline.specs.declared.entry.Span.{Span}
use Rattle.outline.specs.declared.entry.Span.TheVariants.{Leaf, Open, Closed}
use Rattle.outline.specs.Entries.{end_row, innermost}

-- the number of the row of an entry; past the last entry, the number of all rows
abbrev pub number_or : ℕ → Option Entry → ℕ
number_or total None = total
number_or total (Some e) = e.number

abbrev pub number_at : List Entry → ℕ → ℕ → ℕ
number_at es total i = number_or total (slice_get es i)

-- the start around a start
abbrev pub around_of : Option Entry → Option ℕ
around_of None = None
around_of (Some e) = e.around

abbrev pub around_at : List Entry → Option ℕ → Option ℕ
around_at es None = None
around_at es (Some i) = around_of (slice_get es i)

-- so many steps up from a start
abbrev pub climbed : List Entry → ℕ → Option ℕ → Option ℕ
climbed es zero start = start
climbed es (suc k) start = around_at es (climbed es k start)

-- the end of a start, if it has come
abbrev pub end_in : Span → Option PlacedRow
end_in Leaf = None
end_in Open = None
end_in (Closed place between) = Some (end_row place)

abbrev pub end_for : Option Entry → Option PlacedRow
end_for None = None
end_for (Some e) = end_in e.span

abbrev pub end_at : List Entry → Option ℕ → Option PlacedRow
end_at es None = None
end_at es (Some i) = end_for (slice_get es i)

-- the row `k` rows behind that of entry `i`, where no other entry is between
abbrev pub found_from : List Entry → ℕ → ℕ → Option Entry → Option PlacedRow
found_from es i k None = None
found_from es i zero (Some e) = Some e.row
found_from es i (suc k) (Some e) = end_at es (climbed es k (innermost i e.span e.around))

abbrev pub found_at : List Entry → ℕ → ℕ → Option PlacedRow
found_at es i k = found_from es i k (slice_get es i)

-- row `n` stands at or behind entry `i`, and before the next entry
abbrev pub StandsBy : List Entry → ℕ → ℕ → ℕ → Type 0
StandsBy es total i n =
    (i < length es) × (number_at es total i ≤ n) × (n < number_at es total (i + 1))

-- every row is found from the entry that it stands by
abbrev pub Findable : List Entry → ℕ → Rows → Type 0
Findable es total rows =
    (i n : ℕ) → StandsBy es total i n → (n < total) × (found_at es i (n - number_at es total i) ≡ slice_get rows n)

-- the rows are numbered from 0; behind the last entry, the ends that have come lead up to the innermost open start
abbrev pub top_from : List Entry → ℕ → ℕ → Option Entry → Option ℕ
top_from es total i None = None
top_from es total i (Some e) = climbed es (total - e.number - 1) (innermost i e.span e.around)

abbrev pub LeadsUp : List Entry → ℕ → Option ℕ → Type 0
LeadsUp es total top =
    (number_at es total 0 ≡ 0)
    × ((i : ℕ) → length es ≡ i + 1 → (number_at es total i < total) × (top_from es total i (slice_get es i) ≡ top))
