-- What a flat sheet means.
use Rattle.std.specs.Prelude.{ℕ, take, drop}
use Rattle.roll.specs.Rolls.{items, slot_count}
use Rattle.sheet.specs.Rows.{Rows}
use Rattle.flat.specs.declared.FlatSheet.{FlatSheet}

abbrev pub flat_sealed : FlatSheet → Rows
flat_sealed s = take s.sealed (items s.roll)

abbrev pub flat_draft : FlatSheet → Rows
flat_draft s = drop s.sealed (items s.roll)

-- the entries lent
abbrev pub flat_capacity : FlatSheet → ℕ
flat_capacity s = slot_count s.roll

-- each row takes an entry
abbrev pub flat_cost : ℕ → ℕ
flat_cost kind = 1
