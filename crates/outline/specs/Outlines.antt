-- What an outline means.
use Rattle.std.specs.Prelude.{ℕ, List, take, drop}
use Rattle.roll.specs.Rolls.{items, slot_count}
use Rattle.sheet.specs.Rows.{Rows}
use Rattle.outline.specs.declared.entry.Entry.{Entry}
use Rattle.outline.specs.declared.Outline.{Outline}
use Rattle.outline.specs.Entries.{rows_of}

abbrev pub outline_sealed : Outline → Rows
outline_sealed s = take s.count (rows_of (items s.roll))

abbrev pub outline_draft : Outline → Rows
outline_draft s = drop s.count (rows_of (items s.roll))

-- the entries lent
abbrev pub outline_capacity : Outline → ℕ
outline_capacity s = slot_count s.roll

-- the entries of the sealed rows
abbrev pub sealed_entries : Outline → List Entry
sealed_entries s = take s.sealed (items s.roll)
