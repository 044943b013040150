-- The rows that an iterator over a readable has left.
use Rattle.std.specs.Prelude.{List, drop}
use Rattle.record.specs.declared.row.PlacedRow.{PlacedRow}
use Rattle.sheet.specs.declared.Readable as readable
use Rattle.sheet.specs.declared.rows.Rows.{Rows}

module _ {R : Type 0} {r : readable.Ghosts R} where
  abbrev pub left : Rows R r → List PlacedRow
  left x = drop x.numbers.start (r.rows x.readable.now)
