-- The rows that an iterator has still to give.
use Rattle.std.specs.Prelude.{List}
use Rattle.record.specs.declared.row.Row.{Row}
use Rattle.file.specs.Form.{rows_of}
use Rattle.file.specs.declared.rows.Rows.{Rows}

unfoldable pub rows_left : Rows → List Row
rows_left r = rows_of r.left.now
