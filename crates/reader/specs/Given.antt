-- The rows of a file, given one after the other, and finish, up to the first refusal.
use Rattle.std.specs.Prelude.{List, [], ◌∷◌}
use Rattle.record.specs.declared.row.Row.{Row}
use Rattle.sheet.specs.Sheets.{Model}
use Rattle.calls.specs.declared.answer.Answer.{Answer}
use Rattle.calls.specs.declared.answer.Answer.TheVariants.{Done, Added, Refused}
use Rattle.calls.specs.Calls.{Reading, Out, row_on, finish_on}

abbrev pub unless_refused : Answer → Out → Out → Out
unless_refused Done next here = next
unless_refused (Added n) next here = next
unless_refused (Refused e) next here = here

unfoldable pub given : List Row → Reading → Model → Out
given [] reading m = finish_on reading m
given (r ∷ rows) reading m =
    unless_refused (row_on reading r m).answer (given rows (row_on reading r m).reading (row_on reading r m).sheet) (row_on reading r m)
