use Rattle.std.proofs.Common.{rules}
use Rattle.sheet.specs.Sheets.{record_answer, after_record}
use Rattle.sheet.proofs.Each.{left_given}
use Rattle.sheet.proofs.copy.copy.Goals as goal

pub returns-in_err-put_each : goal.returns-in_err-put_each
unfolding record_answer after_record
returns-in_err-put_each g c = let h = c.in_err-put_each.ensures _ (left_given c.of.result _ c.of.ensures) in search rules

pub returns : goal.returns
unfolding record_answer after_record
returns g c = let h = c.in_ok-put_each.ensures _ (left_given c.of.result _ c.of.ensures) in search rules
