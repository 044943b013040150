use Rattle.std.proofs.Common.{refl, arith}
use Rattle.file.specs.Files.{held}
use Rattle.file.specs.Rows.{rows_left}
use Rattle.file.proofs.Tables.{length-rows}
use Rattle.file.proofs.checked.File.rows.Goals as goal

pub returns : goal.returns
unfolding held rows_left
returns c = record { rows = refl; fits = omega (arith, length-rows c.args.self.now.rows.now) }
