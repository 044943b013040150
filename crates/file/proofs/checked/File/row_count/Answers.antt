use Rattle.std.proofs.Common.{sym}
use Rattle.file.specs.Files.{held}
use Rattle.file.proofs.Tables.{length-rows}
use Rattle.file.proofs.checked.File.row_count.Goals as goal

pub returns : goal.returns
unfolding held
returns c = sym (length-rows c.args.self.now.rows.now)
