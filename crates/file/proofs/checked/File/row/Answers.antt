use Rattle.std.proofs.Common.{rules}
use Rattle.std.proofs.lemmas.Option.{slice_get_past}
use Rattle.std.proofs.iter.Serving.{serving}
use Rattle.file.specs.Files.{held}
use Rattle.file.proofs.Tables.{length-rows, row_nth}
use Rattle.file.proofs.checked.File.row.Goals as goal

pub then-requires : goal.then-requires
unfolding held
then-requires c = let n = length-rows c.args.self.now.rows.now in grind serving

pub returns : goal.returns
unfolding held
returns c = let n = length-rows c.args.self.now.rows.now in search (rules, slice_get_past, row_nth)
