use Rattle.std.proofs.Common.{rules}
use Rattle.std.proofs.iter.Yields.{Copied-slice}
use Rattle.sheet.proofs.copy.put_all.Goals as goal

pub returns : goal.returns
returns g c = let h = c.put_each.ensures _ (Copied-slice c.copied.result) in search rules
