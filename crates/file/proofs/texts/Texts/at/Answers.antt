use Rattle.std.proofs.Common.{arith}
use Rattle.file.specs.Form.{text_at}
use Rattle.file.proofs.Sound.{nth_some, nth_none}
use Rattle.file.proofs.texts.Texts.at.Goals as goal

pub returns : goal.returns
unfolding text_at
returns c = grind (arith, nth_some, nth_none)
