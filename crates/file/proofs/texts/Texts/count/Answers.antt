use Rattle.std.proofs.Common.{sym, ◌∙◌}
use Rattle.file.specs.Texts.{texts}
use Rattle.file.proofs.Sound.{length-texts}
use Rattle.file.proofs.texts.Texts.count.Goals as goal

pub returns : goal.returns
unfolding texts
returns c = c.pair_count.ensures ∙ sym (length-texts c.args.self.pairs.now c.args.self.bytes.now)
