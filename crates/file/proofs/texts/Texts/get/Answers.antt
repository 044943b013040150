use Rattle.std.proofs.Common.{rules}
use Rattle.std.proofs.lemmas.Option.{slice_get_past}
use Rattle.std.proofs.iter.Serving.{serving}
use Rattle.file.specs.Texts.{texts}
use Rattle.file.proofs.Sound.{length-texts, text_nth}
use Rattle.file.proofs.texts.Texts.get.Goals as goal

pub then-requires : goal.then-requires
unfolding texts
then-requires c = let n = length-texts c.args.self.pairs.now c.args.self.bytes.now in grind serving

pub returns : goal.returns
unfolding texts
returns c = let n = length-texts c.args.self.pairs.now c.args.self.bytes.now in search (rules, slice_get_past, text_nth)
