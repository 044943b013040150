use Rattle.std.proofs.Common.{rules}
use Rattle.file.specs.Form.{text_of}
use Rattle.file.proofs.Parts.{part-within}
use Rattle.file.proofs.pairs.text_of.Goals as goal

pub returns : goal.returns
unfolding text_of
returns c = search (rules, part-within)
