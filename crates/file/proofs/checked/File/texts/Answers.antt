use Rattle.std.proofs.Common.{refl}
use Rattle.file.specs.Files.{held}
use Rattle.file.proofs.checked.File.texts.Goals as goal

pub returns : goal.returns
unfolding held
returns c = refl
