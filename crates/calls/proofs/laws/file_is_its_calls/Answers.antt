use Rattle.calls.proofs.Files.{file_is_its_calls}
use Rattle.calls.proofs.laws.file_is_its_calls.Goals as goal

pub returns : goal.returns
returns c = file_is_its_calls
