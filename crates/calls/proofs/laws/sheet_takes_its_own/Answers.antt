use Rattle.calls.proofs.Leaves.{sheet_takes_its_own}
use Rattle.calls.proofs.laws.sheet_takes_its_own.Goals as goal

pub returns : goal.returns
returns c = sheet_takes_its_own
