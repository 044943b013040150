use Rattle.rules.proofs.Causes.{mismatches_rise}
use Rattle.rules.proofs.laws.mismatches_rise.Goals as goal

pub returns : goal.returns
returns c = mismatches_rise
