use Rattle.rules.proofs.Causes.{one_cause}
use Rattle.rules.proofs.laws.one_cause.Goals as goal

pub returns : goal.returns
returns c = one_cause
