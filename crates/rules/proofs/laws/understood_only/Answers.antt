use Rattle.rules.proofs.Understood.{understood_only}
use Rattle.rules.proofs.laws.understood_only.Goals as goal

pub returns : goal.returns
returns c = understood_only
