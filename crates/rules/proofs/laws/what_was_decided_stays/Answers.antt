use Rattle.rules.proofs.Stable.{what_was_decided_stays}
use Rattle.rules.proofs.laws.what_was_decided_stays.Goals as goal

pub returns : goal.returns
returns c = what_was_decided_stays
