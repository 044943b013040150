use Rattle.rules.proofs.Sealed.{sealed_rows_rise_and_pair}
use Rattle.rules.proofs.laws.sealed_rows_rise_and_pair.Goals as goal

pub returns : goal.returns
returns c = sealed_rows_rise_and_pair
