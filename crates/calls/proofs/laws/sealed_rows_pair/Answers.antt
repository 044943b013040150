use Rattle.calls.proofs.Pairing.{sealed_rows_pair}
use Rattle.calls.proofs.laws.sealed_rows_pair.Goals as goal

pub returns : goal.returns
returns c = sealed_rows_pair
