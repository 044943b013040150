use Rattle.calls.proofs.Pairing.{pairing_is_one}
use Rattle.calls.proofs.laws.pairing_is_one.Goals as goal

pub returns : goal.returns
returns c = pairing_is_one
