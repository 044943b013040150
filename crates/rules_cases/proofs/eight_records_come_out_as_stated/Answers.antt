use Rattle.std.proofs.Common.{refl}
use Rattle.rules.specs.Open.{open_rules}
use Rattle.rules_cases.proofs.eight_records_come_out_as_stated.Goals as goal

pub returns : goal.returns
unfolding open_rules
returns c = refl
