use Rattle.rules.proofs.Stable.{what_a_row_lets_be_judged}
use Rattle.rules.proofs.laws.what_a_row_lets_be_judged.Goals as goal

pub returns : goal.returns
returns c = what_a_row_lets_be_judged
