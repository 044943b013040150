use Rattle.rules.proofs.Numbers.{faults_are_numbered}
use Rattle.rules.proofs.laws.faults_are_numbered.Goals as goal

pub returns : goal.returns
returns c = faults_are_numbered
