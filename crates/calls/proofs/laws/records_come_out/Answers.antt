use Rattle.calls.proofs.Outcomes.{records_come_out}
use Rattle.calls.proofs.laws.records_come_out.Goals as goal

pub returns : goal.returns
returns c = records_come_out
