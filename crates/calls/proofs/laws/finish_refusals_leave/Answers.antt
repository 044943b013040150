use Rattle.calls.proofs.Leaves.{finish_refusals_leave}
use Rattle.calls.proofs.laws.finish_refusals_leave.Goals as goal

pub returns : goal.returns
returns c = finish_refusals_leave
