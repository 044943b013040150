use Rattle.calls.proofs.Leaves.{row_refusals_leave}
use Rattle.calls.proofs.laws.row_refusals_leave.Goals as goal

pub returns : goal.returns
returns c = row_refusals_leave
