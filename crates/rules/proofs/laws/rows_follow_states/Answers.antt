use Rattle.rules.proofs.Judged.{rows_follow_states}
use Rattle.rules.proofs.laws.rows_follow_states.Goals as goal

pub returns : goal.returns
returns c = rows_follow_states
