use Rattle.rules.proofs.Frames.{states_follow}
use Rattle.rules.proofs.laws.states_follow.Goals as goal

pub returns : goal.returns
returns c = states_follow
