use Rattle.rules.proofs.Turns.{selected_in_turn}
use Rattle.rules.proofs.laws.selected_in_turn.Goals as goal

pub returns : goal.returns
returns c = selected_in_turn
