use Rattle.std.proofs.Common.{rules}
use Rattle.items.specs.Items.{is_pair}
use Rattle.items.proofs.Fronts.{empty_length}
use Rattle.items.proofs.pair.is_pair.Goals as goal

pub returns-then-not-has_colon : goal.returns-then-not-has_colon
unfolding is_pair
returns-then-not-has_colon c = search (rules, empty_length)

pub returns-else-not-has_colon : goal.returns-else-not-has_colon
unfolding is_pair
returns-else-not-has_colon c = search (rules, empty_length)
