use Rattle.std.proofs.Common.{rules}
use Rattle.rules.specs.Faults.{prefix_item}
use Rattle.rules.proofs.Firsts.{first_append, first_one}
use Rattle.trial.proofs.prefix.prefix_item.Goals as goal

pub returns-then-has_colon : goal.returns-then-has_colon
unfolding prefix_item
returns-then-has_colon c = simp (first_append, first_one) (search rules)

pub returns-in_default : goal.returns-in_default
unfolding prefix_item
returns-in_default c = let b = c.in_default.ensures in simp (first_append, first_one) (search rules)

pub returns : goal.returns
unfolding prefix_item
returns c = let b = c.in-Some.ensures in simp (first_append, first_one) (search rules)
