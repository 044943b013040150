use Rattle.std.proofs.Common.{rules}
use Rattle.rules.specs.Faults.{names_ignorable}
use Rattle.trial.specs.Pairs.{pair_faults}
use Rattle.rules.proofs.Firsts.{first_append, first_one}
use Rattle.trial.proofs.process.pair_space.Goals as goal

pub returns-then-not-is_pair : goal.returns-then-not-is_pair
unfolding pair_faults
returns-then-not-is_pair c = simp (first_append, first_one) (search rules)

pub returns-in_default : goal.returns-in_default
unfolding pair_faults
returns-in_default c = let b = c.in_default.ensures in simp (first_append, first_one) (search rules)

pub returns-then-not-is_marked : goal.returns-then-not-is_marked
unfolding pair_faults names_ignorable
returns-then-not-is_marked c = let b = c.in-Some.ensures in simp (first_append, first_one) (search rules)

pub returns : goal.returns
unfolding pair_faults names_ignorable
returns c = let b = c.in-Some.ensures in simp (first_append, first_one) (search rules)
