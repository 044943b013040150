use lib.Seq.{take-set-lt}
use Rattle.std.proofs.Common.{rules}
use Rattle.roll.specs.Rolls.{items}
use Rattle.roll.proofs.Roll.set.Goals as goal

pub returns-then-i-self-clause-items : goal.returns-then-i-self-clause-items
unfolding items
returns-then-i-self-clause-items g c = search (rules, take-set-lt)
