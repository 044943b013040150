use Rattle.std.proofs.Common.{rules}
use Rattle.rules.specs.Faults.{prefix_items}
use Rattle.rules.proofs.Firsts.{first_append}
use Rattle.trial.proofs.prefix.prefix_items.Goals as goal

pub returns-in_err-prefix_item : goal.returns-in_err-prefix_item
unfolding prefix_items
returns-in_err-prefix_item c = let t = simp (c.in-Some.ensures.steps.item, first_append) at c.loop-item.invariant in search rules

pub loop-item-preserved : goal.loop-item-preserved
unfolding prefix_items
loop-item-preserved c =
    let t = simp (c.in-Some.ensures.steps.item, first_append) at c.loop-item.invariant in
    let f = c.in_ok-prefix_item.ensures.answer in
    search rules

pub returns : goal.returns
unfolding prefix_items
returns c = let e = c.in-None.ensures.steps.item.0 in search rules
