use Rattle.std.proofs.Common.{rules}
use Rattle.rules.specs.Scope.{named}
use Rattle.rules.specs.Faults.{ignorable_items}
use Rattle.rules.proofs.Firsts.{first_append}
use Rattle.trial.proofs.Entered.{turned}
use Rattle.trial.proofs.ignorable.ignorable_items.Goals as goal

pub returns-in_err-ignorable_item : goal.returns-in_err-ignorable_item
unfolding ignorable_items
returns-in_err-ignorable_item c = let t = simp (c.in-Some.ensures.steps.item, first_append) at c.loop-item.invariant.0 in search rules

pub loop-item-preserved : goal.loop-item-preserved
unfolding ignorable_items named
loop-item-preserved c =
    let t = simp (c.in-Some.ensures.steps.item, first_append) at c.loop-item.invariant.0 in
    let n = simp (c.in-Some.ensures.steps.item, turned) at c.loop-item.invariant.1 in
    let f = c.in_ok-ignorable_item.ensures.answer in
    let k = c.in_ok-ignorable_item.ensures.counted in
    let m = c.in_ok-ignorable_item.ensures.marked in
    search rules

pub returns : goal.returns
unfolding ignorable_items named
returns c = let e = c.in-None.ensures.steps.item.0 in search rules
