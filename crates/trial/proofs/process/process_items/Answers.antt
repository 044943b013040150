use Rattle.std.proofs.Common.{◌≡◌, ◌++◌, ◌∙◌, rules}
use Rattle.items.specs.Unread.{unread}
use Rattle.file.specs.Texts.{texts}
use Rattle.rules.specs.Scope.{named_pairs}
use Rattle.rules.specs.Faults.{process_items}
use Rattle.rules.proofs.Firsts.{first_append}
use Rattle.scope.specs.Entries.{bindings_of, local_of}
use Rattle.trial.proofs.Firsts.{first-process}
use Rattle.trial.proofs.Entered.{counted, turned, placed, behind_item, around_local, pair_entered}
use Rattle.trial.proofs.process.process_items.Goals as goal
use Rattle.trial.proofs.process.process_items.Goals.{After-left, at-loop-item-preserved}

pub returns-in_err-space : goal.returns-in_err-space
unfolding process_items
returns-in_err-space c = let t = simp (c.in-Some.ensures.steps.item, first_append, first-process) at c.loop-item.invariant.0 in search rules

-- the value around the item's local name
around : (c : After-left)
    → c.at-value.result.now
    ≡ (c.loop-item.invariant.2.0 ++ (c.in-Some.ensures.steps.place.0 ++ c.split.ensures.place.0)) ++ (c.split.result.1.now ++ unread c.next.new.self)
around c =
    around_local c.at-value.result.now (unread c.loop-item.list) c.in-Some.item.now (unread c.next.new.self) c.split.result.1.now
    c.loop-item.invariant.2.0 c.in-Some.ensures.steps.place.0 c.split.ensures.place.0
    (c.at-value.ensures ∙ c.loop-item.invariant.2.1) c.in-Some.ensures.steps.place.1 c.split.ensures.place.1

pub returns-then-not-add : goal.returns-then-not-add
unfolding process_items
returns-then-not-add c =
    let t = simp (c.in-Some.ensures.steps.item, first_append, first-process) at c.loop-item.invariant.0 in
    let r = c.if-not-add.ensures.room in
    let f = c.in_ok-space.ensures.answer in
    search rules

pub loop-item-preserved : goal.loop-item-preserved
unfolding process_items named_pairs local_of
loop-item-preserved c =
    let lent = texts c.args.lent in
    let t = simp (c.in-Some.ensures.steps.item, first_append, first-process) at c.loop-item.invariant.0 in
    let g = simp (c.in-Some.ensures.steps.item, turned) at c.loop-item.invariant.1 in
    let r = c.if-not-add.ensures.room in
    let h = c.if-not-add.ensures.held in
    let f = c.in_ok-space.ensures.answer in
    let n = counted _ _ _ h in
    let l = placed c.at-value.result.now _ _ c.split.result.1.now (unread c.next.new.self) c.at-value.ensures (around (at-loop-item-preserved c).After-left) in
    let m = pair_entered lent (bindings_of lent c.args.bindings.now) c.in-Some.item.now _ _ _ h c.in_ok-space.ensures.space (simp c.left.ensures (l ∙ c.split.ensures.local)) in (
      search rules,
      search rules,
      (_, behind_item _ (unread c.loop-item.list) c.in-Some.item.now (unread c.next.new.self) c.loop-item.invariant.2.0 c.in-Some.ensures.steps.place.0 c.loop-item.invariant.2.1 c.in-Some.ensures.steps.place.1),
    )

pub returns : goal.returns
unfolding process_items named_pairs
returns c = let e = c.in_default.ensures.steps.item.0 in search rules
