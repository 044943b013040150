use Rattle.std.proofs.Common.{rules}
use Rattle.rules.specs.Scope.{cons_some}
use Rattle.rules.specs.Faults.{prefix_item, ignorable_item, names_mc}
use Rattle.scope.specs.Entries.{ignorables_of}
use Rattle.rules.proofs.Firsts.{first_append, first_one}
use Rattle.trial.proofs.Entered.{meant_push}
use Rattle.trial.proofs.ignorable.ignorable_item.Goals as goal

pub returns-in_err-space : goal.returns-in_err-space
unfolding prefix_item ignorable_item
returns-in_err-space c =
    let b = simp (first_append, first_one) at c.in_err-space.ensures.answer in
    simp (first_append, first_one) (search rules)

pub returns-then-is_mc : goal.returns-then-is_mc
unfolding prefix_item ignorable_item names_mc
returns-then-is_mc c =
    let b = simp (first_append, first_one) at c.in_ok-space.ensures.answer in
    let s = c.in_ok-space.ensures.space in
    simp (first_append, first_one) (search rules)

pub returns-then-not-add : goal.returns-then-not-add
unfolding prefix_item ignorable_item names_mc
returns-then-not-add c =
    let b = simp (first_append, first_one) at c.in_ok-space.ensures.answer in
    let s = c.in_ok-space.ensures.space in
    let r = c.if-not-add.ensures.room in
    simp (first_append, first_one) (search rules)

pub returns-clause-answer : goal.returns-clause-answer
unfolding prefix_item ignorable_item names_mc
returns-clause-answer c =
    let b = simp (first_append, first_one) at c.in_ok-space.ensures.answer in
    let s = c.in_ok-space.ensures.space in
    let r = c.if-not-add.ensures.room in
    simp (first_append, first_one) (search rules)

pub returns-clause-marked : goal.returns-clause-marked
unfolding cons_some ignorables_of
returns-clause-marked c =
    let s = c.in_ok-space.ensures.space in
    simp (c.if-not-add.ensures.held, meant_push) (search rules)
