use Rattle.std.proofs.Common.{sym, refl}
use Rattle.std.proofs.lemmas.Bool.{le-leb, lt-leb, or_left, or_right, or_from}
use Rattle.std.proofs.lemmas.Result.{err_from_is_err_and}
use Rattle.rules.specs.Faults.{fault}
use Rattle.order.proofs.Refused.{malformed, found}
use Rattle.order.proofs.progress.Progress.check.Goals as goal
use Rattle.order.proofs.progress.Progress.check.Goals.{then-is_at_limit-via-then-is_at_limit, then-is_at_limit-via-else-is_at_limit+then-self-ge-ROWS}

pub returns-in_err-kind-clause-answer : goal.returns-in_err-kind-clause-answer
returns-in_err-kind-clause-answer c past f =
    let p = err_from_is_err_and c.from_residual.result c.from_residual.ensures.1 in
    rw (p.1, p.2) (malformed _ _ _ _ f.count _ _ c.in_err-kind.ensures.value c.well_formed-2.ensures.formed)

pub returns-then-not-is_in_order-clause-answer : goal.returns-then-not-is_in_order-clause-answer
unfolding fault
returns-then-not-is_in_order-clause-answer c past f =
    found _ _ _ _ f.count c.well_formed-2.ensures.formed c.well_formed-2.ensures.kind c.in_ok-kind.ensures.ok_part (c.if-not-is_in_order.ensures _ past f) refl refl

pub returns-then-is_forbidden-clause-answer : goal.returns-then-is_forbidden-clause-answer
unfolding fault
returns-then-is_forbidden-clause-answer c past f =
    found _ _ _ _ f.count c.well_formed-2.ensures.formed c.well_formed-2.ensures.kind c.in_ok-kind.ensures.ok_part
    (c.if-not-is_in_order.ensures _ past f) (c.if-is_forbidden.ensures past f) refl

pub returns-then-is_at_limit-clause-answer : goal.returns-then-is_at_limit-clause-answer
unfolding fault
returns-then-is_at_limit-clause-answer c past f =
    found _ _ _ _ f.count c.well_formed-2.ensures.formed c.well_formed-2.ensures.kind c.in_ok-kind.ensures.ok_part
    (c.if-not-is_in_order.ensures _ past f) (c.if-is_forbidden.ensures past f)
    (elim c.then-is_at_limit.branch [
      | then-is_at_limit-via-then-is_at_limit w ↦ sym (or_left _ _ (sym (w.if-is_at_limit.ensures _ past f)))
      | then-is_at_limit-via-else-is_at_limit+then-self-ge-ROWS w ↦ sym (or_right _ _ (le-leb _ _ w.if-self-ge-ROWS.true))
    ])

pub returns-clause-answer : goal.returns-clause-answer
unfolding fault
returns-clause-answer c past f =
    found _ _ _ _ f.count c.well_formed-2.ensures.formed c.well_formed-2.ensures.kind c.in_ok-kind.ensures.ok_part
    (c.if-not-is_in_order.ensures _ past f) (c.if-is_forbidden.ensures past f)
    (sym (or_from _ _ (sym (c.if-is_at_limit.ensures _ past f)) (lt-leb _ _ c.if-self-ge-ROWS.false)))
