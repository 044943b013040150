use Rattle.std.proofs.lemmas.Result.{err_from_is_err_and}
use Rattle.sheet.proofs.Each.{each_more, each_refused, each_done}
use Rattle.sheet.proofs.copy.put_each.Goals as goal

pub loop-row-preserved : goal.loop-row-preserved
loop-row-preserved g c = λ xs h.
    each_more g.I.Iterator.next_gives c.loop-row.row-iterator c.next.new.self _ _ _ _ c.in-Some.row c.in-Some.ensures.steps c.in_ok-put.ensures.answer c.in_ok-put.ensures.meaning (c.loop-row.invariant xs h)

pub returns-in_err-put : goal.returns-in_err-put
returns-in_err-put g c = λ xs h.
    let p = err_from_is_err_and c.from_residual.result c.from_residual.ensures.1 in
    let q = each_refused g.I.Iterator.next_gives c.loop-row.row-iterator c.next.new.self _ _ _ _ c.in-Some.row _ c.in-Some.ensures.steps c.in_err-put.ensures.answer c.in_err-put.ensures.meaning (c.loop-row.invariant xs h) in
    (rw (p.1, p.2) q.0, q.1)

pub returns : goal.returns
returns g c = λ xs h. each_done g.I.Iterator.next_gives c.loop-row.row-iterator c.next.new.self _ _ _ c.in-None.ensures.steps (c.loop-row.invariant xs h)
