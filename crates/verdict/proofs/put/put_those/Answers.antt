use Rattle.std.proofs.lemmas.Result.{err_from_is_err_and}
use Rattle.attrs.proofs.Turns.{blank}
use Rattle.verdict.proofs.Puts.{same_more, same_none, same_without, same_over}
use Rattle.verdict.proofs.put.put_those.Goals as goal
use Rattle.verdict.proofs.put.put_those.Goals.{then-keeps+in_ok-put, else-keeps}

pub returns-in_err-put : goal.returns-in_err-put
returns-in_err-put g c =
    let p = err_from_is_err_and c.from_residual.result c.from_residual.ensures.1 in
    λ test told.
    rw (p.1, p.2)
    (same_none test c.args.rows.now c.loop-x.x-index blank c.loop-x-test.true _ _ _ (c.loop-x.invariant test told) _ _ (told _ _ c.if-keeps.ensures) c.in_err-put.ensures.answer c.in_err-put.ensures.meaning)

pub loop-x-preserved : goal.loop-x-preserved
loop-x-preserved g c =
    λ test told.
    elim c.if-keeps.branch [
      | then-keeps+in_ok-put w ↦ rw w.sheet-is
          (same_more test c.args.rows.now c.loop-x.x-index blank c.loop-x-test.true _ _ _ (c.loop-x.invariant test told) _ (told _ _ w.if-keeps.ensures) w.in_ok-put.ensures.answer w.in_ok-put.ensures.meaning)
      | else-keeps w ↦ rw w.sheet-is
          (same_without test c.args.rows.now c.loop-x.x-index blank c.loop-x-test.true _ _ _ (c.loop-x.invariant test told) (told _ _ w.if-keeps.ensures))
    ]

pub returns : goal.returns
returns g c = λ test told. same_over test c.args.rows.now c.loop-x.x-index c.loop-x-test.false _ _ _ (c.loop-x.invariant test told)
