use Rattle.std.proofs.Common.{rules}
use Rattle.std.proofs.lemmas.Result.{err_from_is_err_and}
use Rattle.rules.specs.Steps.{kept_tag}
use Rattle.verdict.proofs.Puts.{one-row, then-more, then-none, decls_pass, attrs_pass}
use Rattle.verdict.specs.Views.{texts_seen, scope_seen}
use Rattle.verdict.proofs.put.put_tag.Goals as goal

pub returns-in_err-put_those : goal.returns-in_err-put_those
unfolding kept_tag
returns-in_err-put_those g c =
    let p = err_from_is_err_and c.from_residual-in_err-put_those.result c.from_residual-in_err-put_those.ensures.1 in
    λ knows k.
    rw (p.1, p.2, ← decls_pass knows (scope_seen c.args.view).ignorables (texts_seen c.args.view) c.args.element.decls.now)
    (then-more _ _ _ _ _ _
    (one-row _ _ c.args.element.start _ c.in_ok-put.ensures.answer c.in_ok-put.ensures.meaning)
    (then-none _ _ _ _ _ (c.in_err-put_those.ensures _ (λ x b e. search rules))))

pub returns : goal.returns
unfolding kept_tag
returns g c =
    λ knows k.
    rw (← decls_pass knows (scope_seen c.args.view).ignorables (texts_seen c.args.view) c.args.element.decls.now, ← attrs_pass knows (scope_seen c.args.view).ignorables (texts_seen c.args.view) c.args.element.attrs.now)
    (then-more _ _ _ _ _ _
    (one-row _ _ c.args.element.start _ c.in_ok-put.ensures.answer c.in_ok-put.ensures.meaning)
    (then-more _ _ _ _ _ _ (c.in_ok-put_those.ensures _ (λ x b e. search rules)) (c.put_those-2.ensures _ (λ x b e. search rules))))
