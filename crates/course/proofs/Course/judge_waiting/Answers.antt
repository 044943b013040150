use Rattle.std.proofs.Common.{Err, sym, refl, ap, ◌∙◌}
use Rattle.std.proofs.lemmas.Result.{err_from_is_err_and}
use Rattle.file.specs.Texts.{texts}
use Rattle.judge.specs.Tags.{tag_of}
use Rattle.calls.specs.Calls.{taken}
use Rattle.frames.specs.Lists.{extension_list}
use Rattle.course.proofs.Waited.{waited_none, waited_refused, waited_unput, waited_opened}
use Rattle.course.proofs.Course.judge_waiting.Goals as goal

pub returns-in_default-clause-waited : goal.returns-in_default-clause-waited
returns-in_default-clause-waited g c =
    λ knows rows h.
    waited_none (taken (texts c.args.lent) knows (extension_list c.args.extensions)) rows c.args.self.now h _
    (sym h.follows.waits ∙ c.in_default.ensures (texts c.args.lent))

pub returns-in_err-opened-clause-waited : goal.returns-in_err-opened-clause-waited
returns-in_err-opened-clause-waited g c =
    let p = err_from_is_err_and c.from_residual.result c.from_residual.ensures.1 in
    λ knows rows h.
    waited_refused (taken (texts c.args.lent) knows (extension_list c.args.extensions)) rows c.args.self.now h (tag_of (texts c.args.lent) c.in-Some.element) (sym h.follows.waits ∙ c.in-Some.ensures (texts c.args.lent)) c.innermost-around.result c.innermost-around.ensures _ _ _
    c.from_residual.result c.in_err-opened.field-0.0 (p.1 ∙ ap Err p.2) (c.in_err-opened.ensures.answer knows h.knowing) refl

pub returns-in_err-put_kept-clause-waited : goal.returns-in_err-put_kept-clause-waited
returns-in_err-put_kept-clause-waited g c =
    let p = err_from_is_err_and c.from_residual-in_err-put_kept.result c.from_residual-in_err-put_kept.ensures.1 in
    λ knows rows h.
    waited_unput (taken (texts c.args.lent) knows (extension_list c.args.extensions)) rows c.args.self.now h (tag_of (texts c.args.lent) c.in-Some.element) (sym h.follows.waits ∙ c.in-Some.ensures (texts c.args.lent)) c.innermost-around.result c.innermost-around.ensures _ _ _
    c.in_ok-opened.opened (c.in_ok-opened.ensures.answer knows h.knowing) (c.in_ok-opened.ensures.opens knows h.knowing) c.in_ok-opened.ensures.grown
    c.from_residual-in_err-put_kept.result c.in_err-put_kept.field-0.0 (p.1 ∙ ap Err p.2) (rw (← c.bindings.ensures, ← c.marks.ensures, ← c.pairs.ensures) (c.in_err-put_kept.ensures knows h.knowing))

pub returns-clause-waited : goal.returns-clause-waited
returns-clause-waited g c =
    λ knows rows h.
    waited_opened (taken (texts c.args.lent) knows (extension_list c.args.extensions)) rows c.args.self.now h (tag_of (texts c.args.lent) c.in-Some.element) (sym h.follows.waits ∙ c.in-Some.ensures (texts c.args.lent)) c.innermost-around.result c.innermost-around.ensures _ _ _
    c.in_ok-opened.opened (c.in_ok-opened.ensures.answer knows h.knowing) (c.in_ok-opened.ensures.opens knows h.knowing) c.in_ok-opened.ensures.grown
    (rw (← c.bindings.ensures, ← c.marks.ensures, ← c.pairs.ensures) (c.in_ok-put_kept.ensures knows h.knowing))
