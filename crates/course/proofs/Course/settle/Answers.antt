use Rattle.std.proofs.Common.{Err, sym, refl, ap, ◌∙◌}
use Rattle.std.proofs.lemmas.Result.{err_from_is_err_and}
use Rattle.file.specs.Texts.{texts}
use Rattle.calls.specs.Calls.{Taken, taken}
use Rattle.frames.specs.Lists.{extension_list}
use Rattle.course.proofs.Judging.{taken_plain, taken_unwaited, taken_unput, taken-row, closed-frames, closed-scope, closed-mark}
use Rattle.course.proofs.Course.settle.Goals as goal

pub returns-then-is_of_tag-clause-judged : goal.returns-then-is_of_tag-clause-judged
returns-then-is_of_tag-clause-judged g c =
    λ knows rows h k here f.
    taken_plain (taken (texts c.args.lent) knows (extension_list c.args.extensions)) rows c.args.row c.args.kind k here _ c.args.self.now h
    (sym c.is_of_tag.ensures ∙ c.if-is_of_tag.true)

pub returns-in_err-opened-clause-judged : goal.returns-in_err-opened-clause-judged
returns-in_err-opened-clause-judged g c =
    let p = err_from_is_err_and c.from_residual.result c.from_residual.ensures.1 in
    λ knows rows h k here f.
    taken_unwaited (taken (texts c.args.lent) knows (extension_list c.args.extensions)) rows c.args.row c.args.kind k here _ c.args.self.now
    c.judge_waiting.new.self _ c.judge_waiting.ensures.frames c.judge_waiting.ensures.mismatch
    c.judge_waiting.result c.in_err-opened.field-0.0 c.from_residual.result (sym c.is_of_tag.ensures ∙ c.if-is_of_tag.false)
    c.in_err-opened.was (p.1 ∙ ap Err p.2) (c.judge_waiting.ensures.waited knows rows h)

pub returns-in_err-judge_row-clause-judged : goal.returns-in_err-judge_row-clause-judged
returns-in_err-judge_row-clause-judged g c =
    let p = err_from_is_err_and c.from_residual-in_err-judge_row.result c.from_residual-in_err-judge_row.ensures.1 in
    λ knows rows h k here f.
    taken_unput (taken (texts c.args.lent) knows (extension_list c.args.extensions)) rows c.args.row c.args.kind k here _ c.args.self.now
    c.judge_waiting.new.self _ c.judge_waiting.ensures.frames c.judge_waiting.ensures.mismatch
    c.judge_waiting.result c.in_ok-opened.opened c.in_ok-opened.was (c.judge_waiting.ensures.waited knows rows h)
    (sym c.is_of_tag.ensures ∙ c.if-is_of_tag.false)
    c.around.result c.around.ensures _ c.judge_row.result c.judge_row.ensures
    c.judge_waiting.new.self c.from_residual-in_err-judge_row.result c.in_err-judge_row.field-0.0
    c.in_err-judge_row.was (p.1 ∙ ap Err p.2) c.judge_waiting.ensures.frames c.judge_waiting.ensures.mismatch refl

pub returns-clause-judged : goal.returns-clause-judged
returns-clause-judged g c =
    λ knows rows h k here f.
    let t : Taken = taken (texts c.args.lent) knows (extension_list c.args.extensions) in
    let w = c.judge_waiting.ensures.waited knows rows h in
    taken-row t rows c.args.row c.args.kind k here _ c.args.self.now
    c.judge_waiting.new.self _ c.judge_waiting.ensures.frames c.judge_waiting.ensures.mismatch
    c.judge_waiting.result c.in_ok-opened.opened c.in_ok-opened.was w
    (sym c.is_of_tag.ensures ∙ c.if-is_of_tag.false)
    c.around.result c.around.ensures _ c.judge_row.result c.judge_row.ensures
    c.close_at.new.self c.in_ok-judge_row.was f
    (closed-frames t rows c.args.self.now h _ _ c.judge_waiting.new.self c.judge_waiting.ensures.frames c.judge_waiting.ensures.mismatch
    c.judge_waiting.result c.in_ok-opened.opened c.in_ok-opened.was w
    c.args.kind c.hold_any.new.self c.close_at.new.self c.hold_any.ensures.frames c.close_at.ensures.frames)
    (closed-scope t rows c.args.self.now h _ _ c.judge_waiting.new.self c.judge_waiting.ensures.frames c.judge_waiting.ensures.mismatch
    c.judge_waiting.result c.in_ok-opened.opened c.in_ok-opened.was w
    c.args.kind c.hold_any.new.self c.close_at.new.self c.hold_any.ensures.frames c.close_at.ensures.frames
    c.hold_any.ensures.scope (c.close_at.ensures.scope (texts c.args.lent)))
    (closed-mark t rows c.args.self.now h _ _ c.judge_waiting.new.self c.judge_waiting.ensures.frames c.judge_waiting.ensures.mismatch
    c.judge_waiting.result c.in_ok-opened.opened c.in_ok-opened.was w
    c.args.kind c.hold_any.new.self c.close_at.new.self c.hold_any.ensures.frames c.close_at.ensures.frames
    c.close_at.ensures.mismatch c.hold_any.ensures.mismatch)
