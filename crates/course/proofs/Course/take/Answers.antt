use Rattle.std.proofs.Common.{sym, refl, subst}
use Rattle.file.specs.Texts.{texts}
use Rattle.order.specs.declared.progress.Progress.{Progress}
use Rattle.order.specs.Following.{Follows}
use Rattle.calls.specs.Calls.{Taken, taken}
use Rattle.frames.specs.Lists.{extension_list}
use Rattle.course.proofs.Taking.{here, took_row, took_none}
use Rattle.course.proofs.Course.take.Goals as goal

pub returns-in-Ok : goal.returns-in-Ok
returns-in-Ok g c knows rows h k f =
    let t : Taken = taken (texts c.args.lent) knows (extension_list c.args.extensions) in
    let at = here (texts c.args.lent) rows c.args.self.now.progress c.args.row h.follows c.place.result c.place.ensures in
    let j = c.settle-settled.ensures in
    took_row t rows c.args.row c.args.kind k f c.args.self.now h _ _ c.settle-settled.result _ at c.settle-settled.new.self
    j.same_record (j.judged knows rows h k at f) _ c.in-Ok.is refl refl refl refl
    (c.note.ensures (texts c.args.lent) rows k (subst (λ (p : Progress). Follows (texts c.args.lent) rows p) (sym j.same_record.1) h.follows) f)

pub returns-in-Err : goal.returns-in-Err
returns-in-Err g c knows rows h k f =
    let t : Taken = taken (texts c.args.lent) knows (extension_list c.args.extensions) in
    let at = here (texts c.args.lent) rows c.args.self.now.progress c.args.row h.follows c.place.result c.place.ensures in
    let j = c.settle-settled.ensures in
    took_none t rows c.args.row c.args.kind k f c.args.self.now h _ _ c.settle-settled.result _ at c.settle-settled.new.self
    j.same_record (j.judged knows rows h k at f) _ c.in-Err.field-0 c.in-Err.is refl refl refl refl
    c.lengths-lengths.result c.lengths-lengths.ensures (c.cut.ensures (texts c.args.lent))
