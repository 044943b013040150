use Rattle.std.proofs.Common.{cond, Option, refl, ap, ◌∙◌}
use Rattle.text.specs.declared.names.McElement.{McElement}
use Rattle.rules.specs.States.{is_alternate_state}
use Rattle.enter.specs.Scopes.{sizes}
use Rattle.verdict.specs.Views.{scope_seen, tag_seen}
use Rattle.frames.specs.Parts.{noted_from}
use Rattle.frames.proofs.Opening.{opens_all}
use Rattle.frames.proofs.open.open.Goals as goal

pub returns : goal.returns
returns c =
    let name-is = ap (λ (m : Option McElement). cond (is_alternate_state c.args.around.state) (noted_from c.args.around m c.is_met-met.result) c.args.around) c.mc.ensures in
    λ knows exts out k outside e h.
    opens_all knows exts out c.args.around (tag_seen c.args.view c.args.element) outside c.args.extension e
    (scope_seen c.args.view) h c.is_met-met.result (c.is_met-met.ensures knows k)
    (sizes (scope_seen c.args.view)) refl _ _ _
    (c.frame_of-frame.ensures knows k) (c.note.ensures ∙ name-is) (c.mismatch_of.ensures knows exts out k)
