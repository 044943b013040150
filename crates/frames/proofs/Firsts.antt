-- The first mismatch of a tag's own rows.
use Rattle.std.proofs.Common.{◌≡◌, Bool, cond, not, ◌&&◌, List, Some, Option}
use Rattle.record.specs.declared.refusal.Cause.TheVariants.{StrayChild, ForeignName}
use Rattle.record.specs.declared.refusal.Refusal.{Refusal}
use Rattle.record.specs.declared.refusal.Refusal.TheVariants.{Mismatch}
use Rattle.knowledge.specs.Understood.{Knows}
use Rattle.card.specs.Cards.{Name}
use Rattle.rules.specs.Elements.{Tag}
use Rattle.rules.specs.Scope.{is_branch}
use Rattle.rules.specs.Steps.{is_foreign}
use Rattle.rules.specs.Mismatches.{attr_marks}
use Rattle.rules.specs.Faults.{first}
use Rattle.verdict.proofs.Marks.{two-marks}
use Rattle.rules.specs.States.{Frame, is_alternate_state, is_ignored_state, is_kept_state, heeds_must, tag_marks_in}

module _ (K : Knows) (ext : List Name) (f g : Frame) (t : Tag) where
  abbrev strays : Bool
  strays = f.entered && is_alternate_state f.state && not (is_branch t) && not (is_ignored_state g.state)

  abbrev foreign : Bool
  foreign = g.entered && is_kept_state g.state && is_foreign K t.namespace

  abbrev others : Option Refusal
  others = first (attr_marks K (g.entered && heeds_must g.state) (g.entered && is_kept_state g.state) g.scope t.attrs)

  pub tag_marks : first (tag_marks_in K ext f g t)
      ≡ cond strays (Some (Mismatch t.placed.place StrayChild)) (cond foreign (Some (Mismatch t.placed.place ForeignName)) others)
  unfolding tag_marks_in
  tag_marks = two-marks _ _ _ _ _ _
