-- A text or an end, judged by the state of the element around it together with its own kind.
use Rattle.std.specs.Prelude.{Bool, true, false, not, ◌&&◌}
use Rattle.record.specs.declared.row.PlacedRow.{PlacedRow}
use Rattle.record.specs.declared.row.Kind.{Kind}
use Rattle.record.specs.declared.row.Kind.TheVariants.{Start, Declaration, Attribute, Text, End}
use Rattle.record.specs.declared.refusal.Refusal.TheVariants.{Misplaced}
use Rattle.rules.specs.declared.state.State.{State}
use Rattle.rules.specs.Steps.{when}
use Rattle.rules.specs.Faults.{fault, first}
use Rattle.rules.specs.States.{is_alternate_state, keeps_text, keeps_end}
use Rattle.sheet.specs.Sheets.{Model}
use Rattle.calls.specs.Calls.{Put, put_unless}
use Rattle.frames.specs.declared.frame.Frame.{Frame}
use Rattle.course.specs.declared.rows.Fate.{Fate}
use Rattle.course.specs.declared.rows.Fate.TheVariants.{Keep, Leave, Refuse}

-- it is kept, if the element is entered
abbrev pub keeps_in : State → Kind → Bool
keeps_in state Start = false
keeps_in state Declaration = false
keeps_in state Attribute = false
keeps_in state Text = keeps_text state
keeps_in state End = keeps_end state

-- the end of an AlternateContent without a Choice
abbrev pub ends_empty : Frame → Kind → Bool
ends_empty around Start = false
ends_empty around Declaration = false
ends_empty around Attribute = false
ends_empty around Text = false
ends_empty around End = is_alternate_state around.state && not around.choice_seen

abbrev pub is_keep : Fate → Bool
is_keep Keep = true
is_keep Leave = false
is_keep Refuse = false

abbrev pub is_refuse : Fate → Bool
is_refuse Keep = false
is_refuse Leave = false
is_refuse Refuse = true

-- what judging it comes to
abbrev pub row_in : Model → Frame → Kind → PlacedRow → Put
row_in m around kind x =
    put_unless (first (fault (ends_empty around kind) (Misplaced x.place))) m (when (around.entered && keeps_in around.state kind) x)
