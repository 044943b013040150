-- The parts of what a start opens, by the frame around it, the name of the element in markup compatibility, if it has one, and whether
-- it is a Choice whose requirements are met.
use Rattle.std.specs.Prelude.{Bool, false, not, ◌&&◌, ◌||◌, Option}
use Rattle.text.specs.declared.names.McElement.{McElement}
use Rattle.rules.specs.declared.state.State.{State}
use Rattle.rules.specs.Scope.{choice, fallback}
use Rattle.rules.specs.States.{is_alternate_state, entered_by}
use Rattle.enter.specs.declared.in_scope.Lengths.{Lengths}
use Rattle.frames.specs.declared.frame.Frame.{Frame}

abbrev pub reached_from : Frame → Option McElement → Bool
reached_from around name = around.entered && not (is_alternate_state around.state && not (choice name || fallback name))

abbrev pub selected_from : Frame → Option McElement → Bool → Bool
selected_from around name met = not around.choice_selected && (fallback name || met)

abbrev pub opened_from : State → Frame → Option McElement → Bool → Lengths → Frame
opened_from state around name met lengths =
    record {
      state = state;
      entered = entered_by state (reached_from around name) (selected_from around name met);
      choice_selected = false;
      choice_seen = false;
      fallback_seen = false;
      lengths = lengths;
    }

abbrev pub noted_from : Frame → Option McElement → Bool → Frame
noted_from around name met =
    record {
      state = around.state;
      entered = around.entered;
      choice_selected = around.choice_selected || met;
      choice_seen = choice name || around.choice_seen;
      fallback_seen = fallback name || around.fallback_seen;
      lengths = around.lengths;
    }
