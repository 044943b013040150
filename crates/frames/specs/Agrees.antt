-- Frames that judge alike: what a frame notes of children counts in an AlternateContent only.
use Rattle.std.specs.Prelude.{◌≡◌, Bool, true}
use Rattle.rules.specs.States.{Frame, is_alternate_state}

-- the frame with other notes on its children
unfoldable pub flagged : Frame → Bool → Bool → Bool → Frame
flagged g selected seen fallback =
    record {
      state = g.state;
      entered = g.entered;
      scope = g.scope;
      choice_selected = selected;
      choice_seen = seen;
      fallback_seen = fallback;
    }

-- in an AlternateContent these are the frame's own notes
abbrev pub OwnNotes : Frame → Bool → Bool → Bool → Type 0
OwnNotes g selected seen fallback =
    is_alternate_state g.state ≡ true
    → (selected ≡ g.choice_selected) × (seen ≡ g.choice_seen) × (fallback ≡ g.fallback_seen)

abbrev pub Agrees : Frame → Frame → Type 0
Agrees f g =
    (selected : Bool) × (seen : Bool) × (fallback : Bool) × (f ≡ flagged g selected seen fallback) × OwnNotes g selected seen fallback
