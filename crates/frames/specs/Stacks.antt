-- What the frames of the open elements mean, with what is in scope.
use Rattle.std.specs.Prelude.{◌≡◌, ◌≤◌, true, false, List, [], ◌∷◌}
use Rattle.rules.specs.declared.state.State.TheVariants.{Ignored}
use Rattle.rules.specs.Scope.{Scope, no_scope}
use Rattle.rules.specs.States.{Frame, ground}
use Rattle.enter.specs.declared.in_scope.Lengths.{Lengths}
use Rattle.enter.specs.Scopes.{sizes, scope_before}
use Rattle.frames.specs.declared.frame.Frame.{Frame as Held}
use Rattle.frames.specs.Agrees.{Agrees}

-- a frame, with what is in scope at its element
abbrev pub frame_in : Scope → Held → Frame
frame_in s f =
    record {
      state = f.state;
      entered = f.entered;
      scope = s;
      choice_selected = f.choice_selected;
      choice_seen = f.choice_seen;
      fallback_seen = f.fallback_seen;
    }

abbrev pub no_lengths : Lengths
no_lengths = record { bindings = 0; marks = 0; pairs = 0 }

-- around the root
abbrev pub ground_held : Held
ground_held =
    record {
      state = Ignored;
      entered = true;
      choice_selected = false;
      choice_seen = false;
      fallback_seen = false;
      lengths = no_lengths;
    }

-- the innermost of these frames
abbrev pub innermost : List Held → Held
innermost [] = ground_held
innermost (f ∷ fs) = f

-- the innermost in another form
abbrev pub renoted : Held → List Held → List Held
renoted n [] = []
renoted n (f ∷ fs) = n ∷ fs

abbrev pub Within : Lengths → Lengths → Type 0
Within m n = (m.bindings ≤ n.bindings) × (m.marks ≤ n.marks) × (m.pairs ≤ n.pairs)

-- Frames, the innermost first, that mean these of the rules: each with the entries that were in scope at it.
abbrev pub Stacked : Scope → List Held → List Frame → Type 0
Stacked s [] [] = ⊥
Stacked s [] (g ∷ gs) = (gs ≡ []) × Agrees ground g × (s ≡ no_scope)
Stacked s (f ∷ fs) [] = ⊥
Stacked s (f ∷ fs) (g ∷ gs) =
    Agrees (frame_in s f) g × (f.lengths ≡ sizes s) × Within (innermost fs).lengths (sizes s)
    × Stacked (scope_before (innermost fs).lengths s) fs gs

-- Entries were added, and those that were there are still there.
pub record Grown (before after : Scope) : Type 0 where
  pub back : scope_before (sizes before) after ≡ before
  pub within : Within (sizes before) (sizes after)
