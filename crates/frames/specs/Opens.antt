-- What a start opens: its frame, the note of it in the frame around, and its first mismatch.
use Rattle.std.specs.Prelude.{◌≡◌, true, false, List}
use Rattle.knowledge.specs.Understood.{Knows}
use Rattle.card.specs.Cards.{Name}
use Rattle.rules.specs.Elements.{Tag}
use Rattle.rules.specs.Scope.{Scope}
use Rattle.rules.specs.Faults.{first}
use Rattle.rules.specs.States.{is_alternate_state, opened, noted, tag_marks_in}
use Rattle.enter.specs.Scopes.{sizes}
use Rattle.frames.specs.declared.frame.Frame.{Frame}
use Rattle.frames.specs.declared.opened.Opened.{Opened}
use Rattle.frames.specs.Stacks.{frame_in}

-- by what is in scope around it and at it
pub record Opens (knows : Knows) (extensions : List Name) (out at : Scope) (around : Frame) (t : Tag) (o : Opened) : Type 0 where
  pub frame : frame_in at o.frame ≡ opened knows extensions (frame_in out around) t
  pub sized : o.frame.lengths ≡ sizes at
  pub kept : o.around.lengths ≡ around.lengths
  pub note : is_alternate_state around.state ≡ true → frame_in out o.around ≡ noted knows extensions (frame_in out around) t
  pub same : is_alternate_state around.state ≡ false → frame_in out o.around ≡ frame_in out around
  pub marked : o.mismatch ≡ first (tag_marks_in knows extensions (frame_in out around) (opened knows extensions (frame_in out around) t) t)
