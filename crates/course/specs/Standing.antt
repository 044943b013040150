-- When a course is that of a record: its texts, a knowledge, an extension list and its rows, newest first.
use Rattle.std.specs.Prelude.{◌≡◌, ◌≤◌, List, [], reverse, length, None}
use Rattle.text.specs.Bytes.{Bytes}
use Rattle.record.specs.declared.row.Row.{Row}
use Rattle.knowledge.specs.Understood.{Knows}
use Rattle.card.specs.Cards.{Name}
use Rattle.rules.specs.Elements.{tokens, around}
use Rattle.rules.specs.Scope.{no_scope}
use Rattle.rules.specs.Records.{judged}
use Rattle.scope.specs.Bounded.{held}
use Rattle.enter.specs.Scopes.{scope_of}
use Rattle.understood.specs.Answers.{Knowing}
use Rattle.order.specs.Following.{Follows}
use Rattle.frames.specs.declared.frame.Frame.{Frame}
use Rattle.frames.specs.Settle.{Settled}
use Rattle.course.specs.declared.Course.{Course}

-- the frames that a course holds, the innermost first
abbrev pub frames_of : Course → List Frame
frames_of c = reverse (held c.frames)

pub record Stands (texts : List Bytes) (knows : Knows) (extensions : List Name) (rows : List Row) (c : Course) : Type 0 where
  pub knowing : Knowing texts knows c.known
  pub follows : Follows texts rows c.progress
  pub few : length (around (tokens texts rows)) ≤ 64
  pub settled : Settled knows extensions (judged (tokens texts rows)) (scope_of texts c.scope) (frames_of c) c.mismatch

-- what is known of the record's texts and how far it has come are as they were
abbrev pub SameRecord : Course → Course → Type 0
SameRecord before after = (after.known ≡ before.known) × (after.progress ≡ before.progress)

-- of no record: no rows, no open elements, nothing in scope, no mismatch
pub record Fresh (c : Course) : Type 0 where
  pub follows : (texts : List Bytes) → Follows texts [] c.progress
  pub unscoped : (texts : List Bytes) → scope_of texts c.scope ≡ no_scope
  pub unframed : frames_of c ≡ []
  pub unmarked : c.mismatch ≡ None
