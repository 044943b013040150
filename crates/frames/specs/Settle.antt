-- What is held of tokens that are judged and not refused: the frames of the open elements, what is in scope, the first mismatch.
use Rattle.std.specs.Prelude.{◌≡◌, List, [], Option}
use Rattle.record.specs.declared.refusal.Refusal.{Refusal}
use Rattle.knowledge.specs.Understood.{Knows}
use Rattle.card.specs.Cards.{Name}
use Rattle.rules.specs.Elements.{Token}
use Rattle.rules.specs.Scope.{Scope}
use Rattle.rules.specs.Mismatches.{mismatches}
use Rattle.rules.specs.Faults.{first, faults}
use Rattle.rules.specs.States.{frames}
use Rattle.frames.specs.declared.frame.Frame.{Frame as Held}
use Rattle.frames.specs.Stacks.{Stacked}

-- frames innermost first, tokens newest first
pub record Settled (knows : Knows) (extensions : List Name) (past : List Token) (s : Scope) (fs : List Held) (mismatch : Option Refusal)
    : Type 0 where
  pub stacked : Stacked s fs (frames knows extensions past)
  pub sound : faults knows extensions past ≡ []
  pub marked : mismatch ≡ first (mismatches knows extensions past)
