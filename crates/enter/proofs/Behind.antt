-- Whether an element stands behind a Fallback counts in AlternateContent only.
use Rattle.std.proofs.Common.{◌≡◌, Bool, ◌&&◌}
use Rattle.knowledge.specs.Understood.{Knows}
use Rattle.rules.specs.Elements.{Tag}
use Rattle.rules.specs.Scope.{Scope}
use Rattle.rules.specs.Faults.{first, element_faults}
use Rattle.rules.proofs.Firsts.{first_append}
use Rattle.judge.proofs.Spots.{behind_inside}

pub tried_inside : (knows : Knows) (out : Scope) (inside behind : Bool) (t : Tag)
    → first (element_faults knows out inside (inside && behind) t) ≡ first (element_faults knows out inside behind t)
unfolding element_faults
tried_inside knows out inside behind t = simp (first_append, behind_inside)
