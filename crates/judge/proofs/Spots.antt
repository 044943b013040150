-- Whether an element stands behind a Fallback counts in AlternateContent only.
use Rattle.std.proofs.Common.{◌≡◌, Bool, true, false, ◌&&◌, refl, rules}
use Rattle.rules.specs.Elements.{Tag}
use Rattle.rules.specs.Faults.{first, place_faults}
use Rattle.rules.proofs.Firsts.{first_append, first_one}

pub behind_inside : (inside behind ignorable : Bool) (t : Tag) → first (place_faults inside (inside && behind) ignorable t) ≡ first (place_faults inside behind ignorable t)
unfolding place_faults
behind_inside true behind ignorable t = refl
behind_inside false behind ignorable t = simp (first_append, first_one) (search rules)
