-- The first of a list of refusals that is put together from trials.
use Rattle.std.proofs.Common.{◌≡◌, Bool, true, false, cond, List, [], ◌∷◌, ◌++◌, Some, None, refl}
use Rattle.std.specs.Option.{option_or}
use Rattle.record.specs.declared.refusal.Refusal.{Refusal}
use Rattle.rules.specs.Faults.{fault, first}

pub first_one : (b : Bool) (r : Refusal) → first (fault b r) ≡ cond b (Some r) None
unfolding fault
first_one true r = refl
first_one false r = refl

pub first_append : (a b : List Refusal) → first (a ++ b) ≡ option_or (first a) (first b)
first_append [] b = refl
first_append (r ∷ a) b = refl
