-- Where an element stands, as the rules say it.
use Rattle.std.specs.Prelude.{Bool, true, false}
use Rattle.judge.specs.declared.place.Spot.{Spot}
use Rattle.judge.specs.declared.place.Spot.TheVariants.{Outside, Inside, BehindFallback}

-- directly in AlternateContent
abbrev pub is_inside : Spot → Bool
is_inside Outside = false
is_inside Inside = true
is_inside BehindFallback = true

-- behind a Fallback there
abbrev pub is_behind : Spot → Bool
is_behind Outside = false
is_behind Inside = false
is_behind BehindFallback = true
