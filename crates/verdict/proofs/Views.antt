-- What a view shows.
use Rattle.understood.proofs.Knowings.{knowing-space}

-- a namespace in scope is understood as is answered
pub ruleset spaces = (knowing-space)
