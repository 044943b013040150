-- The trials of an element in two halves: its lists, and what is behind them.
use Rattle.std.proofs.Common.{◌≡◌, Bool, ◌++◌, append_assoc}
use Rattle.knowledge.specs.Understood.{Knows}
use Rattle.rules.specs.Elements.{Tag}
use Rattle.rules.specs.Scope.{Scope, scope_with}
use Rattle.rules.specs.Steps.{is_unwrapped}
use Rattle.rules.specs.Faults.{element_faults}
use Rattle.enter.specs.Trials.{list_faults, rest_faults}

pub halves : (knows : Knows) (out : Scope) (inside behind : Bool) (t : Tag)
    → element_faults knows out inside behind t ≡ list_faults out t ++ rest_faults (is_unwrapped knows (scope_with t out) t) (scope_with t out) inside behind t
unfolding element_faults list_faults rest_faults
halves knows out inside behind t = simp append_assoc
