use Rattle.std.proofs.Common.{◌≡◌, ◌++◌, map, take}
use Rattle.scope.specs.Bounded.{held}
use Rattle.judge.specs.Tags.{bound_of}
use Rattle.judge.proofs.declare.declare.Given as goal

abbrev pub invariant-loop-x : goal.invariant-loop-x
invariant-loop-x l = held l.bindings ≡ held l.initial.bindings ++ map bound_of (take l.x-index l.decls)
