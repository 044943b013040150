-- How much a bounded list holds.
use Rattle.std.proofs.Common.{ℕ, ◌≤◌, length, arith}
use Rattle.std.proofs.lemmas.List.{length-take}
use Rattle.scope.specs.declared.bounded.Bounded.{Bounded}
use Rattle.scope.specs.Bounded.{held}

pub held_few : {T : Type 0} {N : ℕ} (b : Bounded T N) → length (held b) ≤ N
held_few b = let few = b.few in simp length-take (omega arith)
