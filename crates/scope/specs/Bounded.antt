-- What a bounded list holds, the eldest first.
use Rattle.std.specs.Prelude.{ℕ, List, take}
use Rattle.scope.specs.declared.bounded.Bounded.{Bounded}

module _ {T : Type 0} {N : ℕ} where
  abbrev pub held : Bounded T N → List T
  held b = take b.len b.slots
