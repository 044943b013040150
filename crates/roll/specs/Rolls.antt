-- What a roll means: a list, and the number of its slots.
use Rattle.std.specs.Prelude.{ℕ, List, length, take}
use Rattle.roll.specs.declared.Roll.{Roll}

module _ {T : Type 0} where
  unfoldable pub items : Roll T → List T
  items r = take r.len r.slots.now

  unfoldable pub slot_count : Roll T → ℕ
  slot_count r = length r.slots.now
