-- A roll holds no more items than it has slots.
use Rattle.std.proofs.Common.{◌≤◌, length, arith}
use Rattle.std.proofs.lemmas.List.{length-take}
use Rattle.roll.specs.declared.Roll.{Roll}
use Rattle.roll.specs.Rolls.{items, slot_count}

pub items_fit : {T : Type 0} (r : Roll T) → length (items r) ≤ slot_count r
unfolding items slot_count
items_fit r = omega (arith, length-take r.len r.slots.now)
