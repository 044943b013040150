use Rattle.std.proofs.Common.{◌^◌, ◌<◌, rules}
use Rattle.roll.specs.Rolls.{items, slot_count}
use Rattle.outline.specs.Entries.{rows_of}
use Rattle.outline.proofs.Keeps.{new_all}
use Rattle.outline.proofs.Outline.new.Goals as goal

pub invariant_of-result : goal.invariant_of-result
unfolding rows_of
invariant_of-result c =
    let few : slot_count c.new.result < 2 ^ 63 = search rules in
    let a = new_all (items c.new.result) c.new-2.result c.new.ensures.items c.new-2.ensures in
    record { few = few; within = a.within; sound = a.sound; sound_before = a.sound_before; front = a.front; drafted = a.drafted }

pub returns : goal.returns
unfolding rows_of
returns c = rw (c.new.ensures.items, c.new.ensures.slots)
