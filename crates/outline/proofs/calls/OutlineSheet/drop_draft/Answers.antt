use Rattle.std.proofs.Common.{ap, ◌∙◌}
use Rattle.roll.specs.Rolls.{items, slot_count}
use Rattle.sheet.proofs.Drafts.{dropped}
use Rattle.outline.specs.Entries.{outline_cost, rows_of}
use Rattle.outline.proofs.Keeps.{all_of, drop_all}
use Rattle.outline.proofs.calls.OutlineSheet.drop_draft.Goals as goal

pub invariant_of-self : goal.invariant_of-self
invariant_of-self c =
    let a = drop_all _ _ _ _ _ _ (all_of c.args.self.now) _ _ c.truncate.ensures.items c.new-self.ensures in
    record { few = rw c.truncate.ensures.slots c.args.self.now.few; within = a.within; sound = a.sound; sound_before = a.sound_before; front = a.front; drafted = a.drafted }

pub returns : goal.returns
returns c =
    rw c.truncate.ensures.slots
    (dropped _ _ (rows_of (items c.args.self.now.roll)) c.args.self.now.drafted (slot_count c.args.self.now.roll) outline_cost _ (ap rows_of c.truncate.ensures.items ∙ c.args.self.now.front))
