use Rattle.roll.specs.Rolls.{items, slot_count}
use Rattle.sheet.proofs.Drafts.{drafted-drop, dropped}
use Rattle.flat.specs.Flats.{flat_cost}
use Rattle.flat.proofs.calls.FlatSheetSheet.drop_draft.Goals as goal

pub invariant_of-self : goal.invariant_of-self
invariant_of-self c = rw c.new-self.ensures (record { drafted = drafted-drop _ _ (items c.args.self.now.roll) c.args.self.now.drafted _ c.truncate.ensures.items })

pub returns : goal.returns
returns c = rw c.truncate.ensures.slots (dropped _ _ (items c.args.self.now.roll) c.args.self.now.drafted (slot_count c.args.self.now.roll) flat_cost _ c.truncate.ensures.items)
