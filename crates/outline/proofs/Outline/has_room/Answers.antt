use Rattle.std.proofs.Common.{arith}
use Rattle.roll.proofs.Fits.{items_fit}
use Rattle.outline.proofs.Outline.has_room.Goals as goal

pub returns-then-row-from : goal.returns-then-row-from
returns-then-row-from c =
    let a = c.args.self.now.sound.kept.1 in
    let b = items_fit c.args.self.now.roll in
    grind arith

pub returns-else-row-from : goal.returns-else-row-from
returns-else-row-from c =
    let a = c.args.self.now.sound.kept.1 in
    let b = items_fit c.args.self.now.roll in
    grind arith
