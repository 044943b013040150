use Rattle.std.proofs.Common.{◌≡◌, [], ◌∷◌, ◌++◌, length, sym, ◌∙◌, arith, ltb-true}
use Rattle.std.proofs.lemmas.Result.{err_from_is_err_and}
use Rattle.std.proofs.lemmas.Bool.{cond-true}
use Rattle.roll.specs.Rolls.{items, slot_count}
use Rattle.sheet.proofs.Drafts.{drafted_starts, drafted-put, put-accepted, put_refused, accepted-room}
use Rattle.flat.specs.Flats.{flat_cost}
use Rattle.flat.proofs.Costs.{flat-room}
use Rattle.flat.proofs.calls.FlatSheetSheet.put.Goals as goal

pub returns-in_err-judge : goal.returns-in_err-judge
returns-in_err-judge c =
    let p = err_from_is_err_and c.from_residual.result c.from_residual.ensures.1 in
    let q = put_refused _ _ (items c.args.self.now.roll) c.args.self.now.drafted (slot_count c.args.self.now.roll) flat_cost c.args.row _ _ (c.has_room.ensures.answer ∙ flat-room (items c.args.self.now.roll) c.args.row (slot_count c.args.self.now.roll), c.in_err-judge.ensures) in
    record { answer = rw (p.1, p.2) q.0; meaning = q.1 }

pub behind-self-requires : goal.behind-self-requires
behind-self-requires c =
    let a = sym c.has_room.ensures.answer ∙ accepted-room _ _ _ c.in_ok-judge.ensures in
    let b = drafted_starts _ _ (items c.args.self.now.roll) c.args.self.now.drafted in
    omega (arith, ltb-true (length (items c.args.self.now.roll)) (slot_count c.args.self.now.roll) a, c.has_room.ensures.few)

pub invariant_of-self : goal.invariant_of-self
invariant_of-self c =
    let a = sym c.has_room.ensures.answer ∙ accepted-room _ _ _ c.in_ok-judge.ensures in
    let more : items c.push.new.self ≡ items c.args.self.now.roll ++ c.args.row ∷ [] = c.push.ensures.items ∙ cond-true _ _ _ (c.push.ensures.answer ∙ a) in
    rw c.behind-self.ensures (record { drafted = drafted-put _ _ (items c.args.self.now.roll) c.args.self.now.drafted _ c.args.row _ more c.in_ok-judge.ensures })

pub returns : goal.returns
returns c =
    let a = sym c.has_room.ensures.answer ∙ accepted-room _ _ _ c.in_ok-judge.ensures in
    let more : items c.push.new.self ≡ items c.args.self.now.roll ++ c.args.row ∷ [] = c.push.ensures.items ∙ cond-true _ _ _ (c.push.ensures.answer ∙ a) in
    let q = put-accepted _ _ (items c.args.self.now.roll) c.args.self.now.drafted (slot_count c.args.self.now.roll) flat_cost c.args.row _ _ (c.has_room.ensures.answer ∙ flat-room (items c.args.self.now.roll) c.args.row (slot_count c.args.self.now.roll), c.in_ok-judge.ensures) more in
    record { answer = q.0; meaning = rw c.push.ensures.slots q.1 }
