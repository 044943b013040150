use Rattle.std.proofs.Common.{◌≡◌, ◌-◌, sym, ap, ◌∙◌, eqb-true}
use Rattle.roll.specs.Rolls.{items, slot_count}
use Rattle.sheet.proofs.Drafts.{drafted_seal, seal_accepted, seal_refused}
use Rattle.flat.specs.Flats.{flat_cost}
use Rattle.flat.proofs.calls.FlatSheetSheet.seal.Goals as goal

pub returns-then-not-is_closed : goal.returns-then-not-is_closed
returns-then-not-is_closed c =
    let q = seal_refused _ _ (items c.args.self.now.roll) c.args.self.now.drafted (slot_count c.args.self.now.roll) flat_cost (sym c.is_closed.ensures ∙ c.if-not-is_closed.true) in
    record { answer = q.0; meaning = q.1 }

pub invariant_of-self : goal.invariant_of-self
invariant_of-self c =
    let shut : c.args.self.now.tail.starts ≡ 0 = eqb-true c.args.self.now.tail.starts 0 (sym c.is_closed.ensures ∙ c.if-not-is_closed.false) in
    rw c.new-self.ensures (record { drafted = drafted_seal _ _ (items c.args.self.now.roll) c.args.self.now.drafted c.len-self.result c.len-self.ensures shut })

pub returns : goal.returns
returns c =
    let shut : c.args.self.now.tail.starts ≡ 0 = eqb-true c.args.self.now.tail.starts 0 (sym c.is_closed.ensures ∙ c.if-not-is_closed.false) in
    let q = seal_accepted _ _ (items c.args.self.now.roll) c.args.self.now.drafted (slot_count c.args.self.now.roll) flat_cost c.len-self.result (c.len.result - c.args.self.now.sealed) c.len-self.ensures (ap (λ n. n - c.args.self.now.sealed) c.len.ensures) shut in
    record { answer = q.0; meaning = q.1 }
