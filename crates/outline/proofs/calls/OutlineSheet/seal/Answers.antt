use Rattle.std.proofs.Common.{◌≡◌, ◌-◌, sym, ap, ◌∙◌, eqb-true}
use Rattle.roll.specs.Rolls.{items, slot_count}
use Rattle.sheet.proofs.Drafts.{seal_accepted, seal_refused}
use Rattle.outline.specs.Entries.{outline_cost, rows_of}
use Rattle.outline.proofs.Keeps.{all_of, seal_all}
use Rattle.outline.proofs.calls.OutlineSheet.seal.Goals as goal

pub returns-then-not-is_closed : goal.returns-then-not-is_closed
returns-then-not-is_closed c =
    let q = seal_refused _ _ (rows_of (items c.args.self.now.roll)) c.args.self.now.drafted (slot_count c.args.self.now.roll) outline_cost (sym c.is_closed.ensures ∙ c.if-not-is_closed.true) in
    record { answer = q.0; meaning = q.1 }

pub invariant_of-self : goal.invariant_of-self
invariant_of-self c =
    let shut : c.args.self.now.tail.starts ≡ 0 = eqb-true c.args.self.now.tail.starts 0 (sym c.is_closed.ensures ∙ c.if-not-is_closed.false) in
    let a = seal_all _ _ _ _ _ _ (all_of c.args.self.now) _ _ c.len-self.ensures shut c.new-self.ensures in
    record { few = c.args.self.now.few; within = a.within; sound = a.sound; sound_before = a.sound_before; front = a.front; drafted = a.drafted }

pub returns : goal.returns
returns c =
    let shut : c.args.self.now.tail.starts ≡ 0 = eqb-true c.args.self.now.tail.starts 0 (sym c.is_closed.ensures ∙ c.if-not-is_closed.false) in
    let all = c.args.self.now.sound.kept.0 in
    let q = seal_accepted _ _ (rows_of (items c.args.self.now.roll)) c.args.self.now.drafted (slot_count c.args.self.now.roll) outline_cost c.args.self.now.total (c.args.self.now.total - c.args.self.now.count) (sym all) (ap (λ n. n - c.args.self.now.count) (sym all)) shut in
    record { answer = q.0; meaning = q.1 }
