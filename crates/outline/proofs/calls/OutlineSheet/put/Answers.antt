use Rattle.std.proofs.Common.{◌≡◌, false, sym, ap, ◌∙◌, arith, eq-eqb, leb-true}
use Rattle.std.proofs.lemmas.Result.{err_from_is_err_and}
use Rattle.std.proofs.lemmas.Bool.{ne_eqb}
use Rattle.roll.specs.Rolls.{items, slot_count}
use Rattle.sheet.specs.Rows.{is_end, cost_of}
use Rattle.sheet.specs.Tails.{judged}
use Rattle.sheet.proofs.Drafts.{cut, put-accepted, put_refused, accepted-room}
use Rattle.outline.specs.Entries.{outline_cost, rows_of}
use Rattle.outline.proofs.calls.OutlineSheet.put.Goals as goal

pub returns-in_err-judge : goal.returns-in_err-judge
returns-in_err-judge c =
    let p = err_from_is_err_and c.from_residual.result c.from_residual.ensures.1 in
    let q = put_refused _ _ (rows_of (items c.args.self.now.roll)) c.args.self.now.drafted (slot_count c.args.self.now.roll) outline_cost c.args.row _ _ (c.has_room.ensures, c.in_err-judge.ensures) in
    record { answer = rw (p.1, p.2) q.0; meaning = q.1 }

pub put_end-requires : goal.put_end-requires
put_end-requires c =
    let room = accepted-room _ _ _ c.in_ok-judge.ensures in
    record { fine = c.in_ok-judge.ensures ∙ ap (judged c.args.self.now.tail c.args.row) room; ends = eq-eqb _ _ (c.if-row-from.true ∙ c.from.ensures) }

pub put_entry-requires : goal.put_entry-requires
put_entry-requires c =
    let room = accepted-room _ _ _ c.in_ok-judge.ensures in
    let other : is_end c.args.row ≡ false = ne_eqb _ _ (λ e. c.if-row-from.false (e ∙ sym c.from.ensures)) in
    let one : cost_of outline_cost c.args.row ≡ 1 = grind arith in
    let fits = leb-true _ _ (sym c.has_room.ensures ∙ room) in
    record { fine = c.in_ok-judge.ensures ∙ ap (judged c.args.self.now.tail c.args.row) room; stays = other; room = omega (arith, c.args.self.now.sound.kept.1) }

pub returns-then-row-from : goal.returns-then-row-from
returns-then-row-from c =
    let q = put-accepted _ _ (rows_of (items c.args.self.now.roll)) c.args.self.now.drafted (slot_count c.args.self.now.roll) outline_cost c.args.row _ _ (c.has_room.ensures, c.in_ok-judge.ensures) c.put_end.ensures.rows in
    record { answer = q.0; meaning = ap (λ n. cut n (rows_of (items c.put_end.new.self.roll)) (slot_count c.put_end.new.self.roll) outline_cost) c.put_end.ensures.sealed ∙ ap (λ n. cut c.args.self.now.count (rows_of (items c.put_end.new.self.roll)) n outline_cost) c.put_end.ensures.slots ∙ q.1 }

pub returns-else-row-from : goal.returns-else-row-from
returns-else-row-from c =
    let q = put-accepted _ _ (rows_of (items c.args.self.now.roll)) c.args.self.now.drafted (slot_count c.args.self.now.roll) outline_cost c.args.row _ _ (c.has_room.ensures, c.in_ok-judge.ensures) c.put_entry.ensures.rows in
    record { answer = q.0; meaning = ap (λ n. cut n (rows_of (items c.put_entry.new.self.roll)) (slot_count c.put_entry.new.self.roll) outline_cost) c.put_entry.ensures.sealed ∙ ap (λ n. cut c.args.self.now.count (rows_of (items c.put_entry.new.self.roll)) n outline_cost) c.put_entry.ensures.slots ∙ q.1 }
