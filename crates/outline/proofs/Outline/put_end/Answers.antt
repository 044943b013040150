use Rattle.std.proofs.Common.{◌≡◌, ◌-◌, true, length, set, sym, refl, ap, ◌∙◌, arith}
use Rattle.std.proofs.lemmas.Option.{slice_get_within}
use Rattle.roll.specs.Rolls.{items}
use Rattle.roll.proofs.Fits.{items_fit}
use Rattle.outline.specs.Entries.{rows_of}
use Rattle.outline.proofs.Keeps.{all_of, few-rows, opened, top-some, top_entry, end-rows, end_all}
use Rattle.outline.proofs.Outline.put_end.Goals as goal

pub unwrap-at-requires : goal.unwrap-at-requires
unwrap-at-requires c =
    let p = top-some _ _ _ _ _ _ (all_of c.args.self.now) c.args.row true c.requires.fine c.requires.ends in
    rw p.1

pub unwrap-start-requires : goal.unwrap-start-requires
unwrap-start-requires c =
    let p = top_entry _ _ _ _ _ _ (all_of c.args.self.now) c.args.row true c.requires.fine c.requires.ends c.unwrap-at.result c.unwrap-at.ensures in
    rw (c.get.ensures, p.1)

pub overflow_sub-between-2 : goal.overflow_sub-between-2
overflow_sub-between-2 c =
    let a = slice_get_within (items c.args.self.now.roll) c.unwrap-at.result c.unwrap-start.result (sym c.get.ensures ∙ c.unwrap-start.ensures) in
    omega (arith, c.len.ensures)

pub overflow_add-self : goal.overflow_add-self
overflow_add-self c =
    let a = few-rows _ _ _ _ _ _ (all_of c.args.self.now) in
    let b = opened _ _ _ _ _ _ (all_of c.args.self.now) c.args.row true c.requires.fine c.requires.ends in
    let d = items_fit c.args.self.now.roll in
    omega (arith, a.0, c.args.self.now.few)

pub behind-self-requires : goal.behind-self-requires
behind-self-requires c =
    let a = few-rows _ _ _ _ _ _ (all_of c.args.self.now) in
    let d = items_fit c.args.self.now.roll in
    omega (arith, a.1, c.args.self.now.few)

pub invariant_of-self : goal.invariant_of-self
invariant_of-self c =
    let inside : c.len.result - 1 - c.unwrap-at.result ≡ length (items c.args.self.now.roll) - 1 - c.unwrap-at.result = ap (λ n. n - 1 - c.unwrap-at.result) c.len.ensures in
    let shut = c.set.ensures.items ∙ ap (set (items c.args.self.now.roll) c.unwrap-at.result) c.closed_by.ensures in
    let a = end_all _ _ _ _ _ _ (all_of c.args.self.now) c.args.row true c.requires.fine c.requires.ends c.unwrap-at.result c.unwrap-at.ensures c.unwrap-start.result (sym c.get.ensures ∙ c.unwrap-start.ensures) _ inside _ _ shut c.behind-self.ensures in
    record { few = rw c.set.ensures.slots c.args.self.now.few; within = a.within; sound = a.sound; sound_before = a.sound_before; front = a.front; drafted = a.drafted }

pub returns : goal.returns
returns c =
    let inside : c.len.result - 1 - c.unwrap-at.result ≡ length (items c.args.self.now.roll) - 1 - c.unwrap-at.result = ap (λ n. n - 1 - c.unwrap-at.result) c.len.ensures in
    let shut = c.set.ensures.items ∙ ap (set (items c.args.self.now.roll) c.unwrap-at.result) c.closed_by.ensures in
    record { rows = ap rows_of shut ∙ end-rows _ _ _ _ _ _ (all_of c.args.self.now) c.args.row true c.requires.fine c.requires.ends c.unwrap-at.result c.unwrap-at.ensures c.unwrap-start.result (sym c.get.ensures ∙ c.unwrap-start.ensures) _ inside; sealed = refl; slots = c.set.ensures.slots }
