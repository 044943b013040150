use Rattle.std.proofs.Common.{◌≡◌, true, [], ◌∷◌, ◌++◌, length, refl, ap, ◌∙◌, arith, lt-ltb}
use Rattle.std.proofs.lemmas.Bool.{cond-true}
use Rattle.roll.specs.Rolls.{items}
use Rattle.outline.specs.Entries.{rows_of, entry_of, top_behind}
use Rattle.outline.proofs.Keeps.{all_of, few-rows, entry_rows, entry_all}
use Rattle.outline.proofs.Outline.put_entry.Goals as goal

pub overflow_add-self : goal.overflow_add-self
overflow_add-self c =
    let a = few-rows _ _ _ _ _ _ (all_of c.args.self.now) in
    let b = c.args.self.now.few in
    omega (arith, a.0, c.requires.room)

pub behind-self-requires : goal.behind-self-requires
behind-self-requires c =
    let a = few-rows _ _ _ _ _ _ (all_of c.args.self.now) in
    let b = c.args.self.now.few in
    omega (arith, a.1, c.requires.room)

pub invariant_of-self : goal.invariant_of-self
invariant_of-self c =
    let more : items c.push.new.self ≡ items c.args.self.now.roll ++ entry_of c.args.row c.args.self.now.total c.args.self.now.top ∷ [] = c.push.ensures.items ∙ cond-true _ _ _ (c.push.ensures.answer ∙ lt-ltb _ _ c.requires.room) ∙ ap (λ e. items c.args.self.now.roll ++ e ∷ []) c.entry_of-entry.ensures in
    let up : c.top_behind-self.result ≡ top_behind c.args.row (length (items c.args.self.now.roll)) c.args.self.now.top = c.top_behind-self.ensures ∙ ap (λ n. top_behind c.args.row n c.args.self.now.top) c.len.ensures in
    let a = entry_all _ _ _ _ _ _ (all_of c.args.self.now) c.args.row true c.requires.fine c.requires.stays _ _ _ more up c.behind-self.ensures in
    record { few = rw c.push.ensures.slots c.args.self.now.few; within = a.within; sound = a.sound; sound_before = a.sound_before; front = a.front; drafted = a.drafted }

pub returns : goal.returns
returns c =
    let more : items c.push.new.self ≡ items c.args.self.now.roll ++ entry_of c.args.row c.args.self.now.total c.args.self.now.top ∷ [] = c.push.ensures.items ∙ cond-true _ _ _ (c.push.ensures.answer ∙ lt-ltb _ _ c.requires.room) ∙ ap (λ e. items c.args.self.now.roll ++ e ∷ []) c.entry_of-entry.ensures in
    record { rows = ap rows_of more ∙ entry_rows _ _ _ _ _ _ (all_of c.args.self.now) c.args.row true c.requires.fine c.requires.stays; sealed = refl; slots = c.push.ensures.slots }
