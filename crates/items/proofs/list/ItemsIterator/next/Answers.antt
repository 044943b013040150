use Rattle.std.proofs.Common.{◌≡◌, ℕ, List, ◌++◌, length, ap, ◌∙◌, length-append, rules}
use Rattle.items.specs.Items.{is_blank}
use Rattle.items.specs.Unread.{unread}
use Rattle.items.proofs.Fronts.{in_item, next_some, next_none}
use Rattle.items.proofs.list.ItemsIterator.next.Goals as goal

pub returns-then-is_empty : goal.returns-then-is_empty
returns-then-is_empty c =
    let f = c.split_run.ensures.run is_blank (λ b r k. search rules) in
    let i = c.split_run-2.ensures.run in_item (λ b r k. search rules) in
    let e = next_none (unread c.args.self.now) c.split_run.result.1.now c.split_run-2.result.0.now c.split_run-2.result.1.now f.1 i.0 i.1 (search rules) in
    let p : unread c.args.self.now ≡ c.split_run.result.0.now ++ (c.split_run-2.result.0.now ++ c.split_run-2.result.1.now) =
    c.split_run.ensures.whole ∙ ap (λ (t : List ℕ). c.split_run.result.0.now ++ t) c.split_run-2.ensures.whole in
    let n = simp length-append at (ap length p) in
    search rules

pub returns : goal.returns
returns c =
    let f = c.split_run.ensures.run is_blank (λ b r k. search rules) in
    let i = c.split_run-2.ensures.run in_item (λ b r k. search rules) in
    let e = next_some (unread c.args.self.now) c.split_run.result.1.now c.split_run-2.result.0.now c.split_run-2.result.1.now f.1 i.0 i.1 (search rules) in
    let p : unread c.args.self.now ≡ c.split_run.result.0.now ++ (c.split_run-2.result.0.now ++ c.split_run-2.result.1.now) =
    c.split_run.ensures.whole ∙ ap (λ (t : List ℕ). c.split_run.result.0.now ++ t) c.split_run-2.ensures.whole in
    let n = simp length-append at (ap length p) in
    let m = ap length e in
    record { goes = search rules; steps = record { item = e; less = search rules; place = (c.split_run.result.0.now, p) } }
