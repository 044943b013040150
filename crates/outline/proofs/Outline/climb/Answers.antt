use Rattle.std.proofs.Common.{◌≡◌, suc, ◌∷◌, [], ◌++◌, length, refl, ap, ◌∙◌, arith, rules}
use Rattle.std.specs.List.{range_with_len}
use Rattle.std.proofs.iter.Yields.{nat_range_steps}
use Rattle.std.proofs.lemmas.Fn.{fold_over}
use Rattle.std.proofs.lemmas.Iterator.{YieldsList-from_range}
use Rattle.std.proofs.lemmas.List.{length_push}
use Rattle.std.proofs.lemmas.List.FromFn.{length-range_with_len}
use Rattle.outline.specs.Found.{climbed}
use Rattle.outline.specs.Outlines.{sealed_entries}
use Rattle.outline.proofs.Outline.climb.Goals as goal

-- after as many steps as numbers of the range have come, it is as many steps up
pub returns : goal.returns
returns c =
    fold_over nat_range_steps (λ x. x) _ (λ ys o. o ≡ climbed (sealed_entries c.args.self.now) (length ys) c.args.start) _
    (λ ys a x b f' j k. let more : length (ys ++ x ∷ []) ≡ suc (length ys) = omega (arith, length_push ys x) in rw (more, ← j) (search rules))
    _ (range_with_len 0 c.args.steps) _ _ (YieldsList-from_range 0 c.args.steps c.args.steps refl (omega arith)).runs refl c.fold.ensures.ran
    ∙ ap (λ n. climbed (sealed_entries c.args.self.now) n c.args.start) (length-range_with_len 0 c.args.steps)
