use Rattle.std.proofs.Common.{ℕ, List, ◌++◌, drop, sym, ap, ◌∙◌, append_assoc, rules}
use Rattle.items.proofs.Fronts.{in_part, prefix-front, local_rest}
use Rattle.items.proofs.pair.split.Goals as goal

pub returns : goal.returns
returns c =
    let item = c.args.item.now in
    let rest = c.split_run.result.1.now in
    let r = c.split_run.ensures.run in_part (λ b r k. search rules) in
    record {
      prefix = r.0 ∙ sym (prefix-front item);
      local =
          c.split_at.ensures.back ∙ ap (λ n. drop n rest) c.min.ensures
          ∙ sym (local_rest item rest r.1);
      place = (
        c.split_run.result.0.now ++ c.split_at.result.0.now,
        c.split_run.ensures.whole ∙ ap (λ (t : List ℕ). c.split_run.result.0.now ++ t) c.split_at.ensures.by_index.0 ∙ sym (append_assoc c.split_run.result.0.now c.split_at.result.0.now c.split_at.result.1.now),
      );
    }
