use Rattle.std.proofs.Common.{◌≡◌, rules, arith, sym, ◌∙◌}
use Rattle.std.specs.List.{find, range_with_len}
use Rattle.std.proofs.lemmas.Iterator.{YieldsList-from_range}
use Rattle.std.proofs.lemmas.Iterator.Search.{find_from_yields_List}
use Rattle.file.specs.Form.{pair_count, repeated}
use Rattle.file.proofs.Firsts.{first_from-find}
use Rattle.file.proofs.pairs.first_repeated.Goals as goal

pub returns : goal.returns
returns c =
    let n = pair_count c.args.pairs.now in
    let found = find_from_yields_List (repeated c.args.pairs.now c.args.bytes.now) _ _ c.find.result c.find.ensures.ran (YieldsList-from_range 0 n n (cc) (omega arith)) (λ x b q k. search rules) in
    let same : c.map.result ≡ find (repeated c.args.pairs.now c.args.bytes.now) (range_with_len 0 n) = grind arith in
    same ∙ sym (first_from-find (repeated c.args.pairs.now c.args.bytes.now) 0 n)
