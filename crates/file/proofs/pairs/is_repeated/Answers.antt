use Rattle.std.proofs.Common.{rules, arith, sym, ◌∙◌}
use Rattle.std.specs.Str.{bytes_eq}
use Rattle.std.proofs.lemmas.Iterator.{YieldsList-from_range}
use Rattle.std.proofs.lemmas.Iterator.Search.{any_from_yields_List}
use Rattle.file.specs.Form.{text_of, repeated}
use Rattle.file.proofs.Firsts.{not_none_from-list_any}
use Rattle.file.proofs.pairs.is_repeated.Goals as goal

pub returns : goal.returns
unfolding repeated
returns c =
    any_from_yields_List _ _ _ _ c.any.ensures.ran (YieldsList-from_range 0 c.args.k c.args.k (cc) (omega arith)) (λ x b q k. search rules)
    ∙ sym (not_none_from-list_any (λ j. bytes_eq (text_of c.args.pairs.now c.args.bytes.now j) (text_of c.args.pairs.now c.args.bytes.now c.args.k)) 0 c.args.k)
