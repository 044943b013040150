use Rattle.std.proofs.Common.{◌∙◌, sym, rules}
use borrow.Author.Tests.{tests}
use Rattle.std.proofs.lemmas.Iterator.{YieldsList-from_slice}
use Rattle.std.proofs.lemmas.Iterator.Search.{any_from_yields_List}
use Rattle.items.specs.Items.{is_colon}
use Rattle.items.proofs.Fronts.{any_colon}
use Rattle.items.proofs.pair.has_colon.Goals as goal

pub returns : goal.returns
returns c =
    any_from_yields_List is_colon _ _ c.any.result c.any.ensures.ran (YieldsList-from_slice c.args.s.now c.iter.ensures.rest) (λ x b q k. search (rules, tests))
    ∙ sym (any_colon c.args.s.now)
