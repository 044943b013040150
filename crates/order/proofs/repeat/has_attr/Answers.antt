use Rattle.std.proofs.Common.{rules, tests}
use Rattle.std.proofs.lemmas.Iterator.{YieldsList-from_slice}
use Rattle.std.proofs.lemmas.Iterator.Search.{any_from_yields_List}
use Rattle.rules.specs.Elements.{attr_of}
use Rattle.rules.specs.Order.{has_attr}
use Rattle.order.proofs.Repeats.{first_from_any}
use Rattle.order.proofs.repeat.has_attr.Goals as goal

pub returns : goal.returns
unfolding has_attr attr_of
returns c =
    first_from_any _ _ c.args.attrs.now _
    (any_from_yields_List _ _ _ _ c.any.ensures.ran (YieldsList-from_slice c.args.attrs.now cc) (λ x b q k. search (rules, tests)))
