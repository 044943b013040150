use Rattle.std.proofs.Common.{rules}
use Rattle.file.specs.Texts.{texts}
use Rattle.rules.specs.Elements.{Attr, attr_of}
use Rattle.rules.specs.Scope.{mc_attribute}
use Rattle.attrs.specs.Wanted.{is_wanted}
use Rattle.attrs.proofs.tried.list_attr.Goals as goal

pub returns : goal.returns
returns c = c.first_attr.ensures.by_meaning (attr_of (texts c.args.lent)) (λ (x : Attr). is_wanted c.args.attribute (mc_attribute x)) (λ x b p. search rules)
