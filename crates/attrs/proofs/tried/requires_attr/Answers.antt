use Rattle.std.proofs.Common.{rules}
use Rattle.file.specs.Texts.{texts}
use Rattle.rules.specs.Elements.{attr_of}
use Rattle.rules.specs.Scope.{is_required}
use Rattle.attrs.proofs.tried.requires_attr.Goals as goal

pub returns : goal.returns
returns c = c.first_attr.ensures.by_meaning (attr_of (texts c.args.lent)) is_required (λ x b p. search rules)
