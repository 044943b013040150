use Rattle.std.proofs.Common.{rules}
use Rattle.file.specs.Texts.{texts}
use Rattle.attrs.proofs.Turns.{xml_refused}
use Rattle.attrs.proofs.tried.try_xml.Goals as goal

pub returns-in-Some : goal.returns-in-Some
returns-in-Some c = xml_refused c.in-Some.ensures (texts c.args.lent) _ (λ x b p. search rules)

pub returns-in-None : goal.returns-in-None
returns-in-None c = xml_refused c.in-None.ensures (texts c.args.lent) _ (λ x b p. search rules)
