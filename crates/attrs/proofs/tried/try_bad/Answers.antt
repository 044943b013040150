use Rattle.std.proofs.Common.{rules}
use Rattle.file.specs.Texts.{texts}
use Rattle.attrs.proofs.Turns.{bad_refused}
use Rattle.attrs.proofs.tried.try_bad.Goals as goal

pub returns-in-Some : goal.returns-in-Some
returns-in-Some c = bad_refused c.in-Some.ensures (texts c.args.lent) _ _ (λ x b p. search rules)

pub returns-in-None : goal.returns-in-None
returns-in-None c = bad_refused c.in-None.ensures (texts c.args.lent) _ _ (λ x b p. search rules)
