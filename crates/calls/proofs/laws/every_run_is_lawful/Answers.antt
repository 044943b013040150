use Rattle.calls.proofs.Lawful.{every_run_is_lawful}
use Rattle.calls.proofs.laws.every_run_is_lawful.Goals as goal

pub returns : goal.returns
returns c = every_run_is_lawful
