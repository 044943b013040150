-- The law over every run.
use Rattle.calls.specs.Law.{EveryRunIsLawful}
use Rattle.calls.proofs.Holds.{are_the_books}
use Rattle.calls.proofs.Seals.{are-understood}
use Rattle.calls.proofs.Twins.{stay_with_more}

pub every_run_is_lawful : EveryRunIsLawful
every_run_is_lawful new calls = (are_the_books new calls, are-understood new calls, stay_with_more new calls)
