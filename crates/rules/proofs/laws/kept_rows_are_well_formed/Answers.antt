use Rattle.rules.proofs.Rise.{kept_rows_are_well_formed}
use Rattle.rules.proofs.laws.kept_rows_are_well_formed.Goals as goal

pub returns : goal.returns
returns c = kept_rows_are_well_formed
