use Rattle.rules.proofs.Rise.{kept_rows_rise}
use Rattle.rules.proofs.laws.kept_rows_rise.Goals as goal

pub returns : goal.returns
returns c = kept_rows_rise
