use Rattle.rules.proofs.Pairs.{kept_rows_pair}
use Rattle.rules.proofs.laws.kept_rows_pair.Goals as goal

pub returns : goal.returns
returns c = kept_rows_pair
