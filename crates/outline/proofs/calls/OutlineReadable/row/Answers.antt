use Rattle.std.proofs.Common.{rules}
use Rattle.std.proofs.lemmas.List.{length-take}
use Rattle.std.proofs.lemmas.Option.{slice_get_past}
use Rattle.outline.proofs.calls.OutlineReadable.row.Goals as goal

pub returns-else-n-self : goal.returns-else-n-self
returns-else-n-self c = search (rules, slice_get_past, length-take)
