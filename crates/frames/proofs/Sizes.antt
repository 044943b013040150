-- How many entries a view lends.
use Rattle.std.proofs.Common.{◌≡◌, length}
use Rattle.std.proofs.lemmas.List.{length-map, length-reverse}
use Rattle.scope.specs.Entries.{bindings_of, ignorables_of, processed_of}
use Rattle.enter.specs.declared.in_scope.Lengths.{Lengths}
use Rattle.enter.specs.Scopes.{sizes}
use Rattle.verdict.specs.declared.view.View.{View}
use Rattle.verdict.specs.Views.{scope_seen}

-- the three numbers of lists in memory are those of what the lists mean
pub sizes_seen : (v : View) → ◌≡◌ {A = Lengths} (record { bindings = length v.bindings.now; marks = length v.marks.now; pairs = length v.pairs.now }) (sizes (scope_seen v))
unfolding bindings_of ignorables_of processed_of
sizes_seen v = simp (length-reverse, length-map)
