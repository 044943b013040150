use Rattle.rules.specs.Scope.{no_scope}
use Rattle.scope.specs.Entries.{bindings_of, ignorables_of, processed_of}
use Rattle.enter.proofs.in_scope.InScope.new.Goals as goal

pub returns : goal.returns
unfolding no_scope bindings_of ignorables_of processed_of
returns c texts = simp (c.new-bindings.ensures, c.new-marks.ensures, c.new-pairs.ensures)
