use Rattle.scope.specs.Bounded.{held}
use Rattle.enter.proofs.Before.{cut_meant}
use Rattle.enter.proofs.in_scope.InScope.cut.Goals as goal

pub returns : goal.returns
returns c texts =
    let s = c.args.self.now in
    cut_meant texts c.args.to (held s.bindings) _ (held s.marks) _ (held s.pairs) _ c.cut.ensures c.cut-2.ensures c.cut-3.ensures
