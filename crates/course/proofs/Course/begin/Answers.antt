use Rattle.std.proofs.Common.{reverse, refl, ap, ◌∙◌}
use Rattle.enter.specs.Scopes.{scope_of}
use Rattle.course.proofs.Standing.{begun, before_none}
use Rattle.course.proofs.Course.begin.Goals as goal
use Rattle.file.specs.Texts.{texts}

pub returns : goal.returns
returns g c extensions =
    let names = texts c.args.lent in
    begun names _ extensions _ c.ask.ensures (c.reset.ensures names)
    (c.cut.ensures names ∙ before_none (scope_of names c.args.self.now.scope))
    (ap reverse c.cut-2.ensures) refl
