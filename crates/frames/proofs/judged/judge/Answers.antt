use Rattle.file.specs.Texts.{texts}
use Rattle.judge.specs.Tags.{tag_of}
use Rattle.enter.specs.Scopes.{scope_of}
use Rattle.frames.specs.Lists.{extension_list}
use Rattle.card.proofs.Outside.{extensions_outside}
use Rattle.frames.proofs.Opening.{grown-by}
use Rattle.frames.proofs.judged.judge.Goals as goal

pub returns-clause-opens : goal.returns-clause-opens
unfolding extension_list
returns-clause-opens c =
    let e = c.in_ok-extension.ensures in
    λ knows k.
    rw (← c.bindings.ensures, ← c.marks.ensures, ← c.pairs.ensures)
    (c.open.ensures knows (extension_list c.args.extensions) (scope_of (texts c.args.lent) c.args.scope.now) k (extensions_outside c.args.extensions) e.extension
    (rw (c.bindings.ensures, c.marks.ensures, c.pairs.ensures) e.entered))

pub returns-clause-grown : goal.returns-clause-grown
returns-clause-grown c = grown-by _ (tag_of (texts c.args.lent) c.args.element) _ _ c.in_ok-extension.ensures.entered
