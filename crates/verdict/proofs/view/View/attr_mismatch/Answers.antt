use Rattle.std.proofs.Common.{map, sym, ap, ◌∙◌, rules}
use Rattle.rules.specs.Elements.{attr_of}
use Rattle.rules.specs.Faults.{first}
use Rattle.verdict.specs.Views.{texts_seen, scope_seen}
use Rattle.verdict.proofs.Found.{found}
use Rattle.verdict.proofs.Marks.{mark_of, marks_of, no_marks, marks-more, marks_same}
use Rattle.verdict.proofs.view.View.attr_mismatch.Goals as goal

pub returns : goal.returns
returns c =
    λ knows s k b i.
    found (mark_of knows c.args.heeded c.args.kept c.args.self) (marks_of knows c.args.heeded c.args.kept c.args.self)
    (no_marks knows c.args.heeded c.args.kept c.args.self) (marks-more knows c.args.heeded c.args.kept c.args.self)
    _ _ (λ x o q e. search rules)
    _ _ _ c.iter.ensures.rest c.iter.ensures.runs _ c.find_map.ensures.runs
    ∙ ap first (sym (marks_same knows c.args.heeded c.args.kept s (scope_seen c.args.self) (map (attr_of (texts_seen c.args.self)) c.args.attrs.now) b i))
