use Rattle.std.proofs.Common.{◌-◌, ap, ◌∙◌}
use Rattle.std.specs.List.{slice_get}
use Rattle.outline.specs.Found.{found_at}
use Rattle.outline.specs.Outlines.{sealed_entries}
use Rattle.outline.proofs.Outline.row_at.Goals as goal

pub returns : goal.returns
returns c =
    let found = c.args.self.now.sound_before.finds c.entry_by-i.result c.args.n c.entry_by-i.ensures in
    c.found_at.ensures ∙ ap (λ k. found_at (sealed_entries c.args.self.now) c.entry_by-i.result (c.args.n - k)) c.number_at.ensures ∙ found.1 ∙ ap (λ xs. slice_get xs c.args.n) c.args.self.now.front
