use Rattle.std.proofs.Common.{true, leb, length, Some, refl, ap, ◌∙◌}
use Rattle.rules.specs.Elements.{Tag, add, decl_of, attr_of, with_decl, with_attr, placed_at}
use Rattle.rules.specs.Order.{has_no_attrs, is_in_order, is_at_limit}
use Rattle.order.proofs.Noted.{noted-start, noted_on_top, noted-text, noted-end}
use Rattle.order.proofs.progress.Progress.note.Goals as goal

pub returns-in-Start : goal.returns-in-Start
unfolding placed_at
returns-in-Start c ts past ek f e =
    noted-start ts past c.args.row _ _ f c.saturating_add-self.ensures e (ek ∙ ap Some c.in-Start.is) c.saturating_add-self-in-Start.ensures (c.begin.ensures ts)

pub returns-in-Declaration : goal.returns-in-Declaration
unfolding placed_at add is_in_order is_at_limit
returns-in-Declaration c ts past ek f e =
    noted_on_top ts past c.args.row _ (ek ∙ ap Some c.in-Declaration.is) e _ _ f c.saturating_add-self.ensures
    (with_decl (decl_of ts (placed_at c.args.self.now.rows c.args.row))) (λ (t : Tag). has_no_attrs t.attrs) (λ (t : Tag). leb 32 (length t.decls))
    refl refl refl refl (c.add_decl.ensures ts)

pub returns-in-Attribute : goal.returns-in-Attribute
unfolding placed_at add is_in_order is_at_limit
returns-in-Attribute c ts past ek f e =
    noted_on_top ts past c.args.row _ (ek ∙ ap Some c.in-Attribute.is) e _ _ f c.saturating_add-self.ensures
    (with_attr (attr_of ts (placed_at c.args.self.now.rows c.args.row))) (λ (t : Tag). true) (λ (t : Tag). leb 32 (length t.attrs))
    refl refl refl refl (c.add_attr.ensures ts)

pub returns-in-Text : goal.returns-in-Text
returns-in-Text c ts past ek f e =
    noted-text ts past c.args.row _ _ f c.saturating_add-self.ensures e (ek ∙ ap Some c.in-Text.is) refl (c.clear.ensures ts)

pub returns-in-End : goal.returns-in-End
returns-in-End c ts past ek f e =
    noted-end ts past c.args.row _ _ f c.saturating_add-self.ensures e (ek ∙ ap Some c.in-End.is) c.saturating_sub-self.ensures (c.clear-in-End.ensures ts)
