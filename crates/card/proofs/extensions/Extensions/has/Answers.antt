use Rattle.std.proofs.Common.{◌&&◌, eqb, rules, ◌∙◌}
use Rattle.std.specs.Str.{bytes_eq}
use Rattle.file.specs.Form.{text_at}
use Rattle.std.proofs.lemmas.Iterator.Consumers.{YieldsList-from_first}
use Rattle.std.proofs.lemmas.Iterator.Search.{any_from_yields_List}
use Rattle.file.specs.Rows.{rows_left}
use Rattle.file.specs.Files.{held}
use Rattle.card.specs.Cards.{Name, on_list, extensions, of_kind}
use Rattle.card.proofs.Finds.{some_of_kind}
use Rattle.card.proofs.extensions.Extensions.has.Goals as goal

pub returns : goal.returns
unfolding on_list extensions of_kind
returns c =
    any_from_yields_List _ _ _ _ c.any.ensures.ran (YieldsList-from_first (λ row. row) rows_left (held c.args.self.now.card).rows c.rows.ensures.rows) (λ row b q k. search rules)
    ∙ some_of_kind {Y = Name} (λ row. eqb row.kind 23) (λ row. (text_at (held c.args.self.now.card).texts row.a, text_at (held c.args.self.now.card).texts row.b))
    (λ name. bytes_eq name.0 c.args.namespace.now && bytes_eq name.1 c.args.local.now) (held c.args.self.now.card).rows
