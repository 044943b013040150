use Rattle.std.proofs.Common.{◌∙◌, rules}
use borrow.Author.Tests.{tests}
use Rattle.std.proofs.lemmas.Iterator.Search.{all_from_yields_List}
use Rattle.items.specs.Items.{items}
use Rattle.items.proofs.Yields.{YieldsList-from_items}
use Rattle.verdict.specs.Views.{scope_seen}
use Rattle.verdict.proofs.Items.{is_item_understood, all_items_understood}
use Rattle.verdict.proofs.view.View.all_understood.Goals as goal

pub returns : goal.returns
returns c =
    λ knows k.
    let bindings = (scope_seen c.args.self).bindings in
    let value = c.args.value.now in
    all_from_yields_List (is_item_understood knows bindings) _ _ c.all.result c.all.ensures.ran (YieldsList-from_items c.of.result value c.of.ensures) (λ x b q m. search (rules, tests))
    ∙ all_items_understood knows bindings (items value)
