use Rattle.std.proofs.Common.{reverse, sym, ◌∙◌, rules}
use Rattle.std.proofs.lemmas.Iterator.Adapters.{YieldsList-from_rev_slice, option_map_id}
use Rattle.std.proofs.lemmas.Iterator.Consumers.{YieldsList-from_copied}
use Rattle.std.proofs.lemmas.Iterator.Search.{find_from_yields_List}
use Rattle.scope.proofs.Finds.{found_with}
use Rattle.scope.proofs.search.newest.Goals as goal

pub returns : goal.returns
returns g c =
    sym (option_map_id c.find.result)
    ∙ find_from_yields_List (λ e. g.E.Keyed.fits e c.args.key.now) _ _ _ c.find.ensures.ran (YieldsList-from_copied (YieldsList-from_rev_slice c.args.entries.now cc)) (λ x b q k. search rules)
    ∙ found_with (λ e. g.E.Keyed.fits e c.args.key.now) (reverse c.args.entries.now)
