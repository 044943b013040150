use Rattle.std.proofs.Common.{sym, ap, ◌∙◌, rules}
use Rattle.std.specs.Option.{option_map}
use Rattle.std.proofs.lemmas.Iterator.{YieldsList-from_slice}
use Rattle.std.proofs.lemmas.Iterator.Adapters.{option_map_id}
use Rattle.std.proofs.lemmas.Iterator.Consumers.{YieldsList-from_copied}
use Rattle.std.proofs.lemmas.Iterator.Search.{find_from_yields_List}
use Rattle.scope.proofs.Finds.{found_mapped}
use Rattle.attrs.proofs.first.first_attr.Goals as goal

pub returns : goal.returns
returns g c =
    record {
      by_meaning = λ meaning test same.
          ap (option_map meaning)
          (sym (option_map_id c.find.result)
          ∙ find_from_yields_List (λ x. test (meaning x)) _ _ _ c.find.ensures.ran (YieldsList-from_copied (YieldsList-from_slice c.args.attrs.now cc)) (λ x b q k. search (rules, same)))
          ∙ found_mapped meaning test c.args.attrs.now;
    }
