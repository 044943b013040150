-- The namespaces that items name, one item after the other.
use Rattle.std.proofs.Common.{◌≡◌, Bool, true, false, ◌&&◌, List, [], ◌∷◌, Some, None, Option, refl, ap, ◌∙◌}
use Rattle.std.specs.List.{list_all}
use Rattle.text.specs.Bytes.{Bytes}
use Rattle.knowledge.specs.Understood.{Knows, is_understood}
use Rattle.rules.specs.Scope.{Binding, bound, cons_some, named}
use Rattle.rules.specs.Steps.{all_understood}

-- whether the namespace is understood that an item names, if it names one
abbrev pub is_item_understood : Knows → List Binding → Bytes → Bool
is_item_understood knows bindings item = all_understood knows (cons_some (bound bindings item) [])

pub understood-more : (knows : Knows) (o : Option Bytes) (rest : List Bytes)
    → (all_understood knows (cons_some o []) && all_understood knows rest) ≡ all_understood knows (cons_some o rest)
unfolding cons_some all_understood
understood-more knows None rest = refl
understood-more knows (Some ns) rest =
    elim (is_understood knows ns) as (λ v. ((v && true) && all_understood knows rest) ≡ (v && all_understood knows rest)) [ true ↦ refl | false ↦ refl ]

pub all_items_understood : (knows : Knows) (bindings : List Binding) (items : List Bytes)
    → list_all (is_item_understood knows bindings) items ≡ all_understood knows (named bindings items)
unfolding named all_understood
all_items_understood knows bindings [] = refl
all_items_understood knows bindings (i ∷ is) =
    ap (λ (v : Bool). is_item_understood knows bindings i && v) (all_items_understood knows bindings is)
    ∙ understood-more knows (bound bindings i) (named bindings is)
