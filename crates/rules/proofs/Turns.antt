-- Branches are selected in turn.
use Rattle.std.proofs.Common.{◌≡◌, Bool, false, not, ◌&&◌, ◌||◌, List, [], ◌∷◌, sym, refl, ap, ◌∙◌, arith}
use Rattle.knowledge.specs.Understood.{Knows}
use Rattle.card.specs.Cards.{Name}
use Rattle.rules.specs.Elements.{Tag, Element, element}
use Rattle.rules.specs.Scope.{is_choice, is_fallback, scope}
use Rattle.rules.specs.Steps.{is_satisfied, choice_selected, is_selected, selected}
use Rattle.rules.specs.Faults.{any_fallback}
use Rattle.rules.specs.Laws.{any_selected, SelectedInTurn}

-- where there is no Fallback, a selected sibling is a selected Choice
some-choice : (K : Knows) (ext : List Name) (out : List Element) (elder : List Tag) → any_fallback elder ≡ false
    → any_selected K ext out elder ≡ choice_selected K (scope ext out).bindings elder
unfolding any_fallback any_selected choice_selected selected is_selected element
some-choice K ext out [] e = refl
some-choice K ext out (t ∷ elder) e = let h = some-choice K ext out elder in grind arith

turned : (a b : Bool) → (not a && b) ≡ (b && not a)
turned a b = grind arith

pub selected_in_turn : SelectedInTurn
unfolding selected is_selected element
selected_in_turn K ext t elder out e =
    turned (choice_selected K (scope ext out).bindings elder) (is_fallback t || is_choice t && is_satisfied K (scope ext out).bindings t)
    ∙ ap (λ b. (is_fallback t || is_choice t && is_satisfied K (scope ext out).bindings t) && not b) (sym (some-choice K ext out elder e))
