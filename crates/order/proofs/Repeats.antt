-- Whether one of some rows passes: by the search of the rules, and by a chain.
use Rattle.std.proofs.Common.{◌≡◌, Bool, true, false, cond, ◌||◌, List, [], ◌∷◌, map, is_some, Some, sym, refl, ◌∙◌}
use Rattle.std.specs.List.{list_any}
use Rattle.rules.specs.Scope.{first_with}

module _ {X Y : Type 0} (f : X → Y) (test : Y → Bool) where
  first_any : (xs : List X) → is_some (first_with test (map f xs)) ≡ list_any (λ (x : X). test (f x)) xs
  unfolding first_with
  first_any [] = refl
  first_any (x ∷ xs) =
      elim (test (f x)) as (λ v. is_some (cond v (Some (f x)) (first_with test (map f xs))) ≡ (v || list_any (λ (y : X). test (f y)) xs))
      [ true ↦ refl | false ↦ first_any xs ]

  pub first_from_any : (xs : List X) (r : Bool) → r ≡ list_any (λ (x : X). test (f x)) xs → r ≡ is_some (first_with test (map f xs))
  first_from_any xs r e = e ∙ sym (first_any xs)
