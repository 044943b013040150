-- The one search, over entries and over what they mean.
use Rattle.std.proofs.Common.{◌≡◌, Bool, true, false, cond, List, [], ◌∷◌, ◌++◌, map, reverse, is_some, Some, None, Option, sym, refl, ap, ◌∙◌}
use Rattle.std.specs.Option.{option_map}
use Rattle.std.specs.List.{find}
use Rattle.std.proofs.lemmas.List.{map-append, reverse-append}
use Rattle.text.specs.Names.{xml_namespace}
use Rattle.rules.specs.Scope.{first_with, bound, is_ignorable_in, is_processed_in}
use Rattle.scope.specs.Entries.{bindings_of, ignorables_of, processed_of, local_of}

-- the rules' search is std's
pub found_with : {E : Type 0} (test : E → Bool) (xs : List E) → find test xs ≡ first_with test xs
unfolding first_with
found_with test [] = refl
found_with test (x ∷ xs) = ap (cond (test x) (Some x)) (found_with test xs)

some_mapped : {E X : Type 0} (f : E → X) (o : Option E) → is_some (option_map f o) ≡ is_some o
some_mapped f None = refl
some_mapped f (Some x) = refl

first-map : {E X : Type 0} (f : E → X) (test : X → Bool) (xs : List E) → option_map f (first_with (λ e. test (f e)) xs) ≡ first_with test (map f xs)
unfolding first_with
first-map f test [] = refl
first-map f test (x ∷ xs) =
    elim (test (f x)) as (λ v. option_map f (cond v (Some x) (first_with (λ e. test (f e)) xs)) ≡ cond v (Some (f x)) (first_with test (map f xs)))
    [ true ↦ refl | false ↦ first-map f test xs ]

reverse-map : {E X : Type 0} (f : E → X) (xs : List E) → map f (reverse xs) ≡ reverse (map f xs)
reverse-map f [] = refl
reverse-map {E} {X} f (x ∷ xs) =
    ap (map f) (reverse-append (x ∷ []) xs) ∙ map-append f (reverse xs) (x ∷ []) ∙ ap (λ (l : List X). l ++ f x ∷ []) (reverse-map f xs)
    ∙ sym (reverse-append (f x ∷ []) (map f xs))

module _ {E X : Type 0} (f : E → X) (test : X → Bool) (xs : List E) where
  -- a search through what entries mean is a search through the entries
  pub found_mapped : option_map f (find (λ e. test (f e)) xs) ≡ first_with test (map f xs)
  found_mapped = ap (option_map f) (found_with (λ e. test (f e)) xs) ∙ first-map f test xs

  pub newest_meant : (o : Option E) → o ≡ first_with (λ e. test (f e)) (reverse xs) → option_map f o ≡ first_with test (reverse (map f xs))
  newest_meant o h = ap (option_map f) h ∙ first-map f test (reverse xs) ∙ ap (first_with test) (reverse-map f xs)

  pub newest_found : (o : Option E) → o ≡ first_with (λ e. test (f e)) (reverse xs) → is_some o ≡ is_some (first_with test (reverse (map f xs)))
  newest_found o h = sym (some_mapped f o) ∙ ap is_some (newest_meant o h)

-- opens what entries mean, and the rules' searches through it
unfoldable pub open_entries : Unit {0}
unfolding xml_namespace bound is_ignorable_in is_processed_in bindings_of ignorables_of processed_of local_of
open_entries = tt
