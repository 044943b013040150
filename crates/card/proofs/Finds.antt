-- The first row that passes, and the rows of one kind.
use Rattle.std.proofs.Common.{◌≡◌, ℕ, ◌+◌, ◌<◌, Bool, true, false, cond, ◌&&◌, ◌||◌, List, [], ◌∷◌, map, length, is_some, Some, filter, sym, refl, ap, ◌∙◌, arith}
use Rattle.std.specs.List.{list_any, position_from}
use Rattle.card.specs.Rows.{first_at, some}

module _ {X : Type 0} (test : X → Bool) where
  -- the first that passes, by its place among those from the front on
  pub first_at-position : (xs : List X) (k : ℕ) → first_at test k xs ≡ position_from test k xs
  unfolding first_at
  first_at-position [] k = refl
  first_at-position (x ∷ xs) k = ap (cond (test x) (Some k)) (first_at-position xs (k + 1))

  pub first-within : (xs : List X) (k i : ℕ) → first_at test k xs ≡ Some i → i < k + length xs
  unfolding first_at
  first-within [] k i h = grind arith
  first-within (x ∷ xs) k i h =
      elim (test x) as (λ v. cond v (Some k) (first_at test (k + 1) xs) ≡ Some i → i < k + length (x ∷ xs))
      [ true ↦ λ e. let s : k ≡ i = grind arith in omega arith | false ↦ λ e. omega (arith, first-within xs (k + 1) i e) ] h

  -- whether one passes does not depend on the numbers
  some-from : (xs : List X) (k j : ℕ) → is_some (first_at test k xs) ≡ is_some (first_at test j xs)
  unfolding first_at
  some-from [] k j = refl
  some-from (x ∷ xs) k j =
      elim (test x) as (λ v. is_some (cond v (Some k) (first_at test (k + 1) xs)) ≡ is_some (cond v (Some j) (first_at test (j + 1) xs)))
      [ true ↦ refl | false ↦ some-from xs (k + 1) (j + 1) ]

  pub some_more : (x : X) (xs : List X) → some test (x ∷ xs) ≡ (test x || some test xs)
  unfolding first_at
  some_more x xs =
      elim (test x) as (λ v. is_some (cond v (Some 0) (first_at test (0 + 1) xs)) ≡ (v || some test xs))
      [ true ↦ refl | false ↦ some-from xs (0 + 1) 0 ]

-- one of the rows of a kind passes, if one of all rows has the kind and passes
pub some_of_kind : {X Y : Type 0} (kept : X → Bool) (f : X → Y) (test : Y → Bool) (xs : List X)
    → list_any (λ x. kept x && test (f x)) xs ≡ some test (map f (filter kept xs))
unfolding first_at
some_of_kind kept f test [] = refl
some_of_kind {X} {Y} kept f test (x ∷ xs) =
    elim (kept x) as (λ v. ((v && test (f x)) || list_any (λ x. kept x && test (f x)) xs) ≡ some test (map f (cond v (x ∷ filter kept xs) (filter kept xs)))) [
      | true ↦ ap (λ b. test (f x) || b) (some_of_kind kept f test xs) ∙ sym (some_more test (f x) (map f (filter kept xs)))
      | false ↦ some_of_kind kept f test xs
    ]
