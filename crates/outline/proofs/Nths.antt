-- The item at a number, in a list that is pushed to or written over; tests joined.
use Rattle.std.proofs.Common.{◌≡◌, ℕ, ◌+◌, ◌<◌, Bool, true, false, ◌&&◌, T, ◌≢◌, List, [], ◌∷◌, ◌++◌, length, drop, set, Some, ap, ◌∙◌, ⊎_elim, arith}
use Rattle.std.specs.List.{slice_get}
use Rattle.std.proofs.lemmas.Grind.{common_steps}
use Rattle.std.proofs.lemmas.List.{drop_more}
use Rattle.std.proofs.lemmas.Option.{gets, slice_get_cases, slice_get_within, get_or_from_slice_get}

pub both : (a b : Bool) → T (a && b) → T a × T b
both true b h = (tt, h)
both false b h = absurd h

pub join : (a b : Bool) → T a → T b → T (a && b)
join true b h k = k
join false b h k = absurd h

pub nth_some : {X : Type 0} (xs : List X) (i : ℕ) → i < length xs → (x : X) × (slice_get xs i ≡ Some x)
nth_some xs i h = ⊎_elim (λ p. (p.0, p.2)) (λ q. absurd (omega (arith, q.0))) (slice_get_cases xs i).1

pub drop_nth : {X : Type 0} (xs : List X) (i : ℕ) (x : X) → slice_get xs i ≡ Some x → drop i xs ≡ x ∷ drop (i + 1) xs
drop_nth xs i x at =
    drop_more xs i x (slice_get_within xs i x at) ∙ ap (λ y. y ∷ drop (i + 1) xs) (get_or_from_slice_get xs i x x at)

pub nth_push_lt : {X : Type 0} (xs : List X) (y : X) (i : ℕ) → i < length xs → slice_get (xs ++ y ∷ []) i ≡ slice_get xs i
nth_push_lt xs y i h = grind (arith, common_steps, gets)

pub nth_push_at : {X : Type 0} (xs : List X) (y : X) (i : ℕ) → i ≡ length xs → slice_get (xs ++ y ∷ []) i ≡ Some y
nth_push_at xs y i h = grind (arith, common_steps, gets)

pub nth_set_same : {X : Type 0} (xs : List X) (y : X) (i : ℕ) → i < length xs → slice_get (set xs i y) i ≡ Some y
nth_set_same xs y i h = grind (arith, common_steps, gets)

pub nth_set_other : {X : Type 0} (xs : List X) (y : X) (i j : ℕ) → j ≢ i → slice_get (set xs i y) j ≡ slice_get xs j
nth_set_other xs y i j h = grind (arith, common_steps, gets)
