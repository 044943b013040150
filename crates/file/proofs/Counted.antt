-- A list made from a function of the index, read at a number.
use Rattle.std.proofs.Common.{◌≡◌, ℕ, ◌<◌, map, length, Some, ap, ◌∙◌, arith}
use Rattle.std.specs.List.{slice_get, range_with_len}
use Rattle.std.proofs.lemmas.List.FromFn.{get_or-map-range_with_len, length-map-range_with_len}
use Rattle.std.proofs.lemmas.Option.{slice_get-get_or}

module _ {X : Type 0} (f : ℕ → X) (n : ℕ) where
  pub counted-length : length (map f (range_with_len 0 n)) ≡ n
  counted-length = length-map-range_with_len f 0 n

  pub counted_nth : (i : ℕ) → i < n → slice_get (map f (range_with_len 0 n)) i ≡ Some (f i)
  counted_nth i lt =
      slice_get-get_or (map f (range_with_len 0 n)) i (f i) (omega (arith, counted-length))
      ∙ ap (λ (x : X). Some x) (get_or-map-range_with_len f 0 n i i (f i) lt (omega arith))
