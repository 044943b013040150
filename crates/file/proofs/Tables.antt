-- The rows of a table.
use Rattle.std.proofs.Common.{◌≡◌, ℕ, zero, suc, ◌+◌, ◌*◌, ◌/◌, ◌<◌, ◌≤◌, [], ◌∷◌, map, length, take, drop, Some, refl, ap, ap₂, arith, add_assoc, length-drop}
use Rattle.std.specs.List.{slice_get, range_with_len}
use Rattle.std.proofs.lemmas.List.{get_or-drop, get_or-take}
use Rattle.text.specs.Bytes.{Bytes}
use Rattle.file.specs.Form.{number, row_of, rows_of}
use Rattle.file.proofs.Counted.{counted-length, counted_nth}

module _ (rows : Bytes) where
  pub length-rows : length (rows_of rows) ≡ length rows / 16
  unfolding rows_of
  length-rows = counted-length (row_of rows) (length rows / 16)

  pub row_nth : (i : ℕ) → i < length rows / 16 → slice_get (rows_of rows) i ≡ Some (row_of rows i)
  unfolding rows_of
  row_nth i lt = counted_nth (row_of rows) (length rows / 16) i lt

  -- the first row is that of the first 16 bytes
  number-front : (at : ℕ) → at + 4 ≤ 16 → number (take 16 rows) at ≡ number rows at
  unfolding number
  number-front at le =
      let a : at < 16 = omega arith in
      let b : at + 1 < 16 = omega arith in
      let c : at + 2 < 16 = omega arith in
      let d : at + 3 < 16 = omega arith in
      rw (get_or-take 16 rows at 0, get_or-take 16 rows (at + 1) 0, get_or-take 16 rows (at + 2) 0, get_or-take 16 rows (at + 3) 0)

  pub row_of-front : row_of (take 16 rows) 0 ≡ row_of rows 0
  unfolding row_of
  row_of-front = cc (number-front 0 (omega arith), number-front 4 (omega arith), number-front 8 (omega arith), number-front 12 (omega arith))

  -- the rows behind the first are those of the bytes behind it
  number-behind : (at : ℕ) → number (drop 16 rows) at ≡ number rows (16 + at)
  unfolding number
  number-behind at = simp (get_or-drop, add_assoc)

  row_of-more : (i : ℕ) → row_of rows (i + 1) ≡ row_of (drop 16 rows) i
  unfolding row_of
  row_of-more i =
      let kind : 16 * (i + 1) ≡ 16 + 16 * i = omega arith in
      let a : 16 * (i + 1) + 4 ≡ 16 + (16 * i + 4) = omega arith in
      let b : 16 * (i + 1) + 8 ≡ 16 + (16 * i + 8) = omega arith in
      let c : 16 * (i + 1) + 12 ≡ 16 + (16 * i + 12) = omega arith in
      cc (number-behind (16 * i), number-behind (16 * i + 4), number-behind (16 * i + 8), number-behind (16 * i + 12))

  rows-behind : (k n : ℕ) → map (row_of rows) (range_with_len (k + 1) n) ≡ map (row_of (drop 16 rows)) (range_with_len k n)
  rows-behind k zero = refl
  rows-behind k (suc n) = ap₂ (λ x xs. x ∷ xs) (row_of-more k) (rows-behind (k + 1) n)

  pub rows_of-more : 16 ≤ length rows → rows_of rows ≡ row_of rows 0 ∷ rows_of (drop 16 rows)
  unfolding rows_of
  rows_of-more le =
      let more : length rows / 16 ≡ suc (length (drop 16 rows) / 16) = omega (arith, length-drop 16 rows) in
      rw more (ap (λ xs. row_of rows 0 ∷ xs) (rows-behind 0 (length (drop 16 rows) / 16)))

  pub rows_of-end : length rows < 16 → rows_of rows ≡ []
  unfolding rows_of
  rows_of-end lt = let none : length rows / 16 ≡ 0 = omega arith in rw none

  pub few-rows : (n : ℕ) → length rows ≡ 16 * n → n ≤ 2048 → length (rows_of rows) ≤ 2048
  few-rows n e le = omega (arith, length-rows)
