-- The first number that passes a test.
use Rattle.std.proofs.Common.{◌≡◌, ℕ, zero, suc, ◌+◌, ◌<◌, ◌≤◌, Bool, true, false, cond, not, ◌||◌, is_some, Some, sym, refl, ap, ◌∙◌, inl, inr, arith}
use Rattle.std.proofs.lemmas.Bool.{cases_eq, true≢false, false≢true}
use Rattle.std.specs.List.{find, list_any, range_with_len}
use Rattle.file.specs.Form.{first_from, none_of}

module _ (test : ℕ → Bool) where
  -- a search of the numbers from k on
  pub first_from-find : (k n : ℕ) → first_from test k n ≡ find test (range_with_len k n)
  unfolding first_from
  first_from-find k zero = refl
  first_from-find k (suc n) = ap (cond (test k) (Some k)) (first_from-find (k + 1) n)

  -- whether one of them passes
  pub not_none_from-list_any : (k n : ℕ) → not (not (is_some (first_from test k n))) ≡ list_any test (range_with_len k n)
  unfolding first_from
  not_none_from-list_any k zero = refl
  not_none_from-list_any k (suc n) =
      elim (test k) as (λ v. not (not (is_some (cond v (Some k) (first_from test (k + 1) n)))) ≡ (v || list_any test (range_with_len (k + 1) n)))
      [ true ↦ refl | false ↦ not_none_from-list_any (k + 1) n ]

  none_from : (k n : ℕ) → is_some (first_from test k n) ≡ false → (j : ℕ) → k ≤ j → j < k + n → test j ≡ false
  unfolding first_from
  none_from k zero h j low high = absurd (omega arith)
  none_from k (suc n) h j low high =
      elim (test k) as (λ v. test k ≡ v → is_some (cond v (Some k) (first_from test (k + 1) n)) ≡ false → test j ≡ false) [
        | true ↦ λ e g. absurd (true≢false g)
        | false ↦ λ e g. elim (cases_eq k j) [ inl same ↦ ap test (sym same) ∙ e | inr apart ↦ none_from (k + 1) n g j (omega arith) (omega arith) ]
      ]
      refl h

  pub none-at : (n : ℕ) → none_of test n ≡ true → (j : ℕ) → j < n → test j ≡ false
  none-at n h j lt = none_from 0 n (opposite (is_some (first_from test 0 n)) h) j (omega arith) (omega arith)
    where
      opposite : (b : Bool) → not b ≡ true → b ≡ false
      opposite true g = absurd (false≢true g)
      opposite false g = refl
