-- The texts of a table of pairs, and that no two are equal where none is repeated.
use Rattle.std.proofs.Common.{◌≡◌, ℕ, zero, suc, ◌<◌, ◌≤◌, true, false, eqb, List, [], ◌∷◌, length, get_or, Some, None, sym, refl, ◌∙◌, inl, inr, arith}
use Rattle.std.specs.Str.{bytes_eq}
use Rattle.std.proofs.lemmas.Bool.{cases_order, not-false, eq-eqb, ne_eqb}
use Rattle.std.proofs.lemmas.Slice.Eq.{bytes_eq-Decides}
use Rattle.std.specs.List.{slice_get}
use Rattle.text.specs.Bytes.{Bytes}
use Rattle.file.specs.Form.{pair_count, none_of, repeated, text_of, texts_of, text_at, Distinct}
use Rattle.file.specs.Texts.{texts}
use Rattle.file.specs.declared.texts.Texts.{Texts}
use Rattle.file.proofs.Counted.{counted-length, counted_nth}
use Rattle.file.proofs.Firsts.{none-at}

same_refl : (xs : Bytes) → bytes_eq xs xs ≡ true
same_refl xs = (bytes_eq-Decides xs xs).1 refl

same-sym : (xs ys : Bytes) → bytes_eq xs ys ≡ false → bytes_eq ys xs ≡ false
same-sym xs ys h =
    elim (bytes_eq ys xs) as (λ v. bytes_eq ys xs ≡ v → v ≡ false)
    [ true ↦ λ e. sym ((bytes_eq-Decides xs ys).1 (sym ((bytes_eq-Decides ys xs).0 e))) ∙ h | false ↦ λ e. refl ] refl

pub nth_some : {X : Type 0} (xs : List X) (n : ℕ) (d x : X) → slice_get xs n ≡ Some x → get_or xs n d ≡ x
nth_some [] n d x h = grind arith
nth_some (y ∷ ys) zero d x h = grind arith
nth_some (y ∷ ys) (suc n) d x h = nth_some ys n d x h

pub nth_none : {X : Type 0} (xs : List X) (n : ℕ) (d : X) → slice_get xs n ≡ None → get_or xs n d ≡ d
nth_none [] n d h = refl
nth_none (y ∷ ys) zero d h = grind arith
nth_none (y ∷ ys) (suc n) d h = nth_none ys n d h

module _ (pairs bytes : Bytes) where
  apart : (n : ℕ) → none_of (repeated pairs bytes) n ≡ true → (i j : ℕ) → i < j → j < n → bytes_eq (text_of pairs bytes i) (text_of pairs bytes j) ≡ false
  unfolding repeated
  apart n h i j below lt =
      none-at (λ x. bytes_eq (text_of pairs bytes x) (text_of pairs bytes j)) j (not-false _ (none-at (repeated pairs bytes) n h j lt)) i below

  distinct_pairs : (n : ℕ) → none_of (repeated pairs bytes) n ≡ true → (i j : ℕ) → i < n → j < n
      → bytes_eq (text_of pairs bytes i) (text_of pairs bytes j) ≡ eqb i j
  distinct_pairs n h i j li lj =
      elim (cases_order i j) [
        | inl e ↦ rw e (same_refl (text_of pairs bytes j) ∙ sym (eq-eqb j j refl))
        | inr o ↦ elim o [
          | inl below ↦ apart n h i j below lj ∙ sym (ne_eqb i j (λ e. omega arith))
          | inr above ↦ same-sym (text_of pairs bytes j) (text_of pairs bytes i) (apart n h j i above li) ∙ sym (ne_eqb i j (λ e. omega arith))
        ]
      ]

  pub length-texts : length (texts_of pairs bytes) ≡ pair_count pairs
  unfolding texts_of
  length-texts = counted-length (text_of pairs bytes) (pair_count pairs)

  pub text_nth : (n : ℕ) → n < pair_count pairs → slice_get (texts_of pairs bytes) n ≡ Some (text_of pairs bytes n)
  unfolding texts_of
  text_nth n lt = counted_nth (text_of pairs bytes) (pair_count pairs) n lt

  pub distinct_texts : none_of (repeated pairs bytes) (pair_count pairs) ≡ true → Distinct (texts_of pairs bytes)
  unfolding text_at
  distinct_texts h i j li lj =
      let ki : i < pair_count pairs = omega (arith, length-texts) in
      let kj : j < pair_count pairs = omega (arith, length-texts) in
      rw (nth_some (texts_of pairs bytes) i [] (text_of pairs bytes i) (text_nth i ki), nth_some (texts_of pairs bytes) j [] (text_of pairs bytes j) (text_nth j kj)) (distinct_pairs (pair_count pairs) h i j ki kj)

-- however a value of the type came about
pub few_texts : (t : Texts) → length (texts t) ≤ 1024
unfolding texts
few_texts t = omega (arith, length-texts t.pairs.now t.bytes.now, t.few)
