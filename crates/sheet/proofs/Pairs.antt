-- Starts and ends that pair, and what rows cost, in longer lists.
use Rattle.std.proofs.Common.{◌≡◌, ℕ, ◌+◌, ◌≤◌, true, false, ◌&&◌, T, List, [], ◌∷◌, ◌++◌, length, fold, refl, ap, ◌∙◌, arith}
use Rattle.std.proofs.lemmas.List.Sums.{fold_push}
use Rattle.record.specs.declared.row.PlacedRow.{PlacedRow}
use Rattle.sheet.specs.Rows.{Rows, open_behind, open_in, closes, all_close, pairs, spent}

pub folded_append : {A B : Type 0} (f : B → A → B) (a : B) (xs ys : List A) → fold f a (xs ++ ys) ≡ fold f (fold f a xs) ys
folded_append f a [] ys = refl
folded_append f a (x ∷ xs) ys = folded_append f (f a x) xs ys

pub close_append : (n : ℕ) (xs ys : Rows) → all_close n (xs ++ ys) ≡ (all_close n xs && all_close (fold open_behind n xs) ys)
close_append n [] ys = refl
close_append n (x ∷ xs) ys =
    let h = close_append (open_behind n x) xs ys in
    elim (closes n x) as (λ b. (b && all_close (open_behind n x) (xs ++ ys)) ≡ ((b && all_close (open_behind n x) xs) && all_close (fold open_behind (open_behind n x) xs) ys))
    [ true ↦ h | false ↦ refl ]

-- a list that pairs, and one behind it
pub pairs_append : (xs ys : Rows) → T (pairs xs) → T (all_close 0 ys) → open_in ys ≡ 0 → T (pairs (xs ++ ys))
unfolding pairs open_in
pairs_append xs ys h k e =
    let shut : fold open_behind 0 xs ≡ 0 = grind arith in
    let all : all_close 0 (xs ++ ys) ≡ (all_close 0 xs && all_close (fold open_behind 0 xs) ys) = close_append 0 xs ys in
    let same : all_close (fold open_behind 0 xs) ys ≡ all_close 0 ys = ap (λ n. all_close n ys) shut in
    let none : fold open_behind 0 (xs ++ ys) ≡ 0 = folded_append open_behind 0 xs ys ∙ ap (λ n. fold open_behind n ys) shut ∙ e in
    grind arith

pub open_push : (xs : Rows) (x : PlacedRow) → open_in (xs ++ x ∷ []) ≡ open_behind (open_in xs) x
unfolding open_in
open_push xs x = fold_push open_behind 0 xs x

open_le_from : (n : ℕ) (xs : Rows) → fold open_behind n xs ≤ n + length xs
open_le_from n [] = omega arith
open_le_from n (x ∷ xs) =
    let h = open_le_from (open_behind n x) xs in
    let k : open_behind n x ≤ n + 1 = grind arith in
    omega arith

-- no more starts are open than there are rows
pub open_le : (xs : Rows) → open_in xs ≤ length xs
unfolding open_in
open_le xs = let h = open_le_from 0 xs in omega arith

pub spent_append : (cost : ℕ → ℕ) (xs ys : Rows) → spent cost (xs ++ ys) ≡ spent cost xs + spent cost ys
spent_append cost [] ys = omega arith
spent_append cost (x ∷ xs) ys = let h = spent_append cost xs ys in omega arith
