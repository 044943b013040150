-- A list that grows and is cut at its end, read from the end.
use Rattle.std.proofs.Common.{◌≡◌, ℕ, ◌+◌, ◌-◌, ◌<◌, ◌≤◌, Bool, cond, ltb, List, [], ◌∷◌, ◌++◌, reverse, length, get_or, take, sym, refl, ap, ◌∙◌, arith}
use mathlib.Core.List.{tail}
use Rattle.std.proofs.lemmas.List.{reverse-append, take_all, take_more, length-take, length-reverse}
use Rattle.std.proofs.lemmas.Bool.{lt-ltb}
use Rattle.frames.specs.declared.frame.Frame.{Frame}
use Rattle.frames.specs.Stacks.{renoted}

-- the last is the first of the reverse
pub from_last : {X : Type 0} (xs : List X) (d : X) → 0 < length xs → reverse xs ≡ get_or xs (length xs - 1) d ∷ reverse (take (length xs - 1) xs)
from_last {X} xs d lt =
    let k : length xs - 1 + 1 ≡ length xs = omega arith in
    let l : length xs - 1 < length xs = omega arith in
    ap reverse (sym (take_all (length xs) xs (omega arith)) ∙ ap (λ n. take n xs) (sym k) ∙ take_more xs (length xs - 1) d l)
    ∙ reverse-append (take (length xs - 1) xs) (get_or xs (length xs - 1) d ∷ [])

-- without the last
pub without_last : {X : Type 0} (xs : List X) → reverse (take (length xs - 1) xs) ≡ tail (reverse xs)
without_last [] = refl
without_last (x ∷ xs) = sym (ap tail (from_last (x ∷ xs) x (omega arith)))

pub cut_last : {X : Type 0} (xs ys : List X) (n : ℕ) → ys ≡ take n xs → n ≡ length xs - 1 → reverse ys ≡ tail (reverse xs)
cut_last xs ys n e k = ap reverse (e ∙ ap (λ k. take k xs) k) ∙ without_last xs

-- one more, where there is room
pub with_one : {X : Type 0} (n : ℕ) (xs ys : List X) (x : X) (room : Bool) → room ≡ ltb (length xs) n → ys ≡ cond room (xs ++ x ∷ []) xs → length xs < n
    → reverse ys ≡ x ∷ reverse xs
with_one {X} n xs ys x room r e lt =
    ap reverse (e ∙ ap (λ (b : Bool). cond b (xs ++ x ∷ []) xs) (r ∙ lt-ltb (length xs) n lt)) ∙ reverse-append xs (x ∷ [])

-- cut by one, and another frame in its place
pub renoted_last : (xs cut ys : List Frame) (f : Frame) (room : Bool) → 0 < length xs → length xs ≤ 64 → cut ≡ take (length xs - 1) xs
    → room ≡ ltb (length cut) 64 → ys ≡ cond room (cut ++ f ∷ []) cut → reverse ys ≡ renoted f (reverse xs)
renoted_last xs cut ys f room lt le c r e =
    let k : length cut < 64 = omega (arith, ap length c, length-take (length xs - 1) xs) in
    with_one 64 cut ys f room r e k ∙ ap (λ (l : List Frame). f ∷ reverse l) c ∙ sym (ap (renoted f) (from_last xs f lt))

length-renoted : (f : Frame) (xs : List Frame) → length (renoted f xs) ≡ length xs
length-renoted f [] = refl
length-renoted f (x ∷ xs) = refl

-- then one more
pub opened_last : (xs ys zs : List Frame) (around f : Frame) (room : Bool) → reverse ys ≡ renoted around (reverse xs) → room ≡ ltb (length ys) 64
    → zs ≡ cond room (ys ++ f ∷ []) ys → length (reverse xs) < 64 → reverse zs ≡ f ∷ renoted around (reverse xs)
opened_last xs ys zs around f room n r e lt =
    let k : length ys < 64 = omega (arith, length-reverse ys, ap length n, length-renoted around (reverse xs)) in
    with_one 64 ys zs f room r e k ∙ ap (λ (l : List Frame). f ∷ l) n

-- as many as a list in memory can hold
pub held_few : (n : ℕ) (slots : List Frame) → n ≤ 64 → length (take n slots) ≤ 64
held_few n slots le = omega (arith, length-take n slots)
