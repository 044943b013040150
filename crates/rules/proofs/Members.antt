-- Members of lists, lists with some entries left out, and lists of refusals that are empty.
use Rattle.std.proofs.Common.{◌≡◌, ℕ, suc, ◌<◌, ◌≤◌, Bool, true, false, ◌⊎◌, List, [], ◌∷◌, ◌++◌, map, sym, refl, ap, inl, inr, arith}
use mathlib.Core.Bool.{false≢true}
use mathlib.Core.List.{nil≢cons}
use Rattle.record.specs.declared.row.PlacedRow.{PlacedRow}
use Rattle.record.specs.declared.refusal.Refusal.{Refusal}
use Rattle.rules.specs.Steps.{when}
use Rattle.rules.specs.Faults.{fault}
use Rattle.rules.specs.Lists.{In, Sub, none, skip, same, RisesFrom}

pub left_nil : {A : Type 0} (xs ys : List A) → xs ++ ys ≡ [] → xs ≡ []
left_nil [] ys e = refl
left_nil (x ∷ xs) ys e = absurd (nil≢cons (sym e))

pub right_nil : {A : Type 0} (xs ys : List A) → xs ++ ys ≡ [] → ys ≡ []
right_nil [] ys e = e
right_nil (x ∷ xs) ys e = absurd (nil≢cons (sym e))

pub no_fault : (b : Bool) (r : Refusal) → fault b r ≡ [] → b ≡ false
unfolding fault
no_fault b r h = grind arith

pub sub_refl : {A : Type 0} (xs : List A) → Sub A xs xs
sub_refl [] = none
sub_refl (x ∷ xs) = same (sub_refl xs)

pub sub_none : {A : Type 0} (xs : List A) → Sub A [] xs
sub_none [] = none
sub_none (x ∷ xs) = skip (sub_none xs)

pub sub_append : {A : Type 0} {a b c d : List A} → Sub A a b → Sub A c d → Sub A (a ++ c) (b ++ d)
sub_append none q = q
sub_append (skip p) q = skip (sub_append p q)
sub_append (same p) q = same (sub_append p q)

pub sub_left : {A : Type 0} (xs ys : List A) → Sub A xs (xs ++ ys)
sub_left [] ys = sub_none ys
sub_left (x ∷ xs) ys = same (sub_left xs ys)

pub sub_trans : {A : Type 0} {a b c : List A} → Sub A a b → Sub A b c → Sub A a c
sub_trans s none = s
sub_trans s (skip u) = skip (sub_trans s u)
sub_trans (skip s) (same u) = skip (sub_trans s u)
sub_trans (same s) (same u) = same (sub_trans s u)

pub sub_map : {A B : Type 0} (f : A → B) {xs ys : List A} → Sub A xs ys → Sub B (map f xs) (map f ys)
sub_map f none = none
sub_map f (skip p) = skip (sub_map f p)
sub_map f (same p) = same (sub_map f p)

pub in_sub : {A : Type 0} (x : A) {a b : List A} → Sub A a b → In x a → In x b
in_sub x none h = h
in_sub x (skip s) h = inr (in_sub x s h)
in_sub x (same s) (inl e) = inl e
in_sub x (same s) (inr h) = inr (in_sub x s h)

pub in_append : {A : Type 0} (x : A) (a b : List A) → In x (a ++ b) → In x a ⊎ In x b
in_append x [] b h = inr h
in_append x (y ∷ a) b (inl e) = inl (inl e)
in_append x (y ∷ a) b (inr h) = go (in_append x a b h)
  where
    go : In x a ⊎ In x b → In x (y ∷ a) ⊎ In x b
    go (inl k) = inl (inr k)
    go (inr k) = inr k

pub in_left : {A : Type 0} (x : A) (a b : List A) → In x a → In x (a ++ b)
in_left x [] b h = absurd h
in_left x (y ∷ a) b (inl e) = inl e
in_left x (y ∷ a) b (inr h) = inr (in_left x a b h)

pub in_right : {A : Type 0} (x : A) (a b : List A) → In x b → In x (a ++ b)
in_right x [] b h = h
in_right x (y ∷ a) b h = inr (in_right x a b h)

pub in_map : {A B : Type 0} (f : A → B) (x : A) (xs : List A) → In x xs → In (f x) (map f xs)
in_map f x [] h = absurd h
in_map f x (y ∷ xs) (inl e) = inl (ap f e)
in_map f x (y ∷ xs) (inr h) = inr (in_map f x xs h)

-- P holds of each entry
pub record Every {A : Type 0} (P : A → Type 0) (xs : List A) : Type 0 where
  pub at : (x : A) → In x xs → P x

pub every_none : {A : Type 0} {P : A → Type 0} → Every P []
every_none = record { at = λ x i. absurd i }

pub every_append : {A : Type 0} {P : A → Type 0} {xs ys : List A} → Every P xs → Every P ys → Every P (xs ++ ys)
every_append {xs = xs} {ys = ys} h k = record { at = λ x i. elim (in_append x xs ys i) [ inl j ↦ h.at x j | inr j ↦ k.at x j ] }

pub every_fault : {P : Refusal → Type 0} (b : Bool) (r : Refusal) → P r → Every P (fault b r)
unfolding fault
every_fault b r h = grind arith

pub when-one : (b : Bool) (x : PlacedRow) → Sub PlacedRow (when b x) (x ∷ [])
unfolding when
when-one true x = same none
when-one false x = skip none

pub when_sub : (a b : Bool) (x : PlacedRow) → (a ≡ true → b ≡ true) → Sub PlacedRow (when a x) (when b x)
unfolding when
when_sub true true x f = same none
when_sub true false x f = absurd (false≢true (f refl))
when_sub false true x f = skip none
when_sub false false x f = none

pub in_when : (x y : PlacedRow) (b : Bool) → In x (when b y) → (x ≡ y) × (b ≡ true)
unfolding when
in_when x y b h = grind arith

pub when_in : (b : Bool) (x y : PlacedRow) → x ≡ y → b ≡ true → In x (when b y)
unfolding when
when_in b x y h z = grind arith

-- Numbers that rise.

abbrev pub AllBelow : ℕ → List ℕ → Type 0
AllBelow n [] = Unit {0}
AllBelow n (k ∷ ks) = (k < n) × AllBelow n ks

pub below_push : (n : ℕ) (ns : List ℕ) → AllBelow n ns → AllBelow (suc n) (ns ++ (n ∷ []))
below_push n [] h = (omega arith, tt)
below_push n (k ∷ ns) h = let l = h.0 in (omega arith, below_push n ns h.1)

pub rises_push : (m n : ℕ) (ns : List ℕ) → RisesFrom m ns → AllBelow n ns → m ≤ n → RisesFrom m (ns ++ (n ∷ []))
rises_push m n [] h b l = (l, tt)
rises_push m n (k ∷ ns) h b l = let q = b.0 in (h.0, rises_push (suc k) n ns h.1 b.1 (omega arith))

rises_weaken : (m k : ℕ) (ns : List ℕ) → m ≤ k → RisesFrom k ns → RisesFrom m ns
rises_weaken m k [] l h = tt
rises_weaken m k (n ∷ ns) l h = let q = h.0 in (omega arith, h.1)

pub rises_sub : (m : ℕ) {xs ys : List ℕ} → Sub ℕ xs ys → RisesFrom m ys → RisesFrom m xs
rises_sub m none h = tt
rises_sub m (skip {x = y} {ys = ys} s) h = let q = h.0 in rises_sub m s (rises_weaken m (suc y) ys (omega arith) h.1)
rises_sub m (same {x = y} s) h = (h.0, rises_sub (suc y) s h.1)

pub rises_in : (m n : ℕ) (ns : List ℕ) → RisesFrom m ns → In n ns → m ≤ n
rises_in m n [] h i = absurd i
rises_in m n (k ∷ ns) h (inl e) = let q = h.0 in omega arith
rises_in m n (k ∷ ns) h (inr i) = let q = h.0 in let p = rises_in (suc k) n ns h.1 i in omega arith
