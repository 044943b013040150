-- What `find_map` over a slice answers: the first answer of a function at its elements.
use Rattle.std.proofs.Common.{◌≡◌, ℕ, zero, suc, ◌+◌, ◌<◌, List, [], ◌∷◌, length, get_or, Some, None, Option, sym, ap, ◌∙◌, subst, arith, Bor}
use Rattle.std.specs.Bool.{IsTrue}
use Rattle.std.specs.Fn.{Called, Mut}
use Rattle.std.specs.Iterator.Runs.{Run, SomeRun, ItemsMapTo, YieldsRefsInOrder, AllItemsGive, IsFirstToGive}
use Rattle.std.specs.Option.{IfSome, IsSomeAnd, MatchOption, option_map, option_or}

module _ {A R : Type 0} (h : A → Option R) (all : List A → Option R) (none : all [] ≡ None) (more : (x : A) (xs : List A) → all (x ∷ xs) ≡ option_or (h x) (all xs)) where
  at_none : (xs : List A) → ((k : ℕ) (d : A) → k < length xs → h (get_or xs k d) ≡ None) → all xs ≡ None
  at_none [] e = none
  at_none (x ∷ xs) e = more x xs ∙ ap (λ o. option_or o (all xs)) (e 0 x (omega arith)) ∙ at_none xs (λ k d l. e (suc k) d (omega arith))

  at_one : (xs : List A) (i : ℕ) (y : R) → i < length xs → ((d : A) → h (get_or xs i d) ≡ Some y) → ((k : ℕ) (d : A) → k < i → h (get_or xs k d) ≡ None) → all xs ≡ Some y
  at_one [] i y l a b = absurd (omega arith)
  at_one (x ∷ xs) zero y l a b = more x xs ∙ ap (λ o. option_or o (all xs)) (a x)
  at_one (x ∷ xs) (suc i) y l a b =
      more x xs ∙ ap (λ o. option_or o (all xs)) (b 0 x (omega arith)) ∙ at_one xs i y (omega arith) a (λ k d m. b (suc k) d (omega arith))

  module _ {F : Type 0} (g : Mut F (Bor A × Unit {0}) (Option R)) (f : F)
      (told : (x : Bor A) (o : Option R) (q : F) → Called g f (x, tt) o q → (q ≡ f) × (o ≡ h x.now)) where
    given : (v : Option R) (o : Option (Bor A)) (y : A) → option_map (λ x. x.now) o ≡ Some y → IfSome o (λ x. Called g f (x, tt) v f) → h y ≡ v
    given v None y e c = absurd (cc)
    given v (Some x) y e c = let t = (told x v f c).1 in cc

    given_some : (v : Option R) (o : Option (Bor A)) (y : A) → option_map (λ x. x.now) o ≡ Some y → IsSomeAnd o (λ x. Called g f (x, tt) v f) → h y ≡ v
    given_some v None y e c = absurd (cc)
    given_some v (Some x) y e c = let t = (told x v f c).1 in cc

    by-run : {S : Type 0} {steps : S → Option (Bor A) → S → Type 0} (o : Option R) (p : Run steps) (xs : List A) → ItemsMapTo p (λ y. y.now) xs
        → MatchOption o (IsTrue p.whole × AllItemsGive p g f None) (λ y. (i : ℕ) × (i < p.len) × (p.len ≡ i + 1) × IsFirstToGive p g f (Some y) None i)
        → o ≡ all xs
    by-run None p xs m r =
        let each = r.1 (λ a o q c. (told a.0 o q c).0) in
        let long = m.1 r.0 in
        sym (at_none xs (λ k d l. given None (p.at k) (get_or xs k d) (m.2 k d (omega arith)) (each k)))
    by-run (Some y) p xs m r =
        let first = r.3 (λ a o q c. (told a.0 o q c).0) in
        let few = m.0 in
        let here = r.1 in
        sym (at_one xs r.0 y (omega arith)
        (λ d. given_some (Some y) (p.at r.0) (get_or xs r.0 d) (m.2 r.0 d here) first.0)
        (λ k d l. given_some None (p.at k) (get_or xs k d) (m.2 k d (omega arith)) (first.1 k l)))

    pub found : {S : Type 0} {steps : S → Option (Bor A) → S → Type 0} (rest : S → List A) (s : S) (xs : List A) → rest s ≡ xs → YieldsRefsInOrder steps rest → (o : Option R)
        → SomeRun steps s (λ p. MatchOption o (IsTrue p.whole × AllItemsGive p g f None) (λ y. (i : ℕ) × (i < p.len) × (p.len ≡ i + 1) × IsFirstToGive p g f (Some y) None i))
        → o ≡ all xs
    found rest s xs e reads o r = by-run o r.0 xs (subst (λ l. ItemsMapTo r.0 (λ y. y.now) l) (ap rest r.1 ∙ e) (reads r.0 r.0.seen)) r.2
