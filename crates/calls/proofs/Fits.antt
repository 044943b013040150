-- Rows put one after another: which fit behind a draft, and what the puts answer and leave.
use Rattle.std.proofs.Common.{◌≡◌, ℕ, suc, ◌+◌, ◌-◌, ◌<◌, ◌≤◌, Bool, true, false, cond, not, ◌||◌, eqb, ltb, ◌⊎◌, List, [], ◌∷◌, ◌++◌, map, Some, None, Ok, Err, fold, Option, Result, sym, refl, ap, ◌∙◌, subst, inl, inr, append_assoc, append-nil, arith}
use mathlib.Core.Bool.{false≢true}
use Rattle.std.proofs.lemmas.Bool.{and_from, eqb-true}
use Rattle.std.proofs.lemmas.Option.{none-some, same_Some}
use Rattle.record.specs.declared.row.PlacedRow.{PlacedRow}
use Rattle.record.specs.declared.row.Kind.{Kind}
use Rattle.record.specs.declared.row.Kind.TheVariants.{Start, Declaration, Attribute, Text, End}
use Rattle.record.specs.Rows.{kind_of}
use Rattle.record.specs.declared.refusal.Refusal.{Refusal}
use Rattle.record.specs.declared.refusal.Refusal.TheVariants.{NoRoom, NotForSheet}
use Rattle.record.specs.Refusals.{numbered}
use Rattle.sheet.specs.Rows.{well_formed, open_behind, open_in, closes, all_close, pairs, last_place, is_above}
use Rattle.sheet.specs.Sheets.{Model, model, follows, has_room, refusal, answer, unless, put_refusal, put_answer, after_put, after_drop, all_answer, after_all}
use Rattle.sheet.proofs.Pairs.{folded_append}
use Rattle.rules.specs.Lists.{In, RisesFrom, opens, open_after}

-- The two notions of pairing: an end that has a start closes one.

abbrev pub kind_by : Bool → Bool → Bool → Bool → Bool → Option Kind
kind_by a b c d e = cond a (Some Start) (cond b (Some Declaration) (cond c (Some Attribute) (cond d (Some Text) (cond e (Some End) None))))

abbrev Steps : Bool → Bool → ℕ → ℕ → Type 0
Steps a e n j = ((not e || ltb 0 n) ≡ true) × (cond a (n + 1) (cond e (n - 1) n) ≡ j)

pub not-both : (k i j : ℕ) → i < j → eqb k i ≡ true → eqb k j ≡ true → ⊥
not-both k i j l p q = let x = eqb-true k i p in let y = eqb-true k j q in omega arith

opens_by : (k n j : ℕ) (a b c d e : Bool) → eqb k 1 ≡ a → eqb k 2 ≡ b → eqb k 3 ≡ c → eqb k 4 ≡ d → eqb k 5 ≡ e
    → opens (kind_by a b c d e) (Some n) ≡ Some j → Steps a e n j
opens_by k n j a b c d e p q r s t h = grind arith

pub opens-behind : (n j : ℕ) (x : PlacedRow) → opens (kind_of x.row.kind) (Some n) ≡ Some j → (closes n x ≡ true) × (open_behind n x ≡ j)
opens-behind n j x h = opens_by x.row.kind n j _ _ _ _ _ refl refl refl refl refl h

pub open_none : (xs : List PlacedRow) → open_after None xs ≡ None
open_none [] = refl
open_none (x ∷ xs) = open_none xs

-- the first row of rows whose ends have their starts
pub open_first : (n k : ℕ) (x : PlacedRow) (xs : List PlacedRow) → open_after (Some n) (x ∷ xs) ≡ Some k
    → (closes n x ≡ true) × (open_after (Some (open_behind n x)) xs ≡ Some k)
open_first n k x xs h = go (opens (kind_of x.row.kind) (Some n)) refl
  where
    go : (o : Option ℕ) → opens (kind_of x.row.kind) (Some n) ≡ o → (closes n x ≡ true) × (open_after (Some (open_behind n x)) xs ≡ Some k)
    go None q = absurd (none-some k (sym (open_none xs) ∙ ap (λ o. open_after o xs) (sym q) ∙ h))
    go (Some j) q =
        let s = opens-behind n j x q in
        (s.0, ap (λ i. open_after (Some i) xs) s.1 ∙ ap (λ o. open_after o xs) (sym q) ∙ h)

pub open_folded : (n k : ℕ) (xs : List PlacedRow) → open_after (Some n) xs ≡ Some k → fold open_behind n xs ≡ k
open_folded n k [] h = same_Some n k h
open_folded n k (x ∷ xs) h = open_folded (open_behind n x) k xs (open_first n k x xs h).1

pub open_closes : (n k : ℕ) (xs : List PlacedRow) → open_after (Some n) xs ≡ Some k → all_close n xs ≡ true
open_closes n k [] h = refl
open_closes n k (x ∷ xs) h = let f = open_first n k x xs h in and_from _ _ f.0 (open_closes (open_behind n x) k xs f.1)

-- rows in which no start is left open pair
pub open_pairs : (xs : List PlacedRow) → open_after (Some 0) xs ≡ Some 0 → pairs xs ≡ true
unfolding pairs open_in
open_pairs xs h = and_from _ _ (open_closes 0 0 xs h) (ap (λ n. eqb n 0) (open_folded 0 0 xs h))

-- more starts before
more-opens : (k : Option Kind) (n j d : ℕ) → opens k (Some n) ≡ Some j → opens k (Some (n + d)) ≡ Some (j + d)
more-opens k n j d h = grind arith

pub open_more : (n k d : ℕ) (xs : List PlacedRow) → open_after (Some n) xs ≡ Some k → open_after (Some (n + d)) xs ≡ Some (k + d)
open_more n k d [] h = ap (λ i. Some (i + d)) (same_Some n k h)
open_more n k d (x ∷ xs) h = go (opens (kind_of x.row.kind) (Some n)) refl (λ j. open_more j k d xs)
  where
    go : (o : Option ℕ) → opens (kind_of x.row.kind) (Some n) ≡ o
        → ((j : ℕ) → open_after (Some j) xs ≡ Some k → open_after (Some (j + d)) xs ≡ Some (k + d))
        → open_after (Some (n + d)) (x ∷ xs) ≡ Some (k + d)
    go None q f = absurd (none-some k (sym (open_none xs) ∙ ap (λ o. open_after o xs) (sym q) ∙ h))
    go (Some j) q f =
        ap (λ o. open_after o xs) (more-opens (kind_of x.row.kind) n j d q)
        ∙ f j (ap (λ o. open_after o xs) (sym q) ∙ h)

-- Rows that can follow one another behind a row at this place, if any, and so many open starts.

abbrev pub Fit : Option ℕ → ℕ → List PlacedRow → Type 0
Fit last starts [] = Unit {0}
Fit last starts (x ∷ xs) = (follows last starts x ≡ true) × Fit (Some x.place) (open_behind starts x) xs

pub fit_left : (l : Option ℕ) (n : ℕ) (a b : List PlacedRow) → Fit l n (a ++ b) → Fit l n a
fit_left l n [] b h = tt
fit_left l n (x ∷ a) b h = (h.0, fit_left (Some x.place) (open_behind n x) a b h.1)

abbrev pub later : Option ℕ → PlacedRow → Option ℕ
later l x = Some x.place

pub fit_right : (l : Option ℕ) (n : ℕ) (a b : List PlacedRow) → Fit l n (a ++ b) → Fit (fold later l a) (fold open_behind n a) b
fit_right l n [] b h = h
fit_right l n (x ∷ a) b h = fit_right (Some x.place) (open_behind n x) a b h.1

abbrev pub FitIn : Model → List PlacedRow → Type 0
FitIn m xs = Fit (last_place m.draft) (open_in m.draft) xs

abbrev pub behind : Model → List PlacedRow → Model
behind m xs = model m.sealed (m.draft ++ xs) m.capacity m.cost

-- behind a draft that fits itself
pub fit_behind : (m : Model) (xs : List PlacedRow) → Fit None 0 (m.draft ++ xs) → FitIn m xs
unfolding last_place open_in
fit_behind m xs h = fit_right None 0 m.draft xs h

pub fit_again : (m : Model) (xs ys : List PlacedRow) → FitIn m (xs ++ ys) → FitIn (behind m xs) ys
unfolding last_place open_in
fit_again m xs ys h =
    subst (λ l. Fit l (fold open_behind 0 (m.draft ++ xs)) ys) (sym (folded_append later None m.draft xs))
    (subst (λ n. Fit (fold later (fold later None m.draft) xs) n ys) (sym (folded_append open_behind 0 m.draft xs))
    (fit_right (fold later None m.draft) (fold open_behind 0 m.draft) xs ys h))

-- What fits: rows whose places rise, that are well formed and whose ends have their starts.

abbrev Above : Option ℕ → ℕ → Type 0
Above None m = Unit {0}
Above (Some p) m = p < m

above : (l : Option ℕ) (m p : ℕ) → Above l m → m ≤ p → is_above l p ≡ true
above l m p h x = grind arith

abbrev pub places_of : List PlacedRow → List ℕ
places_of xs = map (λ (x : PlacedRow). x.place) xs

abbrev pub AllFormed : List PlacedRow → Type 0
AllFormed xs = (x : PlacedRow) → In x xs → well_formed x.row ≡ true

fits : (l : Option ℕ) (n m k : ℕ) (xs : List PlacedRow) → Above l m → RisesFrom m (places_of xs) → AllFormed xs → open_after (Some n) xs ≡ Some k
    → Fit l n xs
unfolding follows
fits l n m k [] a r f h = tt
fits l n m k (x ∷ xs) a r f h =
    let o = open_first n k x xs h in (
      and_from _ _ (f x (inl refl)) (and_from _ _ (above l m x.place a r.0) o.0),
      fits (Some x.place) (open_behind n x) (suc x.place) k xs (omega arith) r.1 (λ y i. f y (inr i)) o.1,
    )

pub fit_whole : (k : ℕ) (xs : List PlacedRow) → RisesFrom 0 (places_of xs) → AllFormed xs → open_after (Some 0) xs ≡ Some k → Fit None 0 xs
fit_whole k xs r f h = fits None 0 0 k xs tt r f h

-- Rows behind any draft: they fit, or the first cannot follow.

abbrev pub FirstCannot : Option ℕ → ℕ → List PlacedRow → Type 0
FirstCannot l n [] = ⊥
FirstCannot l n (x ∷ xs) = follows l n x ≡ false

abbrev pub NoTail : List PlacedRow → Type 0
NoTail [] = Unit {0}
NoTail (x ∷ xs) = xs ≡ []

-- at most one row, or no end without its start
abbrev pub Loose : List PlacedRow → Type 0
Loose xs = NoTail xs ⊎ ((k : ℕ) × (open_after (Some 0) xs ≡ Some k))

pub fit_anywhere : (l : Option ℕ) (n m : ℕ) (xs : List PlacedRow) → RisesFrom m (places_of xs) → AllFormed xs → Loose xs
    → Fit l n xs ⊎ FirstCannot l n xs
fit_anywhere l n m [] r f o = inl tt
fit_anywhere l n m (x ∷ xs) r f o = go (follows l n x) refl o
  where
    go : (b : Bool) → follows l n x ≡ b → Loose (x ∷ xs) → Fit l n (x ∷ xs) ⊎ FirstCannot l n (x ∷ xs)
    go false q h = inr q
    go true q (inl e) = inl (q, subst (Fit (Some x.place) (open_behind n x)) (sym e) tt)
    go true q (inr k) =
        let z : 0 + n ≡ n = omega arith in
        let h : open_after (Some n) (x ∷ xs) ≡ Some (k.0 + n) = ap (λ i. open_after (Some i) (x ∷ xs)) (sym z) ∙ open_more 0 k.0 n (x ∷ xs) k.1 in
        inl (q, fits (Some x.place) (open_behind n x) (suc x.place) (k.0 + n) xs (omega arith) r.1 (λ y i. f y (inr i)) (open_first n _ x xs h).1)

-- Puts.

abbrev PutCase : Bool → ℕ → Result (Unit {0}) Refusal → Model → Model → Model → Type 0
PutCase f p a after with_it without =
    ((f ≡ true) × (a ≡ Ok tt) × (after ≡ with_it))
    ⊎ ((after ≡ without) × (((f ≡ false) × (a ≡ Err NotForSheet)) ⊎ ((f ≡ true) × (a ≡ Err (NoRoom p)))))

put-by : (f r : Bool) (p : ℕ) (m n : Model) → PutCase f p (answer (refusal f r p) tt) (unless (refusal f r p) m n) m n
put-by f r p m n = grind arith

put_case : (m : Model) (x : PlacedRow)
    → PutCase (follows (last_place m.draft) (open_in m.draft) x) x.place (put_answer m x) (after_put m x) (behind m (x ∷ [])) m
unfolding put_answer after_put put_refusal
put_case m x = put-by _ (has_room m x) x.place (behind m (x ∷ [])) m

-- All are put; or one is refused, with 21 if they fit, and then nothing is sealed.
abbrev pub PutsEnd : Result (Unit {0}) Refusal → Model → Model → List PlacedRow → Type 0
PutsEnd a n m xs =
    ((a ≡ Ok tt) × (n ≡ behind m xs))
    ⊎ ((e : Refusal) × (a ≡ Err e) × (after_drop n ≡ after_drop m) × (((numbered e).number ≡ 21) ⊎ ((numbered e).number ≡ 23)) × (FitIn m xs → (numbered e).number ≡ 21))

pub drop-same : (m : Model) (xs : List PlacedRow) → after_drop (behind m xs) ≡ after_drop m
unfolding after_drop
drop-same m xs = refl

pub behind-none : (m : Model) → behind m [] ≡ m
behind-none m = ap (λ d. model m.sealed d m.capacity m.cost) (append-nil m.draft)

pub behind_again : (m : Model) (xs ys : List PlacedRow) → behind (behind m xs) ys ≡ behind m (xs ++ ys)
behind_again m xs ys = ap (λ d. model m.sealed d m.capacity m.cost) (append_assoc m.draft xs ys)

pub all_end : (m : Model) (xs : List PlacedRow) → PutsEnd (all_answer m xs) (after_all m xs) m xs
unfolding all_answer after_all
all_end m [] = inl (refl, sym (behind-none m))
all_end m (x ∷ xs) = go (put_case m x) (all_end (behind m (x ∷ [])) xs)
  where
    go : PutCase (follows (last_place m.draft) (open_in m.draft) x) x.place (put_answer m x) (after_put m x) (behind m (x ∷ [])) m
        → PutsEnd (all_answer (behind m (x ∷ [])) xs) (after_all (behind m (x ∷ [])) xs) (behind m (x ∷ [])) xs
        → PutsEnd (all_answer m (x ∷ xs)) (after_all m (x ∷ xs)) m (x ∷ xs)
    go (inl p) (inl q) = rw (p.1, p.2) (inl (q.0, q.1 ∙ behind_again m (x ∷ []) xs))
    go (inl p) (inr q) =
        rw (p.1, p.2)
        (inr (q.0, q.1, q.2 ∙ drop-same m (x ∷ []), q.3, λ f. q.4 (fit_again m (x ∷ []) xs f)))
    go (inr (p, inl r)) q = rw (r.1, p) (inr (NotForSheet, refl, refl, inr refl, λ f. absurd (false≢true (sym r.0 ∙ f.0))))
    go (inr (p, inr r)) q = rw (r.1, p) (inr (NoRoom x.place, refl, refl, inl refl, λ f. refl))

-- where the first cannot follow, nothing is put
pub all_first : (m : Model) (xs : List PlacedRow) → FirstCannot (last_place m.draft) (open_in m.draft) xs
    → (all_answer m xs ≡ Err NotForSheet) × (after_all m xs ≡ m)
unfolding all_answer after_all
all_first m [] h = absurd h
all_first m (x ∷ xs) h = go (put_case m x)
  where
    go : PutCase (follows (last_place m.draft) (open_in m.draft) x) x.place (put_answer m x) (after_put m x) (behind m (x ∷ [])) m
        → (all_answer m (x ∷ xs) ≡ Err NotForSheet) × (after_all m (x ∷ xs) ≡ m)
    go (inl p) = absurd (false≢true (sym h ∙ p.0))
    go (inr (p, inl r)) = rw (r.1, p) (refl, refl)
    go (inr (p, inr r)) = absurd (false≢true (sym h ∙ r.0))
