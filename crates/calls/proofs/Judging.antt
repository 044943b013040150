-- What a row lets be judged, as it is refused or put.
use Rattle.std.proofs.Common.{◌≡◌, ℕ, ◌≤◌, ◌⊎◌, List, [], ◌∷◌, ◌++◌, Some, None, Ok, Err, Option, Result, sym, refl, ap, ◌∙◌, subst, ap₂, inl, inr, append_assoc, append-nil, arith}
use Rattle.record.specs.declared.row.PlacedRow.{PlacedRow}
use Rattle.record.specs.declared.refusal.Refusal.{Refusal}
use Rattle.record.specs.declared.refusal.Refusal.TheVariants.{NotForSheet}
use Rattle.record.specs.Refusals.{numbered}
use Rattle.sheet.specs.Rows.{open_in, last_place}
use Rattle.sheet.specs.Sheets.{Model, after_drop, all_answer, after_all}
use Rattle.rules.specs.Elements.{Token}
use Rattle.rules.specs.Steps.{kept_of, kept_rows}
use Rattle.rules.specs.Faults.{first, faults_of, faults}
use Rattle.rules.specs.Lists.{In}
use Rattle.rules.proofs.Members.{left_nil, right_nil}
use Rattle.rules.proofs.Whole.{first-none}
use Rattle.rules.proofs.Numbers.{faults_are_numbered}
use Rattle.calls.specs.Calls.{Taken, Put, put_unless, then_put, token_put, tokens_put}
use Rattle.calls.proofs.Fits.{fit_left, fit_again, FitIn, FirstCannot, behind, behind-none, behind_again, drop-same, PutsEnd, all_end, all_first}

-- a refusal 13 to 21
abbrev pub Spoils : Refusal → Type 0
Spoils e = (13 ≤ (numbered e).number) × ((numbered e).number ≤ 21)

pub first_in : {X : Type 0} (x : X) (xs : List X) → first xs ≡ Some x → In x xs
first_in x xs h = grind arith

-- A refusal: nothing is sealed; it is 13 to 21 or 23, and 13 to 21 if the rows fit.
abbrev pub Refusing : Result (Unit {0}) Refusal → Model → Model → List PlacedRow → Type 0
Refusing a n m rows =
    (e : Refusal) × (a ≡ Err e) × (after_drop n ≡ after_drop m) × (Spoils e ⊎ ((numbered e).number ≡ 23)) × (FitIn m rows → Spoils e)

room : (e : Refusal) → (numbered e).number ≡ 21 → Spoils e
room e k = (omega arith, omega arith)

either : (e : Refusal) → ((numbered e).number ≡ 21) ⊎ ((numbered e).number ≡ 23) → Spoils e ⊎ ((numbered e).number ≡ 23)
either e h = grind arith

then_ok : (here next : Put) → here.answer ≡ Ok tt → then_put here.answer here next ≡ next
then_ok here next h = ap (λ a. then_put a here next) h

then_err : (here next : Put) (e : Refusal) → here.answer ≡ Err e → then_put here.answer here next ≡ here
then_err here next e h = ap (λ a. then_put a here next) h

module _ (t : Taken) where
  -- the kept rows of tokens behind others
  unfoldable pub newly : List Token → List Token → List PlacedRow
  newly [] past = []
  newly (x ∷ xs) past = newly xs past ++ kept_of t.knows t.extensions x (xs ++ past)

  pub newly-kept : (new past : List Token)
      → kept_rows t.knows t.extensions (new ++ past) ≡ kept_rows t.knows t.extensions past ++ newly new past
  unfolding kept_rows newly
  newly-kept [] past = sym (append-nil _)
  newly-kept (x ∷ xs) past =
      ap (λ l. l ++ kept_of t.knows t.extensions x (xs ++ past)) (newly-kept xs past)
      ∙ append_assoc (kept_rows t.knows t.extensions past) (newly xs past) (kept_of t.knows t.extensions x (xs ++ past))

  abbrev faults_before : List Token → List Refusal
  faults_before toks = faults t.knows t.extensions toks

  abbrev OneEnds : Put → Model → Token → List Token → Type 0
  OneEnds p m x past =
      ((p.answer ≡ Ok tt) × (p.sheet ≡ behind m (kept_of t.knows t.extensions x past)) × (faults_of t.knows t.extensions x past ≡ []))
      ⊎ Refusing p.answer p.sheet m (kept_of t.knows t.extensions x past)

  one-ends : (m : Model) (x : Token) (past : List Token) → OneEnds (token_put t m x past) m x past
  unfolding token_put
  one-ends m x past = go (first (faults_of t.knows t.extensions x past)) refl (all_end m (kept_of t.knows t.extensions x past))
    where
      kept : List PlacedRow
      kept = kept_of t.knows t.extensions x past

      go : (o : Option Refusal) → first (faults_of t.knows t.extensions x past) ≡ o → PutsEnd (all_answer m kept) (after_all m kept) m kept
          → OneEnds (put_unless o m kept) m x past
      go (Some e) q h =
          let n = faults_are_numbered t.knows t.extensions x past e (first_in e _ q) in
          let s : Spoils e = (n.0, omega (arith, n.1)) in
          inr (e, refl, refl, inl s, λ f. s)
      go None q (inl h) = inl (h.0, h.1, first-none _ q)
      go None q (inr h) = inr (h.0, h.1, h.2, either h.0 h.3, λ f. room h.0 (h.4 f))

  -- All tokens are put, and have no refusal of their own; or one is refused.
  abbrev pub TokensEnd : Put → Model → List Token → List Token → Type 0
  TokensEnd p m new past =
      ((p.answer ≡ Ok tt) × (p.sheet ≡ behind m (newly new past)) × (faults_before past ≡ [] → faults_before (new ++ past) ≡ []))
      ⊎ Refusing p.answer p.sheet m (newly new past)

  pub tokens-end : (m : Model) (new past : List Token) → TokensEnd (tokens_put t m new past) m new past
  unfolding tokens_put newly
  tokens-end m [] past = inl (refl, sym (behind-none m), λ f. f)
  tokens-end m (x ∷ xs) past =
      go (tokens_put t m xs past) (tokens-end m xs past) (token_put t (tokens_put t m xs past).sheet x (xs ++ past)) (one-ends (tokens_put t m xs past).sheet x (xs ++ past))
    where
      kept : List PlacedRow
      kept = kept_of t.knows t.extensions x (xs ++ past)

      go : (here : Put) → TokensEnd here m xs past → (next : Put) → OneEnds next here.sheet x (xs ++ past)
          → TokensEnd (then_put here.answer here next) m (x ∷ xs) past
      go here (inr h) next o =
          subst (λ (p : Put). TokensEnd p m (x ∷ xs) past) (sym (then_err here next h.0 h.1))
          (inr (h.0, h.1, h.2, h.3, λ f. h.4 (fit_left _ _ (newly xs past) kept f)))
      go here (inl h) next (inl o) =
          subst (λ (p : Put). TokensEnd p m (x ∷ xs) past) (sym (then_ok here next h.0))
          (inl (o.0, o.1 ∙ ap (λ n. behind n kept) h.1 ∙ behind_again m (newly xs past) kept, λ f. unfold faults in ap₂ (λ a b. a ++ b) (h.2 f) o.2))
      go here (inl h) next (inr o) =
          subst (λ (p : Put). TokensEnd p m (x ∷ xs) past) (sym (then_ok here next h.0))
          (inr (
            o.0,
            o.1,
            o.2 ∙ ap after_drop h.1 ∙ drop-same m (newly xs past),
            o.3,
            λ f. o.4 (subst (λ n. FitIn n kept) (sym h.1) (fit_again m (newly xs past) kept f)),
          ))

  -- tokens of which no row is kept leave the sheet
  one_none : (m : Model) (x : Token) (past : List Token) → kept_of t.knows t.extensions x past ≡ [] → (token_put t m x past).sheet ≡ m
  unfolding token_put
  one_none m x past e = go (first (faults_of t.knows t.extensions x past))
    where
      go : (o : Option Refusal) → (put_unless o m (kept_of t.knows t.extensions x past)).sheet ≡ m
      go (Some r) = refl
      go None = ap (after_all m) e ∙ (unfold after_all in refl)

  tokens_none : (m : Model) (new past : List Token) → newly new past ≡ [] → (tokens_put t m new past).sheet ≡ m
  unfolding tokens_put newly
  tokens_none m [] past e = refl
  tokens_none m (x ∷ xs) past e =
      go (tokens_put t m xs past) (tokens_none m xs past (left_nil (newly xs past) _ e)) (tokens_put t m xs past).answer
    where
      go : (here : Put) → here.sheet ≡ m → (a : Result (Unit {0}) Refusal) → (then_put a here (token_put t here.sheet x (xs ++ past))).sheet ≡ m
      go here h (Err r) = h
      go here h (Ok u) = one_none here.sheet x (xs ++ past) (right_nil (newly xs past) _ e) ∙ h

  -- Where the first of their kept rows cannot follow, they leave the sheet too, and are refused.
  abbrev Stops : Put → Model → Type 0
  Stops p m = ((e : Refusal) × (p.answer ≡ Err e)) × (p.sheet ≡ m)

  one_stops : (m : Model) (x : Token) (past : List Token) → FirstCannot (last_place m.draft) (open_in m.draft) (kept_of t.knows t.extensions x past)
      → Stops (token_put t m x past) m
  unfolding token_put
  one_stops m x past h = go (first (faults_of t.knows t.extensions x past))
    where
      go : (o : Option Refusal) → Stops (put_unless o m (kept_of t.knows t.extensions x past)) m
      go (Some r) = ((r, refl), refl)
      go None = let k = all_first m _ h in ((NotForSheet, k.0), k.1)

  pub tokens-stop : (m : Model) (new past : List Token) → FirstCannot (last_place m.draft) (open_in m.draft) (newly new past)
      → Stops (tokens_put t m new past) m
  unfolding tokens_put newly
  tokens-stop m [] past h = absurd h
  tokens-stop m (x ∷ xs) past h = go (newly xs past) refl h (tokens-stop m xs past)
    where
      last : Option ℕ
      last = last_place m.draft

      kept : List PlacedRow
      kept = kept_of t.knows t.extensions x (xs ++ past)

      behind_it : (here : Put) → here.sheet ≡ m → FirstCannot last (open_in m.draft) kept → (a : Result (Unit {0}) Refusal) → here.answer ≡ a
          → Stops (then_put a here (token_put t here.sheet x (xs ++ past))) m
      behind_it here e f (Err r) q = ((r, q), e)
      behind_it here e f (Ok u) q = subst (λ n. Stops (token_put t n x (xs ++ past)) m) (sym e) (one_stops m x (xs ++ past) f)

      go : (ys : List PlacedRow) → newly xs past ≡ ys → FirstCannot last (open_in m.draft) (ys ++ kept)
          → (FirstCannot last (open_in m.draft) (newly xs past) → Stops (tokens_put t m xs past) m)
          → Stops (then_put (tokens_put t m xs past).answer (tokens_put t m xs past) (token_put t (tokens_put t m xs past).sheet x (xs ++ past))) m
      go [] q f g = behind_it (tokens_put t m xs past) (tokens_none m xs past q) f (tokens_put t m xs past).answer refl
      go (y ∷ ys) q f g =
          let k = g (subst (FirstCannot last (open_in m.draft)) (sym q) f) in
          subst (λ (p : Put). Stops p m) (sym (then_err (tokens_put t m xs past) _ k.0.0 k.0.1)) k
