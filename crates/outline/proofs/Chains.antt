-- The open starts of entries, when an entry is added and when the innermost is closed.
use Rattle.std.proofs.Common.{◌≡◌, ℕ, zero, suc, ◌<◌, ◌≤◌, ◌&&◌, T, leb, List, [], ◌∷◌, ◌++◌, length, take, set, Some, None, Option, sym, refl, ◌∙◌, subst, arith}
use Rattle.std.specs.List.{slice_get}
use Rattle.std.proofs.lemmas.Option.{slice_get_within}
use Rattle.std.proofs.lemmas.List.{take-append-le, take_all, take-set-le}
use Rattle.outline.specs.declared.entry.Entry.{Entry}
use Rattle.outline.specs.declared.entry.Span.{Span}
use Rattle.outline.specs.declared.entry.Span.TheVariants.{Leaf, Open, Closed}
use Rattle.outline.specs.Sound.{all_before, is_open, is_below, opens_at, chained}
use Rattle.outline.proofs.Nths.{both, join, nth_push_lt, nth_push_at, nth_set_other}

below_more : (o : Option ℕ) (i j : ℕ) → i ≤ j → T (is_below o i) → T (is_below o j)
below_more None i j le h = tt
below_more (Some k) i j le h = grind arith

open_span : (s : Span) → T (is_open s) → s ≡ Open
open_span Leaf h = absurd h
open_span Open h = refl
open_span (Closed p b) h = absurd h

-- a chain depends on the entries up to its innermost start only
chain_same : (s : ℕ) (es fs : List Entry) (m n : ℕ) (o : Option ℕ) → ((i : ℕ) → i < m → slice_get fs i ≡ slice_get es i) → ((i : ℕ) → i < m → take i fs ≡ take i es) → T (is_below o m) → T (chained s es n o) → T (chained s fs n o)
chain_same s es fs m zero None same front low h = tt
chain_same s es fs m zero (Some i) same front low h = absurd h
chain_same s es fs m (suc n) None same front low h = absurd h
chain_same s es fs m (suc n) (Some i) same front low h =
    let lt : i < m = grind arith in
    subst (λ o. T (opens_at s fs i (chained s fs n) o)) (sym (same i lt)) (go lt (λ o. chain_same s es fs m n o same front) (slice_get es i) h)
  where
    go : i < m → ((o : Option ℕ) → T (is_below o m) → T (chained s es n o) → T (chained s fs n o)) → (o : Option Entry) → T (opens_at s es i (chained s es n) o) → T (opens_at s fs i (chained s fs n) o)
    go lt rest None h = h
    go lt rest (Some e) h =
        let p = both (leb s i) (is_open e.span && (is_below e.around i && (all_before 0 i (take i es) && chained s es n e.around))) h in
        let q = both (is_open e.span) (is_below e.around i && (all_before 0 i (take i es) && chained s es n e.around)) p.1 in
        let r = both (is_below e.around i) (all_before 0 i (take i es) && chained s es n e.around) q.1 in
        let t = both (all_before 0 i (take i es)) (chained s es n e.around) r.1 in
        join (leb s i) _ p.0 (join (is_open e.span) _ q.0 (join (is_below e.around i) _ r.0 (join (all_before 0 i (take i fs)) _ (subst (λ zs. T (all_before 0 i zs)) (sym (front i lt)) t.0) (rest e.around (below_more e.around i m (omega arith) r.0) t.1))))

-- what the innermost of the open starts is
pub chain-top : (s : ℕ) (es : List Entry) (n : ℕ) (o : Option ℕ) → T (chained s es (suc n) o) → (i : ℕ) × (o ≡ Some i)
chain-top s es n None h = absurd h
chain-top s es n (Some i) h = (i, refl)

pub chain-none : (s : ℕ) (es : List Entry) (o : Option ℕ) → T (chained s es 0 o) → o ≡ None
chain-none s es None h = refl
chain-none s es (Some i) h = absurd h

pub chain_entry : (s : ℕ) (es : List Entry) (n i : ℕ) → T (chained s es (suc n) (Some i)) → (e : Entry) × (slice_get es i ≡ Some e)
chain_entry s es n i h = go (slice_get es i) refl h where
  go : (o : Option Entry) → slice_get es i ≡ o → T (opens_at s es i (chained s es n) o) → (e : Entry) × (slice_get es i ≡ Some e)
  go None q h = absurd h
  go (Some e) q h = (e, q)

module _ (s : ℕ) (es : List Entry) (n i : ℕ) (e : Entry) (at : slice_get es i ≡ Some e) (h : T (chained s es (suc n) (Some i))) where
  parts : T (opens_at s es i (chained s es n) (Some e))
  parts = subst (λ o. T (opens_at s es i (chained s es n) o)) at h

  in-draft : T (leb s i) × T (is_open e.span && (is_below e.around i && (all_before 0 i (take i es) && chained s es n e.around)))
  in-draft = both (leb s i) (is_open e.span && (is_below e.around i && (all_before 0 i (take i es) && chained s es n e.around))) parts

  opens_here : T (is_open e.span) × T (is_below e.around i && (all_before 0 i (take i es) && chained s es n e.around))
  opens_here = both (is_open e.span) (is_below e.around i && (all_before 0 i (take i es) && chained s es n e.around)) in-draft.1

  is-inside : T (is_below e.around i) × T (all_before 0 i (take i es) && chained s es n e.around)
  is-inside = both (is_below e.around i) (all_before 0 i (take i es) && chained s es n e.around) opens_here.1

  pub top-draft : s ≤ i
  top-draft = let p = in-draft.0 in grind arith

  pub top_open : e.span ≡ Open
  top_open = open_span e.span opens_here.0

  pub top-before : T (all_before 0 i (take i es))
  top-before = (both (all_before 0 i (take i es)) (chained s es n e.around) is-inside.1).0

  -- the innermost closed
  pub chain_close : (d : Entry) → T (chained s (set es i d) n e.around)
  chain_close d =
      chain_same s es (set es i d) i n e.around (λ j lt. nth_set_other es d i j (λ q. omega arith)) (λ j lt. take-set-le j es i d (omega arith)) is-inside.0
      (both (all_before 0 i (take i es)) (chained s es n e.around) is-inside.1).1

chain-below : (s : ℕ) (es : List Entry) (n : ℕ) (o : Option ℕ) → T (chained s es n o) → T (is_below o (length es))
chain-below s es zero None h = tt
chain-below s es zero (Some i) h = absurd h
chain-below s es (suc n) None h = absurd h
chain-below s es (suc n) (Some i) h = let p = chain_entry s es n i h in let lt = slice_get_within es i p.0 p.1 in grind arith

-- an entry more
pub chain_push : (s : ℕ) (es : List Entry) (e : Entry) (n : ℕ) (o : Option ℕ) → T (chained s es n o) → T (chained s (es ++ e ∷ []) n o)
chain_push s es e n o h =
    chain_same s es (es ++ e ∷ []) (length es) n o (λ i lt. nth_push_lt es e i lt) (λ i lt. take-append-le i es (e ∷ []) (omega arith)) (chain-below s es n o h) h

-- a start more
pub chain_open : (s : ℕ) (es : List Entry) (e : Entry) (n : ℕ) → s ≤ length es → T (all_before 0 (length es) es) → e.span ≡ Open → T (chained s es n e.around) → T (chained s (es ++ e ∷ []) (suc n) (Some (length es)))
chain_open s es e n le before opened h =
    let i : ℕ = length es in
    let fs : List Entry = es ++ e ∷ [] in
    let low : T (leb s i) = grind arith in
    let is : T (is_open e.span) = subst (λ x. T (is_open x)) (sym opened) tt in
    let all : take i fs ≡ es = take-append-le i es (e ∷ []) (omega arith) ∙ take_all i es (omega arith) in
    subst (λ o. T (opens_at s fs i (chained s fs n) o)) (sym (nth_push_at es e i refl))
    (join (leb s i) _ low (join (is_open e.span) _ is (join (is_below e.around i) _ (chain-below s es n e.around h) (join (all_before 0 i (take i fs)) _ (subst (λ zs. T (all_before 0 i zs)) (sym all) before) (chain_push s es e n e.around h)))))
