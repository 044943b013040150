-- Rows found by their numbers, when an entry is added and when an open start is closed.
use Rattle.std.proofs.Common.{◌≡◌, ℕ, zero, suc, ◌+◌, ◌-◌, ◌<◌, ◌≤◌, List, [], ◌∷◌, ◌++◌, length, set, Some, None, Option, sym, refl, ap, ◌∙◌, subst, ⊎_elim, arith, length-set}
use Rattle.std.specs.List.{slice_get}
use Rattle.std.proofs.lemmas.List.{length_push}
use Rattle.std.proofs.lemmas.Option.{none-some, same_Some, slice_get_past, slice_get_within}
use Rattle.std.proofs.lemmas.Bool.{cases_lt, cases_eq}
use Rattle.record.specs.declared.row.PlacedRow.{PlacedRow}
use Rattle.sheet.specs.Rows.{Rows}
use Rattle.outline.specs.declared.entry.Entry.{Entry}
use Rattle.outline.specs.declared.entry.Span.TheVariants.{Open}
use Rattle.outline.specs.Entries.{end_row, innermost, closed_by}
use Rattle.outline.specs.Found.{number_or, number_at, around_of, around_at, climbed, end_in, end_for, end_at, found_from, found_at, Findable, top_from, LeadsUp}
use Rattle.outline.proofs.Nths.{nth_some, nth_push_lt, nth_push_at, nth_set_same, nth_set_other}

-- an entry that stays, or an open start that is closed
pub record Grown (d e : Entry) : Type 0 where
  pub row : e.row ≡ d.row
  pub number : e.number ≡ d.number
  pub around : e.around ≡ d.around
  pub start : (i : ℕ) → innermost i e.span e.around ≡ innermost i d.span d.around
  pub end : (x : PlacedRow) → end_in d.span ≡ Some x → end_in e.span ≡ Some x

-- entries that go on from others
abbrev Grows : List Entry → List Entry → Type 0
Grows es fs = (i : ℕ) (d : Entry) → slice_get es i ≡ Some d → (e : Entry) × (slice_get fs i ≡ Some e) × Grown d e

stays : (d : Entry) → Grown d d
stays d = record { row = refl; number = refl; around = refl; start = λ i. refl; end = λ x h. h }

grows_push : (es : List Entry) (e : Entry) → Grows es (es ++ e ∷ [])
grows_push es e i d at = let lt = slice_get_within es i d at in (d, nth_push_lt es e i lt ∙ at, stays d)

closes : (d : Entry) (p b : ℕ) → d.span ≡ Open → Grown d (closed_by d p b)
closes d p b opened =
    record { row = refl; number = refl; around = refl; start = λ i. sym (ap (λ s. innermost i s d.around) opened); end = λ x h. absurd (none-some x (sym (ap end_in opened) ∙ h)) }

grows_close : (es : List Entry) (j : ℕ) (e : Entry) (p b : ℕ) → slice_get es j ≡ Some e → e.span ≡ Open → Grows es (set es j (closed_by e p b))
grows_close es j e p b at opened i d here =
    ⊎_elim
    (λ (q : i ≡ j). let same : d ≡ e = same_Some d e (sym here ∙ ap (slice_get es) q ∙ at) in (closed_by e p b, ap (slice_get (set es j (closed_by e p b))) q ∙ nth_set_same es (closed_by e p b) j (slice_get_within es j e at), subst (λ x. Grown x (closed_by e p b)) (sym same) (closes e p b opened)))
    (λ (ne : i ≡ j → ⊥). (d, nth_set_other es (closed_by e p b) j i ne ∙ here, stays d))
    (cases_eq i j)

module _ (es fs : List Entry) (grows : Grows es fs) where
  around-grows : (o : Option Entry) (i j : ℕ) → slice_get es i ≡ o → around_of o ≡ Some j → around_of (slice_get fs i) ≡ Some j
  around-grows None i j at h = absurd (none-some j h)
  around-grows (Some d) i j at h = let g = grows i d at in ap around_of g.1 ∙ g.2.around ∙ h

  climb_grows : (k : ℕ) (s : Option ℕ) (j : ℕ) → climbed es k s ≡ Some j → climbed fs k s ≡ Some j
  climb_grows zero s j h = h
  climb_grows (suc k) s j h = step (climbed es k s) (climbed fs k s) (λ i. climb_grows k s i) h where
    step : (o u : Option ℕ) → ((i : ℕ) → o ≡ Some i → u ≡ Some i) → around_at es o ≡ Some j → around_at fs u ≡ Some j
    step None u f h = absurd (none-some j h)
    step (Some i) u f h = ap (around_at fs) (f i refl) ∙ around-grows (slice_get es i) i j refl h

  end-grows : (o : Option ℕ) (x : PlacedRow) → end_at es o ≡ Some x → end_at fs o ≡ Some x
  end-grows None x h = h
  end-grows (Some i) x h = go (slice_get es i) refl h where
    go : (o : Option Entry) → slice_get es i ≡ o → end_for o ≡ Some x → end_for (slice_get fs i) ≡ Some x
    go None at h = absurd (none-some x h)
    go (Some d) at h = let g = grows i d at in ap end_for g.1 ∙ g.2.end x h

  found-grows : (i k : ℕ) (x : PlacedRow) → found_at es i k ≡ Some x → found_at fs i k ≡ Some x
  found-grows i k x h = go (slice_get es i) k refl h where
    up : (k : ℕ) (s : Option ℕ) → end_at es (climbed es k s) ≡ Some x → end_at fs (climbed fs k s) ≡ Some x
    up k s h = step (climbed es k s) refl h where
      step : (o : Option ℕ) → climbed es k s ≡ o → end_at es o ≡ Some x → end_at fs (climbed fs k s) ≡ Some x
      step None q h = absurd (none-some x h)
      step (Some j) q h = ap (end_at fs) (climb_grows k s j q) ∙ end-grows (Some j) x h

    go : (o : Option Entry) (k : ℕ) → slice_get es i ≡ o → found_from es i k o ≡ Some x → found_from fs i k (slice_get fs i) ≡ Some x
    go None zero at h = absurd (none-some x h)
    go None (suc k) at h = absurd (none-some x h)
    go (Some d) zero at h = let g = grows i d at in ap (found_from fs i zero) g.1 ∙ ap Some g.2.row ∙ h
    go (Some d) (suc k) at h =
        let g = grows i d at in
        ap (found_from fs i (suc k)) g.1 ∙ ap (λ s. end_at fs (climbed fs k s)) (g.2.start i) ∙ up k (innermost i d.span d.around) h

  number-grows : (t u i : ℕ) → i < length es → number_at fs u i ≡ number_at es t i
  number-grows t u i lt =
      let p = nth_some es i lt in
      let g = grows i p.0 p.1 in
      ap (number_or u) g.1 ∙ g.2.number ∙ sym (ap (number_or t) p.1)

  -- a row that was found is found still
  row-grows : (t i n : ℕ) (rows : Rows) (x : PlacedRow) → length rows ≡ t → i < length es → (n < t) × (found_at es i (n - number_at es t i) ≡ slice_get rows n) → (n < t + 1) × (found_at fs i (n - number_at fs (t + 1) i) ≡ slice_get (rows ++ x ∷ []) n)
  row-grows t i n rows x long lt h =
      let y = nth_some rows n (omega (arith, h.0)) in
      let was : found_at es i (n - number_at es t i) ≡ Some y.0 = h.1 ∙ y.1 in
      let is : found_at fs i (n - number_at fs (t + 1) i) ≡ Some y.0 = ap (λ m. found_at fs i (n - m)) (number-grows t (t + 1) i lt) ∙ found-grows i (n - number_at es t i) y.0 was in
      let now : slice_get (rows ++ x ∷ []) n ≡ Some y.0 = nth_push_lt rows x n (omega (arith, h.0)) ∙ y.1 in
      (omega (arith, h.0), is ∙ sym now)

pub number_past : (es : List Entry) (t i : ℕ) → length es ≤ i → number_at es t i ≡ t
number_past es t i h = ap (number_or t) (slice_get_past es i h)

-- an entry more

module _ (es : List Entry) (e : Entry) (t : ℕ) (rows : Rows) (numbered : e.number ≡ t) (long : length rows ≡ t) where
  fs : List Entry
  fs = es ++ e ∷ []

  number-last : (u i : ℕ) → i ≡ length es → number_at (es ++ e ∷ []) u i ≡ t
  number-last u i q = ap (number_or u) (nth_push_at es e i q) ∙ numbered

  next_push : (i : ℕ) → i < length es → number_at (es ++ e ∷ []) (t + 1) (i + 1) ≡ number_at es t (i + 1)
  next_push i lt =
      ⊎_elim
      (λ (q : i + 1 < length es). number-grows es (es ++ e ∷ []) (grows_push es e) t (t + 1) (i + 1) q)
      (λ (q : length es ≤ i + 1). number-last (t + 1) (i + 1) (omega arith) ∙ sym (number_past es t (i + 1) q))
      (cases_lt (i + 1) (length es))

  pub find_push : Findable es t rows → Findable (es ++ e ∷ []) (t + 1) (rows ++ e.row ∷ [])
  find_push find i n h =
      let more = length_push es e in
      ⊎_elim
      (λ (q : i < length es).
      let a = number-grows es (es ++ e ∷ []) (grows_push es e) t (t + 1) i q in
      let b = next_push i q in
      row-grows es (es ++ e ∷ []) (grows_push es e) t i n rows e.row long q (find i n (q, omega (arith, h.1), omega (arith, h.2))))
      (λ (q : length es ≤ i).
      let at : i ≡ length es = omega (arith, h.0) in
      let a = number-last (t + 1) i at in
      let b = number_past (es ++ e ∷ []) (t + 1) (i + 1) (omega arith) in
      let here : n ≡ t = omega (arith, h.1, h.2) in
      let none : n - number_at (es ++ e ∷ []) (t + 1) i ≡ 0 = omega arith in
      let found : found_at (es ++ e ∷ []) i (n - number_at (es ++ e ∷ []) (t + 1) i) ≡ Some e.row = ap (found_at (es ++ e ∷ []) i) none ∙ ap (found_from (es ++ e ∷ []) i 0) (nth_push_at es e i at) in
      let row : slice_get (rows ++ e.row ∷ []) n ≡ Some e.row = nth_push_at rows e.row n (omega arith) in
      (omega arith, found ∙ sym row))
      (cases_lt i (length es))

  pub leads_push : (top u : Option ℕ) → u ≡ innermost (length es) e.span e.around → LeadsUp es t top → LeadsUp (es ++ e ∷ []) (t + 1) u
  leads_push top u up lead = (
    ⊎_elim
        (λ (q : 0 < length es). number-grows es (es ++ e ∷ []) (grows_push es e) t (t + 1) 0 q ∙ lead.0)
        (λ (q : length es ≤ 0). number-last (t + 1) 0 (omega arith) ∙ sym (number_past es t 0 q) ∙ lead.0)
        (cases_lt 0 (length es)),
    λ i last.
        let at : i ≡ length es = omega (arith, length_push es e) in
        let a = number-last (t + 1) i at in
        let none : t + 1 - e.number - 1 ≡ 0 = omega arith in (
          omega arith,
          ap (top_from (es ++ e ∷ []) (t + 1) i) (nth_push_at es e i at) ∙ ap (λ k. climbed (es ++ e ∷ []) k (innermost i e.span e.around)) none ∙ ap (λ j. innermost j e.span e.around) at ∙ sym up,
        ),
  )

-- the innermost open start closed

module _ (es : List Entry) (j : ℕ) (e : Entry) (p b t : ℕ) (rows : Rows) (at : slice_get es j ≡ Some e) (opened : e.span ≡ Open) (long : length rows ≡ t) (lead : LeadsUp es t (Some j)) where
  abbrev gs : List Entry
  gs = set es j (closed_by e p b)

  grew : Grows es gs
  grew = grows_close es j e p b at opened

  same_length : length gs ≡ length es
  same_length = length-set es j (closed_by e p b)

  closed-here : slice_get gs j ≡ Some (closed_by e p b)
  closed-here = nth_set_same es (closed_by e p b) j (slice_get_within es j e at)

  -- the last entry leads up to the start that is closed
  leads_here : (i : ℕ) (d : Entry) → length es ≡ i + 1 → slice_get es i ≡ Some d → (d.number < t) × (climbed gs (t - d.number - 1) (innermost i d.span d.around) ≡ Some j)
  leads_here i d last here =
      let l = lead.1 i last in
      let low : d.number < t = subst (λ o. number_or t o < t) here l.0 in
      (low, climb_grows es gs grew (t - d.number - 1) (innermost i d.span d.around) j (sym (ap (top_from es t i) here) ∙ l.1))

  pub find_close : Findable es t rows → Findable gs (t + 1) (rows ++ end_row p ∷ [])
  find_close find i n h =
      let lt : i < length es = (let q = same_length in omega (arith, h.0)) in
      let a = number-grows es gs grew t (t + 1) i lt in
      ⊎_elim
      (λ (q : i + 1 < length es).
      let next = number-grows es gs grew t (t + 1) (i + 1) q in
      row-grows es gs grew t i n rows (end_row p) long lt (find i n (lt, omega (arith, h.1), omega (arith, h.2))))
      (λ (q : length es ≤ i + 1).
      let next = number_past es t (i + 1) q in
      let past = number_past gs (t + 1) (i + 1) (let r = same_length in omega arith) in
      ⊎_elim
      (λ (r : n < t). row-grows es gs grew t i n rows (end_row p) long lt (find i n (lt, omega (arith, h.1), omega arith)))
      (λ (r : t ≤ n).
      let here : n ≡ t = omega (arith, h.2) in
      let d = nth_some es i lt in
      let up = leads_here i d.0 (omega arith) d.1 in
      let g = grew i d.0 d.1 in
      let is : number_at es t i ≡ d.0.number = ap (number_or t) d.1 in
      let steps : n - number_at gs (t + 1) i ≡ suc (t - d.0.number - 1) = omega (arith, up.0) in
      let found : found_at gs i (n - number_at gs (t + 1) i) ≡ Some (end_row p) = ap (found_at gs i) steps ∙ ap (found_from gs i (suc (t - d.0.number - 1))) g.1 ∙ ap (λ s. end_at gs (climbed gs (t - d.0.number - 1) s)) (g.2.start i) ∙ ap (end_at gs) up.1 ∙ ap end_for closed-here in
      let row : slice_get (rows ++ end_row p ∷ []) n ≡ Some (end_row p) = nth_push_at rows (end_row p) n (omega arith) in
      (omega arith, found ∙ sym row))
      (cases_lt n t))
      (cases_lt (i + 1) (length es))

  pub leads_close : LeadsUp gs (t + 1) e.around
  leads_close = (
    number-grows es gs grew t (t + 1) 0 (let lt = slice_get_within es j e at in omega arith) ∙ lead.0,
    λ i last.
        let was : length es ≡ i + 1 = sym same_length ∙ last in
        let d = nth_some es i (omega arith) in
        let up = leads_here i d.0 was d.1 in
        let g = grew i d.0 d.1 in
        let is : number_at gs (t + 1) i ≡ d.0.number = ap (number_or (t + 1)) g.1 ∙ g.2.number in
        let steps : t + 1 - g.0.number - 1 ≡ suc (t - d.0.number - 1) = omega (arith, up.0, g.2.number) in (
          omega (arith, up.0),
          ap (top_from gs (t + 1) i) g.1 ∙ ap (λ k. climbed gs k (innermost i g.0.span g.0.around)) steps ∙ ap (λ s. around_at gs (climbed gs (t - d.0.number - 1) s)) (g.2.start i) ∙ ap (around_at gs) up.1 ∙ ap around_of closed-here,
        ),
  )
