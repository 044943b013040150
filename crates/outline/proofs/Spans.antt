-- The rows that entries stand for: one entry more at the end, and an open start closed.
use Rattle.std.proofs.Common.{◌≡◌, ℕ, zero, suc, ◌+◌, ◌-◌, ◌≤◌, true, false, ◌&&◌, T, eqb, ◌≢◌, List, [], ◌∷◌, ◌++◌, length, take, drop, set, Some, sym, refl, ap, ◌∙◌, subst, append_assoc, arith}
use Rattle.std.specs.List.{slice_get}
use Rattle.std.proofs.lemmas.Option.{slice_get_within}
use Rattle.std.proofs.lemmas.List.{append-nil, length-append, set_split, take-append-drop, length-take-le, length-drop}
use Rattle.record.specs.declared.row.PlacedRow.{PlacedRow}
use Rattle.sheet.specs.Rows.{Rows}
use Rattle.outline.specs.declared.entry.Entry.{Entry}
use Rattle.outline.specs.declared.entry.Span.{Span}
use Rattle.outline.specs.declared.entry.Span.TheVariants.{Leaf, Open, Closed}
use Rattle.outline.specs.Entries.{end_row, end_of, ends, rows_from, rows_of, closed_by}
use Rattle.outline.specs.Sound.{span_before, all_before}
use Rattle.outline.proofs.Nths.{both, join, drop_nth}

-- the ends of joined lists

ends_append : (k i : ℕ) (xs ys : List Entry) → ends k i (xs ++ ys) ≡ ends (k + length xs) i ys ++ ends k i xs
ends_append k i [] ys = let e : k ≡ k + 0 = omega arith in ap (λ n. ends n i ys) e ∙ sym (append-nil (ends (k + 0) i ys))
ends_append k i (x ∷ xs) ys =
    let e : k + 1 + length xs ≡ k + suc (length xs) = omega arith in
    ap (λ zs. zs ++ end_of k i x.span) (ends_append (k + 1) i xs ys ∙ ap (λ n. ends n i ys ++ ends (k + 1) i xs) e)
    ∙ append_assoc (ends (k + suc (length xs)) i ys) (ends (k + 1) i xs) (end_of k i x.span)

end_none : (k i j : ℕ) (s : Span) → T (span_before k i s) → i ≤ j → end_of k j s ≡ []
end_none k i j Leaf h le = refl
end_none k i j Open h le = refl
end_none k i j (Closed p b) h le = let ne : eqb (k + b) j ≡ false = grind arith in rw ne refl

ends-none : (k i j : ℕ) (es : List Entry) → T (all_before k i es) → i ≤ j → ends k j es ≡ []
ends-none k i j [] h le = refl
ends-none k i j (e ∷ es) h le =
    let p = both (span_before k i e.span) (all_before (k + 1) i es) h in
    let a = ends-none (k + 1) i j es p.1 le in
    let b = end_none k i j e.span p.0 le in
    rw (a, b) refl

-- rows of joined lists

rows_append : (f : ℕ → Rows) (k : ℕ) (xs ys : List Entry) → rows_from f k (xs ++ ys) ≡ rows_from f k xs ++ rows_from f (k + length xs) ys
rows_append f k [] ys = let e : k ≡ k + 0 = omega arith in ap (λ n. rows_from f n ys) e
rows_append f k (x ∷ xs) ys =
    let e : k + 1 + length xs ≡ k + suc (length xs) = omega arith in
    ap (λ zs. x.row ∷ (f k ++ zs)) (rows_append f (k + 1) xs ys ∙ ap (λ n. rows_from f (k + 1) xs ++ rows_from f n ys) e)
    ∙ ap (λ zs. x.row ∷ zs) (sym (append_assoc (f k) (rows_from f (k + 1) xs) (rows_from f (k + suc (length xs)) ys)))

rows_alike : (f g : ℕ → Rows) (k : ℕ) (es : List Entry) → ((i : ℕ) → f i ≡ g i) → rows_from f k es ≡ rows_from g k es
rows_alike f g k [] h = refl
rows_alike f g k (e ∷ es) h =
    ap (λ zs. e.row ∷ (zs ++ rows_from f (k + 1) es)) (h k) ∙ ap (λ zs. e.row ∷ (g k ++ zs)) (rows_alike f g (k + 1) es h)

-- one row more behind the last entry
rows_more : (f g : ℕ → Rows) (k m : ℕ) (es : List Entry) (x : PlacedRow) → length es ≡ suc m → ((i : ℕ) → i ≢ k + m → g i ≡ f i) → g (k + m) ≡ f (k + m) ++ x ∷ [] → rows_from g k es ≡ rows_from f k es ++ x ∷ []
rows_more f g k m [] x n same last = absurd (omega arith)
rows_more f g k m (e ∷ []) x n same last =
    let z : k + m ≡ k = omega arith in
    let l : g k ≡ f k ++ x ∷ [] = subst (λ i. g i ≡ f i ++ x ∷ []) z last in
    ap (λ zs. e.row ∷ zs) (append-nil (g k) ∙ l ∙ ap (λ zs. zs ++ x ∷ []) (sym (append-nil (f k))))
rows_more f g k zero (e ∷ (d ∷ es)) x n same last = absurd (omega arith)
rows_more f g k (suc m) (e ∷ (d ∷ es)) x n same last =
    let z : k + suc m ≡ k + 1 + m = omega arith in
    let h = rows_more f g (k + 1) m (d ∷ es) x (omega arith) (λ i ne. same i (λ q. ne (q ∙ z))) (subst (λ i. g i ≡ f i ++ x ∷ []) z last) in
    let s = same k (omega arith) in
    ap (λ zs. e.row ∷ (zs ++ rows_from g (k + 1) (d ∷ es))) s
    ∙ ap (λ zs. e.row ∷ (f k ++ zs)) h
    ∙ ap (λ zs. e.row ∷ zs) (sym (append_assoc (f k) (rows_from f (k + 1) (d ∷ es)) (x ∷ [])))

pub rows_push : (es : List Entry) (e : Entry) → T (all_before 0 (length es) es) → ((k i : ℕ) → end_of k i e.span ≡ []) → rows_of (es ++ e ∷ []) ≡ rows_of es ++ e.row ∷ []
unfolding rows_of
rows_push es e h none =
    let f : ℕ → Rows = λ i. ends 0 i es in
    let g : ℕ → Rows = λ i. ends 0 i (es ++ e ∷ []) in
    let same : (i : ℕ) → g i ≡ f i = (λ i. ends_append 0 i es (e ∷ []) ∙ ap (λ zs. zs ++ f i) (none (0 + length es) i)) in
    let last : g (0 + length es) ≡ [] = same (0 + length es) ∙ ends-none 0 (length es) (0 + length es) es h (omega arith) in
    rows_append g 0 es (e ∷ [])
    ∙ ap (λ zs. zs ++ rows_from g (0 + length es) (e ∷ [])) (rows_alike g f 0 es same)
    ∙ ap (λ zs. rows_from f 0 es ++ e.row ∷ (zs ++ [])) last

-- an open start closed behind the last entry
rows-shut : (xs ys : List Entry) (e : Entry) (p : ℕ) → e.span ≡ Open → T (all_before 0 (length xs) xs) → rows_of (xs ++ closed_by e p (length ys) ∷ ys) ≡ rows_of (xs ++ e ∷ ys) ++ end_row p ∷ []
unfolding rows_of
rows-shut xs ys e p opened h =
    let n : ℕ = length xs + length ys in
    let d : Entry = closed_by e p (length ys) in
    let f : ℕ → Rows = λ i. ends 0 i (xs ++ e ∷ ys) in
    let g : ℕ → Rows = λ i. ends 0 i (xs ++ d ∷ ys) in
    let was : (i : ℕ) → f i ≡ (ends (0 + length xs + 1) i ys ++ []) ++ ends 0 i xs = (λ i. ends_append 0 i xs (e ∷ ys) ∙ ap (λ s. (ends (0 + length xs + 1) i ys ++ end_of (0 + length xs) i s) ++ ends 0 i xs) opened) in
    let is : (i : ℕ) → g i ≡ (ends (0 + length xs + 1) i ys ++ end_of (0 + length xs) i (Closed p (length ys))) ++ ends 0 i xs = (λ i. ends_append 0 i xs (d ∷ ys)) in
    let low : (i : ℕ) → i ≢ 0 + n → g i ≡ f i = (λ i ne. is i ∙ ap (λ zs. (ends (0 + length xs + 1) i ys ++ zs) ++ ends 0 i xs) (elsewhere (0 + length xs) (length ys) i (λ q. ne (sym q ∙ omega arith))) ∙ sym (was i)) in
    let none : ends 0 (0 + n) xs ≡ [] = ends-none 0 (length xs) (0 + n) xs h (omega arith) in
    let top : g (0 + n) ≡ f (0 + n) ++ end_row p ∷ [] = is (0 + n) ∙ last_of (ends (0 + length xs + 1) (0 + n) ys) (end_of (0 + length xs) (0 + n) (Closed p (length ys))) (ends 0 (0 + n) xs) (end_row p) none (here (0 + length xs) (length ys) (0 + n) (omega arith)) ∙ ap (λ zs. zs ++ end_row p ∷ []) (sym (was (0 + n))) in
    alike g 0 xs d e refl
    ∙ rows_more f g 0 n (xs ++ e ∷ ys) (end_row p) (long xs) low top
  where
    elsewhere : (k b i : ℕ) → k + b ≢ i → end_of k i (Closed p b) ≡ []
    elsewhere k b i h = let ne : eqb (k + b) i ≡ false = grind arith in rw ne refl

    here : (k b i : ℕ) → k + b ≡ i → end_of k i (Closed p b) ≡ end_row p ∷ []
    here k b i h = let eq : eqb (k + b) i ≡ true = grind arith in rw eq refl

    last_of : (us vs ws : Rows) (x : PlacedRow) → ws ≡ [] → vs ≡ x ∷ [] → (us ++ vs) ++ ws ≡ ((us ++ []) ++ ws) ++ x ∷ []
    last_of us vs ws x q r = rw (q, r) (simp append-nil)

    alike : (g : ℕ → Rows) (k : ℕ) (xs : List Entry) (d e : Entry) → d.row ≡ e.row → rows_from g k (xs ++ d ∷ ys) ≡ rows_from g k (xs ++ e ∷ ys)
    alike g k [] d e q = ap (λ r. r ∷ (g k ++ rows_from g (k + 1) ys)) q
    alike g k (x ∷ xs) d e q = ap (λ zs. x.row ∷ (g k ++ zs)) (alike g (k + 1) xs d e q)

    long : (xs : List Entry) → length (xs ++ e ∷ ys) ≡ suc (length xs + length ys)
    long [] = omega arith
    long (x ∷ xs) = let h = long xs in omega arith

-- closed starts and where they end, in longer lists

before_append : (k i : ℕ) (xs ys : List Entry) → all_before k i (xs ++ ys) ≡ (all_before k i xs && all_before (k + length xs) i ys)
before_append k i [] ys = let e : k ≡ k + 0 = omega arith in ap (λ n. all_before n i ys) e
before_append k i (x ∷ xs) ys =
    let e : k + 1 + length xs ≡ k + suc (length xs) = omega arith in
    let h = before_append (k + 1) i xs ys ∙ ap (λ n. all_before (k + 1) i xs && all_before n i ys) e in
    elim (span_before k i x.span) as (λ b. (b && all_before (k + 1) i (xs ++ ys)) ≡ ((b && all_before (k + 1) i xs) && all_before (k + suc (length xs)) i ys))
    [ true ↦ h | false ↦ refl ]

span_later : (k i j : ℕ) (s : Span) → i ≤ j → T (span_before k i s) → T (span_before k j s)
span_later k i j Leaf le h = tt
span_later k i j Open le h = tt
span_later k i j (Closed p b) le h = grind arith

before-later : (k i j : ℕ) (es : List Entry) → i ≤ j → T (all_before k i es) → T (all_before k j es)
before-later k i j [] le h = tt
before-later k i j (e ∷ es) le h =
    let p = both (span_before k i e.span) (all_before (k + 1) i es) h in
    let a = span_later k i j e.span le p.0 in
    let b = before-later (k + 1) i j es le p.1 in
    grind arith

pub before_push : (es : List Entry) (e : Entry) → T (all_before 0 (length es) es) → ((k i : ℕ) → span_before k i e.span ≡ true) → T (all_before 0 (length (es ++ e ∷ [])) (es ++ e ∷ []))
before_push es e h free =
    let n : ℕ = length (es ++ e ∷ []) in
    let long : n ≡ length es + 1 = length-append es (e ∷ []) in
    let a = before-later 0 (length es) n es (omega arith) h in
    let b = before_append 0 n es (e ∷ []) in
    let d = free (0 + length es) n in
    grind arith

-- an entry in the midst of others
pub split_at : (es : List Entry) (j : ℕ) (e : Entry) → slice_get es j ≡ Some e → es ≡ take j es ++ e ∷ drop (j + 1) es
split_at es j e at = sym (take-append-drop j es) ∙ ap (λ zs. take j es ++ zs) (drop_nth es j e at)

set_at : (es : List Entry) (j : ℕ) (e d : Entry) → slice_get es j ≡ Some e → set es j d ≡ take j es ++ d ∷ drop (j + 1) es
set_at es j e d at = let h = slice_get_within es j e at in set_split es j d h ∙ ap (λ n. take j es ++ d ∷ drop n es) {x = suc j} (omega arith)

module _ (es : List Entry) (j : ℕ) (e : Entry) (p b : ℕ) (at : slice_get es j ≡ Some e) (opened : e.span ≡ Open) (inside : b ≡ length es - 1 - j) where
  rest : b ≡ length (drop (j + 1) es)
  rest = let h = slice_get_within es j e at in let d = length-drop (j + 1) es in omega arith

  front : length (take j es) ≡ j
  front = let h = slice_get_within es j e at in length-take-le j es (omega arith)

  pub rows_close : T (all_before 0 j (take j es)) → rows_of (set es j (closed_by e p b)) ≡ rows_of es ++ end_row p ∷ []
  rows_close h =
      ap rows_of (set_at es j e (closed_by e p b) at ∙ ap (λ n. take j es ++ closed_by e p n ∷ drop (j + 1) es) rest)
      ∙ rows-shut (take j es) (drop (j + 1) es) e p opened (subst (λ n. T (all_before 0 n (take j es))) (sym front) h)
      ∙ ap (λ zs. rows_of zs ++ end_row p ∷ []) (sym (split_at es j e at))

  pub before_close : T (all_before 0 (length es) es) → T (all_before 0 (length es) (set es j (closed_by e p b)))
  before_close h =
      let n : ℕ = length es in
      let lt = slice_get_within es j e at in
      let was : all_before 0 n es ≡ (all_before 0 n (take j es) && all_before (0 + length (take j es)) n (e ∷ drop (j + 1) es)) = ap (all_before 0 n) (split_at es j e at) ∙ before_append 0 n (take j es) (e ∷ drop (j + 1) es) in
      let is : all_before 0 n (set es j (closed_by e p b)) ≡ (all_before 0 n (take j es) && all_before (0 + length (take j es)) n (closed_by e p b ∷ drop (j + 1) es)) = ap (all_before 0 n) (set_at es j e (closed_by e p b) at) ∙ before_append 0 n (take j es) (closed_by e p b ∷ drop (j + 1) es) in
      let k : ℕ = 0 + length (take j es) in
      let end : T (span_before k n (Closed p b)) = (let f = front in grind arith) in
      let q = both (all_before 0 n (take j es)) (all_before k n (e ∷ drop (j + 1) es)) (subst T was h) in
      let r = both (span_before k n e.span) (all_before (k + 1) n (drop (j + 1) es)) q.1 in
      subst T (sym is) (join (all_before 0 n (take j es)) _ q.0 (join (span_before k n (Closed p b)) _ end r.1))
