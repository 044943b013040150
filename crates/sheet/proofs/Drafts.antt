-- A list of rows of which the first `n` are sealed and the rest are a draft: both sheets are one.
use Rattle.std.proofs.Common.{◌≡◌, ℕ, ◌+◌, ◌-◌, ◌≤◌, Bool, true, false, cond, ◌&&◌, T, eqb, leb, [], ◌∷◌, ◌++◌, length, take, drop, Some, None, Ok, Err, Option, Result, sym, refl, ap, ◌∙◌, subst, arith}
use Rattle.std.proofs.lemmas.List.{take-append-drop, take_all, drop_all, length-take-le, length-drop, length_push, drop-append-le, take-append-le}
use Rattle.std.proofs.lemmas.List.Sums.{fold_push}
use Rattle.record.specs.declared.row.PlacedRow.{PlacedRow}
use Rattle.record.specs.declared.refusal.Refusal.{Refusal}
use Rattle.record.specs.declared.refusal.Refusal.TheVariants.{NotForSheet}
use Rattle.sheet.specs.declared.tail.Tail.{Tail}
use Rattle.sheet.specs.Rows.{Rows, well_formed, open_in, closes, all_close, pairs, last_place, cost_of, spent}
use Rattle.sheet.specs.Sheets.{Model, model, follows, has_room, refusal, answer, unless, put_refusal, put_answer, after_put, open_refusal, seal_answer, after_seal, after_drop}
use Rattle.sheet.specs.Tails.{tail_of, tail_refusal, judged, tail_behind, Drafted}
use Rattle.sheet.proofs.Pairs.{close_append, pairs_append, open_push, open_le, spent_append}

-- the sheet that such a list is
abbrev pub cut : ℕ → Rows → ℕ → (ℕ → ℕ) → Model
cut n xs capacity cost = model (take n xs) (drop n xs) capacity cost

pub tail_push : (xs : Rows) (x : PlacedRow) → tail_of (xs ++ x ∷ []) ≡ tail_behind (tail_of xs) x
unfolding tail_of tail_behind last_place
tail_push xs x =
    ap (λ o. record { last = o; starts = open_in (xs ++ x ∷ []) }) (fold_push (λ (_ : Option ℕ) (y : PlacedRow). Some y.place) None xs x)
    ∙ ap (λ n. record { last = Some x.place; starts = n }) (open_push xs x)

-- what is not refused has a start to close, is formed as its kind wants it and has room
pub accepted-closes : (t : Tail) (x : PlacedRow) (room : Bool) → Ok tt ≡ judged t x room → closes t.starts x ≡ true
unfolding tail_refusal follows
accepted-closes t x room h = grind arith

pub accepted-formed : (t : Tail) (x : PlacedRow) (room : Bool) → Ok tt ≡ judged t x room → well_formed x.row ≡ true
unfolding tail_refusal follows
accepted-formed t x room h = grind arith

pub accepted-room : (t : Tail) (x : PlacedRow) (room : Bool) → Ok tt ≡ judged t x room → room ≡ true
unfolding tail_refusal
accepted-room t x room h = grind arith

accepted : (o : Option Refusal) → Ok tt ≡ answer {X = Unit {0}} o tt → o ≡ None
accepted None e = refl
accepted (Some r) e = cc

refused : (o : Option Refusal) (r : Refusal) → Err r ≡ answer {X = Unit {0}} o tt → o ≡ Some r
refused None r e = cc
refused (Some q) r e = cc

module _ (n : ℕ) (t : Tail) (xs : Rows) (d : Drafted n t xs) where
  -- the starts of the tail are no more than the rows
  pub drafted_starts : t.starts ≤ length xs
  unfolding tail_of
  drafted_starts =
      let e : t.starts ≡ open_in (drop n xs) = ap (λ u. u.starts) d.1 in
      let a = open_le (drop n xs) in
      let b = length-drop n xs in
      omega arith

  -- a row more
  pub drafted-put : (ys : Rows) (x : PlacedRow) (room : Bool) → ys ≡ xs ++ x ∷ [] → Ok tt ≡ judged t x room → Drafted n (tail_behind t x) ys
  unfolding tail_of open_in
  drafted-put ys x room e fine =
      let front : take n ys ≡ take n xs = ap (take n) e ∙ take-append-le n xs (x ∷ []) d.0 in
      let back : drop n ys ≡ drop n xs ++ x ∷ [] = ap (drop n) e ∙ drop-append-le n xs (x ∷ []) d.0 in
      let long : length ys ≡ length xs + 1 = ap length e ∙ length_push xs x in
      let shut : closes (open_in (drop n xs)) x ≡ true = ap (λ u. closes u.starts x) (sym d.1) ∙ accepted-closes t x room fine in
      let more : all_close 0 (drop n xs ++ x ∷ []) ≡ (all_close 0 (drop n xs) && (closes (open_in (drop n xs)) x && true)) = close_append 0 (drop n xs) (x ∷ []) in
      let all : T (all_close 0 (drop n xs ++ x ∷ [])) = (let h = d.2 in grind arith) in
      (omega (arith, d.0), ap (λ u. tail_behind u x) d.1 ∙ sym (tail_push (drop n xs) x) ∙ ap tail_of (sym back), subst (λ zs. T (all_close 0 zs)) (sym back) all, subst (λ zs. T (pairs zs)) (sym front) d.3)

  pub drafted_seal : (m : ℕ) → m ≡ length xs → t.starts ≡ 0 → Drafted m (tail_of []) xs
  unfolding tail_of
  drafted_seal m e shut =
      let none : drop m xs ≡ [] = drop_all m xs (omega arith) in
      let all : take m xs ≡ take n xs ++ drop n xs = take_all m xs (omega arith) ∙ sym (take-append-drop n xs) in
      let closed : open_in (drop n xs) ≡ 0 = sym (ap (λ u. u.starts) d.1) ∙ shut in
      (omega arith, ap tail_of (sym none), subst (λ zs. T (all_close 0 zs)) (sym none) tt, subst (λ zs. T (pairs zs)) (sym all) (pairs_append (take n xs) (drop n xs) d.3 d.2 closed))

  pub drafted-drop : (ys : Rows) → ys ≡ take n xs → Drafted n (tail_of []) ys
  drafted-drop ys e =
      let long : length ys ≡ n = ap length e ∙ length-take-le n xs d.0 in
      let none : drop n ys ≡ [] = drop_all n ys (omega arith) in
      let same : take n ys ≡ take n xs = take_all n ys (omega arith) ∙ e in
      (omega arith, ap tail_of (sym none), subst (λ zs. T (all_close 0 zs)) (sym none) tt, subst (λ zs. T (pairs zs)) (sym same) d.3)

  -- the same of what the sheet means
  module _ (capacity : ℕ) (cost : ℕ → ℕ) where
    cut-refusal : (x : PlacedRow) (room : Bool) → room ≡ leb (spent cost xs + cost_of cost x) capacity → put_refusal (cut n xs capacity cost) x ≡ tail_refusal t x room
    unfolding put_refusal tail_refusal tail_of has_room
    cut-refusal x room e =
        ap (λ s. refusal (follows (last_place (drop n xs)) (open_in (drop n xs)) x) (leb (s + cost_of cost x) capacity) x.place) (sym (spent_append cost (take n xs) (drop n xs)) ∙ ap (spent cost) (take-append-drop n xs))
        ∙ ap (λ b. refusal (follows (last_place (drop n xs)) (open_in (drop n xs)) x) b x.place) (sym e)
        ∙ ap (λ u. refusal (follows u.last u.starts x) room x.place) (sym d.1)

    abbrev Judged : PlacedRow → Bool → Result (Unit {0}) Refusal → Type 0
    Judged x room said = (room ≡ leb (spent cost xs + cost_of cost x) capacity) × (said ≡ judged t x room)

    -- the tail's judgement is the sheet's answer
    said_put : (x : PlacedRow) (room : Bool) (said : Result (Unit {0}) Refusal) → Judged x room said → said ≡ put_answer (cut n xs capacity cost) x
    unfolding put_answer
    said_put x room said j = j.1 ∙ ap (λ o. answer o tt) (sym (cut-refusal x room j.0))

    pub put-accepted : (x : PlacedRow) (room : Bool) (ys : Rows) → Judged x room (Ok tt) → ys ≡ xs ++ x ∷ [] → (Ok tt ≡ put_answer (cut n xs capacity cost) x) × (cut n ys capacity cost ≡ after_put (cut n xs capacity cost) x)
    unfolding after_put
    put-accepted x room ys j more = (
      said_put x room (Ok tt) j,
      ap (λ zs. cut n zs capacity cost) more
          ∙ ap (λ zs. model zs (drop n (xs ++ x ∷ [])) capacity cost) (take-append-le n xs (x ∷ []) d.0)
          ∙ ap (λ zs. model (take n xs) zs capacity cost) (drop-append-le n xs (x ∷ []) d.0)
          ∙ ap (λ o. unless o (model (take n xs) (drop n xs ++ x ∷ []) capacity cost) (cut n xs capacity cost)) (sym (cut-refusal x room j.0 ∙ accepted (tail_refusal t x room) j.1)),
    )

    pub put_refused : (x : PlacedRow) (room : Bool) (r : Refusal) → Judged x room (Err r) → (Err r ≡ put_answer (cut n xs capacity cost) x) × (cut n xs capacity cost ≡ after_put (cut n xs capacity cost) x)
    unfolding after_put
    put_refused x room r j = (
      said_put x room (Err r) j,
      ap (λ o. unless o (model (take n xs) (drop n xs ++ x ∷ []) capacity cost) (cut n xs capacity cost)) (sym (cut-refusal x room j.0 ∙ refused (tail_refusal t x room) r j.1)),
    )

    cut_starts : open_in (drop n xs) ≡ t.starts
    unfolding tail_of
    cut_starts = sym (ap (λ u. u.starts) d.1)

    pub seal_accepted : (m k : ℕ) → m ≡ length xs → k ≡ length xs - n → t.starts ≡ 0 → (Ok k ≡ seal_answer (cut n xs capacity cost)) × (cut m xs capacity cost ≡ after_seal (cut n xs capacity cost))
    unfolding seal_answer after_seal
    seal_accepted m k e count shut = (
      ap Ok (count ∙ sym (length-drop n xs)) ∙ ap (λ s. answer (open_refusal s) (length (drop n xs))) (sym (cut_starts ∙ shut)),
      ap (λ zs. model zs (drop m xs) capacity cost) (take_all m xs (omega arith) ∙ sym (take-append-drop n xs))
          ∙ ap (λ zs. model (take n xs ++ drop n xs) zs capacity cost) (drop_all m xs (omega arith))
          ∙ ap (λ s. unless (open_refusal s) (model (take n xs ++ drop n xs) [] capacity cost) (cut n xs capacity cost)) (sym (cut_starts ∙ shut)),
    )

    pub seal_refused : eqb t.starts 0 ≡ false → (Err NotForSheet ≡ seal_answer (cut n xs capacity cost)) × (cut n xs capacity cost ≡ after_seal (cut n xs capacity cost))
    unfolding seal_answer after_seal
    seal_refused ajar =
        let still : eqb (open_in (drop n xs)) 0 ≡ false = ap (λ s. eqb s 0) cut_starts ∙ ajar in (
          ap (λ b. answer (cond b None (Some NotForSheet)) (length (drop n xs))) (sym still),
          ap (λ b. unless (cond b None (Some NotForSheet)) (model (take n xs ++ drop n xs) [] capacity cost) (cut n xs capacity cost)) (sym still),
        )

    pub dropped : (ys : Rows) → ys ≡ take n xs → cut n ys capacity cost ≡ after_drop (cut n xs capacity cost)
    unfolding after_drop
    dropped ys e =
        let long : length ys ≡ n = ap length e ∙ length-take-le n xs d.0 in
        ap (λ zs. model zs (drop n ys) capacity cost) (take_all n ys (omega arith) ∙ e)
        ∙ ap (λ zs. model (take n xs) zs capacity cost) (drop_all n ys (omega arith))
