-- A record comes out of file as the rules say, where there is room.
use Rattle.std.proofs.Common.{◌≡◌, ℕ, ◌+◌, ◌≤◌, true, cond, ◌⊎◌, List, [], ◌∷◌, ◌++◌, reverse, length, Some, None, Ok, Err, Option, Result, sym, refl, ap, ◌∙◌, subst, ap₂, inl, inr, arith}
use mathlib.Core.List.{reverse_aux, reverse_aux-eq}
use Rattle.std.proofs.lemmas.Bool.{le-leb}
use Rattle.std.specs.Option.{option_or}
use Rattle.text.specs.Bytes.{Bytes}
use Rattle.record.specs.declared.row.Row.{Row}
use Rattle.record.specs.declared.row.PlacedRow.{PlacedRow}
use Rattle.record.specs.declared.refusal.Refusal.{Refusal}
use Rattle.record.specs.declared.refusal.Refusal.TheVariants.{OutOfOrder}
use Rattle.knowledge.specs.Understood.{Knows}
use Rattle.card.specs.Cards.{Name}
use Rattle.sheet.specs.Rows.{last_place, open_in, spent}
use Rattle.sheet.specs.Sheets.{Model, follows, has_room, refusal as put_refused, answer, unless, put_refusal, put_answer, after_put, then_rows, all_answer, after_drop}
use Rattle.sheet.proofs.Pairs.{spent_append}
use Rattle.rules.specs.Elements.{Token, tokens}
use Rattle.rules.specs.Steps.{kept_of, kept_rows}
use Rattle.rules.specs.Faults.{first, faults_of, faults}
use Rattle.rules.specs.Lists.{Sub, none, skip, same}
use Rattle.rules.specs.Records.{judged, Sealed, sealing, or_refused, draft, refusal, finished, outcome}
use Rattle.rules.proofs.Stable.{what_a_row_lets_be_judged, what_was_decided_stays}
use Rattle.calls.specs.declared.answer.Answer.TheVariants.{Done, Refused}
use Rattle.calls.specs.Calls.{Taken, taken, Begun, begun, with_row, tokens_of, active, spoilt, Out, out, Put, put_unless, then_put, token_put, tokens_put, fresh, row_put, row_on, finish_on, or_abandoned, rows_on, file_opened, file_on, step}
use Rattle.calls.specs.Book.{kept_in}
use Rattle.rules.specs.Order.{has_ended, row_faults}
use Rattle.calls.specs.Promises.{came_out, HasRoomFor, RecordsComeOut}
use Rattle.calls.proofs.Fits.{FitIn, fit_left, fit_again, behind}
use Rattle.calls.proofs.Judging.{newly, TokensEnd, tokens-end}
use Rattle.calls.proofs.Drafts.{judged-part, adds, draft_of, draft-more}
use Rattle.calls.proofs.Cases.{Open, faults_at, marks_in, adds_in, RowCase, row_case, FinishCase, finish_case, with_rows, open_empty}

-- Rows that fit and for which there is room are put.

abbrev Roomy : Model → List PlacedRow → Type 0
Roomy m xs = spent m.cost m.sealed + spent m.cost m.draft + spent m.cost xs ≤ m.capacity

roomy-left : (m : Model) (xs ys : List PlacedRow) → Roomy m (xs ++ ys) → Roomy m xs
roomy-left m xs ys h = let k = spent_append m.cost xs ys in omega arith

roomy_again : (m : Model) (xs ys : List PlacedRow) → Roomy m (xs ++ ys) → Roomy (behind m xs) ys
roomy_again m xs ys h = let k = spent_append m.cost xs ys in let l = spent_append m.cost m.draft xs in omega arith

put-fits : (m : Model) (x : PlacedRow) → follows (last_place m.draft) (open_in m.draft) x ≡ true → has_room m x ≡ true
    → (put_answer m x ≡ Ok tt) × (after_put m x ≡ behind m (x ∷ []))
unfolding put_answer after_put put_refusal
put-fits m x f r =
    let e : put_refused (follows (last_place m.draft) (open_in m.draft) x) (has_room m x) x.place ≡ None = ap₂ (λ a b. put_refused a b x.place) f r in
    (ap (λ o. answer o tt) e, ap (λ o. unless o (behind m (x ∷ [])) m) e)

all_put : (m : Model) (xs : List PlacedRow) → FitIn m xs → Roomy m xs → all_answer m xs ≡ Ok tt
unfolding all_answer
all_put m [] f r = refl
all_put m (x ∷ xs) f r =
    let room : has_room m x ≡ true = unfold has_room in le-leb _ _ (omega arith) in
    let p = put-fits m x f.0 room in
    ap₂ (λ a n. then_rows a (all_answer n xs)) p.0 p.1
    ∙ all_put (behind m (x ∷ [])) xs (fit_again m (x ∷ []) xs f) (roomy_again m (x ∷ []) xs r)

-- Of tokens that fit and for which there is room, the first refusal is the rules'.

first-left : (e : Refusal) (a b : List Refusal) → first a ≡ Some e → first (a ++ b) ≡ Some e
first-left e [] b h = absurd (cc)
first-left e (x ∷ a) b h = h

module _ (t : Taken) where
  abbrev all_faults : List Token → List Refusal
  all_faults toks = faults t.knows t.extensions toks

  one-first : (m : Model) (x : Token) (past : List Token) → FitIn m (kept_of t.knows t.extensions x past)
      → Roomy m (kept_of t.knows t.extensions x past) → (e : Refusal) → (token_put t m x past).answer ≡ Err e
      → first (faults_of t.knows t.extensions x past) ≡ Some e
  unfolding token_put
  one-first m x past f r e a = go (first (faults_of t.knows t.extensions x past)) a
    where
      go : (o : Option Refusal) → (put_unless o m (kept_of t.knows t.extensions x past)).answer ≡ Err e → o ≡ Some e
      go (Some d) q = cc
      go None q = let p = all_put m _ f r in absurd (cc)

  pub tokens-first : (m : Model) (new past : List Token) → FitIn m (newly t new past) → Roomy m (newly t new past) → all_faults past ≡ []
      → (e : Refusal) → (tokens_put t m new past).answer ≡ Err e → first (all_faults (new ++ past)) ≡ Some e
  unfolding tokens_put newly faults
  tokens-first m [] past f r g e a = absurd (cc)
  tokens-first m (x ∷ xs) past f r g e a =
      go (tokens_put t m xs past) (tokens-end t m xs past)
      (tokens-first m xs past (fit_left _ _ (newly t xs past) kept f) (roomy-left m (newly t xs past) kept r) g)
      a
    where
      kept : List PlacedRow
      kept = kept_of t.knows t.extensions x (xs ++ past)

      go : (here : Put) → TokensEnd t here m xs past → ((d : Refusal) → here.answer ≡ Err d → first (all_faults (xs ++ past)) ≡ Some d)
          → (then_put here.answer here (token_put t here.sheet x (xs ++ past))).answer ≡ Err e
          → first (all_faults (x ∷ (xs ++ past))) ≡ Some e
      go here (inr h) k q =
          let b : here.answer ≡ Err e = sym (ap (λ a. (then_put a here (token_put t here.sheet x (xs ++ past))).answer) h.1) ∙ q in
          first-left e (all_faults (xs ++ past)) _ (k e b)
      go here (inl h) k q =
          let b : (token_put t here.sheet x (xs ++ past)).answer ≡ Err e =
          sym (ap (λ a. (then_put a here (token_put t here.sheet x (xs ++ past))).answer) h.0) ∙ q in
          ap (λ l. first (l ++ faults_of t.knows t.extensions x (xs ++ past))) (h.2 g)
          ∙ one-first here.sheet x (xs ++ past) (subst (λ n. FitIn n kept) (sym h.1) (fit_again m (newly t xs past) kept f))
          (subst (λ n. Roomy n kept) (sym h.1) (roomy_again m (newly t xs past) kept r)) e b

-- The kept rows of more rows cost no less.

spent_sub : (cost : ℕ → ℕ) {xs ys : List PlacedRow} → Sub PlacedRow xs ys → spent cost xs ≤ spent cost ys
spent_sub cost none = omega arith
spent_sub cost (skip s) = let h = spent_sub cost s in omega arith
spent_sub cost (same s) = let h = spent_sub cost s in omega arith

-- A row.

abbrev refusal_of : Begun → Option Refusal
refusal_of b = refusal b.taken.texts b.taken.knows b.taken.extensions b.rows

abbrev RowOut : Begun → Row → Model → Out → Type 0
RowOut b r m o =
    ((e : Refusal) × (refusal_of (with_row r b) ≡ Some e) × ((o ≡ out (active b) m (Refused e)) ⊎ (o ≡ out (spoilt b) (after_drop m) (Refused e))))
    ⊎ ((refusal_of (with_row r b) ≡ None) × Open (with_row r b) (behind m (adds b r)) × (o ≡ out (active (with_row r b)) (behind m (adds b r)) Done))

module _ (b : Begun) (r : Row) (m : Model) (o : Open b m) (q : refusal_of b ≡ None) where
  abbrev fresh_faults : List Refusal
  fresh_faults = faults b.taken.knows b.taken.extensions (judged (tokens b.taken.texts (r ∷ b.rows)))

  refusal_is : refusal_of (with_row r b) ≡ option_or (first (faults_at b r)) (first fresh_faults)
  unfolding refusal
  refusal_is = ap (λ x. option_or x (option_or (first (faults_at b r)) (first fresh_faults))) q

  fresh-first : faults_at b r ≡ [] → Roomy m (adds b r) → (e : Refusal) → (row_put b r m).answer ≡ Err e → first fresh_faults ≡ Some e
  unfolding adds
  fresh-first f room e a =
      ap (λ l. first (faults b.taken.knows b.taken.extensions l)) (what_a_row_lets_be_judged b.taken.texts r b.rows)
      ∙ tokens-first b.taken m (fresh b r) (judged (tokens_of b)) (adds_in b r m o f) room o.faultless e a

  row_out : Roomy m (adds b r) → RowOut b r m (row_on (active b) r m)
  row_out room = go (row_case b r m o)
    where
      go : RowCase b r m (row_on (active b) r m) → RowOut b r m (row_on (active b) r m)
      go (inl x) = inl (x.0, refusal_is ∙ ap (λ y. option_or y (first fresh_faults)) x.1, inl x.2)
      go (inr (f, inl x)) =
          inr (refusal_is ∙ ap₂ (λ y z. option_or (first y) (first z)) f x.0.faultless, x.0, x.1)
      go (inr (f, inr x)) =
          inl (x.0, refusal_is ∙ ap (λ y. option_or (first y) (first fresh_faults)) f ∙ fresh-first f room x.0 x.3, inr x.2)

-- Finish.

abbrev outcome_of : Begun → Result Sealed Refusal
outcome_of b = or_refused (refusal_of b) (finished b.taken.texts b.taken.knows b.taken.extensions b.rows)

outcome-is : (b : Begun) → refusal_of b ≡ None
    → outcome_of b
    ≡ cond (has_ended (tokens_of b)) (or_refused (first (marks_in b)) (Ok (sealing (kept_in b)))) (Err (OutOfOrder (length b.rows)))
unfolding or_refused finished
outcome-is b q = ap (λ x. or_refused x (finished b.taken.texts b.taken.knows b.taken.extensions b.rows)) q

finish-out : (b : Begun) (m : Model) → refusal_of b ≡ None → (o : Out) → FinishCase b m o
    → or_abandoned o.answer o.sheet o ≡ came_out (outcome_of b) m
unfolding after_drop or_refused sealing
finish-out b m q o (inl x) =
    ap (λ (o : Out). or_abandoned o.answer o.sheet o) x.1
    ∙ sym (ap (λ y. came_out y m) (outcome-is b q
    ∙ ap (λ y. cond y (or_refused (first (marks_in b)) (Ok (sealing (kept_in b)))) (Err (OutOfOrder (length b.rows)))) x.0))
finish-out b m q o (inr (inl x)) =
    ap (λ (o : Out). or_abandoned o.answer o.sheet o) x.3
    ∙ sym (ap (λ y. came_out y m) (outcome-is b q
    ∙ ap₂ (λ y z. cond y (or_refused z (Ok (sealing (kept_in b)))) (Err (OutOfOrder (length b.rows)))) x.1 x.4))
finish-out b m q o (inr (inr x)) =
    ap (λ (o : Out). or_abandoned o.answer o.sheet o) x.1
    ∙ sym (ap (λ y. came_out y m) (outcome-is b q
    ∙ ap₂ (λ y z. cond y (or_refused (first z) (Ok (sealing (kept_in b)))) (Err (OutOfOrder (length b.rows)))) x.0.ended x.0.matched))

-- The rest of the rows.

-- a refusal stays the first
refusal-stays : (texts : List Bytes) (K : Knows) (ext : List Name) (later rows : List Row) (e : Refusal) → refusal texts K ext rows ≡ Some e
    → refusal texts K ext (reverse_aux later rows) ≡ Some e
unfolding refusal
refusal-stays texts K ext [] rows e h = h
refusal-stays texts K ext (r ∷ later) rows e h =
    refusal-stays texts K ext later (r ∷ rows) e
    (ap (λ x. option_or x (option_or (first (row_faults texts rows r)) (first (faults K ext (judged (tokens texts (r ∷ rows))))))) h)

refused-out : (later : List Row) (b : Begun) (e : Refusal) → refusal_of b ≡ Some e → outcome_of (with_rows later b) ≡ Err e
unfolding or_refused
refused-out later b e h =
    ap (λ x. or_refused x (finished b.taken.texts b.taken.knows b.taken.extensions (reverse_aux later b.rows))) (refusal-stays b.taken.texts b.taken.knows b.taken.extensions later b.rows e h)

same_out : (x : Result Sealed Refusal) (m : Model) (xs : List PlacedRow) → came_out x (behind m xs) ≡ came_out x m
unfolding after_drop
same_out (Ok s) m xs = refl
same_out (Err e) m xs = refl

draft-cost : (cost : ℕ → ℕ) (texts : List Bytes) (K : Knows) (ext : List Name) (later rows : List Row)
    → spent cost (draft texts K ext rows) ≤ spent cost (kept_rows K ext (tokens texts (reverse_aux later rows)))
draft-cost cost texts K ext later rows =
    let d = what_was_decided_stays texts K ext (reverse later) rows in
    let a : spent cost (draft texts K ext (reverse later ++ rows)) ≡ spent cost (draft texts K ext rows) + spent cost d.0 =
    ap (spent cost) d.1 ∙ spent_append cost (draft texts K ext rows) d.0 in
    let b : spent cost (draft texts K ext (reverse later ++ rows)) ≤ spent cost (kept_rows K ext (tokens texts (reverse later ++ rows))) =
    unfold draft in spent_sub cost (judged-part K ext (tokens texts (reverse later ++ rows))) in
    subst (λ l. spent cost (draft texts K ext rows) ≤ spent cost (kept_rows K ext (tokens texts l))) (sym (reverse_aux-eq later rows)) (omega arith)

adds-room : (later : List Row) (b : Begun) (r : Row) (m : Model) → Open b m → HasRoomFor (kept_in (with_rows (r ∷ later) b)) m → Roomy m (adds b r)
unfolding draft_of
adds-room later b r m o h =
    let c = draft-cost m.cost b.taken.texts b.taken.knows b.taken.extensions later (r ∷ b.rows) in
    let e : spent m.cost (draft b.taken.texts b.taken.knows b.taken.extensions (r ∷ b.rows)) ≡ spent m.cost m.draft + spent m.cost (adds b r) =
    ap (spent m.cost) (draft-more b r ∙ ap (λ d. d ++ adds b r) (sym o.drafted)) ∙ spent_append m.cost m.draft (adds b r) in
    omega arith

rest_out : (rows : List Row) (b : Begun) (m : Model) → Open b m → refusal_of b ≡ None → HasRoomFor (kept_in (with_rows rows b)) m
    → rows_on rows (active b) m ≡ came_out (outcome_of (with_rows rows b)) m
unfolding rows_on after_drop
rest_out [] b m o q h = finish-out b m q (finish_on (active b) m) (finish_case b m o)
rest_out (r ∷ rows) b m o q h =
    go (row_on (active b) r m) (row_out b r m o q (adds-room rows b r m o h)) (λ n k p. rest_out rows (with_row r b) n k p)
  where
    go : (x : Out) → RowOut b r m x
        → ((n : Model) → Open (with_row r b) n → refusal_of (with_row r b) ≡ None → HasRoomFor (kept_in (with_rows rows (with_row r b))) n
        → rows_on rows (active (with_row r b)) n ≡ came_out (outcome_of (with_rows rows (with_row r b))) n)
        → or_abandoned x.answer x.sheet (rows_on rows x.reading x.sheet) ≡ came_out (outcome_of (with_rows (r ∷ rows) b)) m
    go x (inl (e, p, inl k)) next =
        ap (λ (x : Out). or_abandoned x.answer x.sheet (rows_on rows x.reading x.sheet)) k
        ∙ sym (ap (λ y. came_out y m) (refused-out rows (with_row r b) e p))
    go x (inl (e, p, inr k)) next =
        ap (λ (x : Out). or_abandoned x.answer x.sheet (rows_on rows x.reading x.sheet)) k
        ∙ sym (ap (λ y. came_out y m) (refused-out rows (with_row r b) e p))
    go x (inr k) next =
        ap (λ (x : Out). or_abandoned x.answer x.sheet (rows_on rows x.reading x.sheet)) k.2
        ∙ next (behind m (adds b r)) k.1 k.0 h ∙ same_out (outcome_of (with_rows (r ∷ rows) b)) m (adds b r)

pub records_come_out : RecordsComeOut
unfolding step file_on outcome refusal
records_come_out bytes K ext m contents e d h =
    ap (λ c. file_opened c K ext m) e
    ∙ rest_out contents.rows (begun (taken contents.texts K ext) []) m (open_empty (taken contents.texts K ext) m d) refl h
