-- What the calls on an open record come to, where the draft is the record's.
use Rattle.std.proofs.Common.{◌≡◌, ℕ, ◌≤◌, Bool, true, false, ◌⊎◌, List, [], ◌∷◌, ◌++◌, length, Some, None, Err, fold, Option, sym, refl, ap, ◌∙◌, subst, inl, inr, arith, rules}
use mathlib.Core.List.{reverse_aux}
use Rattle.std.proofs.lemmas.Bool.{ne_eqb}
use Rattle.record.specs.declared.row.Row.{Row}
use Rattle.record.specs.declared.row.PlacedRow.{PlacedRow}
use Rattle.record.specs.declared.refusal.Cause.{Cause}
use Rattle.record.specs.declared.refusal.Refusal.{Refusal}
use Rattle.record.specs.declared.refusal.Refusal.TheVariants.{OutOfOrder}
use Rattle.record.specs.Refusals.{numbered}
use Rattle.knowledge.specs.Understood.{Knows}
use Rattle.card.specs.Cards.{Name}
use Rattle.sheet.specs.Rows.{open_behind, open_in, last_place}
use Rattle.sheet.specs.Sheets.{Model, model, answer, unless, open_refusal, seal_answer, after_seal, after_drop}
use Rattle.rules.specs.Elements.{Attr, Token, tag, text, end, tokens}
use Rattle.rules.specs.Scope.{Scope}
use Rattle.rules.specs.Steps.{kept_rows}
use Rattle.rules.specs.Mismatches.{mark, attr_marks, element_marks, marks_of, mismatches}
use Rattle.rules.specs.Faults.{first, faults}
use Rattle.rules.specs.Order.{has_ended, row_faults, Accepted}
use Rattle.rules.specs.Records.{judged, draft}
use Rattle.rules.proofs.Members.{Every, every_none, every_append, every_fault}
use Rattle.rules.proofs.Whole.{first-none, all_judged}
use Rattle.rules.proofs.Stable.{what_a_row_lets_be_judged}
use Rattle.rules.proofs.Pairs.{kept_rows_pair}
use Rattle.calls.specs.declared.answer.Answer.TheVariants.{Done, Added, Refused}
use Rattle.calls.specs.Calls.{Taken, Begun, begun, with_row, tokens_of, idle, active, spoilt, Out, out, Put, fresh, row_put, handed_back, is_of_sheet, row_judged, row_tried, row_on, finish_sealed, finish_marked, finish_ended, finish_on, or_abandoned, rows_on}
use Rattle.calls.specs.Book.{kept_in}
use Rattle.calls.proofs.Fits.{Fit, FitIn, fit_behind, fit_anywhere, FirstCannot, behind, open_folded}
use Rattle.calls.proofs.Judging.{Spoils, first_in, TokensEnd, tokens-end, tokens-stop}
use Rattle.calls.proofs.Drafts.{adds, draft_of, draft-more, adds-fits, adds-formed, adds_rises, adds-loose}

-- the record is open: the draft is its own, nothing judged is refused, and its rows were accepted
pub record Open (b : Begun) (m : Model) : Type 0 where
  pub drafted : m.draft ≡ draft b.taken.texts b.taken.knows b.taken.extensions b.rows
  pub faultless : faults b.taken.knows b.taken.extensions (judged (tokens_of b)) ≡ []
  pub accepted : Accepted b.taken.texts b.rows

abbrev pub faults_at : Begun → Row → List Refusal
faults_at b r = row_faults b.taken.texts b.rows r

abbrev pub marks_in : Begun → List Refusal
marks_in b = mismatches b.taken.knows b.taken.extensions (tokens_of b)

pub not_of_sheet : (e : Refusal) → Spoils e → is_of_sheet e ≡ false
not_of_sheet e s = ne_eqb (numbered e).number 23 (λ q. let k = s.1 in omega arith)

-- Numbers of refusals.

-- 9 to 12, of a row before it is judged
abbrev pub Early : Refusal → Type 0
Early e = (9 ≤ (numbered e).number) × ((numbered e).number ≤ 12)

all_early : (b : Begun) (r : Row) → Every Early (faults_at b r)
unfolding row_faults
all_early b r = search (rules, every_append, every_fault)

pub row-numbered : (b : Begun) (r : Row) (e : Refusal) → first (faults_at b r) ≡ Some e → Early e
row-numbered b r e q = (all_early b r).at e (first_in e _ q)

-- 22, of a mismatch
abbrev Mismatched : Refusal → Type 0
Mismatched e = (numbered e).number ≡ 22

one-mark : (b : Bool) (p : ℕ) (c : Cause) → Every Mismatched (mark b p c)
unfolding mark
one-mark b p c = grind arith

attrs-numbered : (K : Knows) (h k : Bool) (s : Scope) (xs : List Attr) → Every Mismatched (attr_marks K h k s xs)
unfolding attr_marks
attrs-numbered K h k s [] = every_none
attrs-numbered K h k s (x ∷ xs) = let i = attrs-numbered K h k s xs in search (rules, every_append, one-mark)

token_numbered : (K : Knows) (ext : List Name) (t : Token) (past : List Token) → Every Mismatched (marks_of K ext t past)
unfolding marks_of element_marks
token_numbered K ext (tag t) past = search (rules, every_append, one-mark, attrs-numbered)
token_numbered K ext (text x) past = every_none
token_numbered K ext (end x) past = every_none

marks-numbered : (K : Knows) (ext : List Name) (toks : List Token) → Every Mismatched (mismatches K ext toks)
unfolding mismatches
marks-numbered K ext [] = every_none
marks-numbered K ext (t ∷ past) = every_append (marks-numbered K ext past) (token_numbered K ext t past)

pub mark-numbered : (b : Begun) (e : Refusal) → first (marks_in b) ≡ Some e → (numbered e).number ≡ 22
mark-numbered b e q =
    (marks-numbered b.taken.knows b.taken.extensions (tokens_of b)).at e (first_in e _ q)

-- A row.

-- it is refused with 9 to 12; or accepted; or refused with 13 to 21, which spoils the record
abbrev pub RowCase : Begun → Row → Model → Out → Type 0
RowCase b r m o =
    ((e : Refusal) × (first (faults_at b r) ≡ Some e) × (o ≡ out (active b) m (Refused e)))
    ⊎ ((faults_at b r ≡ []) × ((Open (with_row r b) (behind m (adds b r)) × (o ≡ out (active (with_row r b)) (behind m (adds b r)) Done))
    ⊎ ((e : Refusal) × Spoils e × (o ≡ out (spoilt b) (after_drop m) (Refused e)) × ((row_put b r m).answer ≡ Err e))))

module _ (b : Begun) (r : Row) (m : Model) where
  abbrev Ends : Put → Type 0
  Ends p = TokensEnd b.taken p m (fresh b r) (judged (tokens_of b))

  pub adds_in : Open b m → faults_at b r ≡ [] → FitIn m (adds b r)
  adds_in o f =
      fit_behind m (adds b r)
      (subst (λ d. Fit None 0 (d ++ adds b r)) (sym o.drafted) (unfold draft_of in adds-fits b r (f, o.accepted)))

  grown_open : Open b m → faults_at b r ≡ [] → faults b.taken.knows b.taken.extensions (fresh b r ++ judged (tokens_of b)) ≡ []
      → Open (with_row r b) (behind m (adds b r))
  grown_open o f g =
      record {
        drafted = ap (λ d. d ++ adds b r) o.drafted ∙ (unfold draft_of in sym (draft-more b r));
        faultless = ap (faults b.taken.knows b.taken.extensions) (what_a_row_lets_be_judged b.taken.texts r b.rows) ∙ g;
        accepted = (f, o.accepted);
      }

  judged_case : Open b m → faults_at b r ≡ [] → Ends (row_put b r m)
      → RowCase b r m (row_judged (row_put b r m).answer r b (row_put b r m).sheet)
  judged_case o f (inl h) =
      let s : (row_put b r m).sheet ≡ behind m (adds b r) = unfold adds in h.1 in
      inr (
        f,
        inl (
          grown_open o f (h.2 o.faultless),
          ap (λ a. row_judged a r b (row_put b r m).sheet) h.0 ∙ ap (λ n. out (active (with_row r b)) n Done) s,
        ),
      )
  judged_case o f (inr h) =
      let s : Spoils h.0 = h.4 (unfold adds in adds_in o f) in
      inr (
        f,
        inr (
          h.0,
          s,
          ap (λ a. row_judged a r b (row_put b r m).sheet) h.1 ∙ ap (λ x. handed_back x h.0 b (row_put b r m).sheet) (not_of_sheet h.0 s)
              ∙ ap (λ n. out (spoilt b) n (Refused h.0)) h.2,
          h.1,
        ),
      )

  tried_case : Open b m → (x : Option Refusal) → first (faults_at b r) ≡ x → RowCase b r m (row_tried x r b m)
  tried_case o (Some e) q = inl (e, q, refl)
  tried_case o None q = judged_case o (first-none _ q) (tokens-end b.taken m (fresh b r) (judged (tokens_of b)))

  pub row_case : Open b m → RowCase b r m (row_on (active b) r m)
  unfolding row_on
  row_case o = tried_case o (first (faults_at b r)) refl

  -- A sheet that others wrote to: where a row call hands back 23, nothing was put.
  pub others-sheet : Accepted b.taken.texts (r ∷ b.rows) → (e : Refusal) → (row_put b r m).answer ≡ Err e → (numbered e).number ≡ 23
      → (row_put b r m).sheet ≡ m
  others-sheet w e a n =
      let k = adds_rises b r w in
      go (fit_anywhere (last_place m.draft) (open_in m.draft) k.0 (adds b r) k.1 (adds-formed b r w) (adds-loose b r))
      (tokens-end b.taken m (fresh b r) (judged (tokens_of b)))
    where
      go : FitIn m (adds b r) ⊎ FirstCannot (last_place m.draft) (open_in m.draft) (adds b r) → Ends (row_put b r m) → (row_put b r m).sheet ≡ m
      go (inr f) h = unfold adds in (tokens-stop b.taken m (fresh b r) (judged (tokens_of b)) f).1
      go (inl f) (inl h) = absurd (cc)
      go (inl f) (inr h) =
          let s = h.4 (unfold adds in f) in
          let d : h.0 ≡ e = cc in
          let q = ap (λ d. (numbered d).number) d in
          let l = s.1 in absurd (omega arith)

-- Finish.

-- what a record that is sealed has
pub record Sealable (b : Begun) : Type 0 where
  pub ended : has_ended (tokens_of b) ≡ true
  pub matched : marks_in b ≡ []
  pub faultless : faults b.taken.knows b.taken.extensions (tokens_of b) ≡ []
  pub accepted : Accepted b.taken.texts b.rows

abbrev pub with_sealed : Model → List PlacedRow → Model
with_sealed m rows = model (m.sealed ++ rows) [] m.capacity m.cost

-- it is refused with 10; or with 22; or seals the record's kept rows
abbrev pub FinishCase : Begun → Model → Out → Type 0
FinishCase b m o =
    ((has_ended (tokens_of b) ≡ false) × (o ≡ out (active b) m (Refused (OutOfOrder (length b.rows)))))
    ⊎ ((e : Refusal) × (has_ended (tokens_of b) ≡ true) × ((numbered e).number ≡ 22) × (o ≡ out idle (after_drop m) (Refused e))
    × (first (marks_in b) ≡ Some e))
    ⊎ (Sealable b × (o ≡ out idle (with_sealed m (kept_in b)) (Added (length (kept_in b)))))

module _ (b : Begun) (m : Model) (o : Open b m) where
  whole-draft : has_ended (tokens_of b) ≡ true → m.draft ≡ kept_in b
  unfolding draft
  whole-draft e = o.drafted ∙ ap (λ toks. kept_rows b.taken.knows b.taken.extensions toks) (all_judged (tokens_of b) e)

  none_open : has_ended (tokens_of b) ≡ true → open_in m.draft ≡ 0
  unfolding open_in
  none_open e =
      ap (fold open_behind 0) (whole-draft e)
      ∙ open_folded 0 0 (kept_in b) ((kept_rows_pair b.taken.texts b.taken.knows b.taken.extensions b.rows).1 e)

  sealed_case : has_ended (tokens_of b) ≡ true → marks_in b ≡ [] → FinishCase b m (finish_sealed (seal_answer m) b (after_seal m))
  unfolding seal_answer after_seal
  sealed_case e q =
      inr (inr (
        record { ended = e; matched = q; faultless = ap (faults b.taken.knows b.taken.extensions) (sym (all_judged (tokens_of b) e)) ∙ o.faultless; accepted = o.accepted },
        ap (λ n. finish_sealed (answer (open_refusal n) (length m.draft)) b (unless (open_refusal n) (model (m.sealed ++ m.draft) [] m.capacity m.cost) m)) (none_open e)
            ∙ ap (λ d. out idle (model (m.sealed ++ d) [] m.capacity m.cost) (Added (length d))) (whole-draft e),
      ))

  marked_case : has_ended (tokens_of b) ≡ true → (x : Option Refusal) → first (marks_in b) ≡ x → FinishCase b m (finish_marked x b m)
  marked_case e (Some r) q = inr (inl (r, e, mark-numbered b r q, refl, q))
  marked_case e None q = sealed_case e (first-none _ q)

  ended_case : (x : Bool) → has_ended (tokens_of b) ≡ x → FinishCase b m (finish_ended x b m)
  ended_case false q = inl (q, refl)
  ended_case true q = marked_case q (first (marks_in b)) refl

  pub finish_case : FinishCase b m (finish_on (active b) m)
  unfolding finish_on
  finish_case = ended_case (has_ended (tokens_of b)) refl

-- The rows of a file, behind those that are there, and finish: refused, with another number than 23, or sealed.

abbrev pub RestCase : Begun → Model → Out → Type 0
RestCase b m o =
    ((e : Refusal) × ((numbered e).number ≤ 22) × (o ≡ out idle (after_drop m) (Refused e)))
    ⊎ (Sealable b × (o ≡ out idle (with_sealed m (kept_in b)) (Added (length (kept_in b)))))

rest-none : (b : Begun) (m : Model) (o : Out) → FinishCase b m o → RestCase b m (or_abandoned o.answer o.sheet o)
unfolding after_drop
rest-none b m o h = grind arith

-- a record with more rows, the first first
abbrev pub with_rows : List Row → Begun → Begun
with_rows rows b = begun b.taken (reverse_aux rows b.rows)

rest_more : (r : Row) (rows : List Row) (b : Begun) (m : Model) (o : Out) → RowCase b r m o
    → ((n : Model) → Open (with_row r b) n → RestCase (with_rows rows (with_row r b)) n (rows_on rows (active (with_row r b)) n))
    → RestCase (with_rows (r ∷ rows) b) m (or_abandoned o.answer o.sheet (rows_on rows o.reading o.sheet))
unfolding after_drop
rest_more r rows b m o (inl h) next =
    let n = (row-numbered b r h.0 h.1).1 in
    inl (h.0, omega arith, ap (λ (x : Out). or_abandoned x.answer x.sheet (rows_on rows x.reading x.sheet)) h.2)
rest_more r rows b m o (inr (f, inl h)) next =
    subst (λ (x : Out). RestCase (with_rows (r ∷ rows) b) m (or_abandoned x.answer x.sheet (rows_on rows x.reading x.sheet))) (sym h.1)
    (next (behind m (adds b r)) h.0)
rest_more r rows b m o (inr (f, inr h)) next =
    let n = h.1.1 in
    inl (h.0, omega arith, ap (λ (x : Out). or_abandoned x.answer x.sheet (rows_on rows x.reading x.sheet)) h.2)

pub rest_case : (rows : List Row) (b : Begun) (m : Model) → Open b m → RestCase (with_rows rows b) m (rows_on rows (active b) m)
unfolding rows_on
rest_case [] b m o = rest-none b m (finish_on (active b) m) (finish_case b m o)
rest_case (r ∷ rows) b m o = rest_more r rows b m (row_on (active b) r m) (row_case b r m o) (λ n k. rest_case rows (with_row r b) n k)

-- a record with no rows
pub open_empty : (t : Taken) (m : Model) → m.draft ≡ [] → Open (begun t []) m
unfolding draft tokens judged kept_rows faults
open_empty t m e = record { drafted = e; faultless = refl; accepted = tt }
