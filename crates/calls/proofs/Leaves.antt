-- What a refusal leaves.
use Rattle.std.proofs.Common.{◌≡◌, ℕ, ◌≤◌, Bool, true, false, cond, eqb, ◌⊎◌, List, [], ◌++◌, length, Some, None, Option, sym, refl, ap, ◌∙◌, subst, inl, inr, arith}
use Rattle.std.proofs.lemmas.Bool.{eq-eqb}
use Rattle.text.specs.Bytes.{Bytes}
use Rattle.record.specs.declared.row.Row.{Row}
use Rattle.record.specs.declared.refusal.Refusal.{Refusal}
use Rattle.record.specs.declared.refusal.Refusal.TheVariants.{OutOfTurn, Spoilt, OutOfOrder, NotForSheet}
use Rattle.record.specs.Refusals.{numbered}
use Rattle.file.specs.Form.{opened}
use Rattle.knowledge.specs.Understood.{Knows}
use Rattle.card.specs.Cards.{Name}
use Rattle.sheet.specs.Rows.{open_in}
use Rattle.sheet.specs.Sheets.{Model, model, answer, unless, seal_answer, after_seal, after_drop}
use Rattle.rules.specs.Order.{has_ended, Accepted}
use Rattle.rules.specs.Faults.{first}
use Rattle.rules.specs.Records.{judged}
use Rattle.rules.proofs.Whole.{first-none}
use Rattle.calls.specs.declared.answer.Answer.{Answer}
use Rattle.calls.specs.declared.answer.Answer.TheVariants.{Done, Added, Refused}
use Rattle.calls.specs.Calls.{Taken, Begun, tokens_of, Reading, idle, active, spoilt, Out, out, fresh, row_put, handed_back, is_of_sheet, row_judged, row_tried, row_on, finish_sealed, finish_marked, finish_ended, finish_on, begin_on, abandon_on, file_on, Call, begin, row, file, finish, abandon, step}
use Rattle.calls.specs.Book.{after, events, Book, record_in, book}
use Rattle.calls.specs.Promises.{Between, IsOfSheet, AcceptedIn, RowRefusalsLeave, FinishRefusalsLeave, SheetTakesItsOwn}
use Rattle.calls.proofs.Judging.{Spoils, TokensEnd, tokens-end}
use Rattle.calls.proofs.Cases.{faults_at, marks_in, row-numbered, mark-numbered, not_of_sheet, others-sheet, RowCase, row_case, FinishCase, finish_case}
use Rattle.calls.proofs.Holds.{Holds, holds, FileCase, file_case}

-- A row.

abbrev RowLeaves : Reading → Model → Out → Refusal → Type 0
RowLeaves rd m o e =
    ((Between 7 12 e ⊎ IsOfSheet e) × (o ≡ out rd m (Refused e)))
    ⊎ ((b : Begun) × (rd ≡ active b) × Between 13 21 e × (o ≡ out (spoilt b) (after_drop m) (Refused e)))

abbrev RowEnds : Reading → Model → Out → Type 0
RowEnds rd m o = (o.answer ≡ Done) ⊎ ((e : Refusal) × RowLeaves rd m o e)

module _ (b : Begun) (r : Row) (m : Model) (w : Accepted b.taken.texts b.rows) where
  of-sheet : (e : Refusal) → IsOfSheet e → is_of_sheet e ≡ true
  of-sheet e h = eq-eqb (numbered e).number 23 h

  judged-ends : faults_at b r ≡ [] → TokensEnd b.taken (row_put b r m) m (fresh b r) (judged (tokens_of b))
      → RowEnds (active b) m (row_judged (row_put b r m).answer r b (row_put b r m).sheet)
  judged-ends f (inl h) = inl (ap (λ a. (row_judged a r b (row_put b r m).sheet).answer) h.0)
  judged-ends f (inr h) = inr (h.0, go h.3)
    where
      o : Out
      o = row_judged (row_put b r m).answer r b (row_put b r m).sheet

      go : Spoils h.0 ⊎ IsOfSheet h.0 → RowLeaves (active b) m o h.0
      go (inl s) =
          inr (
            b,
            refl,
            s,
            ap (λ a. row_judged a r b (row_put b r m).sheet) h.1
                ∙ ap (λ x. handed_back x h.0 b (row_put b r m).sheet) (not_of_sheet h.0 s) ∙ ap (λ n. out (spoilt b) n (Refused h.0)) h.2,
          )
      go (inr s) =
          inl (
            inr s,
            ap (λ a. row_judged a r b (row_put b r m).sheet) h.1
                ∙ ap (λ x. handed_back x h.0 b (row_put b r m).sheet) (of-sheet h.0 s)
                ∙ ap (λ n. out (active b) n (Refused h.0)) (others-sheet b r m (f, w) h.0 h.1 s),
          )

  tried-ends : (x : Option Refusal) → first (faults_at b r) ≡ x → RowEnds (active b) m (row_tried x r b m)
  tried-ends (Some e) q = let n = row-numbered b r e q in inr (e, inl (inl (omega (arith, n.0), n.1), refl))
  tried-ends None q = judged-ends (first-none _ q) (tokens-end b.taken m (fresh b r) (judged (tokens_of b)))

row_ends : (rd : Reading) (r : Row) (m : Model) → AcceptedIn rd → RowEnds rd m (row_on rd r m)
unfolding row_on
row_ends idle r m w = inr (OutOfTurn, inl (inl (omega arith, omega arith), refl))
row_ends (spoilt b) r m w = inr (Spoilt, inl (inl (omega arith, omega arith), refl))
row_ends (active b) r m w = tried-ends b r m w (first (faults_at b r)) refl

row-answer : (rd : Reading) (m : Model) (o : Out) (e : Refusal) → RowLeaves rd m o e → o.answer ≡ Refused e
row-answer rd m o e h = grind arith

pub row_refusals_leave : RowRefusalsLeave
row_refusals_leave rd r m e w a = go (row_ends rd r m w)
  where
    go : RowEnds rd m (row_on rd r m) → RowLeaves rd m (row_on rd r m) e
    go (inl h) = absurd (cc)
    go (inr h) = let q = row-answer rd m (row_on rd r m) h.0 h.1 in let s : h.0 ≡ e = cc in subst (RowLeaves rd m (row_on rd r m)) s h.1

-- Finish.

abbrev FinishLeaves : Reading → Model → Out → Refusal → Type 0
FinishLeaves rd m o e =
    ((Between 7 10 e ⊎ IsOfSheet e) × (o ≡ out rd m (Refused e)))
    ⊎ (((numbered e).number ≡ 22) × (o ≡ out idle (after_drop m) (Refused e)))

abbrev pub FinishEnds : Reading → Model → Out → Type 0
FinishEnds rd m o = ((n : ℕ) × (o.answer ≡ Added n)) ⊎ ((e : Refusal) × FinishLeaves rd m o e)

module _ (b : Begun) (m : Model) where
  sealed-ends : FinishEnds (active b) m (finish_sealed (seal_answer m) b (after_seal m))
  unfolding seal_answer after_seal
  sealed-ends = go (eqb (open_in m.draft) 0)
    where
      go : (x : Bool)
          → FinishEnds (active b) m
          (finish_sealed (answer (cond x None (Some NotForSheet)) (length m.draft)) b
          (unless (cond x None (Some NotForSheet)) (model (m.sealed ++ m.draft) [] m.capacity m.cost) m))
      go true = inl (length m.draft, refl)
      go false = inr (NotForSheet, inl (inr refl, refl))

  marked-ends : (x : Option Refusal) → first (marks_in b) ≡ x → FinishEnds (active b) m (finish_marked x b m)
  marked-ends (Some e) q = inr (e, inr (mark-numbered b e q, refl))
  marked-ends None q = sealed-ends

  ended-ends : (x : Bool) → FinishEnds (active b) m (finish_ended x b m)
  ended-ends false = inr (OutOfOrder (length b.rows), inl (inl (omega arith, omega arith), refl))
  ended-ends true = marked-ends (first (marks_in b)) refl

pub finish-ends : (rd : Reading) (m : Model) → FinishEnds rd m (finish_on rd m)
unfolding finish_on
finish-ends idle m = inr (OutOfTurn, inl (inl (omega arith, omega arith), refl))
finish-ends (spoilt b) m = inr (Spoilt, inl (inl (omega arith, omega arith), refl))
finish-ends (active b) m = ended-ends b m (has_ended (tokens_of b))

finish-answer : (rd : Reading) (m : Model) (o : Out) (e : Refusal) → FinishLeaves rd m o e → o.answer ≡ Refused e
finish-answer rd m o e h = grind arith

pub finish_refusals_leave : FinishRefusalsLeave
finish_refusals_leave rd m e a = go (finish-ends rd m)
  where
    go : FinishEnds rd m (finish_on rd m) → FinishLeaves rd m (finish_on rd m) e
    go (inl h) = absurd (cc)
    go (inr h) = let q = finish-answer rd m (finish_on rd m) h.0 h.1 in let s : h.0 ≡ e = cc in subst (FinishLeaves rd m (finish_on rd m)) s h.1

-- In a run no call is refused with 23.

abbrev NoSheets : Answer → Type 0
NoSheets a = (e : Refusal) → a ≡ Refused e → IsOfSheet e → ⊥

not_23 : (d : Refusal) → (numbered d).number ≤ 22 → NoSheets (Refused d)
not_23 d l e q h = let s : d ≡ e = cc in let k = ap (λ x. (numbered x).number) s in omega arith

done-fine : NoSheets Done
done-fine e q h = cc

added-fine : (n : ℕ) → NoSheets (Added n)
added-fine n e q h = cc

begin-fine : (rd : Reading) (t : Taken) (m : Model) → NoSheets (begin_on rd t m).answer
unfolding begin_on
begin-fine rd t m = grind arith

abandon-fine : (rd : Reading) (m : Model) → NoSheets (abandon_on rd m).answer
unfolding abandon_on
abandon-fine rd m = grind arith

row_fine : (rd : Reading) (r : Row) (m : Model) (k : Book) → Holds rd m k → NoSheets (row_on rd r m).answer
row_fine idle r m k h = unfold row_on in not_23 OutOfTurn (omega arith)
row_fine (spoilt b) r m k h = unfold row_on in not_23 Spoilt (omega arith)
row_fine (active b) r m k h = go (row_on (active b) r m) (row_case b r m h.2)
  where
    go : (o : Out) → RowCase b r m o → NoSheets o.answer
    go o (inl x) = let n = (row-numbered b r x.0 x.1).1 in subst (λ (o : Out). NoSheets o.answer) (sym x.2) (not_23 x.0 (omega arith))
    go o (inr (f, inl x)) = subst (λ (o : Out). NoSheets o.answer) (sym x.1) done-fine
    go o (inr (f, inr x)) = let n = x.1.1 in subst (λ (o : Out). NoSheets o.answer) (sym x.2) (not_23 x.0 (omega arith))

finish-fine : (rd : Reading) (m : Model) (k : Book) → Holds rd m k → NoSheets (finish_on rd m).answer
finish-fine idle m k h = unfold finish_on in not_23 OutOfTurn (omega arith)
finish-fine (spoilt b) m k h = unfold finish_on in not_23 Spoilt (omega arith)
finish-fine (active b) m k h = go (finish_on (active b) m) (finish_case b m h.2)
  where
    go : (o : Out) → FinishCase b m o → NoSheets o.answer
    go o (inl x) = subst (λ (o : Out). NoSheets o.answer) (sym x.1) (not_23 (OutOfOrder (length b.rows)) (omega arith))
    go o (inr (inl x)) = let n = x.2 in subst (λ (o : Out). NoSheets o.answer) (sym x.3) (not_23 x.0 (omega arith))
    go o (inr (inr x)) = subst (λ (o : Out). NoSheets o.answer) (sym x.1) (added-fine _)

file-fine : (rd : Reading) (bytes : Bytes) (K : Knows) (ext : List Name) (m : Model) (k : Book) → Holds rd m k
    → NoSheets (file_on rd bytes K ext m).answer
file-fine (active b) bytes K ext m k h = unfold file_on in not_23 OutOfTurn (omega arith)
file-fine (spoilt b) bytes K ext m k h = unfold file_on in not_23 OutOfTurn (omega arith)
file-fine idle bytes K ext m k h = go (file_on idle bytes K ext m) (file_case bytes K ext m h.2)
  where
    go : (o : Out) → FileCase (record_in (opened bytes) K ext) m o → NoSheets o.answer
    go o (inl x) = subst (λ (o : Out). NoSheets o.answer) (sym x.2) (not_23 x.0 x.1)
    go o (inr x) = subst (λ (o : Out). NoSheets o.answer) (sym x.3) (added-fine _)

step-fine : (c : Call) (rd : Reading) (m : Model) (k : Book) → Holds rd m k → NoSheets (step c rd m).answer
unfolding step
step-fine (begin t) rd m k h = begin-fine rd t m
step-fine (row r) rd m k h = row_fine rd r m k h
step-fine (file bytes K ext) rd m k h = file-fine rd bytes K ext m k h
step-fine finish rd m k h = finish-fine rd m k h
step-fine abandon rd m k h = abandon-fine rd m

accepted_in : (rd : Reading) (m : Model) (k : Book) → Holds rd m k → AcceptedIn rd
accepted_in rd m k h = grind arith

pub sheet_takes_its_own : SheetTakesItsOwn
sheet_takes_its_own new calls = (
  accepted_in (after new calls).reading (after new calls).sheet (book (events new calls)) (holds new calls),
  λ c e a h. step-fine c (after new calls).reading (after new calls).sheet (book (events new calls)) (holds new calls) e a h,
)
