-- A file is its calls.
use Rattle.std.proofs.Common.{◌≡◌, Bool, true, false, ◌⊎◌, List, [], ◌∷◌, ◌++◌, map, Some, None, Ok, Err, Option, Result, sym, refl, ap, ◌∙◌, subst, inl, inr}
use Rattle.record.specs.declared.row.Row.{Row}
use Rattle.record.specs.declared.refusal.Refusal.{Refusal}
use Rattle.record.specs.declared.refusal.Refusal.TheVariants.{OutOfTurn}
use Rattle.text.specs.Bytes.{Bytes}
use Rattle.knowledge.specs.Understood.{Knows}
use Rattle.card.specs.Cards.{Name}
use Rattle.sheet.specs.Sheets.{Model, after_drop}
use Rattle.rules.specs.Faults.{first}
use Rattle.calls.specs.declared.answer.Answer.TheVariants.{Done, Refused}
use Rattle.calls.specs.Calls.{taken, Begun, begun, with_row, Reading, idle, active, spoilt, Out, out, row_put, handed_back, is_of_sheet, row_judged, row_tried, row_on, finish_on, abandon_on, begin_on, or_abandoned, rows_on, file_opened, file_on, Call, begin, row, file, finish, step}
use Rattle.calls.specs.Promises.{FileIsItsCalls, if_accepted, in_turn, then_abandoned}
use Rattle.calls.proofs.Cases.{faults_at}
use Rattle.calls.proofs.Leaves.{FinishEnds, finish-ends}

abbrev rest : List Row → List Call
rest rows = map row rows ++ (finish ∷ [])

turn_more : (c : Call) (rows : List Row) (rd : Reading) (m : Model)
    → in_turn (c ∷ rest rows) rd m ≡ if_accepted (step c rd m).answer (in_turn (rest rows) (step c rd m).reading (step c rd m).sheet) (step c rd m)
turn_more c [] rd m = refl
turn_more c (r ∷ rows) rd m = refl

-- a row call leaves the record with the row, or is refused and leaves the record open
abbrev Shape : Begun → Row → Out → Type 0
Shape b r o =
    ((n : Model) × (o ≡ out (active (with_row r b)) n Done))
    ⊎ ((e : Refusal) × (n : Model) × ((o ≡ out (active b) n (Refused e)) ⊎ (o ≡ out (spoilt b) n (Refused e))))

handed_shape : (b : Begun) (r : Row) (m : Model) (e : Refusal) (x : Bool) → Shape b r (handed_back x e b m)
handed_shape b r m e true = inr (e, m, inl refl)
handed_shape b r m e false = inr (e, after_drop m, inr refl)

judged_shape : (b : Begun) (r : Row) (m : Model) (a : Result (Unit {0}) Refusal) → Shape b r (row_judged a r b m)
judged_shape b r m (Ok u) = inl (m, refl)
judged_shape b r m (Err e) = handed_shape b r m e (is_of_sheet e)

tried_shape : (b : Begun) (r : Row) (m : Model) (x : Option Refusal) → Shape b r (row_tried x r b m)
tried_shape b r m (Some e) = inr (e, m, inl refl)
tried_shape b r m None = judged_shape b r (row_put b r m).sheet (row_put b r m).answer

row_shape : (b : Begun) (r : Row) (m : Model) → Shape b r (row_on (active b) r m)
unfolding row_on
row_shape b r m = tried_shape b r m (first (faults_at b r))

finish_turn : (b : Begun) (m : Model) (o : Out) → FinishEnds (active b) m o → or_abandoned o.answer o.sheet o ≡ then_abandoned o
unfolding abandon_on after_drop
finish_turn b m o (inl h) =
    subst (λ a. or_abandoned a o.sheet o ≡ if_accepted a o (out (abandon_on o.reading o.sheet).reading (abandon_on o.reading o.sheet).sheet a)) (sym h.1) refl
finish_turn b m o (inr (e, inl h)) = subst (λ (o : Out). or_abandoned o.answer o.sheet o ≡ then_abandoned o) (sym h.1) refl
finish_turn b m o (inr (e, inr h)) = subst (λ (o : Out). or_abandoned o.answer o.sheet o ≡ then_abandoned o) (sym h.1) refl

abbrev Same : List Row → Out → Type 0
Same rows o =
    or_abandoned o.answer o.sheet (rows_on rows o.reading o.sheet)
    ≡ then_abandoned (if_accepted o.answer (in_turn (rest rows) o.reading o.sheet) o)

row_turn : (b : Begun) (r : Row) (rows : List Row) (o : Out) → Shape b r o
    → ((n : Model) → rows_on rows (active (with_row r b)) n ≡ then_abandoned (in_turn (rest rows) (active (with_row r b)) n)) → Same rows o
unfolding abandon_on
row_turn b r rows o (inl h) next = subst (Same rows) (sym h.1) (next h.0)
row_turn b r rows o (inr (e, n, inl h)) next = subst (Same rows) (sym h) refl
row_turn b r rows o (inr (e, n, inr h)) next = subst (Same rows) (sym h) refl

rest_turn : (rows : List Row) (b : Begun) (m : Model) → rows_on rows (active b) m ≡ then_abandoned (in_turn (rest rows) (active b) m)
unfolding rows_on step
rest_turn [] b m = finish_turn b m (finish_on (active b) m) (finish-ends (active b) m)
rest_turn (r ∷ rows) b m =
    row_turn b r rows (row_on (active b) r m) (row_shape b r m) (λ n. rest_turn rows (with_row r b) n)
    ∙ ap then_abandoned (sym (turn_more (row r) rows (active b) m))

turned_away : (bytes : Bytes) (K : Knows) (ext : List Name) (m : Model) (rd : Reading) → (rd ≡ idle → ⊥)
    → step (file bytes K ext) rd m ≡ out rd m (Refused OutOfTurn)
unfolding step file_on
turned_away bytes K ext m idle h = absurd (h refl)
turned_away bytes K ext m (active b) h = refl
turned_away bytes K ext m (spoilt b) h = refl

pub file_is_its_calls : FileIsItsCalls
unfolding step file_on begin_on
file_is_its_calls bytes K ext m = (
  λ contents e. ap (λ c. file_opened c K ext m) e ∙ rest_turn contents.rows (begun (taken contents.texts K ext) []) m
      ∙ ap then_abandoned (sym (turn_more (begin (taken contents.texts K ext)) contents.rows idle m)),
  λ e q. ap (λ c. file_opened c K ext m) q,
  turned_away bytes K ext m,
)
