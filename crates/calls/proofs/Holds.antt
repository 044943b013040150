-- In a run reader and sheet stand for what the book says.
use Rattle.std.proofs.Common.{◌≡◌, ℕ, ◌≤◌, Bool, cond, not, eqb, ltb, ◌⊎◌, List, [], ◌∷◌, ◌++◌, length, Some, None, Ok, Err, Option, Result, sym, refl, ap, subst, ap₂, inl, inr, arith}
use Rattle.std.proofs.lemmas.Bool.{eq-eqb}
use Rattle.text.specs.Bytes.{Bytes}
use Rattle.record.specs.declared.row.Row.{Row}
use Rattle.record.specs.declared.refusal.Refusal.{Refusal}
use Rattle.record.specs.declared.refusal.Refusal.TheVariants.{TooShort, OutsideLimits, WrongLength}
use Rattle.record.specs.Refusals.{numbered}
use Rattle.file.specs.Form.{Contents, text_count, row_count, byte_count, within_limits, size, pair_table, row_table, rows_of, text_bytes, refuse, refuse_at, with_rows as read_rows, read_texts, opened}
use Rattle.knowledge.specs.Understood.{Knows}
use Rattle.card.specs.Cards.{Name}
use Rattle.sheet.specs.Sheets.{Model, model, after_drop}
use Rattle.calls.specs.declared.answer.Answer.TheVariants.{Added, Refused}
use Rattle.calls.specs.Calls.{Taken, taken, Begun, begun, Reading, idle, active, spoilt, Out, out, begin_on, row_on, finish_on, abandon_on, file_opened, file_on, Call, begin, row, file, finish, abandon, step}
use Rattle.calls.specs.Book.{New, after, sealed_by, events, Book, book_of, kept_in, kept_in_any, grown, record_in, enter, book}
use Rattle.calls.specs.Law.{AreTheBooks}
use Rattle.calls.proofs.Cases.{Open, RowCase, row_case, Sealable, with_sealed, FinishCase, finish_case, with_rows, RestCase, rest_case, open_empty}

abbrev pub Holds : Reading → Model → Book → Type 0
Holds idle m k = (m.sealed ≡ k.sealed) × (k.current ≡ None) × (m.draft ≡ [])
Holds (active b) m k = (m.sealed ≡ k.sealed) × (k.current ≡ Some b) × Open b m
Holds (spoilt b) m k = (m.sealed ≡ k.sealed) × (k.current ≡ Some b) × (m.draft ≡ [])

abbrev StepHolds : Call → Out → Book → Type 0
StepHolds c o k = Holds o.reading o.sheet (enter c o.answer k)

begin-holds : (rd : Reading) (t : Taken) (m : Model) (k : Book) → Holds rd m k → StepHolds (begin t) (begin_on rd t m) k
unfolding begin_on
begin-holds idle t m k h = (h.0, refl, open_empty t m h.2)
begin-holds (active b) t m k h = h
begin-holds (spoilt b) t m k h = h

row-holds : (rd : Reading) (r : Row) (m : Model) (k : Book) → Holds rd m k → StepHolds (row r) (row_on rd r m) k
unfolding row_on after_drop
row-holds idle r m k h = h
row-holds (spoilt b) r m k h = h
row-holds (active b) r m k h = go (row_on (active b) r m) (row_case b r m h.2)
  where
    go : (o : Out) → RowCase b r m o → StepHolds (row r) o k
    go o (inl x) = subst (λ o. StepHolds (row r) o k) (sym x.2) h
    go o (inr (f, inl x)) = subst (λ o. StepHolds (row r) o k) (sym x.1) (h.0, ap (grown r) h.1, x.0)
    go o (inr (f, inr x)) = subst (λ o. StepHolds (row r) o k) (sym x.2) (h.0, h.1, refl)

finish-holds : (rd : Reading) (m : Model) (k : Book) → Holds rd m k → StepHolds finish (finish_on rd m) k
unfolding finish_on after_drop
finish-holds idle m k h = h
finish-holds (spoilt b) m k h = h
finish-holds (active b) m k h = go (finish_on (active b) m) (finish_case b m h.2)
  where
    go : (o : Out) → FinishCase b m o → StepHolds finish o k
    go o (inl x) = subst (λ o. StepHolds finish o k) (sym x.1) h
    go o (inr (inl x)) =
        subst (λ o. StepHolds finish o k) (sym x.3)
        (subst (λ y. Holds idle (after_drop m) (cond y (book_of k.sealed None) k)) (sym (eq-eqb _ 22 x.2)) (h.0, refl, refl))
    go o (inr (inr x)) =
        subst (λ o. StepHolds finish o k) (sym x.1)
        (ap₂ (λ xs y. xs ++ kept_in_any y) h.0 (sym h.1), refl, refl)

abandon-holds : (rd : Reading) (m : Model) (k : Book) → Holds rd m k → StepHolds abandon (abandon_on rd m) k
unfolding abandon_on after_drop
abandon-holds rd m k h = grind arith

-- A file is refused with 1 to 5 before it is read.

abbrev Low : {X : Type 0} → Result X Refusal → Type 0
Low (Ok x) = Unit {0}
Low (Err e) = (numbered e).number ≤ 5

low_test : {X : Type 0} (b : Bool) (e : Refusal) (rest : Result X Refusal) → (numbered e).number ≤ 5 → Low rest → Low (refuse b e rest)
low_test b e rest h x = grind arith

low_at : {X : Type 0} (o : Option ℕ) (f : ℕ → Refusal) (rest : Result X Refusal) → ((n : ℕ) → (numbered (f n)).number ≤ 5) → Low rest
    → Low (refuse_at o f rest)
low_at o f rest h x = grind arith

low_rows : (rows : List Row) (c : Result (List Bytes) Refusal) → Low c → Low (read_rows rows c)
low_rows rows c h = grind arith

texts_low : (pairs bytes : Bytes) → Low (read_texts pairs bytes)
unfolding read_texts
texts_low pairs bytes = grind arith

opened_low : (bytes : Bytes) → Low (opened bytes)
unfolding opened
opened_low bytes =
    let read : Result Contents Refusal = read_rows (rows_of (row_table bytes)) (read_texts (pair_table bytes) (text_bytes bytes)) in
    let long : Bool = not (eqb (length bytes) (size (text_count bytes) (row_count bytes) (byte_count bytes))) in
    let wide : Bool = not (within_limits (text_count bytes) (row_count bytes) (byte_count bytes)) in
    low_test (ltb (length bytes) 12) TooShort (refuse wide OutsideLimits (refuse long WrongLength read)) (omega arith)
    (low_test wide OutsideLimits (refuse long WrongLength read) (omega arith)
    (low_test long WrongLength read (omega arith)
    (low_rows (rows_of (row_table bytes)) (read_texts (pair_table bytes) (text_bytes bytes)) (texts_low (pair_table bytes) (text_bytes bytes)))))

-- A file, no record being open: it is refused and the draft is empty, or its record is sealed.
abbrev pub FileCase : Option Begun → Model → Out → Type 0
FileCase f m o =
    ((e : Refusal) × ((numbered e).number ≤ 22) × (o ≡ out idle (after_drop m) (Refused e)))
    ⊎ ((b : Begun) × (f ≡ Some b) × Sealable b × (o ≡ out idle (with_sealed m (kept_in b)) (Added (length (kept_in b)))))

opened_case : (c : Result Contents Refusal) → Low c → (K : Knows) (ext : List Name) (m : Model) → m.draft ≡ []
    → FileCase (record_in c K ext) m (file_opened c K ext m)
unfolding after_drop
opened_case (Err e) n K ext m h = let l = n in inl (e, omega arith, ap (λ d. out idle (model m.sealed d m.capacity m.cost) (Refused e)) h)
opened_case (Ok f) n K ext m h = go _ (rest_case f.rows (begun (taken f.texts K ext) []) m (open_empty _ m h))
  where
    go : (o : Out) → RestCase (with_rows f.rows (begun (taken f.texts K ext) [])) m o → FileCase (record_in (Ok f) K ext) m o
    go o (inl x) = inl x
    go o (inr x) = inr (_, refl, x.0, x.1)

pub file_case : (bytes : Bytes) (K : Knows) (ext : List Name) (m : Model) → m.draft ≡ []
    → FileCase (record_in (opened bytes) K ext) m (file_on idle bytes K ext m)
unfolding file_on
file_case bytes K ext m h = opened_case (opened bytes) (opened_low bytes) K ext m h

file-holds : (rd : Reading) (bytes : Bytes) (K : Knows) (ext : List Name) (m : Model) (k : Book) → Holds rd m k
    → StepHolds (file bytes K ext) (file_on rd bytes K ext m) k
unfolding after_drop
file-holds (active b) bytes K ext m k h = unfold file_on in h
file-holds (spoilt b) bytes K ext m k h = unfold file_on in h
file-holds idle bytes K ext m k h = go (file_on idle bytes K ext m) (file_case bytes K ext m h.2)
  where
    go : (o : Out) → FileCase (record_in (opened bytes) K ext) m o → StepHolds (file bytes K ext) o k
    go o (inl x) = subst (λ o. StepHolds (file bytes K ext) o k) (sym x.2) (h.0, h.1, refl)
    go o (inr x) =
        subst (λ o. StepHolds (file bytes K ext) o k) (sym x.3)
        (ap₂ (λ xs y. xs ++ kept_in_any y) h.0 (sym x.1), h.1, refl)

step-holds : (c : Call) (rd : Reading) (m : Model) (k : Book) → Holds rd m k → StepHolds c (step c rd m) k
unfolding step
step-holds (begin t) rd m k h = begin-holds rd t m k h
step-holds (row r) rd m k h = row-holds rd r m k h
step-holds (file bytes K ext) rd m k h = file-holds rd bytes K ext m k h
step-holds finish rd m k h = finish-holds rd m k h
step-holds abandon rd m k h = abandon-holds rd m k h

pub holds : (new : New) (calls : List Call) → Holds (after new calls).reading (after new calls).sheet (book (events new calls))
holds new [] = (refl, refl, refl)
holds new (c ∷ past) = step-holds c (after new past).reading (after new past).sheet (book (events new past)) (holds new past)

sealed-by : (rd : Reading) (m : Model) (k : Book) → Holds rd m k → m.sealed ≡ k.sealed
sealed-by rd m k h = grind arith

pub are_the_books : (new : New) (calls : List Call) → AreTheBooks new calls (sealed_by new calls)
are_the_books new calls = sealed-by (after new calls).reading (after new calls).sheet (book (events new calls)) (holds new calls)
