-- What else the calls promise: what a refusal leaves, that a file is its calls, that a run's own sheet takes its rows.
use Rattle.std.specs.Prelude.{◌≡◌, ℕ, ◌+◌, ◌≤◌, true, ◌⊎◌, List, [], ◌∷◌, ◌++◌, map, reverse, Some, None, Ok, Err, Result, ◌≢◌}
use Rattle.text.specs.Bytes.{Bytes}
use Rattle.record.specs.declared.row.Row.{Row}
use Rattle.record.specs.declared.row.PlacedRow.{PlacedRow}
use Rattle.record.specs.Rows.{kind_of}
use Rattle.record.specs.declared.refusal.Refusal.{Refusal}
use Rattle.record.specs.declared.refusal.Refusal.TheVariants.{OutOfTurn}
use Rattle.record.specs.Refusals.{numbered}
use Rattle.file.specs.Form.{Contents, opened}
use Rattle.knowledge.specs.Understood.{Knows}
use Rattle.card.specs.Cards.{Name}
use Rattle.sheet.specs.Rows.{pairs, spent}
use Rattle.sheet.specs.Sheets.{Model, model, after_drop}
use Rattle.rules.specs.Elements.{tokens}
use Rattle.rules.specs.Steps.{kept_rows}
use Rattle.rules.specs.Records.{Sealed, outcome}
use Rattle.rules.specs.Order.{Accepted}
use Rattle.rules.specs.Lists.{In, open_after}
use Rattle.calls.specs.declared.answer.Answer.{Answer}
use Rattle.calls.specs.declared.answer.Answer.TheVariants.{Done, Added, Refused}
use Rattle.calls.specs.Calls.{taken, Begun, Reading, idle, active, spoilt, Out, out, row_on, finish_on, abandon_on, Call, begin, row, file, finish, step}
use Rattle.calls.specs.Book.{New, after, answer_to, sealed_by}

abbrev pub Between : ℕ → ℕ → Refusal → Type 0
Between low high e = (low ≤ (numbered e).number) × ((numbered e).number ≤ high)

-- the refusal of a sheet
abbrev pub IsOfSheet : Refusal → Type 0
IsOfSheet e = (numbered e).number ≡ 23

-- the rows of the open record were each accepted
abbrev pub AcceptedIn : Reading → Type 0
AcceptedIn idle = Unit {0}
AcceptedIn (active b) = Accepted b.taken.texts b.rows
AcceptedIn (spoilt b) = Unit {0}

-- A row refused with 7 to 12 or 23 changes nothing; one refused with 13 to 21 drops the draft and spoils the record. There is no other
-- refusal. So it is over every sheet, also one that others wrote to: where the first put of a call is not refused with 23, no other is.
abbrev pub RowRefusalsLeave : Type 0
RowRefusalsLeave =
    (reading : Reading) (r : Row) (m : Model) (e : Refusal) → AcceptedIn reading → (row_on reading r m).answer ≡ Refused e
    → ((Between 7 12 e ⊎ IsOfSheet e) × (row_on reading r m ≡ out reading m (Refused e)))
    ⊎ ((b : Begun) × (reading ≡ active b) × Between 13 21 e × (row_on reading r m ≡ out (spoilt b) (after_drop m) (Refused e)))

-- A finish refused with 7, 8, 10 or 23 changes nothing; one refused with 22 drops the draft and closes the record.
abbrev pub FinishRefusalsLeave : Type 0
FinishRefusalsLeave =
    (reading : Reading) (m : Model) (e : Refusal) → (finish_on reading m).answer ≡ Refused e
    → ((Between 7 10 e ⊎ IsOfSheet e) × (finish_on reading m ≡ out reading m (Refused e)))
    ⊎ (((numbered e).number ≡ 22) × (finish_on reading m ≡ out idle (after_drop m) (Refused e)))

-- A file is its calls: begin, its rows one by one, finish.

abbrev pub calls_in : Contents → Knows → List Name → List Call
calls_in contents knows extensions =
    begin (taken contents.texts knows extensions) ∷ (map row contents.rows ++ (finish ∷ []))

abbrev pub if_accepted : Answer → Out → Out → Out
if_accepted Done next refused = next
if_accepted (Added n) next refused = next
if_accepted (Refused e) next refused = refused

-- calls one after another, the first first, up to one that is refused
abbrev pub in_turn : List Call → Reading → Model → Out
in_turn [] reading m = out reading m Done
in_turn (c ∷ []) reading m = step c reading m
in_turn (c ∷ d ∷ calls) reading m =
    if_accepted (step c reading m).answer (in_turn (d ∷ calls) (step c reading m).reading (step c reading m).sheet) (step c reading m)

-- with abandon behind a refusal, the answer being that refusal
abbrev pub then_abandoned : Out → Out
then_abandoned o =
    if_accepted o.answer o (out (abandon_on o.reading o.sheet).reading (abandon_on o.reading o.sheet).sheet o.answer)

-- It answers and leaves what they do, for every sheet. A file that cannot be opened changes nothing, nor does one that comes while a
-- record is open.
abbrev pub FileIsItsCalls : Type 0
FileIsItsCalls =
    (bytes : Bytes) (knows : Knows) (extensions : List Name) (m : Model)
    → ((contents : Contents) → opened bytes ≡ Ok contents
    → step (file bytes knows extensions) idle m ≡ then_abandoned (in_turn (calls_in contents knows extensions) idle m))
    × ((e : Refusal) → opened bytes ≡ Err e → step (file bytes knows extensions) idle m ≡ out idle m (Refused e))
    × ((reading : Reading) → (reading ≢ idle) → step (file bytes knows extensions) reading m ≡ out reading m (Refused OutOfTurn))

-- A record comes out of file as the rules say, with nothing in the draft and room for all its kept rows.

abbrev pub came_out : Result Sealed Refusal → Model → Out
came_out (Ok sealed) m = out idle (model (m.sealed ++ sealed.rows) [] m.capacity m.cost) (Added sealed.count)
came_out (Err e) m = out idle (after_drop m) (Refused e)

abbrev pub HasRoomFor : List PlacedRow → Model → Type 0
HasRoomFor rows m = spent m.cost m.sealed + spent m.cost rows ≤ m.capacity

abbrev pub RecordsComeOut : Type 0
RecordsComeOut =
    (bytes : Bytes) (knows : Knows) (extensions : List Name) (m : Model) (contents : Contents) → opened bytes ≡ Ok contents
    → m.draft ≡ [] → HasRoomFor (kept_rows knows extensions (tokens contents.texts (reverse contents.rows))) m
    → step (file bytes knows extensions) idle m ≡ came_out (outcome contents.texts knows extensions contents.rows) m

-- Behind any calls from a new sheet on, no call is refused with 23, and the rows of an open record were accepted.
abbrev pub SheetTakesItsOwn : Type 0
SheetTakesItsOwn =
    (new : New) (calls : List Call)
    → AcceptedIn (after new calls).reading × ((c : Call) (e : Refusal) → answer_to new c calls ≡ Refused e → IsOfSheet e → ⊥)

-- The two notions of pairing agree on rows that have a kind.
abbrev pub PairingIsOne : Type 0
PairingIsOne =
    (rows : List PlacedRow)
    → (open_after (Some 0) rows ≡ Some 0 → pairs rows ≡ true)
    × (((x : PlacedRow) → In x rows → kind_of x.row.kind ≢ None) → pairs rows ≡ true → open_after (Some 0) rows ≡ Some 0)

-- in the sealed rows of every run starts and ends pair
abbrev pub SealedRowsPair : Type 0
SealedRowsPair = (new : New) (calls : List Call) → pairs (sealed_by new calls) ≡ true
