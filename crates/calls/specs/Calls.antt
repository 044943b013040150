-- The five calls: what each answers, and what record and sheet it leaves. Rows of a record have the newest first.
use Rattle.std.specs.Prelude.{ℕ, Bool, true, false, List, [], ◌∷◌, ◌++◌, length, Some, None, Ok, Err, Option, Result, ◌==◌}
use Rattle.text.specs.Bytes.{Bytes}
use Rattle.record.specs.declared.row.Row.{Row}
use Rattle.record.specs.declared.row.PlacedRow.{PlacedRow}
use Rattle.record.specs.declared.refusal.Refusal.{Refusal}
use Rattle.record.specs.declared.refusal.Refusal.TheVariants.{OutOfTurn, Spoilt, OutOfOrder}
use Rattle.record.specs.Refusals.{numbered}
use Rattle.record.specs.Rows.{kind_of}
use Rattle.file.specs.Form.{Contents, opened}
use Rattle.knowledge.specs.Understood.{Knows}
use Rattle.card.specs.Cards.{Name}
use Rattle.sheet.specs.Sheets.{Model, seal_answer, after_seal, after_drop, all_answer, after_all}
use Rattle.rules.specs.Elements.{Token, placed_at, tokens}
use Rattle.rules.specs.Steps.{kept_of}
use Rattle.rules.specs.Mismatches.{mismatches}
use Rattle.rules.specs.Faults.{first, faults_of}
use Rattle.rules.specs.Order.{has_ended, row_faults}
use Rattle.rules.specs.Records.{judged, newly_judged}
use Rattle.calls.specs.declared.answer.Answer.{Answer}
use Rattle.calls.specs.declared.answer.Answer.TheVariants.{Done, Added, Refused}

-- what begin takes
pub record Taken : Type 0 where
  pub texts : List Bytes
  pub knows : Knows
  pub extensions : List Name

abbrev pub taken : List Bytes → Knows → List Name → Taken
taken texts knows extensions = record { texts = texts; knows = knows; extensions = extensions }

-- a record: what its begin took, and the rows accepted so far
pub record Begun : Type 0 where
  pub taken : Taken
  pub rows : List Row

abbrev pub begun : Taken → List Row → Begun
begun t rows = record { taken = t; rows = rows }

abbrev pub with_row : Row → Begun → Begun
with_row r b = begun b.taken (r ∷ b.rows)

abbrev pub tokens_of : Begun → List Token
tokens_of b = tokens b.taken.texts b.rows

-- what a reader stands for: no record, a record, or a record that a refusal spoilt
pub data Reading : Type 0 where
  idle : Reading
  active : Begun → Reading
  spoilt : Begun → Reading

-- what a call answers, and what reader and sheet stand for then
pub record Out : Type 0 where
  pub reading : Reading
  pub sheet : Model
  pub answer : Answer

abbrev pub out : Reading → Model → Answer → Out
out reading sheet answer = record { reading = reading; sheet = sheet; answer = answer }

-- answers of calls that give no number, and of those that do

abbrev pub done : Result (Unit {0}) Refusal → Answer
done (Ok _) = Done
done (Err e) = Refused e

abbrev pub added : Result ℕ Refusal → Answer
added (Ok n) = Added n
added (Err e) = Refused e

-- Judging: of each token its refusals 13 to 20, then its kept rows as they are put.

-- the answer, and the sheet then
pub record Put : Type 0 where
  pub answer : Result (Unit {0}) Refusal
  pub sheet : Model

abbrev pub put : Result (Unit {0}) Refusal → Model → Put
put answer sheet = record { answer = answer; sheet = sheet }

abbrev pub put_unless : Option Refusal → Model → List PlacedRow → Put
put_unless None m rows = put (all_answer m rows) (after_all m rows)
put_unless (Some e) m rows = put (Err e) m

abbrev pub then_put : Result (Unit {0}) Refusal → Put → Put → Put
then_put (Ok _) here next = next
then_put (Err e) here next = here

module _ (t : Taken) where
  unfoldable pub token_put : Model → Token → List Token → Put
  token_put m x past = put_unless (first (faults_of t.knows t.extensions x past)) m (kept_of t.knows t.extensions x past)

  -- tokens behind others, the newest first; each is judged after those before it, up to the first refusal
  unfoldable pub tokens_put : Model → List Token → List Token → Put
  tokens_put m [] past = put (Ok tt) m
  tokens_put m (x ∷ xs) past =
      then_put (tokens_put m xs past).answer (tokens_put m xs past) (token_put (tokens_put m xs past).sheet x (xs ++ past))

-- what a row lets be judged, behind what was judged before
abbrev pub fresh : Begun → Row → List Token
fresh b r = newly_judged (kind_of r.kind) (placed_at (length b.rows) r) (tokens_of b)

abbrev pub row_put : Begun → Row → Model → Put
row_put b r m = tokens_put b.taken m (fresh b r) (judged (tokens_of b))

-- The calls.

unfoldable pub begin_on : Reading → Taken → Model → Out
begin_on idle t m = out (active (begun t [])) m Done
begin_on (active b) t m = out (active b) m (Refused OutOfTurn)
begin_on (spoilt b) t m = out (spoilt b) m (Refused OutOfTurn)

-- A sheet's own refusal leaves the record as it was; the others drop the draft and spoil it.
abbrev pub handed_back : Bool → Refusal → Begun → Model → Out
handed_back true e b m = out (active b) m (Refused e)
handed_back false e b m = out (spoilt b) (after_drop m) (Refused e)

-- refusal 23
abbrev pub is_of_sheet : Refusal → Bool
is_of_sheet e = (numbered e).number == 23

abbrev pub row_judged : Result (Unit {0}) Refusal → Row → Begun → Model → Out
row_judged (Ok _) r b m = out (active (with_row r b)) m Done
row_judged (Err e) r b m = handed_back (is_of_sheet e) e b m

abbrev pub row_tried : Option Refusal → Row → Begun → Model → Out
row_tried (Some e) r b m = out (active b) m (Refused e)
row_tried None r b m = row_judged (row_put b r m).answer r b (row_put b r m).sheet

unfoldable pub row_on : Reading → Row → Model → Out
row_on idle r m = out idle m (Refused OutOfTurn)
row_on (spoilt b) r m = out (spoilt b) m (Refused Spoilt)
row_on (active b) r m = row_tried (first (row_faults b.taken.texts b.rows r)) r b m

abbrev pub finish_sealed : Result ℕ Refusal → Begun → Model → Out
finish_sealed (Ok n) b m = out idle m (Added n)
finish_sealed (Err e) b m = out (active b) m (Refused e)

abbrev pub finish_marked : Option Refusal → Begun → Model → Out
finish_marked (Some e) b m = out idle (after_drop m) (Refused e)
finish_marked None b m = finish_sealed (seal_answer m) b (after_seal m)

abbrev pub finish_ended : Bool → Begun → Model → Out
finish_ended false b m = out (active b) m (Refused (OutOfOrder (length b.rows)))
finish_ended true b m = finish_marked (first (mismatches b.taken.knows b.taken.extensions (tokens_of b))) b m

unfoldable pub finish_on : Reading → Model → Out
finish_on idle m = out idle m (Refused OutOfTurn)
finish_on (spoilt b) m = out (spoilt b) m (Refused Spoilt)
finish_on (active b) m = finish_ended (has_ended (tokens_of b)) b m

unfoldable pub abandon_on : Reading → Model → Out
abandon_on idle m = out idle m (Refused OutOfTurn)
abandon_on (active b) m = out idle (after_drop m) Done
abandon_on (spoilt b) m = out idle (after_drop m) Done

-- File: the check of its form, begin, its rows one after the other, finish; a refusal on the way abandons.

abbrev pub or_abandoned : Answer → Model → Out → Out
or_abandoned Done m next = next
or_abandoned (Added n) m next = next
or_abandoned (Refused e) m next = out idle (after_drop m) (Refused e)

unfoldable pub rows_on : List Row → Reading → Model → Out
rows_on [] reading m = or_abandoned (finish_on reading m).answer (finish_on reading m).sheet (finish_on reading m)
rows_on (r ∷ rows) reading m =
    or_abandoned (row_on reading r m).answer (row_on reading r m).sheet
    (rows_on rows (row_on reading r m).reading (row_on reading r m).sheet)

abbrev pub file_opened : Result Contents Refusal → Knows → List Name → Model → Out
file_opened (Err e) knows extensions m = out idle m (Refused e)
file_opened (Ok file) knows extensions m = rows_on file.rows (active (begun (taken file.texts knows extensions) [])) m

unfoldable pub file_on : Reading → Bytes → Knows → List Name → Model → Out
file_on idle bytes knows extensions m = file_opened (opened bytes) knows extensions m
file_on (active b) bytes knows extensions m = out (active b) m (Refused OutOfTurn)
file_on (spoilt b) bytes knows extensions m = out (spoilt b) m (Refused OutOfTurn)

-- a call with its arguments besides the sheet
pub data Call : Type 0 where
  begin : Taken → Call
  row : Row → Call
  file : Bytes → Knows → List Name → Call
  finish : Call
  abandon : Call

unfoldable pub step : Call → Reading → Model → Out
step (begin t) reading m = begin_on reading t m
step (row r) reading m = row_on reading r m
step (file bytes knows extensions) reading m = file_on reading bytes knows extensions m
step finish reading m = finish_on reading m
step abandon reading m = abandon_on reading m
