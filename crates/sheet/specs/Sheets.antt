-- What a sheet means, and what each of its calls answers and leaves.
use Rattle.std.specs.Prelude.{ℕ, ◌+◌, Bool, cond, ◌&&◌, [], ◌∷◌, ◌++◌, length, Some, None, Ok, Err, Option, Result, ◌==◌, nat_le}
use Rattle.record.specs.declared.row.PlacedRow.{PlacedRow}
use Rattle.record.specs.declared.refusal.Refusal.{Refusal}
use Rattle.record.specs.declared.refusal.Refusal.TheVariants.{NoRoom, NotForSheet}
use Rattle.sheet.specs.Rows.{Rows, well_formed, open_in, closes, last_place, is_above, cost_of, spent}

-- A sheet: its sealed rows, which it shows as a readable; a draft behind them; the cost that it can hold; what each kind costs.
pub record Model : Type 0 where
  pub sealed : Rows
  pub draft : Rows
  pub capacity : ℕ
  pub cost : ℕ → ℕ

abbrev pub model : Rows → Rows → ℕ → (ℕ → ℕ) → Model
model sealed draft capacity cost = record { sealed = sealed; draft = draft; capacity = capacity; cost = cost }

-- The row can stand behind a draft with this last place and so many open starts.
unfoldable pub follows : Option ℕ → ℕ → PlacedRow → Bool
follows last starts x = well_formed x.row && (is_above last x.place && closes starts x)

-- the held rows, sealed and draft, and this one cost no more than the capacity
unfoldable pub has_room : Model → PlacedRow → Bool
has_room m x = nat_le (spent m.cost m.sealed + spent m.cost m.draft + cost_of m.cost x) m.capacity

-- A row that cannot follow is refused before one that has no room.
abbrev pub refusal : Bool → Bool → ℕ → Option Refusal
refusal follow room place = cond follow (cond room None (Some (NoRoom place))) (Some NotForSheet)

abbrev pub answer : {X : Type 0} → Option Refusal → X → Result X Refusal
answer None x = Ok x
answer (Some e) x = Err e

-- a refusal changes nothing
abbrev pub unless : Option Refusal → Model → Model → Model
unless None changed as_it_was = changed
unless (Some e) changed as_it_was = as_it_was

-- Put: the row goes behind the draft.

unfoldable pub put_refusal : Model → PlacedRow → Option Refusal
put_refusal m x = refusal (follows (last_place m.draft) (open_in m.draft) x) (has_room m x) x.place

unfoldable pub put_answer : Model → PlacedRow → Result (Unit {0}) Refusal
put_answer m x = answer (put_refusal m x) tt

unfoldable pub after_put : Model → PlacedRow → Model
after_put m x = unless (put_refusal m x) (model m.sealed (m.draft ++ x ∷ []) m.capacity m.cost) m

-- Seal: the draft goes behind the sealed rows, unless a start is open in it. The answer is how many rows that were.

abbrev pub open_refusal : ℕ → Option Refusal
open_refusal starts = cond (starts == 0) None (Some NotForSheet)

unfoldable pub seal_answer : Model → Result ℕ Refusal
seal_answer m = answer (open_refusal (open_in m.draft)) (length m.draft)

unfoldable pub after_seal : Model → Model
after_seal m = unless (open_refusal (open_in m.draft)) (model (m.sealed ++ m.draft) [] m.capacity m.cost) m

-- Drop: the draft is empty.
unfoldable pub after_drop : Model → Model
after_drop m = model m.sealed [] m.capacity m.cost

-- Rows put one after another, up to the first refusal, and then sealed.

abbrev pub then_rows : Result (Unit {0}) Refusal → Result (Unit {0}) Refusal → Result (Unit {0}) Refusal
then_rows (Ok _) rest = rest
then_rows (Err e) rest = Err e

abbrev pub then_sealed : Result (Unit {0}) Refusal → Result ℕ Refusal → Result ℕ Refusal
then_sealed (Ok _) rest = rest
then_sealed (Err e) rest = Err e

abbrev pub then_model : Result (Unit {0}) Refusal → Model → Model → Model
then_model (Ok _) rest here = rest
then_model (Err e) rest here = here

unfoldable pub all_answer : Model → Rows → Result (Unit {0}) Refusal
all_answer m [] = Ok tt
all_answer m (x ∷ xs) = then_rows (put_answer m x) (all_answer (after_put m x) xs)

unfoldable pub after_all : Model → Rows → Model
after_all m [] = m
after_all m (x ∷ xs) = then_model (put_answer m x) (after_all (after_put m x) xs) (after_put m x)

unfoldable pub record_answer : Model → Rows → Result ℕ Refusal
record_answer m xs = then_sealed (all_answer m xs) (seal_answer (after_all m xs))

unfoldable pub after_record : Model → Rows → Model
after_record m xs = then_model (all_answer m xs) (after_seal (after_all m xs)) (after_all m xs)
