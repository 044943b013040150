-- What a finish or a file that is accepted seals.
use Rattle.std.proofs.Common.{◌≡◌, ℕ, true, false, ◌⊎◌, List, [], ◌∷◌, ◌++◌, length, sym, refl, ap, ◌∙◌, subst, inl, inr}
use mathlib.Core.Bool.{false≢true}
use Rattle.std.proofs.lemmas.List.{append_cancel_left}
use Rattle.std.proofs.lemmas.Option.{same_Some}
use Rattle.text.specs.Bytes.{Bytes}
use Rattle.record.specs.declared.row.Row.{Row}
use Rattle.record.specs.declared.row.PlacedRow.{PlacedRow}
use Rattle.record.specs.Rows.{kind_of}
use Rattle.file.specs.Form.{opened}
use Rattle.knowledge.specs.Understood.{Knows}
use Rattle.card.specs.Cards.{Name}
use Rattle.sheet.specs.Sheets.{Model, after_drop}
use Rattle.rules.specs.Lists.{In}
use Rattle.rules.specs.Laws.{has_name}
use Rattle.rules.proofs.Members.{in_append}
use Rattle.rules.proofs.Understood.{fine_names}
use Rattle.calls.specs.Calls.{Taken, Begun, Reading, idle, active, spoilt, Out, begin_on, row_on, finish_on, abandon_on, file_on, Call, begin, row, file, finish, abandon, step}
use Rattle.calls.specs.Book.{New, after, sealed_by, Event, events, is_accepted, kept_in, record_in, book, begun_by}
use Rattle.calls.specs.Law.{Ends, SealedLast, Sealed, FineIn, AreUnderstood}
use Rattle.calls.proofs.Cases.{RowCase, row_case, Sealable, FinishCase, finish_case}
use Rattle.calls.proofs.Holds.{Holds, holds, FileCase, file_case}

-- of a finish, what the reader read
abbrev Was : Call → Reading → Begun → Type 0
Was (begin t) rd b = Unit {0}
Was (row r) rd b = Unit {0}
Was (file bytes K ext) rd b = Unit {0}
Was finish rd b = rd ≡ active b
Was abandon rd b = Unit {0}

abbrev SealsNone : Call → List Event → Model → Out → Type 0
SealsNone c past m o = (o.sheet.sealed ≡ m.sealed) × ((i : ℕ) (b : Begun) → Ends c past i b → is_accepted o.answer ≡ true → ⊥)

-- a call seals nothing, or the kept rows of the record that it ends
abbrev pub StepSeals : Call → List Event → Reading → Model → Out → Type 0
StepSeals c past rd m o =
    SealsNone c past m o
    ⊎ ((i : ℕ) × (b : Begun) × Ends c past i b × (is_accepted o.answer ≡ true) × (o.sheet.sealed ≡ m.sealed ++ kept_in b)
    × Sealable b × Was c rd b)

module _ (past : List Event) (m : Model) where
  begin_seals : (rd : Reading) (t : Taken) → StepSeals (begin t) past rd m (begin_on rd t m)
  unfolding begin_on
  begin_seals idle t = inl (refl, λ i b e a. e)
  begin_seals (active b) t = inl (refl, λ i b e a. e)
  begin_seals (spoilt b) t = inl (refl, λ i b e a. e)

  abandon_seals : (rd : Reading) → StepSeals abandon past rd m (abandon_on rd m)
  unfolding abandon_on after_drop
  abandon_seals idle = inl (refl, λ i b e a. e)
  abandon_seals (active b) = inl (refl, λ i b e a. e)
  abandon_seals (spoilt b) = inl (refl, λ i b e a. e)

  row_seals : (rd : Reading) (r : Row) → Holds rd m (book past) → StepSeals (row r) past rd m (row_on rd r m)
  unfolding row_on after_drop
  row_seals idle r h = inl (refl, λ i b e a. e)
  row_seals (spoilt b) r h = inl (refl, λ i b e a. e)
  row_seals (active b) r h = go (row_on (active b) r m) (row_case b r m h.2)
    where
      go : (o : Out) → RowCase b r m o → StepSeals (row r) past (active b) m o
      go o (inl x) = inl (ap (λ (o : Out). o.sheet.sealed) x.2, λ i b e a. e)
      go o (inr (f, inl x)) = inl (ap (λ (o : Out). o.sheet.sealed) x.1, λ i b e a. e)
      go o (inr (f, inr x)) = inl (ap (λ (o : Out). o.sheet.sealed) x.2, λ i b e a. e)

  refused-not : (o : Out) → is_accepted o.answer ≡ false → is_accepted o.answer ≡ true → ⊥
  refused-not o p q = false≢true (sym p ∙ q)

  finish_seals : (rd : Reading) → Holds rd m (book past) → StepSeals finish past rd m (finish_on rd m)
  unfolding finish_on after_drop
  finish_seals idle h = inl (refl, λ i b e a. false≢true a)
  finish_seals (spoilt b) h = inl (refl, λ i b e a. false≢true a)
  finish_seals (active b) h = go (finish_on (active b) m) (finish_case b m h.2)
    where
      go : (o : Out) → FinishCase b m o → StepSeals finish past (active b) m o
      go o (inl x) = inl (ap (λ (o : Out). o.sheet.sealed) x.1, λ i d e a. refused-not o (ap (λ (o : Out). is_accepted o.answer) x.1) a)
      go o (inr (inl x)) = inl (ap (λ (o : Out). o.sheet.sealed) x.3, λ i d e a. refused-not o (ap (λ (o : Out). is_accepted o.answer) x.3) a)
      go o (inr (inr x)) =
          inr (begun_by past, b, (refl, h.1), ap (λ (o : Out). is_accepted o.answer) x.1, ap (λ (o : Out). o.sheet.sealed) x.1, x.0, refl)

  file_seals : (rd : Reading) (bytes : Bytes) (K : Knows) (ext : List Name) → Holds rd m (book past)
      → StepSeals (file bytes K ext) past rd m (file_on rd bytes K ext m)
  unfolding after_drop
  file_seals (active b) bytes K ext h = unfold file_on in inl (refl, λ i d e a. false≢true a)
  file_seals (spoilt b) bytes K ext h = unfold file_on in inl (refl, λ i d e a. false≢true a)
  file_seals idle bytes K ext h = go (file_on idle bytes K ext m) (file_case bytes K ext m h.2)
    where
      go : (o : Out) → FileCase (record_in (opened bytes) K ext) m o → StepSeals (file bytes K ext) past idle m o
      go o (inl x) = inl (ap (λ (o : Out). o.sheet.sealed) x.2, λ i d e a. refused-not o (ap (λ (o : Out). is_accepted o.answer) x.2) a)
      go o (inr x) =
          inr (length past, x.0, (refl, x.1), ap (λ (o : Out). is_accepted o.answer) x.3, ap (λ (o : Out). o.sheet.sealed) x.3, x.2, tt)

  any_seals : (c : Call) (rd : Reading) → Holds rd m (book past) → StepSeals c past rd m (step c rd m)
  unfolding step
  any_seals (begin t) rd h = begin_seals rd t
  any_seals (row r) rd h = row_seals rd r h
  any_seals (file bytes K ext) rd h = file_seals rd bytes K ext h
  any_seals finish rd h = finish_seals rd h
  any_seals abandon rd h = abandon_seals rd

pub step_seals : (new : New) (c : Call) (past : List Call)
    → StepSeals c (events new past) (after new past).reading (after new past).sheet (step c (after new past).reading (after new past).sheet)
step_seals new c past = any_seals (events new past) (after new past).sheet c (after new past).reading (holds new past)

-- a call ends one record
ends_same : (c : Call) (past : List Event) (i j : ℕ) (b d : Begun) → Ends c past i b → Ends c past j d → (i ≡ j) × (b ≡ d)
ends_same (begin t) past i j b d h k = absurd h
ends_same (row r) past i j b d h k = absurd h
ends_same (file bytes K ext) past i j b d h k = (h.0 ∙ sym k.0, same_Some b d (sym h.1 ∙ k.1))
ends_same finish past i j b d h k = (h.0 ∙ sym k.0, same_Some b d (sym h.1 ∙ k.1))
ends_same abandon past i j b d h k = absurd h

-- what is sealed are the kept rows of a record without mismatch
pub record Kept (c : Call) (rd : Reading) (b : Begun) (rows : List PlacedRow) : Type 0 where
  pub are : rows ≡ kept_in b
  pub sealable : Sealable b
  pub was : Was c rd b

pub last-kept : (new : New) (c : Call) (past : List Call) (i : ℕ) (b : Begun) (rows : List PlacedRow) → SealedLast new c past i b rows
    → Kept c (after new past).reading b rows
last-kept new c past i b rows h = go (step_seals new c past)
  where
    go : StepSeals c (events new past) (after new past).reading (after new past).sheet (step c (after new past).reading (after new past).sheet)
        → Kept c (after new past).reading b rows
    go (inl x) = absurd (x.1 i b h.0 h.1)
    go (inr x) =
        let q : x.1 ≡ b = (ends_same c (events new past) x.0 i x.1 b x.2 h.0).1 in
        record {
          are = append_cancel_left (sealed_by new past) rows (kept_in b) (sym h.2 ∙ x.4 ∙ ap (λ y. sealed_by new past ++ kept_in y) q);
          sealable = subst Sealable q x.5;
          was = subst (Was c (after new past).reading) q x.6;
        }

pub sealed-kept : (new : New) (calls : List Call) (i : ℕ) (b : Begun) (rows : List PlacedRow) → Sealed new calls i b rows
    → (rows ≡ kept_in b) × Sealable b
sealed-kept new [] i b rows h = absurd h
sealed-kept new (c ∷ past) i b rows (inl h) = sealed-kept new past i b rows h
sealed-kept new (c ∷ past) i b rows (inr h) = let k = last-kept new c past i b rows h in (k.are, k.sealable)

-- Every sealed row is of a sealed record.

abbrev Found : New → List Call → PlacedRow → Type 0
Found new calls x = (i : ℕ) × (b : Begun) × (rows : List PlacedRow) × Sealed new calls i b rows × In x rows

found-more : (new : New) (c : Call) (past : List Call) (x : PlacedRow) → Found new past x → Found new (c ∷ past) x
found-more new c past x h = (h.0, h.1, h.2, inl h.3, h.4)

found : (new : New) (calls : List Call) (x : PlacedRow) → In x (sealed_by new calls) → Found new calls x
found new [] x h = absurd h
found new (c ∷ past) x h = go (step_seals new c past) (found new past x)
  where
    new-one : (i : ℕ) (b : Begun) → SealedLast new c past i b (kept_in b) → In x (sealed_by new past) ⊎ In x (kept_in b)
        → (In x (sealed_by new past) → Found new past x) → Found new (c ∷ past) x
    new-one i b s (inl k) f = found-more new c past x (f k)
    new-one i b s (inr k) f = (i, b, kept_in b, inr s, k)

    go : StepSeals c (events new past) (after new past).reading (after new past).sheet (step c (after new past).reading (after new past).sheet)
        → (In x (sealed_by new past) → Found new past x) → Found new (c ∷ past) x
    go (inl y) f = found-more new c past x (f (subst (In x) y.0 h))
    go (inr y) f = new-one y.0 y.1 (y.2, y.3, y.4) (in_append x (sealed_by new past) (kept_in y.1) (subst (In x) y.4 h)) f

pub are-understood : (new : New) (calls : List Call) → AreUnderstood new calls (sealed_by new calls)
are-understood new calls = (found new calls, fine)
  where
    fine : (i : ℕ) (b : Begun) (rows : List PlacedRow) → Sealed new calls i b rows
        → (x : PlacedRow) → In x rows → has_name (kind_of x.row.kind) ≡ true → FineIn b x
    fine i b rows s x k n =
        let q = sealed-kept new calls i b rows s in
        fine_names b.taken.knows b.taken.extensions b.taken.texts b.rows q.1.matched x (subst (In x) q.0 k) n
