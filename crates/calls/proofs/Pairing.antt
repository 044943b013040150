-- The two notions of pairing; sealed rows pair.
use Rattle.std.proofs.Common.{◌≡◌, ℕ, ◌+◌, ◌-◌, Bool, true, cond, not, ◌||◌, eqb, ltb, List, [], ◌∷◌, Some, None, fold, refl, ap, ◌∙◌, inl, inr, arith}
use Rattle.std.proofs.lemmas.Bool.{and_parts, eqb-true}
use Rattle.record.specs.declared.row.PlacedRow.{PlacedRow}
use Rattle.record.specs.Rows.{kind_of}
use Rattle.sheet.specs.Rows.{open_behind, open_in, closes, all_close, pairs}
use Rattle.rules.specs.Lists.{In, opens, open_after}
use Rattle.rules.proofs.Pairs.{open_append, kept_rows_pair}
use Rattle.calls.specs.Calls.{Call, step}
use Rattle.calls.specs.Book.{New, after, sealed_by, events, kept_in}
use Rattle.calls.specs.Promises.{PairingIsOne, SealedRowsPair}
use Rattle.calls.proofs.Fits.{kind_by, open_pairs}
use Rattle.calls.proofs.Seals.{StepSeals, step_seals}

kind_opens : (k n : ℕ) (a b c d e : Bool) → eqb k 1 ≡ a → eqb k 2 ≡ b → eqb k 3 ≡ c → eqb k 4 ≡ d → eqb k 5 ≡ e
    → (kind_by a b c d e ≡ None → ⊥) → (not e || ltb 0 n) ≡ true
    → opens (kind_by a b c d e) (Some n) ≡ Some (cond a (n + 1) (cond e (n - 1) n))
kind_opens k n a b c d e p q r s t w h = grind arith

behind-opens : (n : ℕ) (x : PlacedRow) → (kind_of x.row.kind ≡ None → ⊥) → closes n x ≡ true
    → opens (kind_of x.row.kind) (Some n) ≡ Some (open_behind n x)
behind-opens n x w h = kind_opens x.row.kind n _ _ _ _ _ refl refl refl refl refl w h

all_opens : (n : ℕ) (xs : List PlacedRow) → ((x : PlacedRow) → In x xs → kind_of x.row.kind ≡ None → ⊥) → all_close n xs ≡ true
    → open_after (Some n) xs ≡ Some (fold open_behind n xs)
all_opens n [] w h = refl
all_opens n (x ∷ xs) w h =
    let k = and_parts (closes n x) (all_close (open_behind n x) xs) h in
    ap (λ o. open_after o xs) (behind-opens n x (w x (inl refl)) k.0) ∙ all_opens (open_behind n x) xs (λ y i. w y (inr i)) k.1

pub pairing_is_one : PairingIsOne
unfolding pairs open_in
pairing_is_one rows = (open_pairs rows, back)
  where
    back : ((x : PlacedRow) → In x rows → kind_of x.row.kind ≡ None → ⊥) → pairs rows ≡ true → open_after (Some 0) rows ≡ Some 0
    back w h =
        let k = and_parts (all_close 0 rows) (eqb (fold open_behind 0 rows) 0) h in
        all_opens 0 rows w k.0 ∙ ap Some (eqb-true (fold open_behind 0 rows) 0 k.1)

sealed_open : (new : New) (calls : List Call) → open_after (Some 0) (sealed_by new calls) ≡ Some 0
sealed_open new [] = refl
sealed_open new (c ∷ past) = go (step_seals new c past) (sealed_open new past)
  where
    go : StepSeals c (events new past) (after new past).reading (after new past).sheet (step c (after new past).reading (after new past).sheet)
        → open_after (Some 0) (sealed_by new past) ≡ Some 0 → open_after (Some 0) (sealed_by new (c ∷ past)) ≡ Some 0
    go (inl x) h = ap (open_after (Some 0)) x.0 ∙ h
    go (inr x) h =
        ap (open_after (Some 0)) x.4 ∙ open_append (Some 0) (sealed_by new past) (kept_in x.1)
        ∙ ap (λ o. open_after o (kept_in x.1)) h
        ∙ (kept_rows_pair x.1.taken.texts x.1.taken.knows x.1.taken.extensions x.1.rows).1 x.5.ended

pub sealed_rows_pair : SealedRowsPair
sealed_rows_pair new calls = open_pairs (sealed_by new calls) (sealed_open new calls)
