-- The steps of a loop that puts each row that an iterator gives.
use Rattle.std.proofs.Common.{◌≡◌, [], ◌∷◌, Some, None, Ok, Err, Option, Result, ap, ◌∙◌}
use Rattle.std.proofs.lemmas.Iterator.Consumers.{YieldsList-from_first}
use Rattle.std.specs.Iterator.{AlwaysYields, YieldsFirst}
use Rattle.record.specs.declared.row.PlacedRow.{PlacedRow}
use Rattle.record.specs.declared.refusal.Refusal.{Refusal}
use Rattle.sheet.specs.declared.Readable as readable
use Rattle.sheet.specs.declared.rows.Rows as iterator
use Rattle.sheet.specs.Left.{left}
use Rattle.sheet.specs.Rows.{Rows}
use Rattle.sheet.specs.Sheets.{Model, put_answer, after_put, then_rows, then_model, all_answer, after_all}

module _ {I : Type 0} (steps : I → Option PlacedRow → I → Type 0) where
  -- the rows that an iterator still gives, put, are answered so and leave this
  abbrev pub Gives : I → Model → Result (Unit {0}) Refusal → Model → Type 0
  Gives it m said end =
      (ys : Rows) × AlwaysYields steps (λ x. x) it ys × (all_answer m ys ≡ said) × (after_all m ys ≡ end)

  -- and so do all the rows that it gave at first
  abbrev pub Rest : I → Model → I → Model → Type 0
  Rest first before it m =
      (xs : Rows) → AlwaysYields steps (λ x. x) first xs → Gives it m (all_answer before xs) (after_all before xs)

  -- one turn: a row is accepted, or it is refused and the rest is not put
  module _ (it it' : I) (m m' : Model) (said : Result (Unit {0}) Refusal) (end : Model) where
    pub each_more : (x : PlacedRow) → steps it (Some x) it' → Ok tt ≡ put_answer m x → m' ≡ after_put m x → Gives it m said end → Gives it' m' said end
    unfolding all_answer after_all
    each_more x step fine after ([], p, _, _) = absurd (p x it' step)
    each_more x step fine after (y ∷ ys, p, a, b) =
        let q = p.1 x it' step in
        let put : Ok tt ≡ put_answer m y = fine ∙ ap (put_answer m) q.0 in
        let then : m' ≡ after_put m y = after ∙ ap (after_put m) q.0 in (
          ys,
          q.1,
          ap (λ n. all_answer n ys) then ∙ ap (λ r. then_rows r (all_answer (after_put m y) ys)) put ∙ a,
          ap (λ n. after_all n ys) then ∙ ap (λ r. then_model r (after_all (after_put m y) ys) (after_put m y)) put ∙ b,
        )

    pub each_refused : (x : PlacedRow) (e : Refusal) → steps it (Some x) it' → Err e ≡ put_answer m x → m' ≡ after_put m x → Gives it m said end → (Err e ≡ said) × (m' ≡ end)
    unfolding all_answer after_all
    each_refused x e step bad after ([], p, _, _) = absurd (p x it' step)
    each_refused x e step bad after (y ∷ ys, p, a, b) =
        let q = p.1 x it' step in
        let put : Err e ≡ put_answer m y = bad ∙ ap (put_answer m) q.0 in
        let then : m' ≡ after_put m y = after ∙ ap (after_put m) q.0 in (
          ap (λ r. then_rows r (all_answer (after_put m y) ys)) put ∙ a,
          then ∙ ap (λ r. then_model r (after_all (after_put m y) ys) (after_put m y)) put ∙ b,
        )

  -- none is left
  pub each_done : (it it' : I) (m : Model) (said : Result (Unit {0}) Refusal) (end : Model) → steps it None it' → Gives it m said end → (Ok tt ≡ said) × (m ≡ end)
  unfolding all_answer after_all
  each_done it it' m said end step ([], _, a, b) = (a, b)
  each_done it it' m said end step (y ∷ ys, p, _, _) = absurd (p.0 it' step)

-- an iterator over a readable gives the rows that it has left
pub left_given : {R : Type 0} {r : readable.Ghosts R} (s : iterator.Rows R r) (xs : Rows) → left s ≡ xs → AlwaysYields (YieldsFirst left) (λ x. x) s xs
left_given s xs e = (YieldsList-from_first (λ x. x) left {s = s} xs e).runs
