-- A row taken by code.
use Rattle.std.proofs.Common.{◌≡◌, ℕ, List, [], ◌∷◌, ◌++◌, reverse, length, Some, Ok, Err, Option, Result, sym, ap, ◌∙◌, subst}
use Rattle.std.proofs.lemmas.Result.{IfOk-at_ok}
use Rattle.record.specs.declared.row.Row.{Row}
use Rattle.record.specs.declared.row.PlacedRow.{PlacedRow}
use Rattle.record.specs.declared.row.Kind.{Kind}
use Rattle.record.specs.Rows.{kind_of}
use Rattle.record.specs.declared.refusal.Refusal.{Refusal}
use Rattle.sheet.specs.Sheets.{Model}
use Rattle.rules.specs.Elements.{Token, placed_at, tokens}
use Rattle.rules.specs.Scope.{Scope}
use Rattle.rules.specs.Order.{row_faults}
use Rattle.rules.specs.Records.{judged, newly_judged}
use Rattle.calls.specs.Calls.{Taken}
use Rattle.scope.specs.Bounded.{held}
use Rattle.enter.specs.declared.in_scope.Lengths.{Lengths}
use Rattle.enter.specs.Scopes.{scope_of, lengths_of, scope_before}
use Rattle.enter.proofs.Before.{sizes-of}
use Rattle.understood.specs.Answers.{asked}
use Rattle.order.specs.declared.progress.Progress.{Progress}
use Rattle.order.specs.Following.{Follows}
use Rattle.frames.specs.Settle.{Settled}
use Rattle.course.specs.declared.Course.{Course}
use Rattle.course.specs.Standing.{frames_of, Stands, SameRecord}
use Rattle.course.specs.Taking.{Judged, Took}
use Rattle.course.proofs.Turns.{next_stands}

-- the place of a row is the number of rows before it
pub here : (texts : _) (rows : List Row) (p : Progress) (row : Row) → Follows texts rows p → (n : ℕ) → n ≡ p.rows
    → ◌≡◌ {A = PlacedRow} (record { place = n; row = row }) (placed_at (length rows) row)
unfolding placed_at
here texts rows p row f n e = ap (λ (z : ℕ). record { place = z; row = row }) (e ∙ f.count)

module _ (t : Taken) (rows : List Row) (row : Row) (kind : Kind) (k : kind_of row.kind ≡ Some kind) (f : row_faults t.texts rows row ≡ [])
    (c : Course) (h : Stands t.texts t.knows t.extensions rows c) (m m' : Model) (r : Result (Unit {0}) Refusal)
    (y : PlacedRow) (at : y ≡ placed_at (length rows) row) (d : Course)
    (same : SameRecord c d) (j : Judged t rows y kind c d m m' r) where
  abbrev now_judged : List Token
  now_judged = newly_judged (Some kind) (placed_at (length rows) row) (tokens t.texts rows) ++ judged (tokens t.texts rows)

  answered : Judged t rows (placed_at (length rows) row) kind c d m m' r
  answered = subst (λ (z : PlacedRow). Judged t rows z kind c d m m' r) at j

  -- the row joins the record
  pub took_row : (e : Course) → r ≡ Ok tt → e.known ≡ d.known → e.scope ≡ d.scope → e.frames ≡ d.frames → e.mismatch ≡ d.mismatch
      → Follows t.texts (row ∷ rows) e.progress → Took t rows row e m m' r
  unfolding placed_at
  took_row e ok a b g l follows =
      let settled : Settled t.knows t.extensions now_judged (scope_of t.texts d.scope) (frames_of d) d.mismatch
      = IfOk-at_ok _ ok answered.settled in
      record {
        answer = answered.answer;
        sheet = answered.sheet;
        stands = rw ok
            (next_stands t rows row kind k f c e h (a ∙ same.0) follows
            (subst (λ (z : Option Refusal). Settled t.knows t.extensions now_judged (scope_of t.texts e.scope) (frames_of e) z) (sym l)
            (subst (λ z. Settled t.knows t.extensions now_judged (scope_of t.texts e.scope) (reverse (held z)) d.mismatch) (sym g)
            (subst (λ z. Settled t.knows t.extensions now_judged (scope_of t.texts z) (frames_of d) d.mismatch) (sym b) settled))));
        left = λ q is o. absurd (cc);
      }

  -- the row is refused; what its element brought into scope goes
  pub took_none : (e : Course) (q : Refusal) → r ≡ Err q → e.known ≡ d.known → e.progress ≡ d.progress → e.frames ≡ d.frames → e.mismatch ≡ d.mismatch
      → (lengths : Lengths) → lengths ≡ lengths_of c.scope → scope_of t.texts e.scope ≡ scope_before lengths (scope_of t.texts d.scope)
      → Took t rows row e m m' r
  unfolding placed_at
  took_none e q is a b g l lengths size cut =
      record {
        answer = answered.answer;
        sheet = answered.sheet;
        stands = rw is tt;
        left = λ v said o.
            let w = answered.left v said o in
            record {
              knowing = λ n. ap (λ u. asked u n) (a ∙ same.0) ∙ h.knowing n;
              follows = subst (λ (p : Progress). Follows t.texts rows p) (sym (b ∙ same.1)) h.follows;
              few = h.few;
              settled =
                  subst (λ (z : Option Refusal). Settled t.knows t.extensions (judged (tokens t.texts rows)) (scope_of t.texts e.scope) (frames_of e) z) (sym (l ∙ w.2))
                  (subst (λ z. Settled t.knows t.extensions (judged (tokens t.texts rows)) (scope_of t.texts e.scope) (reverse (held z)) c.mismatch) (sym (g ∙ w.1))
                  (subst (λ (z : Scope). Settled t.knows t.extensions (judged (tokens t.texts rows)) z (frames_of c) c.mismatch)
                  (sym (cut ∙ ap (λ (n : Lengths). scope_before n (scope_of t.texts d.scope)) (size ∙ sizes-of t.texts c.scope) ∙ w.0.back))
                  h.settled));
            };
      }
