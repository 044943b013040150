-- One row more.
use Rattle.std.proofs.Common.{◌≡◌, ◌≤◌, true, false, not, ◌&&◌, ◌||◌, leb, List, [], ◌∷◌, ◌++◌, length, Some, None, Ok, Err, Option, Result, sym, refl, ap, ◌∙◌, subst, arith}
use Rattle.std.proofs.lemmas.Bool.{leb-false}
use Rattle.record.specs.declared.row.Row.{Row}
use Rattle.record.specs.declared.row.PlacedRow.{PlacedRow}
use Rattle.record.specs.declared.row.Kind.{Kind}
use Rattle.record.specs.declared.row.Kind.TheVariants.{Start, Declaration, Attribute, Text, End}
use Rattle.record.specs.Rows.{kind_of}
use Rattle.record.specs.declared.refusal.Refusal.{Refusal}
use Rattle.record.specs.declared.refusal.Refusal.TheVariants.{Misplaced}
use Rattle.sheet.specs.Sheets.{Model}
use Rattle.rules.specs.Elements.{Token, text, end, placed_at, tokens, add, with_decl, with_attr, decl_of, attr_of, Element, around}
use Rattle.rules.specs.Scope.{Scope}
use Rattle.rules.specs.Steps.{when, kept_of}
use Rattle.rules.specs.Faults.{fault, first, faults_of}
use Rattle.rules.specs.Order.{is_none, is_in_order, is_at_limit, row_faults}
use Rattle.rules.specs.Records.{judged, waiting, newly_judged}
use Rattle.rules.specs.States.{faults_in}
use Rattle.rules.proofs.Members.{left_nil, right_nil, no_fault}
use Rattle.rules.proofs.Stable.{what_a_row_lets_be_judged}
use Rattle.calls.specs.Calls.{Taken, begun, Put, put, put_unless, then_put, token_put, tokens_put, row_put}
use Rattle.enter.specs.Scopes.{scope_of}
use Rattle.understood.specs.Answers.{asked}
use Rattle.order.specs.Following.{Follows}
use Rattle.order.proofs.Rests.{around_on_top, tail_length}
use Rattle.frames.specs.declared.frame.Frame.{Frame as Held}
use Rattle.frames.specs.Stacks.{innermost}
use Rattle.frames.specs.Settle.{Settled}
use Rattle.frames.proofs.Settling.{text-kept, end_refused, end_kept}
use Rattle.course.specs.declared.Course.{Course}
use Rattle.course.specs.Standing.{frames_of, Stands}
use Rattle.course.specs.Rows.{keeps_in, ends_empty, row_in}
use Rattle.course.specs.Taking.{wait_put}
use Rattle.course.proofs.Waits.{all_of, held-length}

-- What judging a row comes to, by its kind.

module _ (t : Taken) (rows : List Row) (r : Row) (m : Model) where
  abbrev toks : List Token
  toks = tokens t.texts rows

  abbrev x : PlacedRow
  x = placed_at (length rows) r

  -- judging the newly judged tokens of a row of this kind
  abbrev pub put_of : Kind → Put
  put_of kind = tokens_put t m (newly_judged (Some kind) x toks) (judged toks)

  pub row_is : (kind : Kind) → kind_of r.kind ≡ Some kind → row_put (begun t rows) r m ≡ put_of kind
  row_is kind k = ap (λ (o : Option Kind). tokens_put t m (newly_judged o x toks) (judged toks)) k

  pub decl_put : put_of Declaration ≡ put (Ok tt) m
  unfolding newly_judged tokens_put
  decl_put = refl

  pub attr_put : put_of Attribute ≡ put (Ok tt) m
  unfolding newly_judged tokens_put
  attr_put = refl

  pub start-put : put_of Start ≡ wait_put t rows m
  unfolding newly_judged
  start-put = refl

  text-chain : put_of Text ≡ then_put (wait_put t rows m).answer (wait_put t rows m) (token_put t (wait_put t rows m).sheet (text x) (waiting toks ++ judged toks))
  unfolding newly_judged tokens_put
  text-chain = refl

  end-chain : put_of End ≡ then_put (wait_put t rows m).answer (wait_put t rows m) (token_put t (wait_put t rows m).sheet (end x) (waiting toks ++ judged toks))
  unfolding newly_judged tokens_put
  end-chain = refl

  -- the element that waits is refused
  then-refused : (p next : Put) (e : Refusal) → p.answer ≡ Err e → then_put p.answer p next ≡ p
  then-refused p next e f = ap (λ (a : Result (Unit {0}) Refusal). then_put a p next) f

  pub text-refused : (e : Refusal) → (wait_put t rows m).answer ≡ Err e → put_of Text ≡ wait_put t rows m
  text-refused e f = text-chain ∙ then-refused (wait_put t rows m) _ e f

  pub end_refused_before : (e : Refusal) → (wait_put t rows m).answer ≡ Err e → put_of End ≡ wait_put t rows m
  end_refused_before e f = end-chain ∙ then-refused (wait_put t rows m) _ e f

  then-passed : (p next : Put) → p.answer ≡ Ok tt → then_put p.answer p next ≡ next
  then-passed p next f = ap (λ (a : Result (Unit {0}) Refusal). then_put a p next) f

  module _ (s : Scope) (fs : List Held) (mark : Option Refusal) (h : Settled t.knows t.extensions toks s fs mark) where
    text_token : (n : Model) → token_put t n (text x) toks ≡ row_in n (innermost fs) Text x
    unfolding token_put faults_of fault
    text_token n = ap (λ (l : List PlacedRow). put_unless None n l) (text-kept t.knows t.extensions toks s fs mark h x)

    pub text-put : (wait_put t rows m).answer ≡ Ok tt → put_of Text ≡ row_in (wait_put t rows m).sheet (innermost fs) Text x
    text-put f =
        text-chain ∙ then-passed (wait_put t rows m) _ f
        ∙ ap (λ (l : List Token). token_put t (wait_put t rows m).sheet (text x) l) (all_of toks)
        ∙ text_token (wait_put t rows m).sheet

    pub end-first : first (faults_of t.knows t.extensions (end x) toks) ≡ first (fault (ends_empty (innermost fs) End) (Misplaced x.place))
    unfolding faults_in
    end-first = ap first (end_refused t.knows t.extensions toks s fs mark h x)

    end_token : (n : Model) → token_put t n (end x) toks ≡ row_in n (innermost fs) End x
    unfolding token_put
    end_token n =
        elim (first (faults_of t.knows t.extensions (end x) toks))
        as (λ (v : Option Refusal). first (faults_of t.knows t.extensions (end x) toks) ≡ v
        → put_unless v n (kept_of t.knows t.extensions (end x) toks) ≡ put_unless v n (when ((innermost fs).entered && keeps_in (innermost fs).state End) x)) [
          | None ↦ λ e. ap (λ (l : List PlacedRow). put_unless None n l) (end_kept t.knows t.extensions toks s fs mark h x e)
          | Some e ↦ λ _. refl
        ] refl
        ∙ ap (λ (o : Option Refusal). put_unless o n (when ((innermost fs).entered && keeps_in (innermost fs).state End) x)) end-first

    pub end-put : (wait_put t rows m).answer ≡ Ok tt → put_of End ≡ row_in (wait_put t rows m).sheet (innermost fs) End x
    end-put f =
        end-chain ∙ then-passed (wait_put t rows m) _ f
        ∙ ap (λ (l : List Token). token_put t (wait_put t rows m).sheet (end x) l) (all_of toks)
        ∙ end_token (wait_put t rows m).sheet

-- The record with the row.

module _ (t : Taken) (rows : List Row) (r : Row) (kind : Kind) (k : kind_of r.kind ≡ Some kind) (f : row_faults t.texts rows r ≡ []) where
  abbrev before : List Token
  before = tokens t.texts rows

  abbrev placed : PlacedRow
  placed = placed_at (length rows) r

  in_order : is_in_order (Some kind) before ≡ true
  unfolding row_faults
  in_order =
      let g : not (is_in_order (kind_of r.kind) before) ≡ false = no_fault _ _ (right_nil _ _ (left_nil _ _ (left_nil _ _ f))) in
      let e : is_in_order (kind_of r.kind) before ≡ is_in_order (Some kind) before = ap (λ (o : Option Kind). is_in_order o before) k in
      grind arith

  below_limit : is_at_limit (Some kind) before ≡ false
  unfolding row_faults
  below_limit =
      let g : (is_at_limit (kind_of r.kind) before || leb 2048 (length rows)) ≡ false = no_fault _ _ (right_nil _ _ f) in
      let e : is_at_limit (kind_of r.kind) before ≡ is_at_limit (Some kind) before = ap (λ (o : Option Kind). is_at_limit o before) k in
      grind arith

  tokens_next : tokens t.texts (r ∷ rows) ≡ add (Some kind) t.texts placed before
  unfolding tokens
  tokens_next = ap (λ (o : Option Kind). add o t.texts placed before) k

  few_with : (kind : Kind) → is_at_limit (Some kind) before ≡ false → length (around before) ≤ 64
      → length (around (add (Some kind) t.texts placed before)) ≤ 64
  unfolding add around is_at_limit
  few_with Start l n = let b = leb-false 64 (length (around before)) l in omega arith
  few_with Declaration l n = let e = around_on_top (with_decl (decl_of t.texts placed)) before in omega arith
  few_with Attribute l n = let e = around_on_top (with_attr (attr_of t.texts placed)) before in omega arith
  few_with Text l n = n
  few_with End l n = let e = tail_length (around before) in omega arith

  judged_next : judged (tokens t.texts (r ∷ rows)) ≡ newly_judged (Some kind) placed before ++ judged before
  judged_next =
      what_a_row_lets_be_judged t.texts r rows ∙ ap (λ (o : Option Kind). newly_judged o placed before ++ judged before) k

  pub next_stands : (c d : Course) → Stands t.texts t.knows t.extensions rows c → d.known ≡ c.known
      → Follows t.texts (r ∷ rows) d.progress
      → Settled t.knows t.extensions (newly_judged (Some kind) placed before ++ judged before) (scope_of t.texts d.scope) (frames_of d) d.mismatch
      → Stands t.texts t.knows t.extensions (r ∷ rows) d
  next_stands c d h same follows settled =
      record {
        knowing = λ n. ap (λ u. asked u n) same ∙ h.knowing n;
        follows = follows;
        few = subst (λ (l : List Token). length (around l) ≤ 64) (sym tokens_next) (few_with kind below_limit h.few);
        settled =
            subst (λ (l : List Token). Settled t.knows t.extensions l (scope_of t.texts d.scope) (frames_of d) d.mismatch)
            (sym judged_next) settled;
      }

  -- an end closes an element that is judged by then
  open_at_end : (kind : Kind) → kind ≡ End → is_in_order (Some kind) before ≡ true → is_none (around before) ≡ false
  unfolding is_in_order
  open_at_end kind e o =
      let g : not (is_none (around before)) ≡ true = ap (λ (q : Kind). is_in_order (Some q) before) (sym e) ∙ o in grind arith

  one_more : (fs : List Held) (es : List Element) → length fs ≡ length es → is_none es ≡ false → (g : Held) × (rest : List Held) × (fs ≡ g ∷ rest)
  one_more [] [] e n = absurd (cc)
  one_more [] (x ∷ es) e n = absurd (omega arith)
  one_more (g ∷ rest) es e n = (g, rest, refl)

  pub closed : (s : Scope) (fs : List Held) (mark : Option Refusal) → kind ≡ End → Settled t.knows t.extensions before s fs mark
      → (g : Held) × (rest : List Held) × (fs ≡ g ∷ rest)
  closed s fs mark e h =
      one_more fs (around before) (held-length t.knows t.extensions before s fs mark h) (open_at_end kind e in_order)
