-- A row, judged by code: each way that it can go.
use Rattle.std.proofs.Common.{◌≡◌, ◌<◌, Bool, true, false, ◌&&◌, List, [], ◌∷◌, ◌++◌, reverse, length, is_some, Some, None, Ok, Err, Option, Result, sym, refl, ap, ◌∙◌, subst, arith}
use mathlib.Core.List.{tail}
use Rattle.std.proofs.lemmas.Result.{IfOk-at_ok}
use Rattle.record.specs.declared.row.Row.{Row}
use Rattle.record.specs.declared.row.PlacedRow.{PlacedRow}
use Rattle.record.specs.declared.row.Kind.{Kind}
use Rattle.record.specs.declared.row.Kind.TheVariants.{Start, Declaration, Attribute, Text, End}
use Rattle.record.specs.Rows.{kind_of}
use Rattle.record.specs.declared.refusal.Refusal.{Refusal}
use Rattle.record.specs.declared.refusal.Refusal.TheVariants.{Misplaced}
use Rattle.sheet.specs.Sheets.{Model, all_answer, after_all}
use Rattle.rules.specs.Elements.{Token, text, end, placed_at, tokens}
use Rattle.rules.specs.Scope.{Scope}
use Rattle.rules.specs.Steps.{when}
use Rattle.rules.specs.Faults.{fault, first}
use Rattle.rules.specs.Order.{row_faults}
use Rattle.rules.specs.Records.{judged, newly_judged}
use Rattle.trial.specs.Answers.{refusal_of}
use Rattle.calls.specs.Calls.{Taken, begun, Put, put, put_unless, row_put, is_of_sheet}
use Rattle.scope.specs.Bounded.{held}
use Rattle.enter.specs.Scopes.{scope_of, scope_before}
use Rattle.frames.specs.declared.frame.Frame.{Frame as Held}
use Rattle.frames.specs.declared.opened.Opened.{Opened}
use Rattle.frames.specs.Stacks.{innermost, renoted, Grown}
use Rattle.frames.specs.Settle.{Settled}
use Rattle.frames.proofs.Settling.{text-settled, end-settled}
use Rattle.course.specs.declared.Course.{Course}
use Rattle.course.specs.Standing.{frames_of, Stands}
use Rattle.course.specs.Rows.{keeps_in, ends_empty, row_in}
use Rattle.course.specs.Taking.{wait_put, with_opened, with_mark, closed_at, scope_at, of_tag, Waited, Judged}
use Rattle.course.proofs.Waits.{all_of, held-length}
use Rattle.course.proofs.Turns.{put_of, row_is, decl_put, attr_put, start-put, text-refused, end_refused_before, text-put, end-put, end-first, closed}

-- the answer of an accepted or refused put, by its refusal

ok_of : (a : Result (Unit {0}) Refusal) → None ≡ refusal_of a → a ≡ Ok tt
ok_of (Ok u) e = refl
ok_of (Err r) e = absurd (cc)

err_of : (a : Result (Unit {0}) Refusal) (r : Refusal) → Some r ≡ refusal_of a → a ≡ Err r
err_of (Ok u) r e = absurd (cc)
err_of (Err q) r e = let z : q ≡ r = cc in ap Err z

module _ (t : Taken) (rows : List Row) (row : Row) (kind : Kind) (k : kind_of row.kind ≡ Some kind) (m : Model) where
  abbrev toks : List Token
  toks = tokens t.texts rows

  abbrev x : PlacedRow
  x = placed_at (length rows) row

  -- A declaration or an attribute waits with its element.

  plain_put : (kind : Kind) → of_tag kind ≡ true → put_of t rows row m kind ≡ put (Ok tt) m
  plain_put Start e = absurd (cc)
  plain_put Declaration e = decl_put t rows row m
  plain_put Attribute e = attr_put t rows row m
  plain_put Text e = absurd (cc)
  plain_put End e = absurd (cc)

  plain_tokens : (kind : Kind) → of_tag kind ≡ true → newly_judged (Some kind) x toks ++ judged toks ≡ judged toks
  unfolding newly_judged
  plain_tokens Start e = absurd (cc)
  plain_tokens Declaration e = refl
  plain_tokens Attribute e = refl
  plain_tokens Text e = absurd (cc)
  plain_tokens End e = absurd (cc)

  pub judged_plain : (c : Course) → Stands t.texts t.knows t.extensions rows c → of_tag kind ≡ true
      → Judged t rows x kind c c m m (Ok tt)
  unfolding placed_at
  judged_plain c h e =
      let p : row_put (begun t rows) row m ≡ put (Ok tt) m = row_is t rows row m kind k ∙ plain_put kind e in
      record {
        answer = ap (λ (q : Put). q.answer) (sym p);
        sheet = ap (λ (q : Put). q.sheet) (sym p);
        settled =
            subst (λ (l : List Token). Settled t.knows t.extensions l (scope_of t.texts c.scope) (frames_of c) c.mismatch)
            (sym (plain_tokens kind e)) h.settled;
        left = λ r f. absurd (cc);
      }

  -- The element that waits is refused.

  refused-put : (kind : Kind) (e : Refusal) → of_tag kind ≡ false → (wait_put t rows m).answer ≡ Err e → put_of t rows row m kind ≡ wait_put t rows m
  refused-put Start e o f = start-put t rows row m
  refused-put Declaration e o f = absurd (cc)
  refused-put Attribute e o f = absurd (cc)
  refused-put Text e o f = text-refused t rows row m e f
  refused-put End e o f = end_refused_before t rows row m e f

  module _ (c d : Course) (m' : Model) (same-frames : d.frames ≡ c.frames) (same-mark : d.mismatch ≡ c.mismatch) where
    pub judged_unwaited : (said : Result (Option Opened) Refusal) (e : Refusal) (r : Result (Unit {0}) Refusal) → of_tag kind ≡ false → said ≡ Err e → r ≡ Err e
        → Waited t rows c d m m' said → Judged t rows x kind c d m m' r
    unfolding placed_at
    judged_unwaited said e r o is ret w =
        let a : (wait_put t rows m).answer ≡ Err e = err_of (wait_put t rows m).answer e (sym (ap refusal_of is) ∙ w.answer) in
        let p : row_put (begun t rows) row m ≡ wait_put t rows m = row_is t rows row m kind k ∙ refused-put kind e o a in
        record {
          answer = ret ∙ sym a ∙ ap (λ (q : Put). q.answer) (sym p);
          sheet = w.sheet ∙ ap (λ (q : Put). q.sheet) (sym p);
          settled = rw ret tt;
          left = λ e' f g.
              let q : e ≡ e' = cc in
              (w.left e (ap refusal_of is) (ap is_of_sheet q ∙ g), same-frames, same-mark);
        }

    -- The element that waits is judged, if one does.
    module _ (said : Result (Option Opened) Refusal) (o : Option Opened) (is : said ≡ Ok o) (w : Waited t rows c d m m' said) (n : of_tag kind ≡ false) where
      abbrev s : Scope
      s = scope_of t.texts d.scope

      abbrev fs : List Held
      fs = with_opened o (frames_of c)

      abbrev mark : Option Refusal
      mark = with_mark o c.mismatch

      waited_ok : (wait_put t rows m).answer ≡ Ok tt
      waited_ok = ok_of (wait_put t rows m).answer (sym (ap refusal_of is) ∙ w.answer)

      pub between : Settled t.knows t.extensions toks s fs mark
      between = IfOk-at_ok _ is w.settled

      no_start : (b : Bool) → when (b && false) x ≡ []
      unfolding when
      no_start true = refl
      no_start false = refl

      start-row : (p : Put) (around : Held) → p.answer ≡ Ok tt → p ≡ row_in p.sheet around Start x
      unfolding fault when all_answer after_all
      start-row p around a =
          ap (λ (q : Result (Unit {0}) Refusal). put q p.sheet) a
          ∙ sym (ap (λ (l : List PlacedRow). put (all_answer p.sheet l) (after_all p.sheet l)) (no_start around.entered))

      row_put_lem : (kind : Kind) → of_tag kind ≡ false → put_of t rows row m kind ≡ row_in (wait_put t rows m).sheet (innermost fs) kind x
      row_put_lem Start e = start-put t rows row m ∙ start-row (wait_put t rows m) (innermost fs) waited_ok
      row_put_lem Declaration e = absurd (cc)
      row_put_lem Attribute e = absurd (cc)
      row_put_lem Text e = text-put t rows row m s fs mark between waited_ok
      row_put_lem End e = end-put t rows row m s fs mark between waited_ok

      module _ (around : Held) (a : around ≡ innermost fs) (m'' : Model) (r : Result (Unit {0}) Refusal) (p : put r m'' ≡ row_in m' around kind x) where
        all_put : row_put (begun t rows) row m ≡ put r m''
        all_put =
            row_is t rows row m kind k ∙ row_put_lem kind n
            ∙ ap (λ (l : Model). row_in l (innermost fs) kind x) (sym w.sheet)
            ∙ ap (λ (f : Held). row_in m' f kind x) (sym a) ∙ sym p

        -- the row is refused
        pub judged_unput : (d' : Course) (said' : Result (Unit {0}) Refusal) (e : Refusal) → r ≡ Err e → said' ≡ Err e
            → d'.frames ≡ c.frames → d'.mismatch ≡ c.mismatch → scope_of t.texts d'.scope ≡ s → Judged t rows x kind c d' m m'' said'
        unfolding placed_at
        judged_unput d' said' e f ret g l j =
            record {
              answer = ret ∙ sym f ∙ ap (λ (q : Put). q.answer) (sym all_put);
              sheet = ap (λ (q : Put). q.sheet) (sym all_put);
              settled = rw ret tt;
              left = λ _ _ _. (subst (λ (z : Scope). Grown (scope_of t.texts c.scope) z) (sym j) (IfOk-at_ok _ is w.grown), g, l);
            }

        none_of_lem : (v : Option Refusal) → (put_unless v m' (when (around.entered && keeps_in around.state kind) x)).answer ≡ Ok tt → v ≡ None
        none_of_lem None f = refl
        none_of_lem (Some e) f = absurd (cc)

        unrefused : r ≡ Ok tt → first (fault (ends_empty around kind) (Misplaced x.place)) ≡ None
        unrefused f = none_of_lem _ (ap (λ (q : Put). q.answer) (sym p) ∙ f)

        closing : (kind : Kind) → of_tag kind ≡ false → kind_of row.kind ≡ Some kind → row_faults t.texts rows row ≡ []
            → first (fault (ends_empty (innermost fs) kind) (Misplaced x.place)) ≡ None
            → Settled t.knows t.extensions (newly_judged (Some kind) x toks ++ judged toks) (scope_at kind fs s) (closed_at kind fs) mark
        unfolding newly_judged
        closing Start e l f u = subst (λ (l : List Token). Settled t.knows t.extensions l s fs mark) (sym (all_of toks)) between
        closing Declaration e l f u = absurd (cc)
        closing Attribute e l f u = absurd (cc)
        closing Text e l f u =
            subst (λ (l : List Token). Settled t.knows t.extensions (text x ∷ l) s fs mark) (sym (all_of toks))
            (text-settled t.knows t.extensions toks s fs mark between x)
        closing End e l f u =
            let q = closed t rows row End l f s fs mark refl between in
            subst (λ (l : List Token). Settled t.knows t.extensions (end x ∷ l) (scope_at End fs s) (closed_at End fs) mark) (sym (all_of toks))
            (subst (λ (z : List Held). Settled t.knows t.extensions (end x ∷ toks) (scope_before (innermost z).lengths s) z mark)
            (sym (ap (λ (z : List Held). tail z) q.2))
            (end-settled t.knows t.extensions toks s fs mark between x q.0 q.1 q.2
            (end-first t rows row m s fs mark between ∙ u)))

        -- the row is judged, and in the draft if it is kept
        pub judged-row : (d' : Course) → r ≡ Ok tt → row_faults t.texts rows row ≡ []
            → frames_of d' ≡ closed_at kind fs → scope_of t.texts d'.scope ≡ scope_at kind fs s → d'.mismatch ≡ mark
            → Judged t rows x kind c d' m m'' (Ok tt)
        unfolding placed_at
        judged-row d' f faultless g j l =
            record {
              answer = sym f ∙ ap (λ (q : Put). q.answer) (sym all_put);
              sheet = ap (λ (q : Put). q.sheet) (sym all_put);
              settled =
                  subst (λ (z : Option Refusal). Settled t.knows t.extensions (newly_judged (Some kind) x toks ++ judged toks) (scope_of t.texts d'.scope) (frames_of d') z) (sym l)
                  (subst (λ (z : List Held). Settled t.knows t.extensions (newly_judged (Some kind) x toks ++ judged toks) (scope_of t.texts d'.scope) z mark) (sym g)
                  (subst (λ (z : Scope). Settled t.knows t.extensions (newly_judged (Some kind) x toks ++ judged toks) z (closed_at kind fs) mark) (sym j)
                  (closing kind n k faultless (ap (λ (h : Held). first (fault (ends_empty h kind) (Misplaced x.place))) (sym a) ∙ unrefused f))));
              left = λ e q. absurd (cc);
            }

-- The same of a row with its place, as the code has it.
module _ (t : Taken) (rows : List Row) (y : PlacedRow) (kind : Kind) (k : kind_of y.row.kind ≡ Some kind) (here : y ≡ placed_at (length rows) y.row) (m : Model) where
  module _ (c : Course) where
    pub taken_plain : Stands t.texts t.knows t.extensions rows c → of_tag kind ≡ true → Judged t rows y kind c c m m (Ok tt)
    taken_plain h e =
        subst (λ (z : PlacedRow). Judged t rows z kind c c m m (Ok tt)) (sym here) (judged_plain t rows y.row kind k m c h e)

    module _ (d : Course) (m' : Model) (same-frames : d.frames ≡ c.frames) (same-mark : d.mismatch ≡ c.mismatch) where
      pub taken_unwaited : (said : Result (Option Opened) Refusal) (e : Refusal) (r : Result (Unit {0}) Refusal) → of_tag kind ≡ false → said ≡ Err e → r ≡ Err e
          → Waited t rows c d m m' said → Judged t rows y kind c d m m' r
      taken_unwaited said e r o is ret w =
          subst (λ (z : PlacedRow). Judged t rows z kind c d m m' r) (sym here)
          (judged_unwaited t rows y.row kind k m c d m' same-frames same-mark said e r o is ret w)

      module _ (said : Result (Option Opened) Refusal) (o : Option Opened) (is : said ≡ Ok o) (w : Waited t rows c d m m' said) (n : of_tag kind ≡ false)
          (around : Held) (a : around ≡ innermost (with_opened o (frames_of d))) (m'' : Model) (r : Result (Unit {0}) Refusal) (p : put r m'' ≡ row_in m' around kind y) where
        around-is : around ≡ innermost (with_opened o (frames_of c))
        around-is = a ∙ ap (λ b. innermost (with_opened o (reverse (held b)))) same-frames

        row_is_put : put r m'' ≡ row_in m' around kind (placed_at (length rows) y.row)
        row_is_put = p ∙ ap (λ (z : PlacedRow). row_in m' around kind z) here

        pub taken_unput : (d' : Course) (said' : Result (Unit {0}) Refusal) (e : Refusal) → r ≡ Err e → said' ≡ Err e
            → d'.frames ≡ c.frames → d'.mismatch ≡ c.mismatch → scope_of t.texts d'.scope ≡ scope_of t.texts d.scope → Judged t rows y kind c d' m m'' said'
        taken_unput d' said' e f ret g l j =
            subst (λ (z : PlacedRow). Judged t rows z kind c d' m m'' said') (sym here)
            (judged_unput t rows y.row kind k m c d m' same-frames same-mark said o is w n around around-is m'' r row_is_put d' said' e f ret g l j)

        pub taken-row : (d' : Course) → r ≡ Ok tt → row_faults t.texts rows y.row ≡ []
            → frames_of d' ≡ closed_at kind (with_opened o (frames_of c)) → scope_of t.texts d'.scope ≡ scope_at kind (with_opened o (frames_of c)) (scope_of t.texts d.scope)
            → d'.mismatch ≡ with_mark o c.mismatch
            → Judged t rows y kind c d' m m'' (Ok tt)
        taken-row d' f faultless g j l =
            subst (λ (z : PlacedRow). Judged t rows z kind c d' m m'' (Ok tt)) (sym here)
            (judged-row t rows y.row kind k m c d m' same-frames same-mark said o is w n around around-is m'' r row_is_put d' f faultless g j l)

-- what is opened has room to be held
pub fits-of : (t : Taken) (rows : List Row) (c : Course) → Stands t.texts t.knows t.extensions rows c
    → (s : Scope) (o : Option Opened) (mark : Option Refusal)
    → Settled t.knows t.extensions (tokens t.texts rows) s (with_opened o (frames_of c)) mark
    → is_some o ≡ true → length (frames_of c) < 64
fits-of t rows c h s None mark e f = absurd (cc)
fits-of t rows c h s (Some o) mark e f =
    let a = held-length t.knows t.extensions (tokens t.texts rows) s (with_opened (Some o) (frames_of c)) mark e in
    let b = h.few in
    let d = renoted-length o.around (frames_of c) in
    omega arith
  where
    renoted-length : (n : Held) (fs : List Held) → length (renoted n fs) ≡ length fs
    renoted-length n [] = refl
    renoted-length n (f ∷ fs) = refl

-- what was opened is held, and the innermost closed at an end
module _ (t : Taken) (rows : List Row) (c : Course) (h : Stands t.texts t.knows t.extensions rows c) (m m' : Model) (d : Course)
    (same-frames : d.frames ≡ c.frames) (same-mark : d.mismatch ≡ c.mismatch)
    (said : Result (Option Opened) Refusal) (o : Option Opened) (is : said ≡ Ok o) (w : Waited t rows c d m m' said) where
  frames-same : frames_of d ≡ frames_of c
  frames-same = ap (λ b. reverse (held b)) same-frames

  fits : is_some o ≡ true → length (frames_of d) < 64
  fits f =
      subst (λ (l : List Held). length l < 64) (sym frames-same)
      (fits-of t rows c h (scope_of t.texts d.scope) o (with_mark o c.mismatch) (IfOk-at_ok _ is w.settled) f)

  module _ (kind : Kind) (e d' : Course)
      (holds : (is_some o ≡ true → length (frames_of d) < 64) → frames_of e ≡ with_opened o (frames_of d))
      (closes : frames_of d' ≡ closed_at kind (frames_of e)) where
    held-frames : frames_of e ≡ with_opened o (frames_of c)
    held-frames = holds fits ∙ ap (λ (l : List Held). with_opened o l) frames-same

    pub closed-frames : frames_of d' ≡ closed_at kind (with_opened o (frames_of c))
    closed-frames = closes ∙ ap (λ (l : List Held). closed_at kind l) held-frames

    pub closed-scope : e.scope ≡ d.scope → scope_of t.texts d'.scope ≡ scope_at kind (frames_of e) (scope_of t.texts e.scope)
        → scope_of t.texts d'.scope ≡ scope_at kind (with_opened o (frames_of c)) (scope_of t.texts d.scope)
    closed-scope same is_cut =
        is_cut ∙ ap (λ (l : List Held). scope_at kind l (scope_of t.texts e.scope)) held-frames
        ∙ ap (λ z. scope_at kind (with_opened o (frames_of c)) (scope_of t.texts z)) same

    pub closed-mark : d'.mismatch ≡ e.mismatch → e.mismatch ≡ with_mark o d.mismatch → d'.mismatch ≡ with_mark o c.mismatch
    closed-mark a b = a ∙ b ∙ ap (λ (z : Option Refusal). with_mark o z) same-mark
