-- The element that waits, judged by code: each way that it can go.
use Rattle.std.proofs.Common.{◌≡◌, true, List, [], ◌∷◌, Some, None, Ok, Err, Option, Result, sym, ap, ◌∙◌, subst, inl, arith}
use Rattle.std.proofs.lemmas.Bool.{eqb-true}
use Rattle.record.specs.declared.row.Row.{Row}
use Rattle.record.specs.declared.refusal.Refusal.{Refusal}
use Rattle.record.specs.Refusals.{numbered}
use Rattle.knowledge.specs.Understood.{Knows}
use Rattle.card.specs.Cards.{Name}
use Rattle.sheet.specs.Sheets.{Model, all_answer, after_all}
use Rattle.rules.specs.Elements.{Tag, Token, tag, tokens}
use Rattle.rules.specs.Scope.{Scope}
use Rattle.rules.specs.Lists.{In}
use Rattle.rules.specs.Faults.{first, faults_of}
use Rattle.rules.specs.Records.{judged, waiting}
use Rattle.rules.specs.States.{tag_kept_in, faults_in}
use Rattle.rules.proofs.Numbers.{faults_are_numbered}
use Rattle.trial.specs.Answers.{refusal_of}
use Rattle.calls.specs.Calls.{Taken, Put, put, is_of_sheet}
use Rattle.enter.specs.Scopes.{scope_of}
use Rattle.verdict.specs.Puts.{Puts}
use Rattle.frames.specs.declared.frame.Frame.{Frame as Held}
use Rattle.frames.specs.declared.opened.Opened.{Opened}
use Rattle.frames.specs.Stacks.{frame_in, innermost, Grown}
use Rattle.frames.specs.Opens.{Opens}
use Rattle.enter.proofs.Before.{before_all}
use Rattle.course.specs.declared.Course.{Course}
use Rattle.course.specs.Standing.{frames_of, Stands}
use Rattle.course.specs.Taking.{wait_put, Waited}
use Rattle.course.proofs.Waits.{none-put, none-settled, one-refused, one_faulted, one_kept, one-settled}

-- a refusal of the rules is none of a sheet

first_in : {X : Type 0} (x : X) (xs : List X) → first xs ≡ Some x → In x xs
first_in x [] e = absurd (cc)
first_in x (y ∷ ys) e = let q : x ≡ y = cc in inl q

pub not_of_sheet : (K : Knows) (ext : List Name) (x : Token) (past : List Token) (e : Refusal) → first (faults_of K ext x past) ≡ Some e
    → is_of_sheet e ≡ true → ⊥
not_of_sheet K ext x past e f h =
    let n = faults_are_numbered K ext x past e (first_in e (faults_of K ext x past) f) in
    let q = eqb-true (numbered e).number 23 h in
    omega arith

grown-none : (s : Scope) → Grown s s
grown-none s = record { back = before_all s; within = (omega arith, omega arith, omega arith) }

module _ (t : Taken) (rows : List Row) (c : Course) (h : Stands t.texts t.knows t.extensions rows c) where
  abbrev toks : List Token
  toks = tokens t.texts rows

  abbrev s : Scope
  s = scope_of t.texts c.scope

  pub waited_none : (m : Model) → waiting toks ≡ [] → Waited t rows c c m m (Ok None)
  waited_none m e =
      record {
        answer = ap (λ (p : Put). refusal_of p.answer) (sym (none-put t rows c h m e));
        sheet = ap (λ (p : Put). p.sheet) (sym (none-put t rows c h m e));
        settled = none-settled t rows c h e;
        grown = grown-none s;
        left = λ r f. absurd (cc);
      }

  module _ (tg : Tag) (w : waiting toks ≡ tag tg ∷ []) (around : Held) (a : around ≡ innermost (frames_of c)) (d : Course) (m m' : Model) where
    abbrev at : Scope
    at = scope_of t.texts d.scope

    abbrev answered : Option Refusal
    answered = first (faults_in t.knows t.extensions (tag tg) (frame_in s around ∷ []))

    here-answered : (o : Option Refusal) → o ≡ answered → o ≡ first (faults_in t.knows t.extensions (tag tg) (frame_in s (innermost (frames_of c)) ∷ []))
    here-answered o e = e ∙ ap (λ (f : Held). first (faults_in t.knows t.extensions (tag tg) (frame_in s f ∷ []))) a

    -- the element is refused
    pub waited_refused : (r : Result (Option Opened) Refusal) (e : Refusal) → r ≡ Err e → Some e ≡ answered → m' ≡ m → Waited t rows c d m m' r
    waited_refused r e is f same =
        let p = one-refused t rows c h tg w m e (here-answered (Some e) f) in
        record {
          answer = ap refusal_of is ∙ ap (λ (q : Put). refusal_of q.answer) (sym p);
          sheet = same ∙ ap (λ (q : Put). q.sheet) (sym p);
          settled = rw is tt;
          grown = rw is tt;
          left = λ r' g o.
              let said : refusal_of r ≡ Some e = ap refusal_of is in
              let q : e ≡ r' = cc in
              absurd (not_of_sheet t.knows t.extensions (tag tg) (judged toks) e (one_faulted t rows c h tg w e (here-answered (Some e) f)) (ap is_of_sheet q ∙ o));
        }

    module _ (o : Opened) (passed : None ≡ answered) (opens : Opens t.knows t.extensions s at around tg o) (g : Grown s at) where
      here-opens : Opens t.knows t.extensions s at (innermost (frames_of c)) tg o
      here-opens = subst (λ (f : Held). Opens t.knows t.extensions s at f tg o) a opens

      put_is : wait_put t rows m
          ≡ put (all_answer m (tag_kept_in t.knows o.frame.state o.frame.entered at tg)) (after_all m (tag_kept_in t.knows o.frame.state o.frame.entered at tg))
      put_is = one_kept t rows c h tg w (here-answered None passed) at o here-opens m

      -- a row of it is refused by the sheet
      pub waited_unput : (r : Result (Option Opened) Refusal) (e : Refusal) → r ≡ Err e
          → Puts m (tag_kept_in t.knows o.frame.state o.frame.entered at tg) (Err e) m' → Waited t rows c d m m' r
      waited_unput r e is p =
          record {
            answer = ap refusal_of is ∙ ap refusal_of p.0 ∙ ap (λ (q : Put). refusal_of q.answer) (sym put_is);
            sheet = p.1 ∙ ap (λ (q : Put). q.sheet) (sym put_is);
            settled = rw is tt;
            grown = rw is tt;
            left = λ _ _ _. g;
          }

      -- it is judged, and its kept rows are in the draft
      pub waited_opened : Puts m (tag_kept_in t.knows o.frame.state o.frame.entered at tg) (Ok tt) m' → Waited t rows c d m m' (Ok (Some o))
      waited_opened p =
          record {
            answer = ap refusal_of p.0 ∙ ap (λ (q : Put). refusal_of q.answer) (sym put_is);
            sheet = p.1 ∙ ap (λ (q : Put). q.sheet) (sym put_is);
            settled = one-settled t rows c h tg w (here-answered None passed) at o here-opens g;
            grown = g;
            left = λ _ _ _. g;
          }
