-- The element that waits, judged.
use Rattle.std.proofs.Common.{◌≡◌, suc, ◌<◌, List, [], ◌∷◌, ◌++◌, length, Some, None, Ok, Err, Option, sym, refl, ap, ◌∙◌, subst, arith}
use Rattle.std.specs.Option.{option_or}
use Rattle.record.specs.declared.row.Row.{Row}
use Rattle.record.specs.declared.row.PlacedRow.{PlacedRow}
use Rattle.record.specs.declared.refusal.Refusal.{Refusal}
use Rattle.knowledge.specs.Understood.{Knows}
use Rattle.card.specs.Cards.{Name}
use Rattle.sheet.specs.Sheets.{Model, all_answer, after_all}
use Rattle.rules.specs.Elements.{Tag, Token, tag, text, end, tokens, Element, around}
use Rattle.rules.specs.Scope.{Scope}
use Rattle.rules.specs.Steps.{kept_of}
use Rattle.rules.specs.Faults.{first, faults_of}
use Rattle.rules.specs.Records.{judged, waiting}
use Rattle.rules.specs.States.{Frame, tag_kept_in, frames, frames_around, faults_in}
use Rattle.calls.specs.Calls.{Taken, put, put_unless, token_put, tokens_put}
use Rattle.enter.specs.Scopes.{scope_of}
use Rattle.frames.specs.declared.frame.Frame.{Frame as Held}
use Rattle.frames.specs.declared.opened.Opened.{Opened}
use Rattle.frames.specs.Stacks.{frame_in, innermost, renoted, Grown}
use Rattle.frames.specs.Settle.{Settled}
use Rattle.frames.specs.Opens.{Opens}
use Rattle.frames.proofs.Stack.{stacked-length}
use Rattle.frames.proofs.Settling.{tag-refused, tag-kept, tag-settled}
use Rattle.course.specs.declared.Course.{Course}
use Rattle.course.specs.Standing.{frames_of, Stands}
use Rattle.course.specs.Taking.{wait_put}

-- what waits and what is judged are all
pub all_of : (toks : List Token) → waiting toks ++ judged toks ≡ toks
unfolding waiting judged
all_of [] = refl
all_of (tag t ∷ past) = refl
all_of (text x ∷ past) = refl
all_of (end x ∷ past) = refl

-- as many frames as open elements, and one around them

frames-around : (K : Knows) (ext : List Name) (at : List Element) → length (frames_around K ext at) ≡ length at
unfolding frames_around
frames-around K ext [] = refl
frames-around K ext (e ∷ out) = ap suc (frames-around K ext out)

pub held-length : (K : Knows) (ext : List Name) (past : List Token) (s : Scope) (fs : List Held) (m : Option Refusal) → Settled K ext past s fs m
    → length fs ≡ length (around past)
held-length K ext past s fs m h =
    let e : length (frames K ext past) ≡ suc (length fs) = stacked-length s fs (frames K ext past) h.stacked in
    let f : length (frames K ext past) ≡ suc (length (around past)) = unfold frames in ap suc (frames-around K ext (around past)) in
    omega arith

module _ (t : Taken) (rows : List Row) (c : Course) (h : Stands t.texts t.knows t.extensions rows c) where
  abbrev K : Knows
  K = t.knows

  abbrev ext : List Name
  ext = t.extensions

  abbrev toks : List Token
  toks = tokens t.texts rows

  abbrev s : Scope
  s = scope_of t.texts c.scope

  abbrev around-held : Held
  around-held = innermost (frames_of c)

  -- None waits.

  pub none-put : (m : Model) → waiting toks ≡ [] → wait_put t rows m ≡ put (Ok tt) m
  none-put m e = ap (λ (w : List Token). tokens_put t m w (judged toks)) e ∙ (unfold tokens_put in refl)

  pub none-settled : waiting toks ≡ [] → Settled K ext toks s (frames_of c) c.mismatch
  none-settled e =
      subst (λ (l : List Token). Settled K ext l s (frames_of c) c.mismatch)
      (ap (λ (w : List Token). w ++ judged toks) (sym e) ∙ all_of toks) h.settled

  -- One waits.

  module _ (tg : Tag) (e : waiting toks ≡ tag tg ∷ []) where
    one-put : (m : Model) → wait_put t rows m ≡ token_put t m (tag tg) (judged toks)
    one-put m = ap (λ (w : List Token). tokens_put t m w (judged toks)) e ∙ (unfold tokens_put in refl)

    toks-is : tag tg ∷ judged toks ≡ toks
    toks-is = ap (λ (w : List Token). w ++ judged toks) (sym e) ∙ all_of toks

    refused-is : first (faults_of K ext (tag tg) (judged toks)) ≡ first (faults_in K ext (tag tg) (frame_in s around-held ∷ []))
    refused-is = tag-refused K ext (judged toks) s (frames_of c) c.mismatch h.settled tg

    pub one-refused : (m : Model) (r : Refusal) → Some r ≡ first (faults_in K ext (tag tg) (frame_in s around-held ∷ []))
        → wait_put t rows m ≡ put (Err r) m
    unfolding token_put
    one-refused m r f =
        one-put m ∙ ap (λ (o : Option Refusal). put_unless o m (kept_of K ext (tag tg) (judged toks))) (refused-is ∙ sym f)

    pub one_faulted : (r : Refusal) → Some r ≡ first (faults_in K ext (tag tg) (frame_in s around-held ∷ []))
        → first (faults_of K ext (tag tg) (judged toks)) ≡ Some r
    one_faulted r f = refused-is ∙ sym f

    module _ (passed : None ≡ first (faults_in K ext (tag tg) (frame_in s around-held ∷ []))) (at : Scope) (o : Opened)
        (opens : Opens K ext s at around-held tg o) where
      unrefused : first (faults_of K ext (tag tg) (judged toks)) ≡ None
      unrefused = refused-is ∙ sym passed

      pub one_kept : (m : Model)
          → wait_put t rows m
          ≡ put (all_answer m (tag_kept_in K o.frame.state o.frame.entered at tg)) (after_all m (tag_kept_in K o.frame.state o.frame.entered at tg))
      unfolding token_put
      one_kept m =
          one-put m
          ∙ ap (λ (x : Option Refusal). put_unless x m (kept_of K ext (tag tg) (judged toks))) unrefused
          ∙ ap (λ (l : List PlacedRow). put (all_answer m l) (after_all m l))
          (tag-kept K ext (judged toks) s (frames_of c) c.mismatch h.settled tg unrefused
          ∙ sym (ap (λ (g : Frame). tag_kept_in K g.state g.entered g.scope tg) opens.frame))

      pub one-settled : Grown s at → Settled K ext toks at (o.frame ∷ renoted o.around (frames_of c)) (option_or c.mismatch o.mismatch)
      one-settled g =
          subst (λ (l : List Token). Settled K ext l at (o.frame ∷ renoted o.around (frames_of c)) (option_or c.mismatch o.mismatch)) toks-is
          (subst (λ (x : Option Refusal). Settled K ext (tag tg ∷ judged toks) at (o.frame ∷ renoted o.around (frames_of c)) (option_or c.mismatch x))
          (sym opens.marked)
          (tag-settled K ext (judged toks) s (frames_of c) c.mismatch h.settled tg unrefused at o.frame o.around
          opens.frame opens.sized g.back g.within opens.kept opens.note opens.same))

    -- there is room for one frame more
    pub one-fits : length (frames_of c) < 64
    one-fits =
        let a = held-length K ext (judged toks) s (frames_of c) c.mismatch h.settled in
        let b : length (around (tag tg ∷ judged toks)) ≡ length (around toks) = ap (λ (l : List Token). length (around l)) toks-is in
        let d : length (around (tag tg ∷ judged toks)) ≡ suc (length (around (judged toks))) = unfold around in refl in
        let f = h.few in
        omega arith
