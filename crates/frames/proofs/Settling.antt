-- What is held of judged tokens, with one token more.
use Rattle.std.proofs.Common.{◌≡◌, true, false, ◌&&◌, List, [], ◌∷◌, ◌++◌, None, Option, sym, refl, ap, ◌∙◌, subst, append-nil}
use Rattle.std.specs.Option.{option_or}
use Rattle.record.specs.declared.row.PlacedRow.{PlacedRow}
use Rattle.record.specs.declared.refusal.Refusal.{Refusal}
use Rattle.knowledge.specs.Understood.{Knows}
use Rattle.card.specs.Cards.{Name}
use Rattle.rules.specs.Elements.{Tag, Token, tag, text, end}
use Rattle.rules.specs.Scope.{Scope}
use Rattle.rules.specs.Steps.{when, kept_of}
use Rattle.rules.specs.Mismatches.{marks_of, mismatches}
use Rattle.rules.specs.Faults.{first, faults_of, faults}
use Rattle.rules.specs.States.{Frame, is_alternate_state, keeps_text, keeps_end, tag_kept_in, opened, noted, step, frames, faults_in, kept_in, tag_marks_in, marks_in}
use Rattle.rules.proofs.Firsts.{first_append}
use Rattle.rules.proofs.Whole.{first-none}
use Rattle.rules.proofs.Frames.{states_follow}
use Rattle.rules.proofs.Judged.{rows_follow_states}
use Rattle.enter.specs.Scopes.{sizes, scope_before}
use Rattle.frames.specs.declared.frame.Frame.{Frame as Held}
use Rattle.frames.specs.Stacks.{frame_in, innermost, renoted, Within, Stacked}
use Rattle.frames.specs.Settle.{Settled}
use Rattle.frames.proofs.Agree.{agrees-faults, agrees-opened, agrees-marks, agrees_kept_text, agrees_kept_end, agrees_faults_end}
use Rattle.frames.proofs.Stack.{Top, top, opened-stacked, ended-stacked}

module _ (K : Knows) (ext : List Name) (past : List Token) (s : Scope) (fs : List Held) (m : Option Refusal) (h : Settled K ext past s fs m) where
  around-top : Top s fs (frames K ext past)
  around-top = top s fs (frames K ext past) h.stacked

  -- the frame around, as held
  abbrev here : Frame
  here = frame_in s (innermost fs)

  frames_next : (x : Token) → frames K ext (x ∷ past) ≡ step K ext x (frames K ext past)
  frames_next x = (states_follow K ext).1 x past

  -- What a token is refused with.

  pub tag-refused : (t : Tag) → first (faults_of K ext (tag t) past) ≡ first (faults_in K ext (tag t) (here ∷ []))
  tag-refused t =
      ap first ((rows_follow_states K ext (tag t) past).0 ∙ ap (faults_in K ext (tag t)) around-top.is)
      ∙ sym (agrees-faults K ext here around-top.frame [] around-top.rest t around-top.agrees)

  pub end_refused : (x : PlacedRow) → faults_of K ext (end x) past ≡ faults_in K ext (end x) (here ∷ [])
  end_refused x =
      (rows_follow_states K ext (end x) past).0 ∙ ap (faults_in K ext (end x)) around-top.is
      ∙ sym (agrees_faults_end K ext here around-top.frame [] around-top.rest x around-top.agrees)

  still-sound : (x : Token) → first (faults_of K ext x past) ≡ None → faults K ext (x ∷ past) ≡ []
  unfolding faults
  still-sound x e = ap (λ (l : List Refusal). l ++ faults_of K ext x past) h.sound ∙ first-none (faults_of K ext x past) e

  -- A tag that is not refused.

  module _ (t : Tag) (e : first (faults_of K ext (tag t) past) ≡ None) where
    passes : faults_in K ext (tag t) (around-top.frame ∷ around-top.rest) ≡ []
    passes =
        sym ((rows_follow_states K ext (tag t) past).0 ∙ ap (faults_in K ext (tag t)) around-top.is) ∙ first-none (faults_of K ext (tag t) past) e

    opens : opened K ext here t ≡ opened K ext around-top.frame t
    opens = agrees-opened K ext here around-top.frame around-top.rest t around-top.agrees passes

    pub tag-kept : kept_of K ext (tag t) past
        ≡ tag_kept_in K (opened K ext here t).state (opened K ext here t).entered (opened K ext here t).scope t
    unfolding kept_in
    tag-kept =
        ((rows_follow_states K ext (tag t) past).1 (still-sound (tag t) e)).0 ∙ ap (kept_in K ext (tag t)) around-top.is
        ∙ sym (ap (λ (g : Frame). tag_kept_in K g.state g.entered g.scope t) opens)

    marks : marks_of K ext (tag t) past ≡ tag_marks_in K ext here (opened K ext here t) t
    unfolding marks_in
    marks =
        ((rows_follow_states K ext (tag t) past).1 (still-sound (tag t) e)).1 ∙ ap (marks_in K ext (tag t)) around-top.is
        ∙ sym (agrees-marks K ext here around-top.frame (opened K ext here t) t around-top.agrees
        ∙ ap (λ (g : Frame). tag_marks_in K ext around-top.frame g t) opens)

    -- the frame that it opens, and the frame around with its note
    pub tag-settled : (t-s : Scope) (f n : Held)
        → frame_in t-s f ≡ opened K ext here t → f.lengths ≡ sizes t-s
        → scope_before (sizes s) t-s ≡ s → Within (sizes s) (sizes t-s)
        → n.lengths ≡ (innermost fs).lengths
        → (is_alternate_state (innermost fs).state ≡ true → frame_in s n ≡ noted K ext here t)
        → (is_alternate_state (innermost fs).state ≡ false → frame_in s n ≡ here)
        → Settled K ext (tag t ∷ past) t-s (f ∷ renoted n fs) (option_or m (first (tag_marks_in K ext here (opened K ext here t) t)))
    unfolding step mismatches
    tag-settled t-s f n o l back within k yes-alternate no-alternate =
        record {
          stacked =
              subst (λ (gs : List Frame). Stacked t-s (f ∷ renoted n fs) gs)
              (sym (frames_next (tag t) ∙ ap (step K ext (tag t)) around-top.is))
              (opened-stacked K ext s t-s fs around-top.frame around-top.rest t f n
              (subst (λ (gs : List Frame). Stacked s fs gs) around-top.is h.stacked) passes o l back within k yes-alternate no-alternate);
          sound = still-sound (tag t) e;
          marked =
              ap (λ (o : Option Refusal). option_or o (first (tag_marks_in K ext here (opened K ext here t) t))) h.marked
              ∙ ap (λ (l : List Refusal). option_or (first (mismatches K ext past)) (first l)) (sym marks)
              ∙ sym (first_append (mismatches K ext past) (marks_of K ext (tag t) past));
        }

  -- A text.

  text-passes : (x : PlacedRow) → faults_of K ext (text x) past ≡ []
  unfolding faults_of
  text-passes x = refl

  pub text-kept : (x : PlacedRow) → kept_of K ext (text x) past ≡ when ((innermost fs).entered && keeps_text (innermost fs).state) x
  unfolding kept_in
  text-kept x =
      ((rows_follow_states K ext (text x) past).1 (still-sound (text x) (ap first (text-passes x)))).0
      ∙ ap (kept_in K ext (text x)) around-top.is
      ∙ sym (agrees_kept_text K ext here around-top.frame [] around-top.rest x around-top.agrees)

  pub text-settled : (x : PlacedRow) → Settled K ext (text x ∷ past) s fs m
  unfolding step mismatches marks_of
  text-settled x =
      record {
        stacked = subst (λ (gs : List Frame). Stacked s fs gs) (sym (frames_next (text x))) h.stacked;
        sound = still-sound (text x) (ap first (text-passes x));
        marked = h.marked ∙ ap first (sym (append-nil (mismatches K ext past)));
      }

  -- An end.

  pub end_kept : (x : PlacedRow) → first (faults_of K ext (end x) past) ≡ None
      → kept_of K ext (end x) past ≡ when ((innermost fs).entered && keeps_end (innermost fs).state) x
  unfolding kept_in
  end_kept x e =
      ((rows_follow_states K ext (end x) past).1 (still-sound (end x) e)).0
      ∙ ap (kept_in K ext (end x)) around-top.is
      ∙ sym (agrees_kept_end K ext here around-top.frame [] around-top.rest x around-top.agrees)

  pub end-settled : (x : PlacedRow) (f : Held) (rest : List Held) → fs ≡ f ∷ rest → first (faults_of K ext (end x) past) ≡ None
      → Settled K ext (end x ∷ past) (scope_before (innermost rest).lengths s) rest m
  unfolding step mismatches marks_of
  end-settled x f rest is e =
      record {
        stacked =
            subst (λ (gs : List Frame). Stacked (scope_before (innermost rest).lengths s) rest gs) (sym (frames_next (end x)))
            (ended-stacked K ext s f rest (frames K ext past) (subst (λ (l : List Held). Stacked s l (frames K ext past)) is h.stacked));
        sound = still-sound (end x) e;
        marked = h.marked ∙ ap first (sym (append-nil (mismatches K ext past)));
      }
