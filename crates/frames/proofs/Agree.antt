-- Frames that agree judge every row alike.
use Rattle.std.proofs.Common.{◌≡◌, Bool, true, false, cond, not, ◌&&◌, ◌||◌, List, [], ◌∷◌, Some, None, Option, sym, refl, ap, ◌∙◌, arith}
use mathlib.Core.Bool.{false≢true}
use Rattle.std.specs.Option.{option_or}
use Rattle.record.specs.declared.row.PlacedRow.{PlacedRow}
use Rattle.record.specs.declared.refusal.Refusal.TheVariants.{Misplaced}
use Rattle.knowledge.specs.Understood.{Knows}
use Rattle.card.specs.Cards.{Name}
use Rattle.text.specs.declared.names.McElement.{McElement}
use Rattle.text.specs.declared.names.McElement.TheVariants.{AlternateContent, Choice, Fallback}
use Rattle.rules.specs.Elements.{Tag, tag, text, end}
use Rattle.rules.specs.Scope.{mc_element, choice, fallback, is_choice, is_fallback, is_branch, Scope, is_ignorable_in, scope_with, is_listed}
use Rattle.rules.specs.Steps.{is_satisfied}
use Rattle.rules.specs.Faults.{fault, first, place_faults, element_faults, tag_faults}
use Rattle.rules.specs.States.{Frame, state_by, state_in, is_extension_state, is_alternate_state, entered_by, reached_in, selected_in, opened_by, opened, noted, faults_in, kept_in, tag_marks_in}
use Rattle.rules.proofs.Firsts.{first_append, first_one}
use Rattle.rules.proofs.Members.{left_nil, right_nil, no_fault}
use Rattle.frames.specs.Agrees.{flagged, OwnNotes, Agrees}

-- Refusals.

-- behind a Fallback counts inside AlternateContent only
place-agrees : (a b c i : Bool) (t : Tag) → (a ≡ true → b ≡ c) → first (place_faults a b i t) ≡ first (place_faults a c i t)
unfolding place_faults
place-agrees true b c i t f = ap (λ (x : Bool). first (place_faults true x i t)) (f refl)
place-agrees false b c i t f = simp (first_append, first_one) (alike (is_branch t) b c)
  where
    alike : (x b c : Bool)
        → option_or (option_or (cond (x && true) (Some (Misplaced t.placed.place)) None) (cond (x && b) (Some (Misplaced t.placed.place)) None))
        (cond (false && not x && not i) (Some (Misplaced t.placed.place)) None)
        ≡ option_or (option_or (cond (x && true) (Some (Misplaced t.placed.place)) None) (cond (x && c) (Some (Misplaced t.placed.place)) None))
        (cond (false && not x && not i) (Some (Misplaced t.placed.place)) None)
    alike true b c = refl
    alike false b c = refl

tag-agrees : (x y : Bool) (K : Knows) (s : Scope) (a b c : Bool) (t : Tag) → (a ≡ true → b ≡ c)
    → first (tag_faults x y K s a b t) ≡ first (tag_faults x y K s a c t)
unfolding tag_faults element_faults
tag-agrees true y K s a b c t f = refl
tag-agrees false true K s a b c t f = place-agrees a b c _ t f
tag-agrees false false K s a b c t f =
    simp (first_append, place-agrees a b c (is_ignorable_in (scope_with t s).ignorables t.namespace) t f)

-- A branch that is not refused stands in AlternateContent.

placed-inside : (a b i : Bool) (t : Tag) → place_faults a b i t ≡ [] → is_branch t ≡ true → a ≡ true
unfolding place_faults
placed-inside a b i t e x =
    let h : (is_branch t && not a) ≡ false = no_fault _ _ (left_nil _ _ (left_nil _ _ e)) in grind arith

inside : (x y : Bool) (K : Knows) (s : Scope) (a b : Bool) (t : Tag) → tag_faults x y K s a b t ≡ [] → x ≡ false → is_branch t ≡ true → a ≡ true
unfolding tag_faults element_faults
inside true y K s a b t e x br = absurd (cc)
inside false true K s a b t e x br = placed-inside a b _ t e br
inside false false K s a b t e x br = placed-inside a b _ t (right_nil _ _ (left_nil _ _ (left_nil _ _ (left_nil _ _ e)))) br

-- whether a branch is selected counts for branches only
entered-alike : (x : Bool) (m : Option McElement) (d p r u v : Bool)
    → (x ≡ false → (choice m || fallback m) ≡ true → u ≡ v) → entered_by (state_by x m d p) r u ≡ entered_by (state_by x m d p) r v
unfolding entered_by state_by
entered-alike true m d p r u v f = refl
entered-alike false (Some AlternateContent) d p r u v f = refl
entered-alike false (Some Choice) d p r u v f = ap (λ (z : Bool). r && z) (f refl refl)
entered-alike false (Some Fallback) d p r u v f = ap (λ (z : Bool). r && z) (f refl refl)
entered-alike false None true true r u v f = refl
entered-alike false None true false r u v f = refl
entered-alike false None false p r u v f = refl

module _ (K : Knows) (ext : List Name) where
  tag_faults_flagged : (g : Frame) (gs : List Frame) (a b c : Bool) (t : Tag) → OwnNotes g a b c
      → first (faults_in K ext (tag t) (flagged g a b c ∷ gs)) ≡ first (faults_in K ext (tag t) (g ∷ gs))
  unfolding faults_in flagged
  tag_faults_flagged g gs a b c t own =
      tag-agrees (is_extension_state g.state) (is_listed ext t) K g.scope (is_alternate_state g.state) c g.fallback_seen t (λ h. (own h).2)

  either : (x y : Bool) → (x || y) ≡ false → y ≡ false
  either x y e = grind arith

  opened-flagged : (g : Frame) (gs : List Frame) (a b c : Bool) (t : Tag) → OwnNotes g a b c → faults_in K ext (tag t) (g ∷ gs) ≡ []
      → opened K ext (flagged g a b c) t ≡ opened K ext g t
  unfolding faults_in flagged opened opened_by state_in reached_in selected_in is_branch is_choice is_fallback
  opened-flagged g gs a b c t own e =
      let x : Bool = is_listed ext t || is_extension_state g.state in
      let s : Scope = cond x g.scope (scope_with t g.scope) in
      ap (λ (z : Bool). record { state = state_in K x s t; entered = z; scope = s; choice_selected = false; choice_seen = false; fallback_seen = false })
      (entered-alike x (mc_element t) _ _ _ _ _
      (λ out br.
      ap (λ (z : Bool). not z && (fallback (mc_element t) || choice (mc_element t) && is_satisfied K g.scope.bindings t))
      (own (inside (is_extension_state g.state) (is_listed ext t) K g.scope (is_alternate_state g.state) g.fallback_seen t e (either _ _ out) br)).0))

  -- What a frame notes of a child, where it is an AlternateContent.
  noted-flagged : (g : Frame) (a b c : Bool) (t : Tag) (f : Frame) → OwnNotes g a b c
      → (is_alternate_state g.state ≡ true → f ≡ noted K ext (flagged g a b c) t)
      → (is_alternate_state g.state ≡ false → f ≡ flagged g a b c)
      → Agrees f (noted K ext g t)
  unfolding flagged noted
  noted-flagged g a b c t f own yes-alternate no-alternate =
      elim (is_alternate_state g.state)
      as (λ (v : Bool). is_alternate_state g.state ≡ v → Agrees f (noted K ext g t)) [
        | true ↦ λ h. (
          a || is_choice t && is_satisfied K g.scope.bindings t,
          is_choice t || b,
          is_fallback t || c,
          yes-alternate h,
          λ _. (ap (λ (z : Bool). z || is_choice t && is_satisfied K g.scope.bindings t) (own h).0, ap (λ (z : Bool). is_choice t || z) (own h).1, ap (λ (z : Bool). is_fallback t || z) (own h).2),
        )
        | false ↦ λ h. (a, b, c, no-alternate h, λ k. absurd (false≢true (sym h ∙ k)))
      ] refl

  -- The same of frames that agree.

  pub agrees-state : (f g : Frame) → Agrees f g → f.state ≡ g.state
  unfolding flagged
  agrees-state f g h = ap (λ (x : Frame). x.state) h.3

  pub agrees-entered : (f g : Frame) → Agrees f g → f.entered ≡ g.entered
  unfolding flagged
  agrees-entered f g h = ap (λ (x : Frame). x.entered) h.3

  pub agrees-scope : (f g : Frame) → Agrees f g → f.scope ≡ g.scope
  unfolding flagged
  agrees-scope f g h = ap (λ (x : Frame). x.scope) h.3

  pub agrees-faults : (f g : Frame) (fs gs : List Frame) (t : Tag) → Agrees f g
      → first (faults_in K ext (tag t) (f ∷ fs)) ≡ first (faults_in K ext (tag t) (g ∷ gs))
  agrees-faults f g fs gs t h =
      ap (λ (x : Frame). first (faults_in K ext (tag t) (x ∷ fs))) h.3
      ∙ (unfold faults_in in tag_faults_flagged g gs h.0 h.1 h.2 t h.4)

  pub agrees-opened : (f g : Frame) (gs : List Frame) (t : Tag) → Agrees f g → faults_in K ext (tag t) (g ∷ gs) ≡ []
      → opened K ext f t ≡ opened K ext g t
  agrees-opened f g gs t h e = ap (λ (x : Frame). opened K ext x t) h.3 ∙ opened-flagged g gs h.0 h.1 h.2 t h.4 e

  pub agrees-noted : (f g h : Frame) (t : Tag) → Agrees f g
      → (is_alternate_state f.state ≡ true → h ≡ noted K ext f t) → (is_alternate_state f.state ≡ false → h ≡ f) → Agrees h (noted K ext g t)
  agrees-noted f g h t a yes-alternate no-alternate =
      noted-flagged g a.0 a.1 a.2 t h a.4
      (λ e. yes-alternate (ap is_alternate_state (agrees-state f g a) ∙ e) ∙ ap (λ (x : Frame). noted K ext x t) a.3)
      (λ e. no-alternate (ap is_alternate_state (agrees-state f g a) ∙ e) ∙ a.3)

  pub agrees-marks : (f g h : Frame) (t : Tag) → Agrees f g → tag_marks_in K ext f h t ≡ tag_marks_in K ext g h t
  unfolding tag_marks_in flagged
  agrees-marks f g h t a = ap (λ (x : Frame). tag_marks_in K ext x h t) a.3

  pub agrees-same : (f g : Frame) → f ≡ g → Agrees f g
  unfolding flagged
  agrees-same f g e = (g.choice_selected, g.choice_seen, g.fallback_seen, e, λ _. (refl, refl, refl))

  -- a text or an end
  pub agrees_kept_text : (f g : Frame) (fs gs : List Frame) (x : PlacedRow) → Agrees f g
      → kept_in K ext (text x) (f ∷ fs) ≡ kept_in K ext (text x) (g ∷ gs)
  unfolding kept_in flagged
  agrees_kept_text f g fs gs x a = ap (λ (z : Frame). kept_in K ext (text x) (z ∷ fs)) a.3

  pub agrees_kept_end : (f g : Frame) (fs gs : List Frame) (x : PlacedRow) → Agrees f g
      → kept_in K ext (end x) (f ∷ fs) ≡ kept_in K ext (end x) (g ∷ gs)
  unfolding kept_in flagged
  agrees_kept_end f g fs gs x a = ap (λ (z : Frame). kept_in K ext (end x) (z ∷ fs)) a.3

  end-alike : (a b c : Bool) → (a ≡ true → b ≡ c) → (a && not b) ≡ (a && not c)
  end-alike true b c f = ap not (f refl)
  end-alike false b c f = refl

  pub agrees_faults_end : (f g : Frame) (fs gs : List Frame) (x : PlacedRow) → Agrees f g
      → faults_in K ext (end x) (f ∷ fs) ≡ faults_in K ext (end x) (g ∷ gs)
  unfolding faults_in flagged
  agrees_faults_end f g fs gs x a =
      ap (λ (z : Frame). faults_in K ext (end x) (z ∷ fs)) a.3
      ∙ ap (λ (z : Bool). fault z (Misplaced x.place)) (end-alike (is_alternate_state g.state) a.1 g.choice_seen (λ h. (a.4 h).1))
