-- What a token is refused with, keeps and mismatches follows from the frame of the element around it.
use Rattle.std.proofs.Common.{◌≡◌, zero, Bool, true, false, not, ◌&&◌, ◌||◌, List, [], ◌∷◌, ◌++◌, is_some, sym, refl, ap, ◌∙◌, ap₂, arith}
use mathlib.Core.Bool.{false≢true}
use mathlib.Core.List.{tail}
use Rattle.text.specs.Names.{in_mc, element_named}
use Rattle.record.specs.declared.refusal.Cause.TheVariants.{StrayChild, ForeignName}
use Rattle.record.specs.declared.refusal.Refusal.{Refusal}
use Rattle.record.specs.declared.refusal.Refusal.TheVariants.{Misplaced, UnknownName}
use Rattle.knowledge.specs.Understood.{Knows}
use Rattle.card.specs.Cards.{Name}
use Rattle.rules.specs.Elements.{Tag, Token, tag, text, end, children, Element, element, around}
use Rattle.rules.specs.Scope.{mc_element, is_alternate_content, is_choice, is_fallback, is_branch, Scope, is_processed_in, is_listed, in_extension, scope, in_alternate_content}
use Rattle.rules.specs.Steps.{when, is_foreign, is_dispensable, is_unwrapped, is_ignored, tag_kept, unwrapped, ignored, unselected, stray, entered, reached, kept, extension_kept, text_kept, kept_of}
use Rattle.rules.specs.Mismatches.{mark, attr_marks, heeds, stray_child, element_marks, marks_of}
use Rattle.rules.specs.Faults.{fault, start_name_faults, any_choice, any_fallback, element_faults, tag_faults, end_faults, faults_of, faults}
use Rattle.rules.specs.States.{Frame, state_in, is_alternate_state, is_ignored_state, is_kept_state, keeps_text, keeps_end, heeds_must, tag_kept_in, state_at, entered_at, frame_at, frames, faults_in, kept_in, tag_marks_in, marks_in}
use Rattle.rules.specs.Laws.{RowsFollowStates}
use Rattle.rules.proofs.Members.{left_nil, right_nil, no_fault}
use Rattle.rules.proofs.Names.{alt_mc, branch-mc, alt_not_branch, name-known}
use Rattle.rules.proofs.Understood.{out_of_ext}
use Rattle.rules.proofs.Frames.{ignored-by, kept_by, heeds-by, text-by, end_by, tag-by, mc_not_disp, some_not_disp, ext-of, alt_of, opened_right}

-- Refusals.

inside_only : (x y : Bool) (K : Knows) (s : Scope) (a b : Bool) (t : Tag) → tag_faults x y K s a b t ≡ tag_faults x y K s (not x && a) b t
unfolding tag_faults
inside_only x y K s a b t = grind arith

end-tests : (x a h : Bool) → (not x && a && not h) ≡ ((not x && a) && not h)
end-tests x a h = grind arith

faults_right : (K : Knows) (ext : List Name) (t : Token) (past : List Token) → faults_of K ext t past ≡ faults_in K ext t (frames K ext past)
unfolding faults_of faults_in frames frame_at end_faults
faults_right K ext (tag t) past =
    inside_only (in_extension ext (around past)) (is_listed ext t) K _ _ _ t
    ∙ sym (ap₂ (λ x a. tag_faults x (is_listed ext t) K (scope ext (around past)) a (any_fallback (children zero past)) t) (ext-of K ext (around past)) (alt_of K ext (around past)))
faults_right K ext (text x) past = refl
faults_right K ext (end x) past =
    ap (λ b. fault b (Misplaced x.place)) (end-tests (in_extension ext (around past)) (in_alternate_content (around past)) (any_choice (children zero past)))
    ∙ sym (ap (λ a. fault (a && not (any_choice (children zero past))) (Misplaced x.place)) (alt_of K ext (around past)))

-- Where nothing is refused, an element of MC outside extension elements is one of the three.

Named : List Name → List Element → Type 0
Named ext [] = Unit {0}
Named ext (e ∷ out) = (in_extension ext (e ∷ out) ≡ false → in_mc e.tag.namespace ≡ true → (is_alternate_content e.tag || is_branch e.tag) ≡ true) × Named ext out

name_right : (K : Knows) (s : Scope) (a b : Bool) (t : Tag) → element_faults K s a b t ≡ []
    → (in_mc t.namespace && not (is_some (element_named t.name))) ≡ false
unfolding element_faults start_name_faults
name_right K s a b t e =
    no_fault _ (UnknownName t.placed.place)
    (right_nil _ _ (left_nil _ _ (left_nil _ _ (left_nil _ _ (left_nil _ _ (left_nil _ _ (left_nil _ _ (left_nil _ _ (left_nil _ _ e)))))))))

name_test : (a b : Bool) → (a && not b) ≡ false → a ≡ true → b ≡ true
name_test a b e f = grind arith

named_by : (K : Knows) (s : Scope) (a b : Bool) (t : Tag) (x y : Bool) → tag_faults x y K s a b t ≡ [] → (y || x) ≡ false
    → in_mc t.namespace ≡ true → (is_alternate_content t || is_branch t) ≡ true
unfolding tag_faults
named_by K s a b t x true e f m = absurd (false≢true (sym f))
named_by K s a b t true false e f m = absurd (false≢true (sym f))
named_by K s a b t false false e f m = name-known t m (name_test _ _ (name_right K s a b t e) m)

named_tail : (ext : List Name) (at : List Element) → Named ext at → Named ext (tail at)
unfolding Named
named_tail ext [] h = h
named_tail ext (e ∷ out) h = h.1

named : (K : Knows) (ext : List Name) (toks : List Token) → faults K ext toks ≡ [] → Named ext (around toks)
unfolding faults faults_of around element in_extension Named
named K ext [] e = tt
named K ext (tag t ∷ past) e =
    (named_by K (scope ext (around past)) _ _ t (in_extension ext (around past)) (is_listed ext t) (right_nil (faults K ext past) _ e), named K ext past (left_nil (faults K ext past) _ e))
named K ext (text x ∷ past) e = named K ext past (left_nil (faults K ext past) _ e)
named K ext (end x ∷ past) e = named_tail ext (around past) (named K ext past (left_nil (faults K ext past) _ e))

module _ (K : Knows) (ext : List Name) where
  disp : Element → List Element → Bool
  disp e out = is_dispensable K (scope ext (e ∷ out)).ignorables e.tag.namespace

  proc : Element → List Element → Bool
  proc e out = is_processed_in (scope ext (e ∷ out)).processed e.tag.namespace e.tag.name

  -- Kept rows.

  ext-is : (at : List Element) → (in_extension ext at && entered_at K ext at) ≡ extension_kept K ext at
  unfolding entered_at
  ext-is at = let h = out_of_ext K ext at in grind arith

  kept-is : (e : Element) (out : List Element) → Named ext (e ∷ out)
      → (not (in_extension ext (e ∷ out)) && not (is_alternate_content e.tag) && not (is_branch e.tag) && not (disp e out) && entered_at K ext (e ∷ out)) ≡ kept K ext (e ∷ out)
  unfolding Named disp entered_at kept entered reached ignored is_ignored unwrapped is_unwrapped unselected
  kept-is e out w = let f = w.0 in let g = alt_mc e.tag in let h = branch-mc e.tag in grind arith

  text-is : (e : Element) (out : List Element) → Named ext (e ∷ out)
      → (entered_at K ext (e ∷ out) && (in_extension ext (e ∷ out) || not (is_alternate_content e.tag) && (is_branch e.tag || not (disp e out && not (proc e out)))))
      ≡ (extension_kept K ext (e ∷ out) || text_kept K ext (e ∷ out))
  unfolding Named disp proc entered_at text_kept kept entered reached ignored is_ignored unwrapped is_unwrapped unselected
  text-is e out w =
      let f = w.0 in let g = alt_mc e.tag in let h = branch-mc e.tag in let k = out_of_ext K ext (e ∷ out) in let q = alt_not_branch e.tag in
      let m = mc_not_disp K ext (scope ext (e ∷ out)).ignorables e.tag.namespace in grind arith

  text_right : (at : List Element) → Named ext at
      → (extension_kept K ext at || text_kept K ext at) ≡ (entered_at K ext at && keeps_text (state_at K ext at))
  unfolding state_at state_in disp proc is_alternate_content is_branch is_choice is_fallback
  text_right [] w = unfold entered_at in_extension entered keeps_text extension_kept text_kept in refl
  text_right (e ∷ out) w = sym (ap (λ x. entered_at K ext (e ∷ out) && x) (text-by (in_extension ext (e ∷ out)) (mc_element e.tag) _ _) ∙ text-is e out w)

  end_tests_is : (e a b d l x k : Bool) → (e && l) ≡ x → (not e && not a && not b && not d && l) ≡ k
      → (l && (e || not a && not b && not d)) ≡ (x || k)
  end_tests_is e a b d l x k f g = grind arith

  end_right : (at : List Element) → Named ext at
      → (extension_kept K ext at || kept K ext at) ≡ (entered_at K ext at && keeps_end (state_at K ext at))
  unfolding state_at state_in disp proc is_alternate_content is_branch is_choice is_fallback
  end_right [] w = unfold entered_at in_extension entered keeps_end extension_kept kept in refl
  end_right (e ∷ out) w =
      sym (ap (λ x. entered_at K ext (e ∷ out) && x) (end_by (in_extension ext (e ∷ out)) (mc_element e.tag) _ _)
      ∙ end_tests_is (in_extension ext (e ∷ out)) _ _ _ (entered_at K ext (e ∷ out)) _ _ (ext-is (e ∷ out)) (kept-is e out w))

  tag_right : (e : Element) (out : List Element) → Named ext (e ∷ out)
      → tag_kept K (extension_kept K ext (e ∷ out)) (kept K ext (e ∷ out)) (scope ext (e ∷ out)).ignorables e.tag
      ≡ tag_kept_in K (state_at K ext (e ∷ out)) (entered_at K ext (e ∷ out)) (scope ext (e ∷ out)) e.tag
  unfolding state_at state_in disp is_alternate_content is_branch is_choice is_fallback
  tag_right e out w =
      sym (tag-by K (in_extension ext (e ∷ out)) (mc_element e.tag) _ _ _ _ _
      ∙ ap₂ (λ x k. tag_kept K x k (scope ext (e ∷ out)).ignorables e.tag) (ext-is (e ∷ out)) (kept-is e out w))

  kept_right : (t : Token) (past : List Token) → faults K ext (t ∷ past) ≡ [] → kept_of K ext t past ≡ kept_in K ext t (frames K ext past)
  unfolding kept_of kept_in frames frame_at element
  kept_right (tag t) past f =
      let e : Element = element t (children zero past) in
      let w : Named ext (e ∷ around past) = unfold around in named K ext (tag t ∷ past) f in
      tag_right e (around past) w
      ∙ sym (ap (λ (g : Frame). tag_kept_in K g.state g.entered g.scope t) (opened_right K ext t (children zero past) (around past)))
  kept_right (text x) past f = unfold around in ap (λ b. when b x) (text_right (around past) (named K ext (text x ∷ past) f))
  kept_right (end x) past f =
      let g : faults K ext past ≡ [] = unfold faults in left_nil (faults K ext past) (faults_of K ext (end x) past) f in
      ap (λ b. when b x) (end_right (around past) (named K ext past g))

  -- Mismatches.

  alternate-entered : (out : List Element) → in_alternate_content out ≡ true → entered K ext out ≡ reached K ext out
  unfolding in_alternate_content entered reached unselected ignored is_ignored
  alternate-entered [] h = absurd (false≢true h)
  alternate-entered (e ∷ out) h =
      let g = alt_mc e.tag h in let q = alt_not_branch e.tag h in
      let m = mc_not_disp K ext (scope ext (e ∷ out)).ignorables e.tag.namespace g in grind arith

  ignored-state : (e : Element) (out : List Element)
      → is_ignored_state (state_at K ext (e ∷ out)) ≡ (not (in_extension ext (e ∷ out)) && ignored K ext (e ∷ out))
  unfolding state_at state_in ignored is_ignored
  ignored-state e out = ignored-by (in_extension ext (e ∷ out)) (mc_element e.tag) _ _ (some_not_disp K ext (scope ext (e ∷ out)).ignorables e.tag)

  stray_right : (e : Element) (out : List Element)
      → stray_child K ext (e ∷ out) ≡ (entered_at K ext out && is_alternate_state (state_at K ext out) && not (is_branch e.tag) && not (is_ignored_state (state_at K ext (e ∷ out))))
  unfolding stray_child stray entered_at in_extension
  stray_right e out = let a = alt_of K ext out in let i = ignored-state e out in let n = alternate-entered out in grind arith

  kept-state : (e : Element) (out : List Element) → Named ext (e ∷ out)
      → kept K ext (e ∷ out) ≡ (entered_at K ext (e ∷ out) && is_kept_state (state_at K ext (e ∷ out)))
  unfolding state_at state_in disp proc is_alternate_content is_branch is_choice is_fallback
  kept-state e out w =
      let h = kept-is e out w in
      let k = kept_by (in_extension ext (e ∷ out)) (mc_element e.tag) (disp e out) (proc e out) in
      sym (ap (λ x. entered_at K ext (e ∷ out) && x) k ∙ turned (in_extension ext (e ∷ out)) (is_alternate_content e.tag) (is_branch e.tag) (disp e out) (entered_at K ext (e ∷ out)) ∙ h)
    where
      turned : (x a b d l : Bool) → (l && (not x && not a && not b && not d)) ≡ (not x && not a && not b && not d && l)
      turned x a b d l = grind arith

  heeds-is : (e : Element) (out : List Element) → Named ext (e ∷ out)
      → heeds K ext (e ∷ out) ≡ (entered_at K ext (e ∷ out) && (not (in_extension ext (e ∷ out)) && not (disp e out && not (proc e out))))
  unfolding Named disp proc entered_at heeds kept entered reached ignored is_ignored unwrapped is_unwrapped unselected
  heeds-is e out w =
      let f = w.0 in let g = alt_mc e.tag in let h = branch-mc e.tag in let q = alt_not_branch e.tag in
      let m = mc_not_disp K ext (scope ext (e ∷ out)).ignorables e.tag.namespace in grind arith

  heeds_right : (e : Element) (out : List Element) → Named ext (e ∷ out)
      → heeds K ext (e ∷ out) ≡ (entered_at K ext (e ∷ out) && heeds_must (state_at K ext (e ∷ out)))
  unfolding state_at state_in disp proc
  heeds_right e out w =
      heeds-is e out w
      ∙ sym (ap (λ x. entered_at K ext (e ∷ out) && x) (heeds-by (in_extension ext (e ∷ out)) (mc_element e.tag) _ _ (some_not_disp K ext (scope ext (e ∷ out)).ignorables e.tag)))

  element-marks : Bool → Bool → Bool → Scope → Tag → List Refusal
  element-marks s h k sc t =
      mark s t.placed.place StrayChild ++ mark (k && is_foreign K t.namespace) t.placed.place ForeignName ++ attr_marks K h k sc t.attrs

  marks-tests : (e : Element) (out : List Element) → Named ext (e ∷ out)
      → element_marks K ext (e ∷ out)
      ≡ element-marks (entered_at K ext out && is_alternate_state (state_at K ext out) && not (is_branch e.tag) && not (is_ignored_state (state_at K ext (e ∷ out))))
      (entered_at K ext (e ∷ out) && heeds_must (state_at K ext (e ∷ out))) (entered_at K ext (e ∷ out) && is_kept_state (state_at K ext (e ∷ out))) (scope ext (e ∷ out)) e.tag
  unfolding element_marks element-marks
  marks-tests e out w =
      ap (λ s. element-marks s (heeds K ext (e ∷ out)) (kept K ext (e ∷ out)) (scope ext (e ∷ out)) e.tag) (stray_right e out)
      ∙ ap₂ (λ h k. element-marks (entered_at K ext out && is_alternate_state (state_at K ext out) && not (is_branch e.tag) && not (is_ignored_state (state_at K ext (e ∷ out)))) h k (scope ext (e ∷ out)) e.tag) (heeds_right e out w) (kept-state e out w)

  marks_right : (t : Token) (past : List Token) → faults K ext (t ∷ past) ≡ [] → marks_of K ext t past ≡ marks_in K ext t (frames K ext past)
  unfolding marks_of marks_in frames frame_at element tag_marks_in element-marks
  marks_right (tag t) past f =
      let e : Element = element t (children zero past) in
      let w : Named ext (e ∷ around past) = unfold around in named K ext (tag t ∷ past) f in
      marks-tests e (around past) w
      ∙ sym (ap (λ g. tag_marks_in K ext (frame_at K ext (around past) (children zero past)) g t) (opened_right K ext t (children zero past) (around past)))
  marks_right (text x) past f = refl
  marks_right (end x) past f = refl

pub rows_follow_states : RowsFollowStates
rows_follow_states K ext t past = (faults_right K ext t past, λ f. (kept_right K ext t past f, marks_right K ext t past f))
