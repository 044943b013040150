-- The frames of the open elements follow step by step, and what a token keeps follows from them.
use Rattle.std.proofs.Common.{◌≡◌, ℕ, zero, suc, Bool, true, false, cond, not, ◌&&◌, ◌||◌, List, [], ◌∷◌, drop, is_some, Option, sym, refl, ap, ◌∙◌, ap₂, arith}
use mathlib.Core.List.{tail}
use Rattle.std.proofs.Math.Seq.{drop-nil}
use Rattle.text.specs.Bytes.{Bytes}
use Rattle.text.specs.Names.{in_mc, element_named}
use Rattle.text.specs.declared.names.McElement.{McElement}
use Rattle.knowledge.specs.Understood.{Knows}
use Rattle.card.specs.Cards.{Name}
use Rattle.rules.specs.Elements.{Tag, Token, tag, text, end, children, Element, element, around}
use Rattle.rules.specs.Scope.{mc_element, alternate, choice, fallback, is_alternate_content, is_choice, is_fallback, is_branch, Scope, is_listed, in_extension, scope, in_alternate_content}
use Rattle.rules.specs.Steps.{is_dispensable, is_ignored, is_selected, choice_selected, tag_kept, ignored, selected, unselected, stray, entered, reached, extension_kept}
use Rattle.rules.specs.Faults.{any_choice, any_fallback}
use Rattle.rules.specs.States.{Frame, state_by, state_in, is_extension_state, is_alternate_state, is_ignored_state, is_kept_state, keeps_text, keeps_end, heeds_must, entered_by, tag_kept_in, ground, state_at, entered_at, frame_at, frames_around, frames, reached_in, selected_in, opened_by, opened, noted, ended, step}
use Rattle.rules.specs.Laws.{StatesFollow}
use Rattle.rules.proofs.Names.{in-mc}
use Rattle.rules.proofs.Understood.{out_of_ext, out_in}

-- The child that ends, with its elder siblings.

unfoldable pub family : List Element → List Tag
family [] = []
family (e ∷ out) = e.tag ∷ e.elder

drop_tail : (d : ℕ) (at : List Element) → drop (suc d) at ≡ drop d (tail at)
drop_tail d [] = sym (drop-nil d)
drop_tail d (e ∷ at) = refl

children-up : (d : ℕ) (past : List Token) → children (suc d) past ≡ family (drop d (around past))
unfolding children family around element
children-up d [] = ap family (sym (drop-nil d))
children-up d (text x ∷ past) = children-up d past
children-up d (end x ∷ past) = children-up (suc d) past ∙ ap family (drop_tail d (around past))
children-up zero (tag t ∷ past) = refl
children-up (suc d) (tag t ∷ past) = children-up d past

-- What a state says, as tests.

abbrev br : Option McElement → Bool
br m = choice m || fallback m

ext-by : (e : Bool) (m : Option McElement) (d p : Bool) → is_extension_state (state_by e m d p) ≡ e
unfolding is_extension_state state_by
ext-by e m d p = grind arith

alt_by : (e : Bool) (m : Option McElement) (d p : Bool) → is_alternate_state (state_by e m d p) ≡ (not e && alternate m)
unfolding is_alternate_state state_by
alt_by e m d p = grind arith

pub ignored-by : (e : Bool) (m : Option McElement) (d p : Bool) → (is_some m ≡ true → d ≡ false)
    → is_ignored_state (state_by e m d p) ≡ (not e && (d && not p))
unfolding is_ignored_state state_by
ignored-by e m d p h = grind arith

pub kept_by : (e : Bool) (m : Option McElement) (d p : Bool)
    → is_kept_state (state_by e m d p) ≡ (not e && not (alternate m) && not (br m) && not d)
unfolding is_kept_state state_by
kept_by e m d p = grind arith

pub heeds-by : (e : Bool) (m : Option McElement) (d p : Bool) → (is_some m ≡ true → d ≡ false)
    → heeds_must (state_by e m d p) ≡ (not e && not (d && not p))
unfolding heeds_must state_by
heeds-by e m d p h = grind arith

pub text-by : (e : Bool) (m : Option McElement) (d p : Bool)
    → keeps_text (state_by e m d p) ≡ (e || not (alternate m) && (br m || not (d && not p)))
unfolding keeps_text state_by
text-by e m d p = grind arith

pub end_by : (e : Bool) (m : Option McElement) (d p : Bool) → keeps_end (state_by e m d p) ≡ (e || not (alternate m) && not (br m) && not d)
unfolding keeps_end state_by
end_by e m d p = grind arith

entered_by_lem : (m : Option McElement) (d p reach sel : Bool) → (is_some m ≡ true → d ≡ false)
    → entered_by (state_by false m d p) reach sel ≡ (reach && not (d && not p) && not (br m && not sel))
unfolding entered_by state_by
entered_by_lem m d p reach sel h = grind arith

entered-ext : (m : Option McElement) (d p reach sel : Bool) → entered_by (state_by true m d p) reach sel ≡ reach
unfolding entered_by state_by
entered-ext m d p reach sel = refl

pub tag-by : (K : Knows) (e : Bool) (m : Option McElement) (d p l : Bool) (s : Scope) (t : Tag)
    → tag_kept_in K (state_by e m d p) l s t ≡ tag_kept K (e && l) (not e && not (alternate m) && not (br m) && not d && l) s.ignorables t
unfolding tag_kept_in state_by tag_kept
tag-by K e m d p l s t = grind arith

element-mc : (t : Tag) → is_some (mc_element t) ≡ true → in_mc t.namespace ≡ true
unfolding mc_element
element-mc t e = in-mc (in_mc t.namespace) (element_named t.name) e

module _ (K : Knows) (ext : List Name) where
  pub mc_not_disp : (igs : List Bytes) (b : Bytes) → in_mc b ≡ true → is_dispensable K igs b ≡ false
  unfolding is_dispensable
  mc_not_disp igs b e = grind arith

  pub some_not_disp : (igs : List Bytes) (t : Tag) → is_some (mc_element t) ≡ true → is_dispensable K igs t.namespace ≡ false
  some_not_disp igs t e = mc_not_disp igs t.namespace (element-mc t e)

  pub ext-of : (at : List Element) → is_extension_state (state_at K ext at) ≡ in_extension ext at
  unfolding state_at state_in
  ext-of [] = unfold is_extension_state in_extension in refl
  ext-of (e ∷ out) = ext-by (in_extension ext (e ∷ out)) _ _ _

  pub alt_of : (at : List Element) → is_alternate_state (state_at K ext at) ≡ (not (in_extension ext at) && in_alternate_content at)
  unfolding state_at state_in in_alternate_content is_alternate_content
  alt_of [] = unfold is_alternate_state in_extension in refl
  alt_of (e ∷ out) = alt_by (in_extension ext (e ∷ out)) _ _ _

  reach_of : (e : Element) (out : List Element) → in_extension ext out ≡ false
      → (entered_at K ext out && not (is_alternate_state (state_at K ext out) && not (is_branch e.tag))) ≡ reached K ext (e ∷ out)
  unfolding entered_at reached stray
  reach_of e out h = let a = alt_of out in grind arith

  reach_in : (e : Element) (out : List Element) → in_extension ext (e ∷ out) ≡ true
      → (entered_at K ext out && not (is_alternate_state (state_at K ext out) && not (is_branch e.tag))) ≡ extension_kept K ext (e ∷ out)
  unfolding entered_at extension_kept in_extension
  reach_in e out h = let a = alt_of out in let g = out_of_ext K ext out in let k = reach_of e out in grind arith

  entered-is : (e : Element) (out : List Element)
      → (reached K ext (e ∷ out) && not (ignored K ext (e ∷ out)) && not (unselected K ext (e ∷ out))) ≡ entered K ext (e ∷ out)
  unfolding reached entered
  entered-is e out = grind arith

  entered_of : (e : Element) (out : List Element) (x : Bool) → in_extension ext (e ∷ out) ≡ x
      → entered_by (state_in K x (scope ext (e ∷ out)) e.tag) (entered_at K ext out && not (is_alternate_state (state_at K ext out) && not (is_branch e.tag))) (selected K ext (e ∷ out))
      ≡ cond x (extension_kept K ext (e ∷ out)) (entered K ext (e ∷ out))
  unfolding state_in ignored is_ignored unselected is_branch is_choice is_fallback
  entered_of e out true h = entered-ext (mc_element e.tag) _ _ _ _ ∙ reach_in e out h
  entered_of e out false h =
      entered_by_lem (mc_element e.tag) _ _ _ _ (some_not_disp (scope ext (e ∷ out)).ignorables e.tag)
      ∙ ap (λ r. r && not (ignored K ext (e ∷ out)) && not (unselected K ext (e ∷ out))) (reach_of e out (out_in ext e out h))
      ∙ entered-is e out

  made : List Element → Bool → Frame
  made at l = record { state = state_at K ext at; entered = l; scope = scope ext at; choice_selected = false; choice_seen = false; fallback_seen = false }

  pub opened_right : (t : Tag) (elder : List Tag) (out : List Element)
      → opened K ext (frame_at K ext out elder) t ≡ frame_at K ext (element t elder ∷ out) []
  unfolding opened opened_by frame_at state_at entered_at element scope in_extension reached_in selected_in selected is_selected choice_selected any_fallback any_choice made
  opened_right t elder out =
      let e : Element = element t elder in
      ap (λ x. opened_by K ext (is_listed ext t || x) (frame_at K ext out elder) t) (ext-of out)
      ∙ ap (made (e ∷ out)) (entered_of e out (in_extension ext (e ∷ out)) refl)

  noted_right : (t : Tag) (inner : List Tag) (at : List Element) → noted K ext (frame_at K ext at inner) t ≡ frame_at K ext at (t ∷ inner)
  unfolding noted frame_at choice_selected any_fallback any_choice
  noted_right t inner at = refl

  ground_right : ground ≡ frame_at K ext [] []
  unfolding ground frame_at state_at entered_at scope in_extension entered choice_selected any_fallback any_choice
  ground_right = refl

  ended_right : (at : List Element) (inner : List Tag)
      → ended K ext (frame_at K ext at inner ∷ frames_around K ext at) ≡ frame_at K ext (tail at) (family at) ∷ frames_around K ext (tail at)
  unfolding ended frames_around family
  ended_right [] inner = ap (λ f. f ∷ []) ground_right
  ended_right (e ∷ out) inner = refl

  step_right : (t : Token) (past : List Token) → frames K ext (t ∷ past) ≡ step K ext t (frames K ext past)
  unfolding frames step around children frames_around element
  step_right (tag t) past =
      sym (ap₂ (λ f g. f ∷ (g ∷ frames_around K ext (around past))) (opened_right t (children zero past) (around past)) (noted_right t (children zero past) (around past)))
  step_right (text x) past = refl
  step_right (end x) past =
      sym (ended_right (around past) (children zero past) ∙ ap (λ inner. frame_at K ext (tail (around past)) inner ∷ frames_around K ext (tail (around past))) (sym (children-up zero past)))

  empty_right : frames K ext [] ≡ ground ∷ []
  unfolding frames around children frames_around
  empty_right = ap (λ f. f ∷ []) (sym ground_right)

pub states_follow : StatesFollow
states_follow K ext = (empty_right K ext, step_right K ext)
