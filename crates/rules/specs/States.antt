-- What has to be known of each open element to judge the next row: by the rules, and step by step from the element around it.
use Rattle.std.specs.Prelude.{zero, Bool, true, false, cond, not, ◌&&◌, ◌||◌, List, [], ◌∷◌, ◌++◌, Some, None, Option}
use Rattle.text.specs.declared.names.McElement.{McElement}
use Rattle.text.specs.declared.names.McElement.TheVariants.{AlternateContent, Choice, Fallback}
use Rattle.record.specs.declared.row.PlacedRow.{PlacedRow}
use Rattle.record.specs.declared.refusal.Cause.TheVariants.{StrayChild, ForeignName}
use Rattle.record.specs.declared.refusal.Refusal.{Refusal}
use Rattle.record.specs.declared.refusal.Refusal.TheVariants.{Misplaced}
use Rattle.knowledge.specs.Understood.{Knows}
use Rattle.card.specs.Cards.{Name}
use Rattle.rules.specs.declared.state.State.{State}
use Rattle.rules.specs.declared.state.State.TheVariants.{Kept, Unwrapped, Ignored, Alternate, Branch, Extension}
use Rattle.rules.specs.Elements.{Tag, Token, tag, text, end, children, Element, around, tag_rows}
use Rattle.rules.specs.Scope.{mc_element, is_choice, is_fallback, is_branch, Scope, no_scope, is_processed_in, scope_with, is_listed, in_extension, scope}
use Rattle.rules.specs.Steps.{when, is_foreign, is_dispensable, is_satisfied, choice_selected, kept_tag, entered, extension_kept}
use Rattle.rules.specs.Mismatches.{mark, attr_marks}
use Rattle.rules.specs.Faults.{fault, any_choice, any_fallback, tag_faults}

-- Entered: it is reached, and so is what stands directly in it. The last three are of an AlternateContent and its children so far.
pub record Frame : Type 0 where
  pub state : State
  pub entered : Bool
  pub scope : Scope
  pub choice_selected : Bool
  pub choice_seen : Bool
  pub fallback_seen : Bool

-- The state of an element: in an extension element, by its name in MC, or by whether its namespace is dispensable and ProcessContent
-- names it.
unfoldable pub state_by : Bool → Option McElement → Bool → Bool → State
state_by true name dispensable processed = Extension
state_by false (Some AlternateContent) dispensable processed = Alternate
state_by false (Some Choice) dispensable processed = Branch
state_by false (Some Fallback) dispensable processed = Branch
state_by false None true true = Unwrapped
state_by false None true false = Ignored
state_by false None false processed = Kept

unfoldable pub state_in : Knows → Bool → Scope → Tag → State
state_in knows extension s t =
    state_by extension (mc_element t) (is_dispensable knows s.ignorables t.namespace) (is_processed_in s.processed t.namespace t.name)

unfoldable pub is_extension_state : State → Bool
is_extension_state Kept = false
is_extension_state Unwrapped = false
is_extension_state Ignored = false
is_extension_state Alternate = false
is_extension_state Branch = false
is_extension_state Extension = true

unfoldable pub is_alternate_state : State → Bool
is_alternate_state Kept = false
is_alternate_state Unwrapped = false
is_alternate_state Ignored = false
is_alternate_state Alternate = true
is_alternate_state Branch = false
is_alternate_state Extension = false

unfoldable pub is_ignored_state : State → Bool
is_ignored_state Kept = false
is_ignored_state Unwrapped = false
is_ignored_state Ignored = true
is_ignored_state Alternate = false
is_ignored_state Branch = false
is_ignored_state Extension = false

unfoldable pub is_kept_state : State → Bool
is_kept_state Kept = true
is_kept_state Unwrapped = false
is_kept_state Ignored = false
is_kept_state Alternate = false
is_kept_state Branch = false
is_kept_state Extension = false

-- a text in an entered element of this state is kept
unfoldable pub keeps_text : State → Bool
keeps_text Kept = true
keeps_text Unwrapped = true
keeps_text Ignored = false
keeps_text Alternate = false
keeps_text Branch = true
keeps_text Extension = true

-- so is its end
unfoldable pub keeps_end : State → Bool
keeps_end Kept = true
keeps_end Unwrapped = false
keeps_end Ignored = false
keeps_end Alternate = false
keeps_end Branch = false
keeps_end Extension = true

-- MustUnderstand on it is heeded
unfoldable pub heeds_must : State → Bool
heeds_must Kept = true
heeds_must Unwrapped = true
heeds_must Ignored = false
heeds_must Alternate = true
heeds_must Branch = true
heeds_must Extension = false

-- an element that is reached is entered, unless it is ignored or an unselected branch
unfoldable pub entered_by : State → Bool → Bool → Bool
entered_by Kept reached selected = reached
entered_by Unwrapped reached selected = reached
entered_by Ignored reached selected = false
entered_by Alternate reached selected = reached
entered_by Branch reached selected = reached && selected
entered_by Extension reached selected = reached

-- the rows of a tag that are kept
unfoldable pub tag_kept_in : Knows → State → Bool → Scope → Tag → List PlacedRow
tag_kept_in knows state false s t = []
tag_kept_in knows Kept true s t = kept_tag knows s.ignorables t
tag_kept_in knows Unwrapped true s t = []
tag_kept_in knows Ignored true s t = []
tag_kept_in knows Alternate true s t = []
tag_kept_in knows Branch true s t = []
tag_kept_in knows Extension true s t = tag_rows t

-- around the root: everything there is reached, and no text is kept
unfoldable pub ground : Frame
ground = record { state = Ignored; entered = true; scope = no_scope; choice_selected = false; choice_seen = false; fallback_seen = false }

module _ (knows : Knows) (extensions : List Name) where
  -- By the rules.

  unfoldable pub state_at : List Element → State
  state_at [] = Ignored
  state_at (e ∷ out) = state_in knows (in_extension extensions (e ∷ out)) (scope extensions (e ∷ out)) e.tag

  unfoldable pub entered_at : List Element → Bool
  entered_at at = cond (in_extension extensions at) (extension_kept knows extensions at) (entered knows extensions at)

  -- the innermost of these elements, with its children so far, youngest first
  unfoldable pub frame_at : List Element → List Tag → Frame
  frame_at at inner =
      record {
        state = state_at at;
        entered = entered_at at;
        scope = scope extensions at;
        choice_selected = choice_selected knows (scope extensions at).bindings inner;
        choice_seen = any_choice inner;
        fallback_seen = any_fallback inner;
      }

  unfoldable pub frames_around : List Element → List Frame
  frames_around [] = []
  frames_around (e ∷ out) = frame_at out (e.tag ∷ e.elder) ∷ frames_around out

  -- the open elements, innermost first, and what is around the root
  unfoldable pub frames : List Token → List Frame
  frames past = frame_at (around past) (children zero past) ∷ frames_around (around past)

  -- Step by step.

  -- an element directly in one of this frame is reached
  unfoldable pub reached_in : Frame → Tag → Bool
  reached_in f t = f.entered && not (is_alternate_state f.state && not (is_branch t))

  unfoldable pub selected_in : Frame → Tag → Bool
  selected_in f t = not f.choice_selected && (is_fallback t || is_choice t && is_satisfied knows f.scope.bindings t)

  unfoldable pub opened_by : Bool → Frame → Tag → Frame
  opened_by extension f t =
      let s : Scope = cond extension f.scope (scope_with t f.scope) in
      record {
        state = state_in knows extension s t;
        entered = entered_by (state_in knows extension s t) (reached_in f t) (selected_in f t);
        scope = s;
        choice_selected = false;
        choice_seen = false;
        fallback_seen = false;
      }

  -- the frame of an element, from the frame around it and its tag
  unfoldable pub opened : Frame → Tag → Frame
  opened f t = opened_by (is_listed extensions t || is_extension_state f.state) f t

  -- the frame around notes a child as it starts
  unfoldable pub noted : Frame → Tag → Frame
  noted f t =
      record {
        state = f.state;
        entered = f.entered;
        scope = f.scope;
        choice_selected = f.choice_selected || is_choice t && is_satisfied knows f.scope.bindings t;
        choice_seen = is_choice t || f.choice_seen;
        fallback_seen = is_fallback t || f.fallback_seen;
      }

  -- an end gives back the frame around
  unfoldable pub ended : List Frame → List Frame
  ended [] = []
  ended (f ∷ []) = ground ∷ []
  ended (f ∷ g ∷ fs) = g ∷ fs

  unfoldable pub step : Token → List Frame → List Frame
  step (tag t) [] = []
  step (tag t) (f ∷ fs) = opened f t ∷ (noted f t ∷ fs)
  step (text x) fs = fs
  step (end x) fs = ended fs

  -- What a token is refused with, keeps and mismatches, by the frame around it.

  unfoldable pub faults_in : Token → List Frame → List Refusal
  faults_in t [] = []
  faults_in (tag t) (f ∷ fs) =
      tag_faults (is_extension_state f.state) (is_listed extensions t) knows f.scope (is_alternate_state f.state) f.fallback_seen t
  faults_in (text x) (f ∷ fs) = []
  faults_in (end x) (f ∷ fs) = fault (is_alternate_state f.state && not f.choice_seen) (Misplaced x.place)

  unfoldable pub kept_in : Token → List Frame → List PlacedRow
  kept_in t [] = []
  kept_in (tag t) (f ∷ fs) = tag_kept_in knows (opened f t).state (opened f t).entered (opened f t).scope t
  kept_in (text x) (f ∷ fs) = when (f.entered && keeps_text f.state) x
  kept_in (end x) (f ∷ fs) = when (f.entered && keeps_end f.state) x

  -- a tag's, in a frame, with the frame that it opens
  unfoldable pub tag_marks_in : Frame → Frame → Tag → List Refusal
  tag_marks_in f g t =
      mark (f.entered && is_alternate_state f.state && not (is_branch t) && not (is_ignored_state g.state)) t.placed.place StrayChild
      ++ mark (g.entered && is_kept_state g.state && is_foreign knows t.namespace) t.placed.place ForeignName
      ++ attr_marks knows (g.entered && heeds_must g.state) (g.entered && is_kept_state g.state) g.scope t.attrs

  unfoldable pub marks_in : Token → List Frame → List Refusal
  marks_in t [] = []
  marks_in (tag t) (f ∷ fs) = tag_marks_in f (opened f t) t
  marks_in (text x) (f ∷ fs) = []
  marks_in (end x) (f ∷ fs) = []

-- opens the definitions of this file, for a proof that computes
unfoldable pub open_states : Unit {0}
unfolding state_by state_in is_extension_state is_alternate_state is_ignored_state is_kept_state keeps_text keeps_end heeds_must entered_by tag_kept_in ground state_at entered_at frame_at frames_around frames reached_in selected_in opened_by opened noted ended step faults_in kept_in tag_marks_in marks_in
open_states = tt
