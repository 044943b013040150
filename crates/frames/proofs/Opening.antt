-- What a start opens, from its parts.
use Rattle.std.proofs.Common.{◌≡◌, Bool, true, false, cond, not, ◌&&◌, ◌||◌, List, Option, sym, refl, ap, ◌∙◌, subst, arith}
use mathlib.Core.Bool.{false≢true}
use Rattle.std.proofs.lemmas.List.{length-append}
use Rattle.text.specs.Names.{in_mc}
use Rattle.record.specs.declared.refusal.Refusal.{Refusal}
use Rattle.knowledge.specs.Understood.{Knows}
use Rattle.card.specs.Cards.{Name, OutsideMc}
use Rattle.rules.specs.declared.state.State.{State}
use Rattle.rules.specs.declared.state.State.TheVariants.{Kept, Unwrapped, Ignored, Alternate, Branch, Extension}
use Rattle.rules.specs.Elements.{Tag}
use Rattle.rules.specs.Scope.{Scope, mc_element, is_choice, is_fallback, is_branch, items_of, requires_of, named, bindings_with, ignorables_with, processed_with, scope_with, is_listed}
use Rattle.rules.specs.Steps.{all_understood, is_satisfied}
use Rattle.rules.specs.Faults.{first}
use Rattle.rules.specs.States.{Frame, state_by, state_in, is_extension_state, is_alternate_state, entered_by, reached_in, selected_in, opened_by, opened, noted, tag_marks_in}
use Rattle.rules.proofs.Names.{branch-mc}
use Rattle.enter.specs.declared.in_scope.Lengths.{Lengths}
use Rattle.enter.specs.Scopes.{sizes}
use Rattle.enter.proofs.Before.{before_all, before_with}
use Rattle.frames.specs.declared.frame.Frame.{Frame as Held}
use Rattle.frames.specs.Parts.{opened_from, noted_from}
use Rattle.frames.specs.Stacks.{frame_in, Within, Grown}
use Rattle.frames.specs.Opens.{Opens}

-- In an AlternateContent what is listed is no branch.

alternate_only : (state : State) → is_alternate_state state ≡ true → is_extension_state state ≡ false
unfolding is_alternate_state is_extension_state
alternate_only Kept e = refl
alternate_only Unwrapped e = refl
alternate_only Ignored e = refl
alternate_only Alternate e = refl
alternate_only Branch e = refl
alternate_only Extension e = absurd (cc)

listed_outside : (ext : List Name) (t : Tag) → OutsideMc ext → is_listed ext t ≡ true → in_mc t.namespace ≡ false
unfolding is_listed
listed_outside ext t outside e = outside t.namespace t.name e

listed_no_choice : (ext : List Name) (t : Tag) → OutsideMc ext → is_listed ext t ≡ true → is_choice t ≡ false
unfolding is_branch
listed_no_choice ext t outside e =
    elim (is_choice t) as (λ (v : Bool). is_choice t ≡ v → v ≡ false) [
      | true ↦ λ h. absurd (false≢true (sym (listed_outside ext t outside e) ∙ branch-mc t (ap (λ (v : Bool). v || is_fallback t) h)))
      | false ↦ λ h. refl
    ] refl

module _ (K : Knows) (ext : List Name) (out : Scope) (around : Held) (t : Tag) where
  -- what is in scope at it
  abbrev at_it : Bool → Scope
  at_it x = cond x out (scope_with t out)

  abbrev met_at : Bool → Scope → Bool
  met_at x s = not x && (is_choice t && all_understood K (named s.bindings (items_of (requires_of t))))

  opens_at : (x : Bool) (lengths : Lengths)
      → frame_in (at_it x) (opened_from (state_in K x (at_it x) t) around (mc_element t) (met_at x (at_it x)) lengths) ≡ opened_by K ext x (frame_in out around) t
  unfolding opened_by state_in state_by entered_by reached_in selected_in is_branch is_choice is_fallback is_satisfied scope_with
  opens_at true lengths = refl
  opens_at false lengths = refl

  module _ (outside : OutsideMc ext) (x : Bool) (e : x ≡ (is_listed ext t || is_extension_state around.state)) (s : Scope) (h : s ≡ at_it x) (met : Bool) (m : met ≡ met_at x s) where
    pub frame-opens : (lengths : Lengths)
        → frame_in s (opened_from (state_in K x s t) around (mc_element t) met lengths) ≡ opened K ext (frame_in out around) t
    unfolding opened
    frame-opens lengths =
        ap (λ (z : Scope). frame_in z (opened_from (state_in K x z t) around (mc_element t) met lengths)) h
        ∙ ap (λ (z : Bool). frame_in (at_it x) (opened_from (state_in K x (at_it x) t) around (mc_element t) z lengths)) (m ∙ ap (met_at x) h)
        ∙ opens_at x lengths
        ∙ ap (λ (z : Bool). opened_by K ext z (frame_in out around) t) e

    met_outside : x ≡ false → met ≡ (is_choice t && is_satisfied K out.bindings t)
    unfolding is_satisfied scope_with
    met_outside o = m ∙ ap (met_at x) h ∙ ap (λ (z : Bool). met_at z (at_it z)) o

    met_listed : is_listed ext t ≡ true → met ≡ (is_choice t && is_satisfied K out.bindings t)
    met_listed l =
        m ∙ ap (λ (z : Bool). not x && (z && all_understood K (named s.bindings (items_of (requires_of t))))) (listed_no_choice ext t outside l)
        ∙ never x
        ∙ sym (ap (λ (z : Bool). z && is_satisfied K out.bindings t) (listed_no_choice ext t outside l))
      where
        never : (y : Bool) → (not y && false) ≡ false
        never true = refl
        never false = refl

    met_inside : is_alternate_state around.state ≡ true → met ≡ (is_choice t && is_satisfied K out.bindings t)
    met_inside a =
        elim (is_listed ext t) as (λ (v : Bool). is_listed ext t ≡ v → met ≡ (is_choice t && is_satisfied K out.bindings t)) [
          | true ↦ met_listed
          | false ↦ λ l. met_outside (e ∙ ap (λ (v : Bool). v || is_extension_state around.state) l ∙ alternate_only around.state a)
        ] refl

    pub note-opens : is_alternate_state around.state ≡ true
        → frame_in out (cond (is_alternate_state around.state) (noted_from around (mc_element t) met) around) ≡ noted K ext (frame_in out around) t
    unfolding noted is_choice is_fallback
    note-opens a =
        ap (λ (v : Bool). frame_in out (cond v (noted_from around (mc_element t) met) around)) a
        ∙ ap (λ (v : Bool). frame_in out (noted_from around (mc_element t) v)) (met_inside a)

  pub same-opens : (n : Held) → is_alternate_state around.state ≡ false → frame_in out (cond (is_alternate_state around.state) n around) ≡ frame_in out around
  same-opens n a = ap (λ (v : Bool). frame_in out (cond v n around)) a

  pub kept-opens : (b met : Bool) → (cond b (noted_from around (mc_element t) met) around).lengths ≡ around.lengths
  kept-opens true met = refl
  kept-opens false met = refl

  -- all of it
  pub opens_all : OutsideMc ext → (x : Bool) → x ≡ (is_listed ext t || is_extension_state around.state) → (s : Scope) → s ≡ at_it x → (met : Bool) → met ≡ met_at x s
      → (lengths : Lengths) → lengths ≡ sizes s → (f n : Held) (o : Option Refusal)
      → f ≡ opened_from (state_in K x s t) around (mc_element t) met lengths
      → n ≡ cond (is_alternate_state around.state) (noted_from around (mc_element t) met) around
      → o ≡ first (tag_marks_in K ext (frame_in out around) (frame_in s f) t)
      → Opens K ext out s around t (record { frame = f; around = n; mismatch = o })
  opens_all outside x e s h met m lengths l f n o is_f is-n is-o =
      let w : frame_in s f ≡ opened K ext (frame_in out around) t = ap (frame_in s) is_f ∙ frame-opens outside x e s h met m lengths in
      record {
        frame = w;
        sized = ap (λ (z : Held). z.lengths) is_f ∙ l;
        kept = ap (λ (z : Held). z.lengths) is-n ∙ kept-opens (is_alternate_state around.state) met;
        note = λ a. ap (frame_in out) is-n ∙ note-opens outside x e s h met m a;
        same = λ a. ap (frame_in out) is-n ∙ same-opens (noted_from around (mc_element t) met) a;
        marked = is-o ∙ ap (λ (z : Frame). first (tag_marks_in K ext (frame_in out around) z t)) w;
      }

-- The entries that it makes stand before those around it.

within_with : (t : Tag) (s : Scope) → Within (sizes s) (sizes (scope_with t s))
unfolding scope_with bindings_with ignorables_with processed_with
within_with t s = (
  simp length-append (omega arith),
  simp length-append (omega arith),
  simp length-append (omega arith),
)

grown_with : (x : Bool) (t : Tag) (s : Scope) → Grown s (cond x s (scope_with t s))
grown_with true t s = record { back = before_all s; within = (omega arith, omega arith, omega arith) }
grown_with false t s =
    record { back = before_with (sizes s) t s (omega arith) (omega arith) (omega arith) ∙ before_all s; within = within_with t s }

pub grown-by : (x : Bool) (t : Tag) (s after : Scope) → after ≡ cond x s (scope_with t s) → Grown s after
grown-by x t s after e = subst (λ (z : Scope). Grown s z) (sym e) (grown_with x t s)
