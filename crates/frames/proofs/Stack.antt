-- The frames of the open elements as elements start and end.
use Rattle.std.proofs.Common.{◌≡◌, suc, true, false, List, [], ◌∷◌, length, sym, refl, ap, ◌∙◌, subst}
use mathlib.Core.Bool.{false≢true}
use Rattle.knowledge.specs.Understood.{Knows}
use Rattle.card.specs.Cards.{Name}
use Rattle.rules.specs.Elements.{Tag, tag}
use Rattle.rules.specs.Scope.{Scope, no_scope}
use Rattle.rules.specs.States.{Frame, is_alternate_state, ground, opened, noted, ended, faults_in}
use Rattle.enter.specs.declared.in_scope.Lengths.{Lengths}
use Rattle.enter.specs.Scopes.{sizes, scope_before}
use Rattle.frames.specs.declared.frame.Frame.{Frame as Held}
use Rattle.frames.specs.Agrees.{Agrees}
use Rattle.frames.specs.Stacks.{frame_in, ground_held, innermost, renoted, Within, Stacked}
use Rattle.frames.proofs.Agree.{agrees-same, agrees-opened, agrees-noted}

-- The innermost frame.

pub record Top (s : Scope) (fs : List Held) (gs : List Frame) : Type 0 where
  pub frame : Frame
  pub rest : List Frame
  pub is : gs ≡ frame ∷ rest
  pub agrees : Agrees (frame_in s (innermost fs)) frame
  pub lengths : (innermost fs).lengths ≡ sizes s

ground-agrees : (s : Scope) (g : Frame) → Agrees ground g → s ≡ no_scope → Agrees (frame_in s ground_held) g
unfolding ground
ground-agrees s g a e = subst (λ (x : Scope). Agrees (frame_in x ground_held) g) (sym e) a

ground-sizes : (s : Scope) → s ≡ no_scope → ground_held.lengths ≡ sizes s
unfolding no_scope
ground-sizes s e = subst (λ (x : Scope). ground_held.lengths ≡ sizes x) (sym e) refl

pub top : (s : Scope) (fs : List Held) (gs : List Frame) → Stacked s fs gs → Top s fs gs
top s [] [] h = absurd h
top s [] (g ∷ gs) h = record { frame = g; rest = gs; is = refl; agrees = ground-agrees s g h.1 h.2; lengths = ground-sizes s h.2 }
top s (f ∷ fs) [] h = absurd h
top s (f ∷ fs) (g ∷ gs) h = record { frame = g; rest = gs; is = refl; agrees = h.0; lengths = h.1 }

-- one frame more than open elements: that around the root
pub stacked-length : (s : Scope) (fs : List Held) (gs : List Frame) → Stacked s fs gs → length gs ≡ suc (length fs)
stacked-length s [] [] h = absurd h
stacked-length s [] (g ∷ gs) h = ap (λ (x : List Frame). suc (length x)) h.0
stacked-length s (f ∷ fs) [] h = absurd h
stacked-length s (f ∷ fs) (g ∷ gs) h = ap suc (stacked-length (scope_before (innermost fs).lengths s) fs gs h.3)

renoted-lengths : (n : Held) (fs : List Held) → n.lengths ≡ (innermost fs).lengths → (innermost (renoted n fs)).lengths ≡ (innermost fs).lengths
renoted-lengths n [] m = refl
renoted-lengths n (f ∷ fs) m = m

module _ (K : Knows) (ext : List Name) where
  -- An end gives back the frame around.
  pub ended-stacked : (s : Scope) (f : Held) (fs : List Held) (gs : List Frame) → Stacked s (f ∷ fs) gs
      → Stacked (scope_before (innermost fs).lengths s) fs (ended K ext gs)
  unfolding ended
  ended-stacked s f fs [] h = absurd h
  ended-stacked s f [] (g ∷ []) h = absurd h.3
  ended-stacked s f (e ∷ fs) (g ∷ []) h = absurd h.3
  ended-stacked s f fs (g ∷ x ∷ gs) h = h.3

  ground_not_alternate : is_alternate_state ground.state ≡ false
  unfolding ground is_alternate_state
  ground_not_alternate = refl

  noted-stacked : (s : Scope) (fs : List Held) (g : Frame) (gs : List Frame) (t : Tag) (n : Held) → Stacked s fs (g ∷ gs)
      → n.lengths ≡ (innermost fs).lengths
      → (is_alternate_state (innermost fs).state ≡ true → frame_in s n ≡ noted K ext (frame_in s (innermost fs)) t)
      → (is_alternate_state (innermost fs).state ≡ false → frame_in s n ≡ frame_in s (innermost fs))
      → Stacked s (renoted n fs) (noted K ext g t ∷ gs)
  noted-stacked s [] g gs t n h l yes-alternate no-alternate =
      (h.0, agrees-noted K ext ground g ground t h.1 (λ e. absurd (false≢true (sym ground_not_alternate ∙ e))) (λ _. refl), h.2)
  noted-stacked s (f ∷ fs) g gs t n h l yes-alternate no-alternate =
      (agrees-noted K ext (frame_in s f) g (frame_in s n) t h.0 yes-alternate no-alternate, l ∙ h.1, h.2, h.3)

  -- A start opens a frame, and the frame around notes it.
  pub opened-stacked : (s t-s : Scope) (fs : List Held) (g : Frame) (gs : List Frame) (t : Tag) (f n : Held) → Stacked s fs (g ∷ gs)
      → faults_in K ext (tag t) (g ∷ gs) ≡ []
      → frame_in t-s f ≡ opened K ext (frame_in s (innermost fs)) t → f.lengths ≡ sizes t-s
      → scope_before (sizes s) t-s ≡ s → Within (sizes s) (sizes t-s)
      → n.lengths ≡ (innermost fs).lengths
      → (is_alternate_state (innermost fs).state ≡ true → frame_in s n ≡ noted K ext (frame_in s (innermost fs)) t)
      → (is_alternate_state (innermost fs).state ≡ false → frame_in s n ≡ frame_in s (innermost fs))
      → Stacked t-s (f ∷ renoted n fs) (opened K ext g t ∷ noted K ext g t ∷ gs)
  opened-stacked s t-s fs g gs t f n h e o l back within m yes-alternate no-alternate =
      let p = top s fs (g ∷ gs) h in
      let q : (innermost (renoted n fs)).lengths ≡ sizes s = renoted-lengths n fs m ∙ p.lengths in (
        agrees-same K ext (frame_in t-s f) (opened K ext g t) (o ∙ agrees-opened K ext (frame_in s (innermost fs)) g gs t (agreed p) e),
        l,
        subst (λ (x : Lengths). Within x (sizes t-s)) (sym q) within,
        subst (λ (x : Scope). Stacked x (renoted n fs) (noted K ext g t ∷ gs)) (sym (ap (λ (x : Lengths). scope_before x t-s) q ∙ back))
            (noted-stacked s fs g gs t n h m yes-alternate no-alternate),
      )
    where
      agreed : Top s fs (g ∷ gs) → Agrees (frame_in s (innermost fs)) g
      agreed p = let q : p.frame ≡ g = cc in subst (λ (x : Frame). Agrees (frame_in s (innermost fs)) x) q p.agrees
