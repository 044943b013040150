-- Where a record does not fit a knowledge: the mismatches, each with its place and cause, in the order of places (docs/RULES.md, rule 10).
use Rattle.std.specs.Prelude.{ℕ, zero, Bool, true, false, not, ◌&&◌, ◌||◌, List, [], ◌∷◌, ◌++◌}
use Rattle.record.specs.declared.refusal.Cause.{Cause}
use Rattle.record.specs.declared.refusal.Cause.TheVariants.{MustUnderstand, StrayChild, ForeignName}
use Rattle.record.specs.declared.refusal.Refusal.{Refusal}
use Rattle.record.specs.declared.refusal.Refusal.TheVariants.{Mismatch}
use Rattle.knowledge.specs.Understood.{Knows}
use Rattle.card.specs.Cards.{Name}
use Rattle.items.specs.Items.{items}
use Rattle.rules.specs.Elements.{Attr, Token, tag, text, end, children, Element, element, around}
use Rattle.rules.specs.Scope.{is_alternate_content, is_branch, is_must_understand, Scope, named, is_listed, in_extension, scope}
use Rattle.rules.specs.Steps.{is_foreign, is_kept_attr, all_understood, unwrapped, ignored, selected, stray, reached, kept}

unfoldable pub mark : Bool → ℕ → Cause → List Refusal
mark true place cause = Mismatch place cause ∷ []
mark false place cause = []

-- an attribute of an element, where MustUnderstand is heeded and where attributes are kept
unfoldable pub attr_marks : Knows → Bool → Bool → Scope → List Attr → List Refusal
attr_marks knows heeded kept s [] = []
attr_marks knows heeded kept s (x ∷ xs) =
    mark (heeded && is_must_understand x && not (all_understood knows (named s.bindings (items x.value)))) x.placed.place MustUnderstand
    ++ mark (kept && is_kept_attr knows s.ignorables x && is_foreign knows x.namespace) x.placed.place ForeignName
    ++ attr_marks knows heeded kept s xs

module _ (knows : Knows) (extensions : List Name) where
  -- MustUnderstand is heeded on a reached element that is an AlternateContent, a selected branch, an unwrapped or a kept element
  unfoldable pub heeds : List Element → Bool
  heeds [] = false
  heeds (e ∷ out) =
      not (in_extension extensions (e ∷ out)) && reached knows extensions (e ∷ out)
      && (is_alternate_content e.tag
      || is_branch e.tag && selected knows extensions (e ∷ out)
      || unwrapped knows extensions (e ∷ out)
      || kept knows extensions (e ∷ out))

  -- a direct child of a reached AlternateContent that is neither a branch nor ignored; an extension element is not ignored
  unfoldable pub stray_child : List Element → Bool
  stray_child [] = false
  stray_child (e ∷ out) =
      not (in_extension extensions out) && stray (e ∷ out) && reached knows extensions out
      && (is_listed extensions e.tag || not (ignored knows extensions (e ∷ out)))

  unfoldable pub element_marks : List Element → List Refusal
  element_marks [] = []
  element_marks (e ∷ out) =
      mark (stray_child (e ∷ out)) e.tag.placed.place StrayChild
      ++ mark (kept knows extensions (e ∷ out) && is_foreign knows e.tag.namespace) e.tag.placed.place ForeignName
      ++ attr_marks knows (heeds (e ∷ out)) (kept knows extensions (e ∷ out)) (scope extensions (e ∷ out)) e.tag.attrs

  unfoldable pub marks_of : Token → List Token → List Refusal
  marks_of (tag t) past = element_marks (element t (children zero past) ∷ around past)
  marks_of (text x) past = []
  marks_of (end x) past = []

  unfoldable pub mismatches : List Token → List Refusal
  mismatches [] = []
  mismatches (t ∷ past) = mismatches past ++ marks_of t past

-- opens the definitions of this file, for a proof that computes
unfoldable pub open_mismatches : Unit {0}
unfolding mark attr_marks heeds stray_child element_marks marks_of mismatches
open_mismatches = tt
