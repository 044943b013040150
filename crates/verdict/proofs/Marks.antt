-- The mismatches of some attributes, one attribute after the other.
use Rattle.std.proofs.Common.{◌≡◌, ℕ, Bool, true, false, cond, not, ◌&&◌, List, [], ◌∷◌, ◌++◌, map, Some, None, Option, refl, ap, ap₂, ◌∙◌}
use Rattle.std.specs.Option.{option_or}
use Rattle.record.specs.declared.row.PlacedRow.{PlacedRow}
use Rattle.record.specs.declared.refusal.Cause.{Cause}
use Rattle.record.specs.declared.refusal.Cause.TheVariants.{MustUnderstand, ForeignName}
use Rattle.record.specs.declared.refusal.Refusal.{Refusal}
use Rattle.record.specs.declared.refusal.Refusal.TheVariants.{Mismatch}
use Rattle.knowledge.specs.Understood.{Knows}
use Rattle.items.specs.Items.{items}
use Rattle.rules.specs.Elements.{Attr, attr_of}
use Rattle.rules.specs.Scope.{Scope, is_must_understand, named}
use Rattle.rules.specs.Steps.{all_understood, is_foreign, is_kept_attr}
use Rattle.rules.specs.Mismatches.{mark, attr_marks}
use Rattle.rules.specs.Faults.{first}
use Rattle.verdict.specs.declared.view.View.{View}
use Rattle.verdict.specs.Views.{texts_seen, scope_seen}

pub two-marks : (a b : Bool) (place : ℕ) (c d : Cause) (rest : List Refusal)
    → first (mark a place c ++ mark b place d ++ rest) ≡ cond a (Some (Mismatch place c)) (cond b (Some (Mismatch place d)) (first rest))
unfolding mark
two-marks true b place c d rest = refl
two-marks false true place c d rest = refl
two-marks false false place c d rest = refl

more_marks : (a b : Bool) (place : ℕ) (c d : Cause) (rest : List Refusal)
    → first (mark a place c ++ mark b place d ++ rest) ≡ option_or (first (mark a place c ++ mark b place d ++ [])) (first rest)
unfolding mark
more_marks true b place c d rest = refl
more_marks false true place c d rest = refl
more_marks false false place c d rest = refl

module _ (knows : Knows) (heeded kept : Bool) where
  -- one attribute: MustUnderstand comes before a foreign name
  pub marks_one : (s : Scope) (x : Attr)
      → first (attr_marks knows heeded kept s (x ∷ []))
      ≡ cond (heeded && is_must_understand x && not (all_understood knows (named s.bindings (items x.value)))) (Some (Mismatch x.placed.place MustUnderstand))
      (cond (kept && is_kept_attr knows s.ignorables x && is_foreign knows x.namespace) (Some (Mismatch x.placed.place ForeignName)) None)
  unfolding attr_marks
  marks_one s x = two-marks _ _ _ _ _ []

  -- what is paired for ProcessContent does not count
  pub marks_same : (s t : Scope) (xs : List Attr) → s.bindings ≡ t.bindings → s.ignorables ≡ t.ignorables → attr_marks knows heeded kept s xs ≡ attr_marks knows heeded kept t xs
  unfolding attr_marks
  marks_same s t [] b i = refl
  marks_same s t (x ∷ xs) b i =
      ap₂ (λ bs is.
      mark (heeded && is_must_understand x && not (all_understood knows (named bs (items x.value)))) x.placed.place MustUnderstand
      ++ mark (kept && is_kept_attr knows is x && is_foreign knows x.namespace) x.placed.place ForeignName
      ++ attr_marks knows heeded kept s xs) b i
      ∙ ap (λ rest.
      mark (heeded && is_must_understand x && not (all_understood knows (named t.bindings (items x.value)))) x.placed.place MustUnderstand
      ++ mark (kept && is_kept_attr knows t.ignorables x && is_foreign knows x.namespace) x.placed.place ForeignName
      ++ rest) (marks_same s t xs b i)

  module _ (v : View) where
    abbrev pub mark_of : PlacedRow → Option Refusal
    mark_of x = first (attr_marks knows heeded kept (scope_seen v) (attr_of (texts_seen v) x ∷ []))

    abbrev pub marks_of : List PlacedRow → Option Refusal
    marks_of xs = first (attr_marks knows heeded kept (scope_seen v) (map (attr_of (texts_seen v)) xs))

    pub no_marks : marks_of [] ≡ None
    unfolding attr_marks
    no_marks = refl

    pub marks-more : (x : PlacedRow) (xs : List PlacedRow) → marks_of (x ∷ xs) ≡ option_or (mark_of x) (marks_of xs)
    unfolding attr_marks
    marks-more x xs = more_marks _ _ _ _ _ (attr_marks knows heeded kept (scope_seen v) (map (attr_of (texts_seen v)) xs))
