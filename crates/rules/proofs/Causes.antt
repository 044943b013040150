-- Mismatches come in the order of their places, one to a row; the refusals of an element are numbered 13 to 20.
use Rattle.std.proofs.Common.{◌≡◌, ℕ, zero, suc, ◌≤◌, Bool, true, false, not, ◌&&◌, List, [], ◌∷◌, ◌++◌, map, sym, refl, ap, ◌∙◌, subst, inl, inr, arith}
use mathlib.Core.Bool.{false≢true}
use Rattle.std.proofs.lemmas.List.{map-append}
use Rattle.record.specs.declared.row.PlacedRow.{PlacedRow}
use Rattle.record.specs.declared.refusal.Cause.{Cause}
use Rattle.record.specs.declared.refusal.Cause.TheVariants.{MustUnderstand, StrayChild, ForeignName}
use Rattle.record.specs.declared.refusal.Refusal.{Refusal}
use Rattle.record.specs.declared.refusal.Refusal.TheVariants.{Mismatch}
use Rattle.record.specs.Refusals.{place_of}
use Rattle.knowledge.specs.Understood.{Knows}
use Rattle.card.specs.Cards.{Name}
use Rattle.items.specs.Items.{items}
use Rattle.rules.specs.Elements.{Attr, Tag, Token, tag, text, end, tokens, children, Element, element, around, decl_row, attr_row, tag_rows}
use Rattle.rules.specs.Scope.{is_must_understand, Scope, named}
use Rattle.rules.specs.Steps.{is_foreign, is_kept_attr, all_understood, reached, kept}
use Rattle.rules.specs.Mismatches.{mark, attr_marks, stray_child, element_marks, marks_of, mismatches}
use Rattle.rules.specs.Lists.{In, Sub, none, skip, same, RisesFrom}
use Rattle.rules.specs.Laws.{OneCause, MismatchesRise}
use Rattle.rules.proofs.Members.{sub_refl, sub_none, sub_append, sub_trans, rises_sub, rises_in, in_map}
use Rattle.rules.proofs.Names.{must-mc}
use Rattle.rules.proofs.Rows.{rows_of, all_rows, all_rows_lem, place_in, places_rise}

-- of two marks at a place, at most one is made
one-mark : (a b : Bool) (p : ℕ) (c d : Cause) → (a && b) ≡ false → Sub ℕ (map place_of (mark a p c ++ mark b p d)) (p ∷ [])
unfolding mark
one-mark true true p c d e = absurd (false≢true (sym e))
one-mark true false p c d e = same none
one-mark false true p c d e = same none
one-mark false false p c d e = skip none

sub_two : (xs ys : List Refusal) (ps qs : List ℕ) → Sub ℕ (map place_of xs) ps → Sub ℕ (map place_of ys) qs
    → Sub ℕ (map place_of (xs ++ ys)) (ps ++ qs)
sub_two xs ys ps qs s u = subst (λ l. Sub ℕ l (ps ++ qs)) (sym (map-append place_of xs ys)) (sub_append s u)

attr_places : List Attr → List ℕ
attr_places [] = []
attr_places (x ∷ xs) = x.placed.place ∷ attr_places xs

attr_marks_lem : (K : Knows) (heed keep : Bool) (s : Scope) (xs : List Attr) → Sub ℕ (map place_of (attr_marks K heed keep s xs)) (attr_places xs)
unfolding attr_marks attr_places
attr_marks_lem K heed keep s [] = none
attr_marks_lem K heed keep s (x ∷ xs) =
    let m = must-mc x in
    sub_two _ _ (x.placed.place ∷ []) (attr_places xs)
    (one-mark (heed && is_must_understand x && not (all_understood K (named s.bindings (items x.value))))
    (keep && is_kept_attr K s.ignorables x && is_foreign K x.namespace) x.placed.place MustUnderstand ForeignName
    (unfold is_kept_attr in grind arith))
    (attr_marks_lem K heed keep s xs)

stray_not_kept : (K : Knows) (ext : List Name) (e : Element) (out : List Element) (b : Bool)
    → (stray_child K ext (e ∷ out) && (kept K ext (e ∷ out) && b)) ≡ false
unfolding stray_child kept reached
stray_not_kept K ext e out b = grind arith

element-marks : (K : Knows) (ext : List Name) (e : Element) (out : List Element)
    → Sub ℕ (map place_of (element_marks K ext (e ∷ out))) (e.tag.placed.place ∷ attr_places e.tag.attrs)
unfolding element_marks
element-marks K ext e out =
    sub_two _ _ (e.tag.placed.place ∷ []) (attr_places e.tag.attrs)
    (one-mark (stray_child K ext (e ∷ out)) (kept K ext (e ∷ out) && is_foreign K e.tag.namespace) e.tag.placed.place StrayChild ForeignName (stray_not_kept K ext e out _))
    (attr_marks_lem K _ _ _ e.tag.attrs)

attr_places_are : (xs : List Attr) → attr_places xs ≡ map place_in (map attr_row xs)
unfolding attr_places attr_row place_in
attr_places_are [] = refl
attr_places_are (x ∷ xs) = ap (λ l. x.placed.place ∷ l) (attr_places_are xs)

behind : (xs ys : List PlacedRow) → Sub ℕ (map place_in ys) (map place_in (xs ++ ys))
behind [] ys = sub_refl _
behind (x ∷ xs) ys = skip (behind xs ys)

tag-places : (t : Tag) → Sub ℕ (t.placed.place ∷ attr_places t.attrs) (map place_in (tag_rows t))
unfolding tag_rows place_in
tag-places t = same (subst (λ l. Sub ℕ l (map place_in (map decl_row t.decls ++ map attr_row t.attrs))) (sym (attr_places_are t.attrs)) (behind (map decl_row t.decls) (map attr_row t.attrs)))

token_marks : (K : Knows) (ext : List Name) (t : Token) (past : List Token)
    → Sub ℕ (map place_of (marks_of K ext t past)) (map place_in (rows_of t))
unfolding marks_of rows_of element
token_marks K ext (tag t) past = sub_trans (element-marks K ext (element t (children zero past)) (around past)) (tag-places t)
token_marks K ext (text x) past = sub_none _
token_marks K ext (end x) past = sub_none _

all_marks : (K : Knows) (ext : List Name) (toks : List Token) → Sub ℕ (map place_of (mismatches K ext toks)) (map place_in (all_rows toks))
unfolding mismatches all_rows
all_marks K ext [] = none
all_marks K ext (t ∷ past) =
    subst (λ l. Sub ℕ (map place_of (mismatches K ext past ++ marks_of K ext t past)) l) (sym (map-append place_in (all_rows past) (rows_of t)))
    (sub_two (mismatches K ext past) (marks_of K ext t past) _ _ (all_marks K ext past) (token_marks K ext t past))

pub mismatches_rise : MismatchesRise
mismatches_rise texts K ext rows w =
    rises_sub 0 (subst (λ l. Sub ℕ (map place_of (mismatches K ext (tokens texts rows))) (map place_in l)) (all_rows_lem texts rows w) (all_marks K ext (tokens texts rows))) (places_rise rows)

-- where places rise, a place is had once
cause_same : (p : ℕ) (c d : Cause) → ◌≡◌ {A = Refusal} (Mismatch p c) (Mismatch p d) → c ≡ d
cause_same p c d e = cc

above : (m : ℕ) (r : Refusal) (rs : List Refusal) → RisesFrom m (map place_of rs) → In r rs → m ≤ place_of r
above m r rs h i = rises_in m (place_of r) (map place_of rs) h (in_map place_of r rs i)

once : (m p : ℕ) (c d : Cause) (rs : List Refusal) → RisesFrom m (map place_of rs) → In (Mismatch p c) rs → In (Mismatch p d) rs → c ≡ d
once m p c d [] h i j = absurd i
once m p c d (r ∷ rs) h (inl i) (inl j) = cause_same p c d (i ∙ sym j)
once m p c d (r ∷ rs) h (inl i) (inr j) =
    let a : suc (place_of r) ≤ p = above (suc (place_of r)) (Mismatch p d) rs h.1 j in
    let b : p ≡ place_of r = ap place_of i in absurd (omega arith)
once m p c d (r ∷ rs) h (inr i) (inl j) =
    let a : suc (place_of r) ≤ p = above (suc (place_of r)) (Mismatch p c) rs h.1 i in
    let b : p ≡ place_of r = ap place_of j in absurd (omega arith)
once m p c d (r ∷ rs) h (inr i) (inr j) = once (suc (place_of r)) p c d rs h.1 i j

pub one_cause : OneCause
one_cause texts K ext rows w p c d i j = once 0 p c d (mismatches K ext (tokens texts rows)) (mismatches_rise texts K ext rows w) i j
