-- A wider knowledge keeps what was kept, unless it selects an earlier branch.
use Rattle.std.proofs.Common.{◌≡◌, zero, Bool, true, false, not, ◌&&◌, ◌||◌, ◌⊎◌, List, [], ◌∷◌, ◌++◌, sym, refl, ◌∙◌, subst, inl, inr, arith}
use mathlib.Core.Bool.{false≢true}
use mathlib.Core.List.{tail}
use Rattle.std.proofs.lemmas.Bool.{and_parts, or_cases, cases_Bool}
use Rattle.text.specs.Bytes.{Bytes}
use Rattle.text.specs.Names.{in_mc}
use Rattle.record.specs.declared.row.PlacedRow.{PlacedRow}
use Rattle.knowledge.specs.Understood.{Knows, is_understood}
use Rattle.card.specs.Cards.{Name}
use Rattle.rules.specs.Elements.{Decl, Attr, Tag, Token, tag, text, end, tokens, children, Element, element, around}
use Rattle.rules.specs.Scope.{is_branch, requires_of, items_of, Binding, Scope, named, bindings_with, is_listed, in_extension, scope, in_alternate_content}
use Rattle.rules.specs.Steps.{when, is_foreign, is_dispensable, is_unwrapped, is_ignored, all_understood, is_satisfied, choice_selected, is_selected, is_kept_decl, is_kept_attr, kept_decls, kept_attrs, kept_tag, tag_kept, unwrapped, ignored, selected, unselected, stray, entered, reached, kept, extension_kept, text_kept, kept_of, kept_rows}
use Rattle.rules.specs.Faults.{place_faults, element_faults, tag_faults, faults_of, faults}
use Rattle.rules.specs.Lists.{In, Sub, none, same}
use Rattle.rules.specs.Laws.{Stands, Wider, any_selected, Earlier, MoreKnowledgeMoreRows}
use Rattle.rules.proofs.Members.{left_nil, right_nil, no_fault, sub_refl, sub_none, sub_append, in_append, in_left, in_right, in_sub, in_when, when_in, when_sub}
use Rattle.rules.proofs.Rise.{tag-part}
use Rattle.rules.proofs.Once.{stands_only, stands_on}
use Rattle.rules.proofs.Understood.{out_in}

-- outside extension elements, a branch stands directly in AlternateContent
abbrev Housed : List Name → List Element → Type 0
Housed ext [] = Unit {0}
Housed ext (e ∷ out) = (in_extension ext (e ∷ out) ≡ false → is_branch e.tag ≡ true → in_alternate_content out ≡ true) × Housed ext out

place_right : (inside behind ignorable : Bool) (t : Tag) → place_faults inside behind ignorable t ≡ [] → is_branch t ≡ true → inside ≡ true
unfolding place_faults
place_right inside behind ignorable t e b =
    let h = no_fault (is_branch t && not inside) _ (left_nil _ _ (left_nil _ _ e)) in grind arith

element_right : (K : Knows) (s : Scope) (inside behind : Bool) (t : Tag) → element_faults K s inside behind t ≡ [] → is_branch t ≡ true
    → inside ≡ true
unfolding element_faults
element_right K s inside behind t e = place_right inside behind _ t (right_nil _ _ (left_nil _ _ (left_nil _ _ (left_nil _ _ e))))

housed-by : (K : Knows) (s : Scope) (inside behind : Bool) (t : Tag) (x y : Bool) → tag_faults x y K s inside behind t ≡ []
    → (y || x) ≡ false → is_branch t ≡ true → inside ≡ true
unfolding tag_faults
housed-by K s inside behind t x true e f = absurd (false≢true (sym f))
housed-by K s inside behind t true false e f = absurd (false≢true (sym f))
housed-by K s inside behind t false false e f = element_right K s inside behind t e

housed_tail : (ext : List Name) (at : List Element) → Housed ext at → Housed ext (tail at)
housed_tail ext at h = grind arith

housed : (K : Knows) (ext : List Name) (toks : List Token) → faults K ext toks ≡ [] → Housed ext (around toks)
unfolding faults faults_of around element in_extension
housed K ext [] e = tt
housed K ext (tag t ∷ past) e = (
  housed-by K (scope ext (around past)) (in_alternate_content (around past)) _ t (in_extension ext (around past)) (is_listed ext t) (right_nil (faults K ext past) _ e),
  housed K ext past (left_nil (faults K ext past) _ e),
)
housed K ext (text x ∷ past) e = housed K ext past (left_nil (faults K ext past) _ e)
housed K ext (end x ∷ past) e = housed_tail ext (around past) (housed K ext past (left_nil (faults K ext past) _ e))

any_selected_lem : (K : Knows) (ext : List Name) (out : List Element) (elder : List Tag)
    → choice_selected K (scope ext out).bindings elder ≡ true → any_selected K ext out elder ≡ true
unfolding choice_selected any_selected selected is_selected element
any_selected_lem K ext out [] e = e
any_selected_lem K ext out (t ∷ elder) e = let h = any_selected_lem K ext out elder in grind arith

outside : (K : Knows) (igs : List Bytes) (b : Bytes) → is_dispensable K igs b ≡ true → in_mc b ≡ false
unfolding is_dispensable
outside K igs b e = grind arith

module _ (K K' : Knows) (w : Wider K K') where
  understood-up : (b : Bytes) → is_understood K b ≡ true → is_understood K' b ≡ true
  unfolding is_understood
  understood-up b e = let h = w b in grind arith

  all_up : (bs : List Bytes) → all_understood K bs ≡ true → all_understood K' bs ≡ true
  unfolding all_understood
  all_up [] e = refl
  all_up (b ∷ bs) e = let h = understood-up b in let k = all_up bs in grind arith

  foreign_down : (b : Bytes) → is_foreign K' b ≡ true → is_foreign K b ≡ true
  unfolding is_foreign
  foreign_down b e = let h = understood-up b in grind arith

  dispensable_down : (igs : List Bytes) (b : Bytes) → is_dispensable K' igs b ≡ true → is_dispensable K igs b ≡ true
  unfolding is_dispensable
  dispensable_down igs b e = let h = foreign_down b in grind arith

  satisfied_up : (bs : List Binding) (t : Tag) → is_satisfied K bs t ≡ true → is_satisfied K' bs t ≡ true
  unfolding is_satisfied
  satisfied_up bs t = all_up (named (bindings_with t bs) (items_of (requires_of t)))

  decls-up : (igs : List Bytes) (ds : List Decl) → Sub PlacedRow (kept_decls K igs ds) (kept_decls K' igs ds)
  unfolding kept_decls is_kept_decl
  decls-up igs [] = none
  decls-up igs (d ∷ ds) = sub_append (when_sub _ _ d.placed (λ e. let h = understood-up d.namespace in grind arith)) (decls-up igs ds)

  attr_up : (igs : List Bytes) (x : Attr) → is_kept_attr K igs x ≡ true → is_kept_attr K' igs x ≡ true
  unfolding is_kept_attr
  attr_up igs x e = let h = dispensable_down igs x.namespace in grind arith

  attrs-up : (igs : List Bytes) (xs : List Attr) → Sub PlacedRow (kept_attrs K igs xs) (kept_attrs K' igs xs)
  unfolding kept_attrs
  attrs-up igs [] = none
  attrs-up igs (x ∷ xs) = sub_append (when_sub (is_kept_attr K igs x) (is_kept_attr K' igs x) x.placed (attr_up igs x)) (attrs-up igs xs)

  tag_up : (igs : List Bytes) (t : Tag) → Sub PlacedRow (kept_tag K igs t) (kept_tag K' igs t)
  unfolding kept_tag
  tag_up igs t = same (sub_append (decls-up igs t.decls) (attrs-up igs t.attrs))

  kept-up : (e k e' k' : Bool) (igs : List Bytes) (t : Tag) → (e ≡ true → e' ≡ true) → (k ≡ true → k' ≡ true)
      → Sub PlacedRow (tag_kept K e k igs t) (tag_kept K' e' k' igs t)
  unfolding tag_kept
  kept-up true k true k' igs t f g = sub_refl _
  kept-up true k false k' igs t f g = absurd (false≢true (f refl))
  kept-up false true true k' igs t f g = tag-part K igs t
  kept-up false true false true igs t f g = tag_up igs t
  kept-up false true false false igs t f g = absurd (false≢true (g refl))
  kept-up false false e' k' igs t f g = sub_none _

  module _ (ext : List Name) where
    ignored_down : (at : List Element) → ignored K' ext at ≡ true → ignored K ext at ≡ true
    unfolding ignored is_ignored
    ignored_down [] e = e
    ignored_down (n ∷ out) e = let h = dispensable_down (scope ext (n ∷ out)).ignorables n.tag.namespace in grind arith

    unwrapped_down : (at : List Element) → unwrapped K' ext at ≡ true → unwrapped K ext at ≡ true
    unfolding unwrapped is_unwrapped
    unwrapped_down [] e = e
    unwrapped_down (n ∷ out) e = let h = dispensable_down (scope ext (n ∷ out)).ignorables n.tag.namespace in grind arith

    selected-up : (n : Element) (out : List Element) → choice_selected K' (scope ext out).bindings n.elder ≡ false
        → selected K ext (n ∷ out) ≡ true → selected K' ext (n ∷ out) ≡ true
    unfolding selected is_selected
    selected-up n out f e = let h = satisfied_up (scope ext out).bindings n.tag in grind arith

    -- what was unwrapped is unwrapped still, or kept
    unwrapped-up : (n : Element) (out : List Element) → in_extension ext (n ∷ out) ≡ false → reached K' ext (n ∷ out) ≡ true
        → unwrapped K ext (n ∷ out) ≡ true → (kept K' ext (n ∷ out) || unwrapped K' ext (n ∷ out)) ≡ true
    unfolding unwrapped is_unwrapped kept ignored is_ignored
    unwrapped-up n out i r e = let h = outside K (scope ext (n ∷ out)).ignorables n.tag.namespace in grind arith

    abbrev Or : Bool → List Element → Type 0
    Or b at = (b ≡ true) ⊎ Earlier K K' ext at

    -- a selected branch is selected still, or an earlier one is
    selected_or : (n : Element) (out : List Element) → Housed ext (n ∷ out) → in_extension ext (n ∷ out) ≡ false → is_branch n.tag ≡ true
        → selected K ext (n ∷ out) ≡ true → Or (selected K' ext (n ∷ out)) (n ∷ out)
    selected_or n out h i b s = go (cases_Bool (choice_selected K' (scope ext out).bindings n.elder))
      where
        go : (choice_selected K' (scope ext out).bindings n.elder ≡ true) ⊎ (choice_selected K' (scope ext out).bindings n.elder ≡ false)
            → Or (selected K' ext (n ∷ out)) (n ∷ out)
        go (inl t) = inr (inl (h.0 i b, s, any_selected_lem K' ext out n.elder t))
        go (inr t) = inl (selected-up n out t s)

    entered-parts : (J : Knows) (n : Element) (out : List Element) → entered J ext (n ∷ out) ≡ true
        → (stray (n ∷ out) ≡ false) × (ignored J ext (n ∷ out) ≡ false) × (is_branch n.tag ≡ true → selected J ext (n ∷ out) ≡ true) × (entered J ext out ≡ true)
    unfolding entered unselected
    entered-parts J n out e = (grind arith, grind arith, (λ b. grind arith), grind arith)

    entered_from : (J : Knows) (n : Element) (out : List Element) → stray (n ∷ out) ≡ false → ignored J ext (n ∷ out) ≡ false
        → (is_branch n.tag ≡ true → selected J ext (n ∷ out) ≡ true) → entered J ext out ≡ true → entered J ext (n ∷ out) ≡ true
    unfolding entered unselected
    entered_from J n out a b c d = grind arith

    ignored-still : (at : List Element) → ignored K ext at ≡ false → ignored K' ext at ≡ false
    ignored-still at e = let h = ignored_down at in grind arith

    unwrapped-still : (at : List Element) → unwrapped K ext at ≡ false → unwrapped K' ext at ≡ false
    unwrapped-still at e = let h = unwrapped_down at in grind arith

    entered_or : (at : List Element) → Housed ext at → in_extension ext at ≡ false → entered K ext at ≡ true → Or (entered K' ext at) at
    unfolding entered
    entered_or [] h i e = inl refl
    entered_or (n ∷ out) h i e =
        let p = entered-parts K n out e in
        go p (entered_or out h.1 (out_in ext n out i) p.3) (cases_Bool (is_branch n.tag))
      where
        chosen : (stray (n ∷ out) ≡ false) → (ignored K ext (n ∷ out) ≡ false) → (entered K' ext out ≡ true)
            → Or (selected K' ext (n ∷ out)) (n ∷ out) → Or (entered K' ext (n ∷ out)) (n ∷ out)
        chosen a b d (inl s) = inl (entered_from K' n out a (ignored-still (n ∷ out) b) (λ x. s) d)
        chosen a b d (inr s) = inr s

        go : (stray (n ∷ out) ≡ false) × (ignored K ext (n ∷ out) ≡ false) × (is_branch n.tag ≡ true → selected K ext (n ∷ out) ≡ true) × (entered K ext out ≡ true)
            → Or (entered K' ext out) out → (is_branch n.tag ≡ true) ⊎ (is_branch n.tag ≡ false) → Or (entered K' ext (n ∷ out)) (n ∷ out)
        go p (inr x) b = inr (inr x)
        go p (inl d) (inl b) = chosen p.0 p.1 d (selected_or n out h i b (p.2 b))
        go p (inl d) (inr b) = inl (entered_from K' n out p.0 (ignored-still (n ∷ out) p.1) (λ x. absurd (false≢true (sym b ∙ x))) d)

    reached_or : (n : Element) (out : List Element) → Housed ext out → in_extension ext out ≡ false → reached K ext (n ∷ out) ≡ true
        → Or (reached K' ext (n ∷ out)) (n ∷ out)
    unfolding reached
    reached_or n out h i e = go (entered_or out h i (and_parts (not (stray (n ∷ out))) (entered K ext out) e).1)
      where
        go : Or (entered K' ext out) out → Or (reached K' ext (n ∷ out)) (n ∷ out)
        go (inl d) = inl (let s = (and_parts (not (stray (n ∷ out))) (entered K ext out) e).0 in grind arith)
        go (inr x) = inr (inr x)

    kept-parts : (n : Element) (out : List Element) → kept K ext (n ∷ out) ≡ true
        → (in_extension ext (n ∷ out) ≡ false) × (reached K ext (n ∷ out) ≡ true)
    unfolding kept
    kept-parts n out e = (grind arith, grind arith)

    kept-still : (n : Element) (out : List Element) → kept K ext (n ∷ out) ≡ true → reached K' ext (n ∷ out) ≡ true
        → kept K' ext (n ∷ out) ≡ true
    unfolding kept
    kept-still n out e r = let h = ignored-still (n ∷ out) in let k = unwrapped-still (n ∷ out) in grind arith

    kept_or : (at : List Element) → Housed ext at → kept K ext at ≡ true → Or (kept K' ext at) at
    kept_or [] h e = absurd (unfold kept in false≢true e)
    kept_or (n ∷ out) h e = let p = kept-parts n out e in go (reached_or n out h.1 (out_in ext n out p.0) p.1)
      where
        go : Or (reached K' ext (n ∷ out)) (n ∷ out) → Or (kept K' ext (n ∷ out)) (n ∷ out)
        go (inl d) = inl (kept-still n out e d)
        go (inr x) = inr x

    extension_or : (at : List Element) → Housed ext at → extension_kept K ext at ≡ true → Or (extension_kept K' ext at) at
    unfolding extension_kept
    extension_or [] h e = inl e
    extension_or (n ∷ out) h e = go (or_cases _ _ e) (extension_or out h.1)
      where
        own : (in_extension ext out ≡ false) → (is_listed ext n.tag ≡ true) → Or (reached K' ext (n ∷ out)) (n ∷ out)
            → Or (extension_kept K' ext (n ∷ out)) (n ∷ out)
        own a b (inl d) = inl (grind arith)
        own a b (inr x) = inr x

        up : Or (extension_kept K' ext out) out → Or (extension_kept K' ext (n ∷ out)) (n ∷ out)
        up y = grind arith

        go : (extension_kept K ext out ≡ true) ⊎ ((not (in_extension ext out) && is_listed ext n.tag && reached K ext (n ∷ out)) ≡ true)
            → (extension_kept K ext out ≡ true → Or (extension_kept K' ext out) out) → Or (extension_kept K' ext (n ∷ out)) (n ∷ out)
        go (inl a) f = up (f a)
        go (inr a) f =
            let i : in_extension ext out ≡ false = grind arith in
            let l : is_listed ext n.tag ≡ true = grind arith in
            let r : reached K ext (n ∷ out) ≡ true = grind arith in
            own i l (reached_or n out h.1 i r)

    text-parts : (n : Element) (out : List Element) → text_kept K ext (n ∷ out) ≡ true
        → (in_extension ext (n ∷ out) ≡ false) × (reached K ext (n ∷ out) ≡ true) × ((kept K ext (n ∷ out) || unwrapped K ext (n ∷ out) || is_branch n.tag && selected K ext (n ∷ out)) ≡ true)
    unfolding text_kept
    text-parts n out e = (grind arith, grind arith, grind arith)

    text-from : (n : Element) (out : List Element) → in_extension ext (n ∷ out) ≡ false → reached K' ext (n ∷ out) ≡ true
        → ((kept K' ext (n ∷ out) || unwrapped K' ext (n ∷ out)) ≡ true) ⊎ ((is_branch n.tag && selected K' ext (n ∷ out)) ≡ true) → text_kept K' ext (n ∷ out) ≡ true
    unfolding text_kept
    text-from n out x y z = grind arith

    text_or : (at : List Element) → Housed ext at → text_kept K ext at ≡ true → Or (text_kept K' ext at) at
    text_or [] h e = absurd (unfold text_kept in false≢true e)
    text_or (n ∷ out) h e = let p = text-parts n out e in go p (reached_or n out h.1 (out_in ext n out p.0) p.1)
      where
        branch : (in_extension ext (n ∷ out) ≡ false) → (reached K' ext (n ∷ out) ≡ true) → is_branch n.tag ≡ true
            → Or (selected K' ext (n ∷ out)) (n ∷ out) → Or (text_kept K' ext (n ∷ out)) (n ∷ out)
        branch i d b (inl s) = inl (text-from n out i d (inr (grind arith)))
        branch i d b (inr x) = inr x

        cases : (in_extension ext (n ∷ out) ≡ false) → (reached K' ext (n ∷ out) ≡ true)
            → ((kept K ext (n ∷ out) || unwrapped K ext (n ∷ out)) ≡ true) ⊎ ((is_branch n.tag && selected K ext (n ∷ out)) ≡ true)
            → Or (text_kept K' ext (n ∷ out)) (n ∷ out)
        cases i d (inl a) =
            let k = kept-still n out in let u = unwrapped-up n out i d in
            inl (text-from n out i d (inl (grind arith)))
        cases i d (inr a) = let b = and_parts _ _ a in branch i d b.0 (selected_or n out h i b.0 b.1)

        go : (in_extension ext (n ∷ out) ≡ false) × (reached K ext (n ∷ out) ≡ true) × ((kept K ext (n ∷ out) || unwrapped K ext (n ∷ out) || is_branch n.tag && selected K ext (n ∷ out)) ≡ true)
            → Or (reached K' ext (n ∷ out)) (n ∷ out) → Or (text_kept K' ext (n ∷ out)) (n ∷ out)
        go p (inl d) = cases p.0 d (or_cases _ _ p.2)
        go p (inr x) = inr x

    -- a row is kept still, or lies where an earlier branch is selected
    abbrev Still : PlacedRow → List PlacedRow → List Token → Type 0
    Still x xs toks = In x xs ⊎ ((at : List Element) × Stands x at toks × Earlier K K' ext at)

    tag-still : (t : Tag) (past : List Token) (x k : Bool) → let at : List Element = element t (children zero past) ∷ around past in
        Housed ext at → extension_kept K ext at ≡ x → kept K ext at ≡ k → (p : PlacedRow) → In p (tag_kept K x k (scope ext at).ignorables t)
        → Still p (tag_kept K' (extension_kept K' ext at) (kept K' ext at) (scope ext at).ignorables t) (tag t ∷ past)
    unfolding tag_kept
    tag-still t past true k h e f p i = go (extension_or (element t (children zero past) ∷ around past) h e)
      where
        at : List Element
        at = element t (children zero past) ∷ around past

        go : Or (extension_kept K' ext at) at
            → Still p (tag_kept K' (extension_kept K' ext at) (kept K' ext at) (scope ext at).ignorables t) (tag t ∷ past)
        go (inl q) = inl (subst (λ b. In p (tag_kept K' b (kept K' ext at) (scope ext at).ignorables t)) (sym q) i)
        go (inr q) = inr (at, inl (i, refl), q)
    tag-still t past false true h e f p i = go (kept_or (element t (children zero past) ∷ around past) h f)
      where
        at : List Element
        at = element t (children zero past) ∷ around past

        go : Or (kept K' ext at) at
            → Still p (tag_kept K' (extension_kept K' ext at) (kept K' ext at) (scope ext at).ignorables t) (tag t ∷ past)
        go (inl q) = inl (in_sub p (kept-up false true (extension_kept K' ext at) (kept K' ext at) (scope ext at).ignorables t (λ a. absurd (false≢true a)) (λ a. q)) i)
        go (inr q) = inr (at, inl (in_sub p (tag-part K (scope ext at).ignorables t) i, refl), q)
    tag-still t past false false h e f p i = absurd i

    -- a text or an end, kept for one of two reasons
    row-still : (x y x' y' : Bool) (p q : PlacedRow) (at : List Element) (toks : List Token) → (p ≡ q → Stands p at toks)
        → (x ≡ true → Or x' at) → (y ≡ true → Or y' at) → In p (when (x || y) q) → Still p (when (x' || y') q) toks
    row-still x y x' y' p q at toks s f g i = let a = in_when p q _ i in go a.0 (or_cases x y a.1)
      where
        one : p ≡ q → Or x' at → Still p (when (x' || y') q) toks
        one e (inl b) = inl (when_in _ p q e (grind arith))
        one e (inr z) = inr (at, s e, z)

        two : p ≡ q → Or y' at → Still p (when (x' || y') q) toks
        two e (inl b) = inl (when_in _ p q e (grind arith))
        two e (inr z) = inr (at, s e, z)

        go : p ≡ q → (x ≡ true) ⊎ (y ≡ true) → Still p (when (x' || y') q) toks
        go h u = grind arith

    token_still : (t : Token) (past : List Token) → faults K ext (t ∷ past) ≡ [] → Housed ext (around past) → (p : PlacedRow)
        → In p (kept_of K ext t past) → Still p (kept_of K' ext t past) (t ∷ past)
    unfolding kept_of around
    token_still (tag t) past f h p i = tag-still t past _ _ (housed K ext (tag t ∷ past) f) refl refl p i
    token_still (text q) past f h p i = row-still _ _ _ _ p q (around past) (text q ∷ past) (λ e. inl (e, refl)) (extension_or (around past) h) (text_or (around past) h) i
    token_still (end q) past f h p i = row-still _ _ _ _ p q (around past) (end q ∷ past) (λ e. inl (e, refl)) (extension_or (around past) h) (kept_or (around past) h) i

    pub still : (toks : List Token) → faults K ext toks ≡ [] → (p : PlacedRow) → In p (kept_rows K ext toks)
        → Still p (kept_rows K' ext toks) toks
    unfolding kept_rows
    still [] f p i = absurd i
    still (t ∷ past) f p i = go (in_append p (kept_rows K ext past) (kept_of K ext t past) i) (still past g p)
      where
        g : faults K ext past ≡ []
        g = unfold faults in left_nil (faults K ext past) (faults_of K ext t past) f

        old : Still p (kept_rows K' ext past) past → Still p (kept_rows K' ext past ++ kept_of K' ext t past) (t ∷ past)
        old (inl a) = inl (in_left p (kept_rows K' ext past) (kept_of K' ext t past) a)
        old (inr a) = inr (a.0, stands_on p a.0 t past a.1, a.2)

        new : Still p (kept_of K' ext t past) (t ∷ past) → Still p (kept_rows K' ext past ++ kept_of K' ext t past) (t ∷ past)
        new (inl a) = inl (in_right p (kept_rows K' ext past) (kept_of K' ext t past) a)
        new (inr a) = inr a

        go : In p (kept_rows K ext past) ⊎ In p (kept_of K ext t past) → (In p (kept_rows K ext past) → Still p (kept_rows K' ext past) past)
            → Still p (kept_rows K' ext past ++ kept_of K' ext t past) (t ∷ past)
        go (inl a) k = old (k a)
        go (inr a) k = new (token_still t past f (housed K ext past g) p a)

pub more_knowledge_more_rows : MoreKnowledgeMoreRows
more_knowledge_more_rows texts K K' ext rows w f x i = go (still K K' w ext (tokens texts rows) f x i)
  where
    go : In x (kept_rows K' ext (tokens texts rows)) ⊎ ((at : List Element) × Stands x at (tokens texts rows) × Earlier K K' ext at)
        → In x (kept_rows K' ext (tokens texts rows)) ⊎ ((at : List Element) × ((Stands x at (tokens texts rows)) × ((other : List Element) → Stands x other (tokens texts rows) → other ≡ at)) × Earlier K K' ext at)
    go (inl a) = inl a
    go (inr a) = inr (a.0, stands_only x a.0 texts rows a.1, a.2)
