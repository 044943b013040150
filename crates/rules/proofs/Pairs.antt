-- Kept starts and ends pair.
use Rattle.std.proofs.Common.{◌≡◌, ℕ, suc, Bool, true, false, ◌||◌, ◌⊎◌, List, [], ◌∷◌, ◌++◌, map, Some, Option, refl, ap, ◌∙◌, inl, inr}
use mathlib.Core.Bool.{false≢true}
use mathlib.Core.List.{tail}
use Rattle.text.specs.Bytes.{Bytes}
use Rattle.record.specs.declared.row.PlacedRow.{PlacedRow}
use Rattle.record.specs.declared.row.Kind.TheVariants.{Start, Declaration, Attribute, Text, End}
use Rattle.record.specs.Rows.{kind_of}
use Rattle.knowledge.specs.Understood.{Knows}
use Rattle.card.specs.Cards.{Name}
use Rattle.rules.specs.Elements.{Decl, Attr, Tag, Token, tag, text, end, tokens, Element, around, decl_row, attr_row, tag_rows}
use Rattle.rules.specs.Steps.{when, kept, extension_kept, kept_tag, tag_kept, kept_of, kept_rows}
use Rattle.rules.specs.Order.{has_ended, is_none}
use Rattle.rules.specs.Records.{judged, draft}
use Rattle.rules.specs.Lists.{Sub, none, skip, same, opens, open_after}
use Rattle.rules.specs.Laws.{KeptRowsPair}
use Rattle.rules.proofs.Members.{sub_append}
use Rattle.rules.proofs.Rows.{IsKind, DeclsTrue, AttrsTrue, TokenTrue, AllTrue, all_true}
use Rattle.rules.proofs.Rise.{decls-part, attrs-part}

pub open_append : (o : Option ℕ) (a b : List PlacedRow) → open_after o (a ++ b) ≡ open_after (open_after o a) b
open_append o [] b = refl
open_append o (x ∷ a) b = open_append (opens (kind_of x.row.kind) o) a b

-- rows that open and close nothing
abbrev Flat : List PlacedRow → Type 0
Flat [] = Unit {0}
Flat (x ∷ xs) = (IsKind Declaration x ⊎ IsKind Attribute x) × Flat xs

flat_append : (a b : List PlacedRow) → Flat a → Flat b → Flat (a ++ b)
flat_append [] b h k = k
flat_append (x ∷ a) b h k = (h.0, flat_append a b h.1 k)

flat_sub : {a b : List PlacedRow} → Sub PlacedRow a b → Flat b → Flat a
flat_sub none h = h
flat_sub (skip s) h = flat_sub s h.1
flat_sub (same s) h = (h.0, flat_sub s h.1)

flat-decls : (ds : List Decl) → DeclsTrue ds → Flat (map decl_row ds)
unfolding decl_row
flat-decls [] h = tt
flat-decls (d ∷ ds) h = (inl h.0, flat-decls ds h.1)

flat-attrs : (texts : List Bytes) (xs : List Attr) → AttrsTrue texts xs → Flat (map attr_row xs)
unfolding attr_row
flat-attrs texts [] h = tt
flat-attrs texts (x ∷ xs) h = (inr h.0.0, flat-attrs texts xs h.1)

open_flat : (n : ℕ) (xs : List PlacedRow) → Flat xs → open_after (Some n) xs ≡ Some n
open_flat n [] h = refl
open_flat n (x ∷ xs) h = go h.0 (open_flat n xs h.1)
  where
    go : IsKind Declaration x ⊎ IsKind Attribute x → open_after (Some n) xs ≡ Some n → open_after (Some n) (x ∷ xs) ≡ Some n
    go (inl e) f = ap (λ k. open_after (opens k (Some n)) xs) e ∙ f
    go (inr e) f = ap (λ k. open_after (opens k (Some n)) xs) e ∙ f

unfoldable pub tally : Bool → ℕ → ℕ
tally true n = suc n
tally false n = n

module _ (K : Knows) (ext : List Name) (texts : List Bytes) where
  -- how many of these elements have their start among the kept rows
  unfoldable pub open_kept : List Element → ℕ
  open_kept [] = 0
  open_kept (e ∷ out) = tally (extension_kept K ext (e ∷ out) || kept K ext (e ∷ out)) (open_kept out)

  start-opens : (n : ℕ) (x : PlacedRow) (xs : List PlacedRow) → IsKind Start x → Flat xs → open_after (Some n) (x ∷ xs) ≡ Some (suc n)
  start-opens n x xs e h = ap (λ k. open_after (opens k (Some n)) xs) e ∙ open_flat (suc n) xs h

  pub tag-opens : (x k : Bool) (igs : List Bytes) (t : Tag) (n : ℕ) → TokenTrue texts (tag t)
      → open_after (Some n) (tag_kept K x k igs t) ≡ Some (tally (x || k) n)
  unfolding tag_kept tag_rows kept_tag tally
  tag-opens true k igs t n h = start-opens n t.placed _ h.0.0 (flat_append _ _ (flat-decls t.decls h.1) (flat-attrs texts t.attrs h.2))
  tag-opens false true igs t n h =
      start-opens n t.placed _ h.0.0
      (flat_sub (sub_append (decls-part K igs t.decls) (attrs-part K igs t.attrs))
      (flat_append _ _ (flat-decls t.decls h.1) (flat-attrs texts t.attrs h.2)))
  tag-opens false false igs t n h = refl

  pub text-opens : (b : Bool) (x : PlacedRow) (n : ℕ) → IsKind Text x → open_after (Some n) (when b x) ≡ Some n
  unfolding when
  text-opens true x n e = ap (λ k. opens k (Some n)) e
  text-opens false x n e = refl

  pub end-opens : (b : Bool) (x : PlacedRow) (n : ℕ) → IsKind End x → open_after (Some (tally b n)) (when b x) ≡ Some n
  unfolding when tally
  end-opens true x n e = ap (λ k. opens k (Some (suc n))) e
  end-opens false x n e = refl

  end-at : (at : List Element) (x : PlacedRow) → IsKind End x
      → open_after (Some (open_kept at)) (when (extension_kept K ext at || kept K ext at) x) ≡ Some (open_kept (tail at))
  unfolding open_kept
  end-at [] x e = unfold extension_kept kept when in refl
  end-at (n ∷ out) x e = end-opens _ x (open_kept out) e

  token_opens : (t : Token) (past : List Token) → TokenTrue texts t
      → open_after (Some (open_kept (around past))) (kept_of K ext t past) ≡ Some (open_kept (around (t ∷ past)))
  unfolding kept_of around open_kept
  token_opens (tag t) past h = tag-opens _ _ _ t (open_kept (around past)) h
  token_opens (text x) past h = text-opens _ x (open_kept (around past)) h
  token_opens (end x) past h = end-at (around past) x h

  pub kept-opens : (toks : List Token) → AllTrue texts toks → open_after (Some 0) (kept_rows K ext toks) ≡ Some (open_kept (around toks))
  unfolding kept_rows
  kept-opens [] h = unfold around open_kept in refl
  kept-opens (t ∷ past) h =
      open_append (Some 0) (kept_rows K ext past) (kept_of K ext t past)
      ∙ ap (λ o. open_after o (kept_of K ext t past)) (kept-opens past h.1)
      ∙ token_opens t past h.0

  none_open : (toks : List Token) → has_ended toks ≡ true → open_kept (around toks) ≡ 0
  unfolding has_ended
  none_open [] e = absurd (false≢true e)
  none_open (t ∷ past) e = go (around (t ∷ past)) e
    where
      go : (at : List Element) → is_none at ≡ true → open_kept at ≡ 0
      go [] q = unfold open_kept in refl
      go (n ∷ out) q = absurd (false≢true q)

pub judged-true : (texts : List Bytes) (toks : List Token) → AllTrue texts toks → AllTrue texts (judged toks)
unfolding judged
judged-true texts [] h = h
judged-true texts (tag t ∷ past) h = h.1
judged-true texts (text x ∷ past) h = h
judged-true texts (end x ∷ past) h = h

pub kept_rows_pair : KeptRowsPair
unfolding draft
kept_rows_pair texts K ext rows = (
  (open_kept K ext texts (around (judged (tokens texts rows))), kept-opens K ext texts (judged (tokens texts rows)) (judged-true texts (tokens texts rows) (all_true texts rows))),
  λ e. kept-opens K ext texts (tokens texts rows) (all_true texts rows) ∙ ap Some (none_open K ext texts (tokens texts rows) e),
)
