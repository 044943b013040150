-- The three steps: what is ignored or unwrapped, which branches are selected, what is reached and kept (docs/RULES.md, rules 7 to 9).
use Rattle.std.specs.Prelude.{zero, Bool, true, false, not, ◌&&◌, ◌||◌, List, [], ◌∷◌, ◌++◌}
use Rattle.text.specs.Bytes.{Bytes}
use Rattle.text.specs.Names.{in_mc}
use Rattle.record.specs.declared.row.PlacedRow.{PlacedRow}
use Rattle.knowledge.specs.Understood.{Knows, is_understood}
use Rattle.card.specs.Cards.{Name}
use Rattle.items.specs.Items.{is_empty}
use Rattle.rules.specs.Elements.{Decl, Attr, Tag, Token, tag, text, end, children, Element, element, around, tag_rows}
use Rattle.rules.specs.Scope.{is_choice, is_fallback, is_branch, requires_of, items_of, Binding, Scope, is_ignorable_in, is_processed_in, named, bindings_with, is_listed, in_extension, scope, in_alternate_content}

-- a row if it is kept
unfoldable pub when : Bool → PlacedRow → List PlacedRow
when true x = x ∷ []
when false x = []

-- by a knowledge, and what is in scope at an element
module _ (knows : Knows) where
  -- a namespace that is not 0 and not understood
  unfoldable pub is_foreign : Bytes → Bool
  is_foreign ns = not (is_empty ns) && not (is_understood knows ns)

  -- Rule 7.

  -- a namespace outside MC that is not 0, not understood and ignorable
  unfoldable pub is_dispensable : List Bytes → Bytes → Bool
  is_dispensable ignorables ns = not (in_mc ns) && is_foreign ns && is_ignorable_in ignorables ns

  unfoldable pub is_unwrapped : Scope → Tag → Bool
  is_unwrapped s t = is_dispensable s.ignorables t.namespace && is_processed_in s.processed t.namespace t.name

  unfoldable pub is_ignored : Scope → Tag → Bool
  is_ignored s t = is_dispensable s.ignorables t.namespace && not (is_processed_in s.processed t.namespace t.name)

  -- Rule 8.

  unfoldable pub all_understood : List Bytes → Bool
  all_understood [] = true
  all_understood (ns ∷ rest) = is_understood knows ns && all_understood rest

  -- All namespaces that a Choice requires are understood. Here and below, the bindings are those around the branch.
  unfoldable pub is_satisfied : List Binding → Tag → Bool
  is_satisfied bindings t = all_understood (named (bindings_with t bindings) (items_of (requires_of t)))

  -- One of these siblings, the youngest first, is a selected Choice: the eldest whose requirements are met.
  unfoldable pub choice_selected : List Binding → List Tag → Bool
  choice_selected bindings [] = false
  choice_selected bindings (t ∷ elder) = choice_selected bindings elder || is_choice t && is_satisfied bindings t

  -- A Choice is selected if its requirements are met and no elder sibling is selected, a Fallback if no sibling Choice is.
  unfoldable pub is_selected : List Binding → List Tag → Tag → Bool
  is_selected bindings elder t =
      not (choice_selected bindings elder) && (is_fallback t || is_choice t && is_satisfied bindings t)

  -- Rule 9, of a kept element.

  -- its declarations, except those of MC and of a namespace ignorable there and not understood
  unfoldable pub is_kept_decl : List Bytes → Decl → Bool
  is_kept_decl ignorables d =
      not (in_mc d.namespace) && not (is_ignorable_in ignorables d.namespace && not (is_understood knows d.namespace))

  -- its attributes, except those of MC and ignored ones
  unfoldable pub is_kept_attr : List Bytes → Attr → Bool
  is_kept_attr ignorables x = not (in_mc x.namespace) && not (is_dispensable ignorables x.namespace)

  unfoldable pub kept_decls : List Bytes → List Decl → List PlacedRow
  kept_decls ignorables [] = []
  kept_decls ignorables (d ∷ ds) = when (is_kept_decl ignorables d) d.placed ++ kept_decls ignorables ds

  unfoldable pub kept_attrs : List Bytes → List Attr → List PlacedRow
  kept_attrs ignorables [] = []
  kept_attrs ignorables (x ∷ xs) = when (is_kept_attr ignorables x) x.placed ++ kept_attrs ignorables xs

  unfoldable pub kept_tag : List Bytes → Tag → List PlacedRow
  kept_tag ignorables t = t.placed ∷ (kept_decls ignorables t.decls ++ kept_attrs ignorables t.attrs)

  -- the rows of a tag: of an extension element all, of a kept element those that are kept
  unfoldable pub tag_kept : Bool → Bool → List Bytes → Tag → List PlacedRow
  tag_kept true kept ignorables t = tag_rows t
  tag_kept false true ignorables t = kept_tag ignorables t
  tag_kept false false ignorables t = []

-- Of the innermost of some elements, each with what is around it.

-- a direct child of AlternateContent that is no branch
unfoldable pub stray : List Element → Bool
stray [] = false
stray (e ∷ out) = in_alternate_content out && not (is_branch e.tag)

module _ (knows : Knows) (extensions : List Name) where
  unfoldable pub unwrapped : List Element → Bool
  unwrapped [] = false
  unwrapped (e ∷ out) = is_unwrapped knows (scope extensions (e ∷ out)) e.tag

  unfoldable pub ignored : List Element → Bool
  ignored [] = false
  ignored (e ∷ out) = is_ignored knows (scope extensions (e ∷ out)) e.tag

  unfoldable pub selected : List Element → Bool
  selected [] = false
  selected (e ∷ out) = is_selected knows (scope extensions out).bindings e.elder e.tag

  unfoldable pub unselected : List Element → Bool
  unselected [] = false
  unselected (e ∷ out) = is_branch e.tag && not (selected (e ∷ out))

  -- none of these is stray, ignored or an unselected branch
  unfoldable pub entered : List Element → Bool
  entered [] = true
  entered (e ∷ out) = not (stray (e ∷ out)) && not (ignored (e ∷ out)) && not (unselected (e ∷ out)) && entered out

  -- it is not stray, and none around it is stray, ignored or an unselected branch
  unfoldable pub reached : List Element → Bool
  reached [] = true
  reached (e ∷ out) = not (stray (e ∷ out)) && entered out

  -- a reached element outside MC that is neither ignored nor unwrapped, outside extension elements
  unfoldable pub kept : List Element → Bool
  kept [] = false
  kept (e ∷ out) =
      not (in_extension extensions (e ∷ out)) && reached (e ∷ out)
      && not (in_mc e.tag.namespace) && not (ignored (e ∷ out)) && not (unwrapped (e ∷ out))

  -- it is a reached extension element or inside one
  unfoldable pub extension_kept : List Element → Bool
  extension_kept [] = false
  extension_kept (e ∷ out) =
      extension_kept out || not (in_extension extensions out) && is_listed extensions e.tag && reached (e ∷ out)

  -- a text is kept if its innermost element is reached and is kept, unwrapped or a selected branch
  unfoldable pub text_kept : List Element → Bool
  text_kept [] = false
  text_kept (e ∷ out) =
      not (in_extension extensions (e ∷ out)) && reached (e ∷ out)
      && (kept (e ∷ out) || unwrapped (e ∷ out) || is_branch e.tag && selected (e ∷ out))

  -- the kept rows of a token behind the others
  unfoldable pub kept_of : Token → List Token → List PlacedRow
  kept_of (tag t) past =
      let at : List Element = element t (children zero past) ∷ around past in
      tag_kept knows (extension_kept at) (kept at) (scope extensions at).ignorables t
  kept_of (text x) past = when (extension_kept (around past) || text_kept (around past)) x
  kept_of (end x) past = when (extension_kept (around past) || kept (around past)) x

  -- the kept rows, in order
  unfoldable pub kept_rows : List Token → List PlacedRow
  kept_rows [] = []
  kept_rows (t ∷ past) = kept_rows past ++ kept_of t past

-- opens the definitions of this file, for a proof that computes
unfoldable pub open_steps : Unit {0}
unfolding when is_foreign is_dispensable is_unwrapped is_ignored all_understood is_satisfied choice_selected is_selected is_kept_decl is_kept_attr kept_decls kept_attrs kept_tag tag_kept unwrapped ignored selected unselected stray entered reached kept extension_kept text_kept kept_of kept_rows
open_steps = tt
