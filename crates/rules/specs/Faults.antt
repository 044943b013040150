-- The refusals 13 to 20 of an element and of an end, in the order in which docs/REFUSALS.md has them tried; the first counts.
use Rattle.std.specs.Prelude.{ℕ, zero, suc, Bool, true, false, not, ◌&&◌, ◌||◌, List, [], ◌∷◌, ◌++◌, length, is_some, Some, None, Option, nat_le, nat_lt}
use Rattle.text.specs.Bytes.{Bytes}
use Rattle.text.specs.Names.{in_mc, in_xml, is_requires, is_inherited, element_named, attribute_named}
use Rattle.record.specs.declared.refusal.Refusal.{Refusal}
use Rattle.record.specs.declared.refusal.Refusal.TheVariants.{ScopeFull, BadItem, Unbound, NotIgnorable, UnknownName, BadAttribute, Misplaced, XmlAttribute}
use Rattle.knowledge.specs.Understood.{Knows}
use Rattle.card.specs.Cards.{Name}
use Rattle.items.specs.Items.{is_empty, items, has_colon, prefix_part, is_pair}
use Rattle.rules.specs.Elements.{Attr, Tag, Token, tag, text, end, children, around}
use Rattle.rules.specs.Scope.{is_choice, is_fallback, is_branch, ignorable_of, process_content_of, must_understand_of, requires_of, Binding, Scope, bound, is_ignorable_in, scope_with, is_listed, in_extension, scope, in_alternate_content}
use Rattle.rules.specs.Steps.{is_unwrapped}

unfoldable pub fault : Bool → Refusal → List Refusal
fault true refusal = refusal ∷ []
fault false refusal = []

-- the one that counts
abbrev pub first : {X : Type 0} → List X → Option X
first [] = None
first (x ∷ xs) = Some x

-- a list in scope that has this many entries has room for no more
abbrev pub is_full : ℕ → Bool
is_full entries = nat_le 128 entries

-- Items are tried one after the other. An item of Ignorable makes an entry, of which there are so many before it.

unfoldable pub names_mc : Option Bytes → Bool
names_mc None = false
names_mc (Some ns) = in_mc ns

unfoldable pub ignorable_item : List Binding → ℕ → ℕ → Bytes → List Refusal
ignorable_item bindings place entries item =
    fault (has_colon item) (BadItem place)
    ++ fault (not (is_some (bound bindings item))) (Unbound place)
    ++ fault (names_mc (bound bindings item)) (NotIgnorable place)
    ++ fault (is_full entries) (ScopeFull place)

unfoldable pub ignorable_items : List Binding → ℕ → ℕ → List Bytes → List Refusal
ignorable_items bindings place entries [] = []
ignorable_items bindings place entries (i ∷ is) =
    ignorable_item bindings place entries i ++ ignorable_items bindings place (suc entries) is

-- an item of ProcessContent names a namespace that is ignorable at the element

unfoldable pub names_ignorable : List Bytes → Option Bytes → Bool
names_ignorable ignorables None = false
names_ignorable ignorables (Some ns) = is_ignorable_in ignorables ns

unfoldable pub process_item : List Binding → List Bytes → ℕ → ℕ → Bytes → List Refusal
process_item bindings ignorables place entries item =
    fault (not (is_pair item)) (BadItem place)
    ++ fault (not (is_some (bound bindings (prefix_part item)))) (Unbound place)
    ++ fault (not (names_ignorable ignorables (bound bindings (prefix_part item)))) (NotIgnorable place)
    ++ fault (is_full entries) (ScopeFull place)

unfoldable pub process_items : List Binding → List Bytes → ℕ → ℕ → List Bytes → List Refusal
process_items bindings ignorables place entries [] = []
process_items bindings ignorables place entries (i ∷ is) =
    process_item bindings ignorables place entries i ++ process_items bindings ignorables place (suc entries) is

-- items of MustUnderstand and Requires make no entries

unfoldable pub prefix_item : List Binding → ℕ → Bytes → List Refusal
prefix_item bindings place item = fault (has_colon item) (BadItem place) ++ fault (not (is_some (bound bindings item))) (Unbound place)

unfoldable pub prefix_items : List Binding → ℕ → List Bytes → List Refusal
prefix_items bindings place [] = []
prefix_items bindings place (i ∷ is) = prefix_item bindings place i ++ prefix_items bindings place is

-- the four attributes that hold lists, if an element has them

unfoldable pub ignorable_faults : List Binding → ℕ → Option Attr → List Refusal
ignorable_faults bindings entries None = []
ignorable_faults bindings entries (Some x) = ignorable_items bindings x.placed.place entries (items x.value)

unfoldable pub process_faults : List Binding → List Bytes → ℕ → Option Attr → List Refusal
process_faults bindings ignorables entries None = []
process_faults bindings ignorables entries (Some x) = process_items bindings ignorables x.placed.place entries (items x.value)

unfoldable pub must_faults : List Binding → Option Attr → List Refusal
must_faults bindings None = []
must_faults bindings (Some x) = prefix_items bindings x.placed.place (items x.value)

unfoldable pub no_items : List Bytes → Bool
no_items [] = true
no_items (i ∷ is) = false

unfoldable pub requires_faults : List Binding → Option Attr → List Refusal
requires_faults bindings None = []
requires_faults bindings (Some x) =
    fault (no_items (items x.value)) (BadItem x.placed.place) ++ prefix_items bindings x.placed.place (items x.value)

-- names in MC that it does not have: the start, then the attributes

unfoldable pub start_name_faults : Tag → List Refusal
start_name_faults t = fault (in_mc t.namespace && not (is_some (element_named t.name))) (UnknownName t.placed.place)

unfoldable pub attr_name_faults : List Attr → List Refusal
attr_name_faults [] = []
attr_name_faults (x ∷ xs) =
    fault (in_mc x.namespace && not (is_some (attribute_named x.name))) (UnknownName x.placed.place) ++ attr_name_faults xs

-- Which children AlternateContent has: a branch stands directly in one and behind no Fallback; another child of it is in an
-- ignorable namespace.
unfoldable pub place_faults : Bool → Bool → Bool → Tag → List Refusal
place_faults inside behind_fallback ignorable t =
    fault (is_branch t && not inside) (Misplaced t.placed.place)
    ++ fault (is_branch t && behind_fallback) (Misplaced t.placed.place)
    ++ fault (inside && not (is_branch t) && not ignorable) (Misplaced t.placed.place)

unfoldable pub any_choice : List Tag → Bool
any_choice [] = false
any_choice (t ∷ elder) = is_choice t || any_choice elder

unfoldable pub any_fallback : List Tag → Bool
any_fallback [] = false
any_fallback (t ∷ elder) = is_fallback t || any_fallback elder

-- An attribute of an element of MC: none in XML, none without namespace but the Requires of a Choice, others in MC or in an
-- ignorable namespace.
unfoldable pub is_bad_attr : List Bytes → Bool → Attr → Bool
is_bad_attr ignorables choice x =
    in_xml x.namespace
    || is_empty x.namespace && not (choice && is_requires x.name)
    || not (is_empty x.namespace) && not (in_mc x.namespace) && not (is_ignorable_in ignorables x.namespace)

unfoldable pub bad_attrs : List Bytes → Bool → List Attr → List Refusal
bad_attrs ignorables choice [] = []
bad_attrs ignorables choice (x ∷ xs) =
    fault (is_bad_attr ignorables choice x) (BadAttribute x.placed.place) ++ bad_attrs ignorables choice xs

unfoldable pub attr_faults : Bool → List Bytes → Tag → List Refusal
attr_faults false ignorables t = []
attr_faults true ignorables t =
    fault (is_choice t && not (is_some (requires_of t))) (BadAttribute t.placed.place) ++ bad_attrs ignorables (is_choice t) t.attrs

unfoldable pub choice_faults : Bool → List Binding → Tag → List Refusal
choice_faults false bindings t = []
choice_faults true bindings t = requires_faults bindings (requires_of t)

-- an unwrapped element has no xml:base, xml:lang or xml:space
unfoldable pub xml_faults : Bool → List Attr → List Refusal
xml_faults unwrapped [] = []
xml_faults unwrapped (x ∷ xs) =
    fault (unwrapped && in_xml x.namespace && is_inherited x.name) (XmlAttribute x.placed.place) ++ xml_faults unwrapped xs

-- An element outside extension elements, by what is in scope around it, whether it stands directly in AlternateContent and whether
-- behind a Fallback there.
unfoldable pub element_faults : Knows → Scope → Bool → Bool → Tag → List Refusal
element_faults knows out inside behind_fallback t =
    let at : Scope = scope_with t out in
    fault (nat_lt 128 (length at.bindings)) (ScopeFull t.placed.place)
    ++ start_name_faults t
    ++ attr_name_faults t.attrs
    ++ ignorable_faults at.bindings (length out.ignorables) (ignorable_of t)
    ++ process_faults at.bindings at.ignorables (length out.processed) (process_content_of t)
    ++ must_faults at.bindings (must_understand_of t)
    ++ place_faults inside behind_fallback (is_ignorable_in at.ignorables t.namespace) t
    ++ attr_faults (in_mc t.namespace) at.ignorables t
    ++ choice_faults (is_choice t) at.bindings t
    ++ xml_faults (is_unwrapped knows at t) t.attrs

-- Inside an extension element nothing is tried; of an extension element only its place, by what is ignorable around it.
unfoldable pub tag_faults : Bool → Bool → Knows → Scope → Bool → Bool → Tag → List Refusal
tag_faults true extension knows out inside behind_fallback t = []
tag_faults false true knows out inside behind_fallback t =
    place_faults inside behind_fallback (is_ignorable_in out.ignorables t.namespace) t
tag_faults false false knows out inside behind_fallback t = element_faults knows out inside behind_fallback t

-- the end of an AlternateContent without a Choice
unfoldable pub end_faults : Bool → Bool → Bool → ℕ → List Refusal
end_faults in_extension inside has_choice place = fault (not in_extension && inside && not has_choice) (Misplaced place)

module _ (knows : Knows) (extensions : List Name) where
  unfoldable pub faults_of : Token → List Token → List Refusal
  faults_of (tag t) past =
      tag_faults (in_extension extensions (around past)) (is_listed extensions t) knows (scope extensions (around past))
      (in_alternate_content (around past)) (any_fallback (children zero past)) t
  faults_of (text x) past = []
  faults_of (end x) past =
      end_faults (in_extension extensions (around past)) (in_alternate_content (around past)) (any_choice (children zero past)) x.place

  -- the refusals of tokens, in the order of trial
  unfoldable pub faults : List Token → List Refusal
  faults [] = []
  faults (t ∷ past) = faults past ++ faults_of t past

-- opens the definitions of this file, for a proof that computes
unfoldable pub open_faults : Unit {0}
unfolding fault names_mc ignorable_item ignorable_items names_ignorable process_item process_items prefix_item prefix_items ignorable_faults process_faults must_faults no_items requires_faults start_name_faults attr_name_faults place_faults any_choice any_fallback is_bad_attr bad_attrs attr_faults choice_faults xml_faults element_faults tag_faults end_faults faults_of faults
open_faults = tt
