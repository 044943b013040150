-- The refusals of an element and of an end are numbered 13 to 20.
use Rattle.std.proofs.Common.{ℕ, suc, ◌≤◌, Bool, true, false, List, [], ◌∷◌, Some, None, Option, rules}
use Rattle.text.specs.Bytes.{Bytes}
use Rattle.record.specs.declared.refusal.Refusal.{Refusal}
use Rattle.record.specs.Refusals.{numbered}
use Rattle.knowledge.specs.Understood.{Knows}
use Rattle.card.specs.Cards.{Name}
use Rattle.rules.specs.Elements.{Attr, Tag, Token, tag, text, end}
use Rattle.rules.specs.Scope.{Binding, Scope}
use Rattle.rules.specs.Faults.{ignorable_item, ignorable_items, process_item, process_items, prefix_item, prefix_items, ignorable_faults, process_faults, must_faults, requires_faults, start_name_faults, attr_name_faults, place_faults, bad_attrs, attr_faults, choice_faults, xml_faults, element_faults, tag_faults, end_faults, faults_of}
use Rattle.rules.specs.Laws.{FaultsAreNumbered}
use Rattle.rules.proofs.Members.{Every, every_none, every_append, every_fault}

abbrev Right : Refusal → Type 0
Right r = (13 ≤ (numbered r).number) × ((numbered r).number ≤ 20)

abbrev AllRight : List Refusal → Type 0
AllRight rs = Every Right rs

ignorable-items : (bs : List Binding) (p c : ℕ) (is : List Bytes) → AllRight (ignorable_items bs p c is)
unfolding ignorable_items ignorable_item
ignorable-items bs p c [] = every_none
ignorable-items bs p c (i ∷ is) = let h = ignorable-items bs p (suc c) is in search (rules, every_append, every_fault)

process-items : (bs : List Binding) (igs : List Bytes) (p c : ℕ) (is : List Bytes) → AllRight (process_items bs igs p c is)
unfolding process_items process_item
process-items bs igs p c [] = every_none
process-items bs igs p c (i ∷ is) = let h = process-items bs igs p (suc c) is in search (rules, every_append, every_fault)

prefix-items : (bs : List Binding) (p : ℕ) (is : List Bytes) → AllRight (prefix_items bs p is)
unfolding prefix_items prefix_item
prefix-items bs p [] = every_none
prefix-items bs p (i ∷ is) = let h = prefix-items bs p is in search (rules, every_append, every_fault)

ignorable-faults : (bs : List Binding) (c : ℕ) (x : Option Attr) → AllRight (ignorable_faults bs c x)
unfolding ignorable_faults
ignorable-faults bs c None = every_none
ignorable-faults bs c (Some x) = ignorable-items bs _ c _

process-faults : (bs : List Binding) (igs : List Bytes) (c : ℕ) (x : Option Attr) → AllRight (process_faults bs igs c x)
unfolding process_faults
process-faults bs igs c None = every_none
process-faults bs igs c (Some x) = process-items bs igs _ c _

must-faults : (bs : List Binding) (x : Option Attr) → AllRight (must_faults bs x)
unfolding must_faults
must-faults bs None = every_none
must-faults bs (Some x) = prefix-items bs _ _

requires-faults : (bs : List Binding) (x : Option Attr) → AllRight (requires_faults bs x)
unfolding requires_faults
requires-faults bs None = every_none
requires-faults bs (Some x) = search (rules, every_append, every_fault, prefix-items)

attr_names : (xs : List Attr) → AllRight (attr_name_faults xs)
unfolding attr_name_faults
attr_names [] = every_none
attr_names (x ∷ xs) = let h = attr_names xs in search (rules, every_append, every_fault)

place-faults : (a b c : Bool) (t : Tag) → AllRight (place_faults a b c t)
unfolding place_faults
place-faults a b c t = search (rules, every_append, every_fault)

bad_attrs_lem : (igs : List Bytes) (c : Bool) (xs : List Attr) → AllRight (bad_attrs igs c xs)
unfolding bad_attrs
bad_attrs_lem igs c [] = every_none
bad_attrs_lem igs c (x ∷ xs) = let h = bad_attrs_lem igs c xs in search (rules, every_append, every_fault)

attr_faults_lem : (b : Bool) (igs : List Bytes) (t : Tag) → AllRight (attr_faults b igs t)
unfolding attr_faults
attr_faults_lem true igs t = search (rules, every_append, every_fault, bad_attrs_lem)
attr_faults_lem false igs t = every_none

choice-faults : (b : Bool) (bs : List Binding) (t : Tag) → AllRight (choice_faults b bs t)
unfolding choice_faults
choice-faults true bs t = requires-faults bs _
choice-faults false bs t = every_none

xml-faults : (b : Bool) (xs : List Attr) → AllRight (xml_faults b xs)
unfolding xml_faults
xml-faults b [] = every_none
xml-faults b (x ∷ xs) = let h = xml-faults b xs in search (rules, every_append, every_fault)

element-faults : (K : Knows) (s : Scope) (a b : Bool) (t : Tag) → AllRight (element_faults K s a b t)
unfolding element_faults start_name_faults
element-faults K s a b t =
    search (rules, every_append, every_fault, attr_names, ignorable-faults, process-faults, must-faults, place-faults, attr_faults_lem, choice-faults, xml-faults) depth 12

tag-faults : (x y : Bool) (K : Knows) (s : Scope) (a b : Bool) (t : Tag) → AllRight (tag_faults x y K s a b t)
unfolding tag_faults
tag-faults true y K s a b t = every_none
tag-faults false true K s a b t = place-faults a b _ t
tag-faults false false K s a b t = element-faults K s a b t

token_faults : (K : Knows) (ext : List Name) (t : Token) (past : List Token) → AllRight (faults_of K ext t past)
unfolding faults_of end_faults
token_faults K ext (tag t) past = tag-faults _ _ K _ _ _ t
token_faults K ext (text x) past = every_none
token_faults K ext (end x) past = search (rules, every_fault)

pub faults_are_numbered : FaultsAreNumbered
faults_are_numbered K ext t past = (token_faults K ext t past).at
