-- What is in scope at an element: bindings, ignorable items and ProcessContent items, newest first, with one search (docs/RULES.md,
-- rules 1, 3 and 4, and "Lists in scope").
use Rattle.std.specs.Prelude.{Bool, true, false, cond, ◌&&◌, ◌||◌, List, [], ◌∷◌, ◌++◌, map, reverse, is_some, Some, None, Option}
use Rattle.std.specs.Option.{option_map}
use Rattle.std.specs.Str.{bytes_eq}
use Rattle.text.specs.Bytes.{Bytes}
use Rattle.text.specs.Names.{xml_namespace, in_mc, is_xml_prefix, is_requires, element_named, attribute_named}
use Rattle.text.specs.declared.names.McElement.{McElement}
use Rattle.text.specs.declared.names.McElement.TheVariants.{AlternateContent, Choice, Fallback}
use Rattle.text.specs.declared.names.McAttribute.{McAttribute}
use Rattle.text.specs.declared.names.McAttribute.TheVariants.{Ignorable, ProcessContent, MustUnderstand}
use Rattle.card.specs.Cards.{Name, on_list}
use Rattle.items.specs.Items.{is_empty, items, prefix_part, local_part}
use Rattle.rules.specs.Elements.{Decl, Attr, Tag, Element}

-- the first that passes: in a list with the newest first, this is the one search
unfoldable pub first_with : {X : Type 0} → (X → Bool) → List X → Option X
first_with test [] = None
first_with test (x ∷ xs) = cond (test x) (Some x) (first_with test xs)

-- The elements of MC are AlternateContent, Choice and Fallback; a branch is a Choice or a Fallback.

unfoldable pub mc_element : Tag → Option McElement
mc_element t = cond (in_mc t.namespace) (element_named t.name) None

abbrev pub alternate : Option McElement → Bool
alternate (Some AlternateContent) = true
alternate (Some Choice) = false
alternate (Some Fallback) = false
alternate None = false

abbrev pub choice : Option McElement → Bool
choice (Some AlternateContent) = false
choice (Some Choice) = true
choice (Some Fallback) = false
choice None = false

abbrev pub fallback : Option McElement → Bool
fallback (Some AlternateContent) = false
fallback (Some Choice) = false
fallback (Some Fallback) = true
fallback None = false

unfoldable pub is_alternate_content : Tag → Bool
is_alternate_content t = alternate (mc_element t)

unfoldable pub is_choice : Tag → Bool
is_choice t = choice (mc_element t)

unfoldable pub is_fallback : Tag → Bool
is_fallback t = fallback (mc_element t)

unfoldable pub is_branch : Tag → Bool
is_branch t = is_choice t || is_fallback t

-- The attributes of MC are Ignorable, ProcessContent and MustUnderstand; Requires has no namespace.

unfoldable pub mc_attribute : Attr → Option McAttribute
mc_attribute x = cond (in_mc x.namespace) (attribute_named x.name) None

abbrev pub ignorable : Option McAttribute → Bool
ignorable (Some Ignorable) = true
ignorable (Some ProcessContent) = false
ignorable (Some MustUnderstand) = false
ignorable None = false

abbrev pub process : Option McAttribute → Bool
process (Some Ignorable) = false
process (Some ProcessContent) = true
process (Some MustUnderstand) = false
process None = false

abbrev pub must : Option McAttribute → Bool
must (Some Ignorable) = false
must (Some ProcessContent) = false
must (Some MustUnderstand) = true
must None = false

unfoldable pub is_ignorable : Attr → Bool
is_ignorable x = ignorable (mc_attribute x)

unfoldable pub is_process_content : Attr → Bool
is_process_content x = process (mc_attribute x)

unfoldable pub is_must_understand : Attr → Bool
is_must_understand x = must (mc_attribute x)

unfoldable pub is_required : Attr → Bool
is_required x = is_empty x.namespace && is_requires x.name

-- an element's own attribute of each name, if it has one

unfoldable pub ignorable_of : Tag → Option Attr
ignorable_of t = first_with is_ignorable t.attrs

unfoldable pub process_content_of : Tag → Option Attr
process_content_of t = first_with is_process_content t.attrs

unfoldable pub must_understand_of : Tag → Option Attr
must_understand_of t = first_with is_must_understand t.attrs

unfoldable pub requires_of : Tag → Option Attr
requires_of t = first_with is_required t.attrs

unfoldable pub items_of : Option Attr → List Bytes
items_of None = []
items_of (Some x) = items x.value

-- The three lists.

pub record Binding : Type 0 where
  pub prefix : Bytes
  pub namespace : Bytes

pub record Scope : Type 0 where
  pub bindings : List Binding
  pub ignorables : List Bytes
  pub processed : List Name

unfoldable pub no_scope : Scope
no_scope = record { bindings = []; ignorables = []; processed = [] }

-- the namespace of a prefix, the nearest declaration first; xml needs none
unfoldable pub bound : List Binding → Bytes → Option Bytes
bound bindings p =
    cond (is_xml_prefix p) (Some xml_namespace)
    (option_map (λ (b : Binding). b.namespace) (first_with (λ (b : Binding). bytes_eq b.prefix p) bindings))

unfoldable pub is_ignorable_in : List Bytes → Bytes → Bool
is_ignorable_in ignorables ns = is_some (first_with (λ (item : Bytes). bytes_eq item ns) ignorables)

unfoldable pub is_processed_in : List Name → Bytes → Bytes → Bool
is_processed_in processed ns name = is_some (first_with (λ (item : Name). bytes_eq item.0 ns && bytes_eq item.1 name) processed)

unfoldable pub cons_some : {X : Type 0} → Option X → List X → List X
cons_some None xs = xs
cons_some (Some x) xs = x ∷ xs

-- the namespaces that prefixes name
unfoldable pub named : List Binding → List Bytes → List Bytes
named bindings [] = []
named bindings (p ∷ ps) = cons_some (bound bindings p) (named bindings ps)

-- the namespaces and local names that items of ProcessContent name
unfoldable pub named_pairs : List Binding → List Bytes → List Name
named_pairs bindings [] = []
named_pairs bindings (i ∷ is) =
    cons_some (option_map (λ (ns : Bytes). (ns, local_part i)) (bound bindings (prefix_part i))) (named_pairs bindings is)

unfoldable pub binding_of : Decl → Binding
binding_of d = record { prefix = d.prefix; namespace = d.namespace }

-- An element's own entries stand before those around it.

unfoldable pub bindings_with : Tag → List Binding → List Binding
bindings_with t bindings = reverse (map binding_of t.decls) ++ bindings

unfoldable pub ignorables_with : Tag → List Binding → List Bytes → List Bytes
ignorables_with t bindings ignorables = reverse (named bindings (items_of (ignorable_of t))) ++ ignorables

unfoldable pub processed_with : Tag → List Binding → List Name → List Name
processed_with t bindings processed = reverse (named_pairs bindings (items_of (process_content_of t))) ++ processed

unfoldable pub scope_with : Tag → Scope → Scope
scope_with t s =
    record {
      bindings = bindings_with t s.bindings;
      ignorables = ignorables_with t (bindings_with t s.bindings) s.ignorables;
      processed = processed_with t (bindings_with t s.bindings) s.processed;
    }

module _ (extensions : List Name) where
  unfoldable pub is_listed : Tag → Bool
  is_listed t = on_list extensions t.namespace t.name

  -- the innermost of these elements, or one around it, is on the extension list
  unfoldable pub in_extension : List Element → Bool
  in_extension [] = false
  in_extension (e ∷ out) = is_listed e.tag || in_extension out

  -- what is in scope at the innermost of these elements; an extension element and what is inside it make no entries
  unfoldable pub scope : List Element → Scope
  scope [] = no_scope
  scope (e ∷ out) = cond (in_extension (e ∷ out)) (scope out) (scope_with e.tag (scope out))

-- the innermost of these elements is an AlternateContent
unfoldable pub in_alternate_content : List Element → Bool
in_alternate_content [] = false
in_alternate_content (e ∷ out) = is_alternate_content e.tag

-- opens the definitions of this file, for a proof that computes
unfoldable pub open_scope : Unit {0}
unfolding first_with mc_element is_alternate_content is_choice is_fallback is_branch mc_attribute is_ignorable is_process_content is_must_understand is_required ignorable_of process_content_of must_understand_of requires_of items_of no_scope bound is_ignorable_in is_processed_in cons_some named named_pairs binding_of bindings_with ignorables_with processed_with scope_with is_listed in_extension scope in_alternate_content
open_scope = tt
