-- Which rows may come next: the refusals 9 to 12 of a row by the rows before it, in the order in which they are tried (docs/FORMAT.md has
-- the form of rows).
use Rattle.std.specs.Prelude.{◌≡◌, Bool, true, false, not, ◌&&◌, ◌||◌, leb, List, [], ◌∷◌, ◌++◌, length, is_some, Some, None, Option, ◌==◌, nat_le, nat_lt}
use Rattle.std.specs.Str.{bytes_eq}
use Rattle.text.specs.Bytes.{Bytes}
use Rattle.text.specs.Names.{is_xml_prefix}
use Rattle.record.specs.declared.row.Row.{Row}
use Rattle.record.specs.declared.row.Kind.{Kind}
use Rattle.record.specs.declared.row.Kind.TheVariants.{Start, Declaration, Attribute, Text, End}
use Rattle.record.specs.Rows.{kind_of}
use Rattle.record.specs.declared.refusal.Refusal.{Refusal}
use Rattle.record.specs.declared.refusal.Refusal.TheVariants.{BadRow, OutOfOrder, Forbidden, TooMany}
use Rattle.file.specs.Form.{text_at}
use Rattle.items.specs.Items.{is_empty}
use Rattle.rules.specs.Elements.{Decl, Attr, Tag, Token, tag, text, end, tokens, Element, around}
use Rattle.rules.specs.Scope.{first_with}
use Rattle.rules.specs.Faults.{fault}

-- a number shown as 0 is 0, a local name is not
unfoldable pub is_shaped : Option Kind → Row → Bool
is_shaped (Some Start) r = not (r.b == 0) && r.c == 0
is_shaped (Some Declaration) r = r.c == 0
is_shaped (Some Attribute) r = not (r.b == 0)
is_shaped (Some Text) r = r.b == 0 && r.c == 0
is_shaped (Some End) r = r.a == 0 && r.b == 0 && r.c == 0
is_shaped None r = false

-- its kind is one of a record's, its numbers name texts
unfoldable pub is_well_formed : List Bytes → Row → Bool
is_well_formed texts r =
    is_shaped (kind_of r.kind) r && nat_lt r.a (length texts) && nat_lt r.b (length texts) && nat_lt r.c (length texts)

abbrev pub is_none : List Element → Bool
is_none [] = true
is_none (e ∷ out) = false

-- the root's end has come
unfoldable pub has_ended : List Token → Bool
has_ended [] = false
has_ended (t ∷ past) = is_none (around (t ∷ past))

-- the newest token is a tag that passes
unfoldable pub on_tag : (Tag → Bool) → List Token → Bool
on_tag test [] = false
on_tag test (tag t ∷ past) = test t
on_tag test (text x ∷ past) = false
on_tag test (end x ∷ past) = false

unfoldable pub has_no_attrs : List Attr → Bool
has_no_attrs [] = true
has_no_attrs (x ∷ xs) = false

-- one root, declarations directly behind their start, then attributes, and no row outside the root
unfoldable pub is_in_order : Option Kind → List Token → Bool
is_in_order (Some Start) past = not (has_ended past)
is_in_order (Some Declaration) past = on_tag (λ (t : Tag). has_no_attrs t.attrs) past
is_in_order (Some Attribute) past = on_tag (λ (t : Tag). true) past
is_in_order (Some Text) past = not (is_none (around past))
is_in_order (Some End) past = not (is_none (around past))
is_in_order None past = false

unfoldable pub has_prefix : Bytes → List Decl → Bool
has_prefix p ds = is_some (first_with (λ (d : Decl). bytes_eq d.prefix p) ds)

unfoldable pub has_attr : Bytes → Bytes → List Attr → Bool
has_attr ns name xs = is_some (first_with (λ (x : Attr). bytes_eq x.namespace ns && bytes_eq x.name name) xs)

-- the prefix xml, or a prefix other than the default for no namespace
unfoldable pub is_forbidden_decl : Bytes → Bytes → Bool
is_forbidden_decl p ns = is_xml_prefix p || not (is_empty p) && is_empty ns

-- a forbidden declaration, or a prefix or attribute name that the element has already
unfoldable pub is_forbidden : Option Kind → List Bytes → Row → List Token → Bool
is_forbidden (Some Start) texts r past = false
is_forbidden (Some Declaration) texts r past =
    is_forbidden_decl (text_at texts r.a) (text_at texts r.b) || on_tag (λ (t : Tag). has_prefix (text_at texts r.a) t.decls) past
is_forbidden (Some Attribute) texts r past = on_tag (λ (t : Tag). has_attr (text_at texts r.a) (text_at texts r.b) t.attrs) past
is_forbidden (Some Text) texts r past = false
is_forbidden (Some End) texts r past = false
is_forbidden None texts r past = false

-- 64 elements open together, 32 declarations and 32 attributes on each
unfoldable pub is_at_limit : Option Kind → List Token → Bool
is_at_limit (Some Start) past = nat_le 64 (length (around past))
is_at_limit (Some Declaration) past = on_tag (λ (t : Tag). leb 32 (length t.decls)) past
is_at_limit (Some Attribute) past = on_tag (λ (t : Tag). leb 32 (length t.attrs)) past
is_at_limit (Some Text) past = false
is_at_limit (Some End) past = false
is_at_limit None past = false

-- a row behind the rows before it, newest first; a record has at most 2,048 rows
unfoldable pub row_faults : List Bytes → List Row → Row → List Refusal
row_faults texts past r =
    fault (not (is_well_formed texts r)) (BadRow (length past))
    ++ fault (not (is_in_order (kind_of r.kind) (tokens texts past))) (OutOfOrder (length past))
    ++ fault (is_forbidden (kind_of r.kind) texts r (tokens texts past)) (Forbidden (length past))
    ++ fault (is_at_limit (kind_of r.kind) (tokens texts past) || nat_le 2048 (length past)) (TooMany (length past))

-- each of these rows might come next behind those before it
abbrev pub Accepted : List Bytes → List Row → Type 0
Accepted texts [] = Unit {0}
Accepted texts (r ∷ past) = (row_faults texts past r ≡ []) × Accepted texts past

-- opens the definitions of this file, for a proof that computes
unfoldable pub open_order : Unit {0}
unfolding is_shaped is_well_formed has_ended on_tag has_no_attrs is_in_order has_prefix has_attr is_forbidden_decl is_forbidden is_at_limit row_faults
open_order = tt
