-- The rows of a record as tags, texts and ends, and the elements that are open around each.
-- Lists of rows and of tokens have the newest first: one row more is one step more.
use Rattle.std.specs.Prelude.{ℕ, zero, suc, List, [], ◌∷◌, ◌++◌, map, length, Some, None, Option}
use mathlib.Core.List.{tail}
use Rattle.text.specs.Bytes.{Bytes}
use Rattle.record.specs.declared.row.Row.{Row}
use Rattle.record.specs.declared.row.PlacedRow.{PlacedRow}
use Rattle.record.specs.declared.row.Kind.{Kind}
use Rattle.record.specs.declared.row.Kind.TheVariants.{Start, Declaration, Attribute, Text, End}
use Rattle.record.specs.Rows.{kind_of}
use Rattle.file.specs.Form.{text_at}

-- a declaration, with what its numbers name
pub record Decl : Type 0 where
  pub placed : PlacedRow
  pub prefix : Bytes
  pub namespace : Bytes

pub record Attr : Type 0 where
  pub placed : PlacedRow
  pub namespace : Bytes
  pub name : Bytes
  pub value : Bytes

-- a start with the declarations and attributes that directly follow it
pub record Tag : Type 0 where
  pub placed : PlacedRow
  pub namespace : Bytes
  pub name : Bytes
  pub decls : List Decl
  pub attrs : List Attr

pub data Token : Type 0 where
  tag : Tag → Token
  text : PlacedRow → Token
  end : PlacedRow → Token

unfoldable pub start_of : List Bytes → PlacedRow → Tag
start_of texts x =
    record { placed = x; namespace = text_at texts x.row.a; name = text_at texts x.row.b; decls = []; attrs = [] }

unfoldable pub decl_of : List Bytes → PlacedRow → Decl
decl_of texts x = record { placed = x; prefix = text_at texts x.row.a; namespace = text_at texts x.row.b }

unfoldable pub attr_of : List Bytes → PlacedRow → Attr
attr_of texts x =
    record { placed = x; namespace = text_at texts x.row.a; name = text_at texts x.row.b; value = text_at texts x.row.c }

unfoldable pub with_decl : Decl → Tag → Tag
with_decl d t =
    record { placed = t.placed; namespace = t.namespace; name = t.name; decls = t.decls ++ (d ∷ []); attrs = t.attrs }

unfoldable pub with_attr : Attr → Tag → Tag
with_attr x t =
    record { placed = t.placed; namespace = t.namespace; name = t.name; decls = t.decls; attrs = t.attrs ++ (x ∷ []) }

-- a tag that is the newest token takes in what directly follows it
unfoldable pub on_top : (Tag → Tag) → List Token → List Token
on_top f [] = []
on_top f (tag t ∷ past) = tag (f t) ∷ past
on_top f (text x ∷ past) = text x ∷ past
on_top f (end x ∷ past) = end x ∷ past

unfoldable pub add : Option Kind → List Bytes → PlacedRow → List Token → List Token
add (Some Start) texts x past = tag (start_of texts x) ∷ past
add (Some Declaration) texts x past = on_top (with_decl (decl_of texts x)) past
add (Some Attribute) texts x past = on_top (with_attr (attr_of texts x)) past
add (Some Text) texts x past = text x ∷ past
add (Some End) texts x past = end x ∷ past
add None texts x past = past

unfoldable pub placed_at : ℕ → Row → PlacedRow
placed_at place row = record { place = place; row = row }

unfoldable pub tokens : List Bytes → List Row → List Token
tokens texts [] = []
tokens texts (r ∷ past) = add (kind_of r.kind) texts (placed_at (length past) r) (tokens texts past)

-- The direct children, youngest first, of the innermost element that is open after these tokens, once depth more elements are open in it.
unfoldable pub children : ℕ → List Token → List Tag
children depth [] = []
children depth (text x ∷ past) = children depth past
children depth (end x ∷ past) = children (suc depth) past
children zero (tag t ∷ past) = []
children (suc zero) (tag t ∷ past) = t ∷ children zero past
children (suc (suc depth)) (tag t ∷ past) = children (suc depth) past

-- an element: its tag and the tags of its elder siblings, youngest first
pub record Element : Type 0 where
  pub tag : Tag
  pub elder : List Tag

unfoldable pub element : Tag → List Tag → Element
element t elder = record { tag = t; elder = elder }

-- the elements that are open after these tokens, innermost first
unfoldable pub around : List Token → List Element
around [] = []
around (tag t ∷ past) = element t (children zero past) ∷ around past
around (text x ∷ past) = around past
around (end x ∷ past) = tail (around past)

-- all rows of a tag
unfoldable pub decl_row : Decl → PlacedRow
decl_row d = d.placed

unfoldable pub attr_row : Attr → PlacedRow
attr_row x = x.placed

unfoldable pub tag_rows : Tag → List PlacedRow
tag_rows t = t.placed ∷ (map decl_row t.decls ++ map attr_row t.attrs)

-- opens the definitions of this file, for a proof that computes
unfoldable pub open_elements : Unit {0}
unfolding start_of decl_of attr_of with_decl with_attr on_top add placed_at tokens children element around decl_row attr_row tag_rows
open_elements = tt
