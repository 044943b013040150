-- The rows of tokens are the rows of the record, each where its kind puts it.
use Rattle.std.proofs.Common.{◌≡◌, ℕ, suc, true, not, List, [], ◌∷◌, ◌++◌, map, length, Some, None, Option, sym, refl, ap, ◌∙◌, subst, append_assoc, append-nil, arith}
use mathlib.Core.Bool.{false≢true}
use Rattle.std.proofs.lemmas.Bool.{not-false}
use Rattle.std.proofs.lemmas.List.{map-append}
use Rattle.text.specs.Bytes.{Bytes}
use Rattle.record.specs.declared.row.Row.{Row}
use Rattle.record.specs.declared.row.PlacedRow.{PlacedRow}
use Rattle.record.specs.declared.row.Kind.{Kind}
use Rattle.record.specs.declared.row.Kind.TheVariants.{Start, Declaration, Attribute, Text, End}
use Rattle.record.specs.Rows.{kind_of}
use Rattle.file.specs.Form.{text_at}
use Rattle.rules.specs.Elements.{Decl, Attr, Tag, Token, tag, text, end, start_of, decl_of, attr_of, with_decl, with_attr, on_top, add, placed_at, tokens, decl_row, attr_row, tag_rows}
use Rattle.rules.specs.Order.{is_well_formed, is_in_order, on_tag, has_no_attrs, row_faults, Accepted}
use Rattle.rules.specs.Lists.{RisesFrom, placed_rows}
use Rattle.rules.proofs.Members.{left_nil, right_nil, no_fault, AllBelow, below_push, rises_push}

unfoldable pub rows_of : Token → List PlacedRow
rows_of (tag t) = tag_rows t
rows_of (text x) = x ∷ []
rows_of (end x) = x ∷ []

unfoldable pub all_rows : List Token → List PlacedRow
all_rows [] = []
all_rows (t ∷ past) = all_rows past ++ rows_of t

push_attr : (x : Attr) (t : Tag) → tag_rows (with_attr x t) ≡ tag_rows t ++ (attr_row x ∷ [])
unfolding tag_rows with_attr
push_attr x t =
    ap (λ l. t.placed ∷ l)
    (ap (λ l. map decl_row t.decls ++ l) (map-append attr_row t.attrs (x ∷ []))
    ∙ sym (append_assoc (map decl_row t.decls) (map attr_row t.attrs) (attr_row x ∷ [])))

push_decl : (d : Decl) (t : Tag) → t.attrs ≡ [] → tag_rows (with_decl d t) ≡ tag_rows t ++ (decl_row d ∷ [])
unfolding tag_rows with_decl
push_decl d t e =
    ap (λ l. t.placed ∷ l)
    (ap (λ xs. map decl_row (t.decls ++ (d ∷ [])) ++ map attr_row xs) e ∙ append-nil _ ∙ map-append decl_row t.decls (d ∷ [])
    ∙ ap (λ l. l ++ (decl_row d ∷ [])) (sym (ap (λ xs. map decl_row t.decls ++ map attr_row xs) e ∙ append-nil _)))

no_attrs : (xs : List Attr) → has_no_attrs xs ≡ true → xs ≡ []
unfolding has_no_attrs
no_attrs xs h = grind arith

grown : (k : Option Kind) (texts : List Bytes) (x : PlacedRow) (past : List Token) → is_in_order k past ≡ true
    → all_rows (add k texts x past) ≡ all_rows past ++ (x ∷ [])
unfolding add on_top all_rows rows_of tag_rows decl_row attr_row start_of decl_of attr_of is_in_order on_tag
grown (Some Start) texts x past f = refl
grown (Some Text) texts x past f = refl
grown (Some End) texts x past f = refl
grown (Some Declaration) texts x [] f = absurd (false≢true f)
grown (Some Declaration) texts x (tag t ∷ past) f =
    ap (λ l. all_rows past ++ l) (push_decl _ t (no_attrs t.attrs f)) ∙ sym (append_assoc (all_rows past) (tag_rows t) (x ∷ []))
grown (Some Declaration) texts x (text y ∷ past) f = absurd (false≢true f)
grown (Some Declaration) texts x (end y ∷ past) f = absurd (false≢true f)
grown (Some Attribute) texts x [] f = absurd (false≢true f)
grown (Some Attribute) texts x (tag t ∷ past) f = ap (λ l. all_rows past ++ l) (push_attr _ t) ∙ sym (append_assoc (all_rows past) (tag_rows t) (x ∷ []))
grown (Some Attribute) texts x (text y ∷ past) f = absurd (false≢true f)
grown (Some Attribute) texts x (end y ∷ past) f = absurd (false≢true f)
grown None texts x past f = absurd (false≢true f)

in_order : (texts : List Bytes) (past : List Row) (r : Row) → row_faults texts past r ≡ []
    → is_in_order (kind_of r.kind) (tokens texts past) ≡ true
unfolding row_faults
in_order texts past r e =
    not-false _ (no_fault (not (is_in_order (kind_of r.kind) (tokens texts past))) _ (right_nil _ _ (left_nil _ _ (left_nil _ _ e))))

pub well_formed_lem : (texts : List Bytes) (past : List Row) (r : Row) → row_faults texts past r ≡ [] → is_well_formed texts r ≡ true
unfolding row_faults
well_formed_lem texts past r e = not-false _ (no_fault (not (is_well_formed texts r)) _ (left_nil _ _ (left_nil _ _ (left_nil _ _ e))))

pub all_rows_lem : (texts : List Bytes) (rows : List Row) → Accepted texts rows → all_rows (tokens texts rows) ≡ placed_rows rows
unfolding tokens placed_rows all_rows
all_rows_lem texts [] w = refl
all_rows_lem texts (r ∷ past) w =
    grown (kind_of r.kind) texts (placed_at (length past) r) (tokens texts past) (in_order texts past r w.0)
    ∙ ap (λ l. l ++ (placed_at (length past) r ∷ [])) (all_rows_lem texts past w.1)

unfoldable pub place_in : PlacedRow → ℕ
place_in x = x.place

places_push : (r : Row) (past : List Row) → map place_in (placed_rows (r ∷ past)) ≡ map place_in (placed_rows past) ++ (length past ∷ [])
unfolding placed_rows place_in placed_at
places_push r past = map-append place_in (placed_rows past) (placed_at (length past) r ∷ [])

places-below : (rows : List Row) → AllBelow (length rows) (map place_in (placed_rows rows))
places-below [] = unfold placed_rows in tt
places-below (r ∷ past) = subst (AllBelow (suc (length past))) (sym (places_push r past)) (below_push (length past) _ (places-below past))

pub places_rise : (rows : List Row) → RisesFrom 0 (map place_in (placed_rows rows))
places_rise [] = unfold placed_rows in tt
places_rise (r ∷ past) =
    subst (RisesFrom 0) (sym (places_push r past)) (rises_push 0 (length past) _ (places_rise past) (places-below past) (omega arith))

-- Each token says what its rows say.

abbrev pub IsKind : Kind → PlacedRow → Type 0
IsKind k x = kind_of x.row.kind ≡ Some k

abbrev pub DeclsTrue : List Decl → Type 0
DeclsTrue [] = Unit {0}
DeclsTrue (d ∷ ds) = IsKind Declaration d.placed × DeclsTrue ds

abbrev pub AttrsTrue : List Bytes → List Attr → Type 0
AttrsTrue texts [] = Unit {0}
AttrsTrue texts (x ∷ xs) = (IsKind Attribute x.placed × (x.namespace ≡ text_at texts x.placed.row.a)) × AttrsTrue texts xs

abbrev pub TokenTrue : List Bytes → Token → Type 0
TokenTrue texts (tag t) =
    (IsKind Start t.placed × (t.namespace ≡ text_at texts t.placed.row.a)) × DeclsTrue t.decls × AttrsTrue texts t.attrs
TokenTrue texts (text x) = IsKind Text x
TokenTrue texts (end x) = IsKind End x

abbrev pub AllTrue : List Bytes → List Token → Type 0
AllTrue texts [] = Unit {0}
AllTrue texts (t ∷ past) = TokenTrue texts t × AllTrue texts past

decls_push : (ds : List Decl) (d : Decl) → DeclsTrue ds → IsKind Declaration d.placed → DeclsTrue (ds ++ (d ∷ []))
decls_push [] d h k = (k, tt)
decls_push (x ∷ ds) d h k = (h.0, decls_push ds d h.1 k)

attrs_push : (texts : List Bytes) (xs : List Attr) (x : Attr) → AttrsTrue texts xs
    → IsKind Attribute x.placed × (x.namespace ≡ text_at texts x.placed.row.a) → AttrsTrue texts (xs ++ (x ∷ []))
attrs_push texts [] x h k = (k, tt)
attrs_push texts (y ∷ xs) x h k = (h.0, attrs_push texts xs x h.1 k)

true-add : (k : Option Kind) (texts : List Bytes) (x : PlacedRow) (past : List Token) → kind_of x.row.kind ≡ k → AllTrue texts past
    → AllTrue texts (add k texts x past)
unfolding add on_top start_of decl_of attr_of with_decl with_attr
true-add (Some Start) texts x past e h = (((e, refl), tt, tt), h)
true-add (Some Declaration) texts x [] e h = tt
true-add (Some Declaration) texts x (tag t ∷ past) e h = ((h.0.0, decls_push t.decls _ h.0.1 e, h.0.2), h.1)
true-add (Some Declaration) texts x (text y ∷ past) e h = h
true-add (Some Declaration) texts x (end y ∷ past) e h = h
true-add (Some Attribute) texts x [] e h = tt
true-add (Some Attribute) texts x (tag t ∷ past) e h = ((h.0.0, h.0.1, attrs_push texts t.attrs _ h.0.2 (e, refl)), h.1)
true-add (Some Attribute) texts x (text y ∷ past) e h = h
true-add (Some Attribute) texts x (end y ∷ past) e h = h
true-add (Some Text) texts x past e h = (e, h)
true-add (Some End) texts x past e h = (e, h)
true-add None texts x past e h = h

pub all_true : (texts : List Bytes) (rows : List Row) → AllTrue texts (tokens texts rows)
unfolding tokens placed_at
all_true texts [] = tt
all_true texts (r ∷ past) = true-add (kind_of r.kind) texts (placed_at (length past) r) (tokens texts past) refl (all_true texts past)
