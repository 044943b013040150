-- Kept rows are rows of the record, in order, and well formed.
use Rattle.std.proofs.Common.{◌≡◌, Bool, true, false, ◌⊎◌, List, [], ◌∷◌, map, length, sym, subst, inl, inr}
use Rattle.text.specs.Bytes.{Bytes}
use Rattle.record.specs.declared.row.Row.{Row}
use Rattle.record.specs.declared.row.PlacedRow.{PlacedRow}
use Rattle.knowledge.specs.Understood.{Knows}
use Rattle.card.specs.Cards.{Name}
use Rattle.rules.specs.Elements.{Decl, Attr, Tag, Token, tag, text, end, placed_at, tokens, decl_row, attr_row, tag_rows}
use Rattle.rules.specs.Steps.{kept_decls, kept_attrs, kept_tag, tag_kept, kept_of, kept_rows}
use Rattle.rules.specs.Order.{is_well_formed, Accepted}
use Rattle.rules.specs.Records.{judged, draft}
use Rattle.rules.specs.Lists.{In, Sub, none, same, placed_rows}
use Rattle.rules.specs.Laws.{InOrderOf, KeptRowsRise, KeptRowsAreWellFormed}
use Rattle.rules.proofs.Members.{sub_refl, sub_none, sub_append, sub_left, sub_trans, sub_map, in_sub, in_append, when-one, rises_sub}
use Rattle.rules.proofs.Rows.{rows_of, all_rows, all_rows_lem, well_formed_lem, place_in, places_rise}

pub decls-part : (K : Knows) (igs : List Bytes) (ds : List Decl) → Sub PlacedRow (kept_decls K igs ds) (map decl_row ds)
unfolding kept_decls decl_row
decls-part K igs [] = none
decls-part K igs (d ∷ ds) = sub_append (when-one _ d.placed) (decls-part K igs ds)

pub attrs-part : (K : Knows) (igs : List Bytes) (xs : List Attr) → Sub PlacedRow (kept_attrs K igs xs) (map attr_row xs)
unfolding kept_attrs attr_row
attrs-part K igs [] = none
attrs-part K igs (x ∷ xs) = sub_append (when-one _ x.placed) (attrs-part K igs xs)

pub tag-part : (K : Knows) (igs : List Bytes) (t : Tag) → Sub PlacedRow (kept_tag K igs t) (tag_rows t)
unfolding kept_tag tag_rows
tag-part K igs t = same (sub_append (decls-part K igs t.decls) (attrs-part K igs t.attrs))

pub kept-part : (e k : Bool) (K : Knows) (igs : List Bytes) (t : Tag) → Sub PlacedRow (tag_kept K e k igs t) (tag_rows t)
unfolding tag_kept
kept-part true k K igs t = sub_refl _
kept-part false true K igs t = tag-part K igs t
kept-part false false K igs t = sub_none _

pub token_part : (K : Knows) (ext : List Name) (t : Token) (past : List Token) → Sub PlacedRow (kept_of K ext t past) (rows_of t)
unfolding kept_of rows_of
token_part K ext (tag t) past = kept-part _ _ K _ t
token_part K ext (text x) past = when-one _ x
token_part K ext (end x) past = when-one _ x

part : (K : Knows) (ext : List Name) (toks : List Token) → Sub PlacedRow (kept_rows K ext toks) (all_rows toks)
unfolding kept_rows all_rows
part K ext [] = none
part K ext (t ∷ past) = sub_append (part K ext past) (token_part K ext t past)

judged-rows : (toks : List Token) → Sub PlacedRow (all_rows (judged toks)) (all_rows toks)
unfolding judged all_rows
judged-rows [] = none
judged-rows (tag t ∷ past) = sub_left _ _
judged-rows (text x ∷ past) = sub_refl _
judged-rows (end x ∷ past) = sub_refl _

in_order : (texts : List Bytes) (rows : List Row) (some : List PlacedRow) → Accepted texts rows
    → Sub PlacedRow some (all_rows (tokens texts rows)) → InOrderOf rows some
unfolding place_in
in_order texts rows some w h =
    let s : Sub PlacedRow some (placed_rows rows) = subst (λ l. Sub PlacedRow some l) (all_rows_lem texts rows w) h in
    (s, rises_sub 0 (sub_map place_in s) (places_rise rows))

pub kept_rows_rise : KeptRowsRise
unfolding draft
kept_rows_rise texts K ext rows w = (
  in_order texts rows _ w (sub_trans (part K ext (judged (tokens texts rows))) (judged-rows (tokens texts rows))),
  in_order texts rows _ w (part K ext (tokens texts rows)),
)

rows_well_formed : (texts : List Bytes) (rows : List Row) → Accepted texts rows → (x : PlacedRow) → In x (placed_rows rows)
    → is_well_formed texts x.row ≡ true
unfolding placed_rows placed_at
rows_well_formed texts [] w x i = absurd i
rows_well_formed texts (r ∷ past) w x i = go (in_append x (placed_rows past) _ i) (rows_well_formed texts past w.1 x)
  where
    go : In x (placed_rows past) ⊎ In x (placed_at (length past) r ∷ []) → (In x (placed_rows past) → is_well_formed texts x.row ≡ true)
        → is_well_formed texts x.row ≡ true
    go (inl a) f = f a
    go (inr (inl a)) f = subst (λ (y : PlacedRow). is_well_formed texts y.row ≡ true) (sym a) (well_formed_lem texts past r w.0)
    go (inr (inr a)) f = absurd a

pub kept_rows_are_well_formed : KeptRowsAreWellFormed
kept_rows_are_well_formed texts K ext rows w x i = rows_well_formed texts rows w x (in_sub x (kept_rows_rise texts K ext rows w).1.0 i)
