-- A row stands in one place.
use Rattle.std.proofs.Common.{◌≡◌, ℕ, suc, ◌<◌, ◌≤◌, List, [], ◌∷◌, ◌++◌, map, length, Some, None, Option, sym, ◌∙◌, subst, inl, inr, arith}
use Rattle.std.proofs.lemmas.List.{map-append}
use Rattle.text.specs.Bytes.{Bytes}
use Rattle.record.specs.declared.row.Row.{Row}
use Rattle.record.specs.declared.row.PlacedRow.{PlacedRow}
use Rattle.record.specs.declared.row.Kind.{Kind}
use Rattle.record.specs.declared.row.Kind.TheVariants.{Start, Declaration, Attribute, Text, End}
use Rattle.record.specs.Rows.{kind_of}
use Rattle.rules.specs.Elements.{Decl, Attr, Tag, Token, tag, text, end, start_of, decl_of, attr_of, with_decl, with_attr, on_top, add, placed_at, tokens, Element, decl_row, attr_row, tag_rows}
use Rattle.rules.specs.Lists.{In}
use Rattle.rules.specs.Laws.{Stands, StandsOnly}
use Rattle.rules.proofs.Rows.{rows_of}

-- the places of these rows are from m on, and below n
abbrev Within : ℕ → ℕ → List PlacedRow → Type 0
Within m n [] = Unit {0}
Within m n (x ∷ xs) = ((m ≤ x.place) × (x.place < n)) × Within m n xs

within_append : (m n : ℕ) (a b : List PlacedRow) → Within m n a → Within m n b → Within m n (a ++ b)
within_append m n [] b h k = k
within_append m n (x ∷ a) b h k = (h.0, within_append m n a b h.1 k)

within-left : (m n : ℕ) (a b : List PlacedRow) → Within m n (a ++ b) → Within m n a
within-left m n [] b h = tt
within-left m n (x ∷ a) b h = (h.0, within-left m n a b h.1)

within_right : (m n : ℕ) (a b : List PlacedRow) → Within m n (a ++ b) → Within m n b
within_right m n [] b h = h
within_right m n (x ∷ a) b h = within_right m n a b h.1

within_in : (m n : ℕ) (x : PlacedRow) (xs : List PlacedRow) → Within m n xs → In x xs → (m ≤ x.place) × (x.place < n)
within_in m n x [] h i = absurd i
within_in m n x (y ∷ xs) h (inl e) = subst (λ (z : PlacedRow). (m ≤ z.place) × (z.place < n)) (sym e) h.0
within_in m n x (y ∷ xs) h (inr i) = within_in m n x xs h.1 i

within_more : (m n k : ℕ) (xs : List PlacedRow) → n ≤ k → Within m n xs → Within m k xs
within_more m n k [] l h = tt
within_more m n k (x ∷ xs) l h = let a = h.0.0 in let b = h.0.1 in ((omega arith, omega arith), within_more m n k xs l h.1)

-- each token's places are below n and behind those of the tokens before it
abbrev Apart : ℕ → List Token → Type 0
Apart n [] = Unit {0}
Apart n (t ∷ past) = (m : ℕ) × (m ≤ n) × Within m n (rows_of t) × Apart m past

apart_more : (n k : ℕ) (toks : List Token) → n ≤ k → Apart n toks → Apart k toks
apart_more n k [] l h = tt
apart_more n k (t ∷ past) l h = let a = h.1 in (h.0, omega arith, within_more h.0 n k (rows_of t) l h.2, h.3)

with_decl_lem : (m n : ℕ) (d : Decl) (t : Tag) → Within m n (decl_row d ∷ []) → Within m n (tag_rows t) → Within m n (tag_rows (with_decl d t))
unfolding tag_rows with_decl
with_decl_lem m n d t one h =
    let a = within-left m n (map decl_row t.decls) (map attr_row t.attrs) h.1 in
    let b = within_right m n (map decl_row t.decls) (map attr_row t.attrs) h.1 in
    (h.0, within_append m n _ _ (rw (map-append decl_row t.decls (d ∷ [])) (within_append m n _ _ a one)) b)

with_attr_lem : (m n : ℕ) (x : Attr) (t : Tag) → Within m n (attr_row x ∷ []) → Within m n (tag_rows t) → Within m n (tag_rows (with_attr x t))
unfolding tag_rows with_attr
with_attr_lem m n x t one h =
    let a = within-left m n (map decl_row t.decls) (map attr_row t.attrs) h.1 in
    let b = within_right m n (map decl_row t.decls) (map attr_row t.attrs) h.1 in
    (h.0, within_append m n _ _ a (rw (map-append attr_row t.attrs (x ∷ [])) (within_append m n _ _ b one)))

on-top : (n : ℕ) (f : Tag → Tag) → ((m : ℕ) (t : Tag) → m ≤ n → Within m (suc n) (tag_rows t) → Within m (suc n) (tag_rows (f t)))
    → (toks : List Token) → Apart n toks → Apart (suc n) (on_top f toks)
unfolding on_top rows_of
on-top n f g [] h = tt
on-top n f g (tag t ∷ past) h = let l = h.1 in (h.0, omega arith, g h.0 t l (within_more h.0 n (suc n) (tag_rows t) (omega arith) h.2), h.3)
on-top n f g (text x ∷ past) h = apart_more n (suc n) (text x ∷ past) (omega arith) (unfold rows_of in h)
on-top n f g (end x ∷ past) h = apart_more n (suc n) (end x ∷ past) (omega arith) (unfold rows_of in h)

apart-add : (k : Option Kind) (texts : List Bytes) (n : ℕ) (r : Row) (toks : List Token) → Apart n toks
    → Apart (suc n) (add k texts (placed_at n r) toks)
unfolding add rows_of tag_rows decl_row attr_row placed_at start_of decl_of attr_of
apart-add (Some Start) texts n r toks h = (n, omega arith, ((omega arith, omega arith), tt), h)
apart-add (Some Declaration) texts n r toks h = on-top n _ (λ m t l. with_decl_lem m (suc n) _ t ((l, omega arith), tt)) toks h
apart-add (Some Attribute) texts n r toks h = on-top n _ (λ m t l. with_attr_lem m (suc n) _ t ((l, omega arith), tt)) toks h
apart-add (Some Text) texts n r toks h = (n, omega arith, ((omega arith, omega arith), tt), h)
apart-add (Some End) texts n r toks h = (n, omega arith, ((omega arith, omega arith), tt), h)
apart-add None texts n r toks h = apart_more n (suc n) toks (omega arith) h

apart : (texts : List Bytes) (rows : List Row) → Apart (length rows) (tokens texts rows)
unfolding tokens
apart texts [] = tt
apart texts (r ∷ past) = apart-add (kind_of r.kind) texts (length past) r (tokens texts past) (apart texts past)

stands-below : (n : ℕ) (x : PlacedRow) (at : List Element) (toks : List Token) → Apart n toks → Stands x at toks → x.place < n
unfolding rows_of
stands-below n x at [] a s = absurd s
stands-below n x at (tag t ∷ past) a (inl s) = (within_in a.0 n x (tag_rows t) a.2 s.0).1
stands-below n x at (tag t ∷ past) a (inr s) = let h = stands-below a.0 x at past a.3 s in let l = a.1 in omega arith
stands-below n x at (text y ∷ past) a (inl s) = (within_in a.0 n x (y ∷ []) a.2 (inl s.0)).1
stands-below n x at (text y ∷ past) a (inr s) = let h = stands-below a.0 x at past a.3 s in let l = a.1 in omega arith
stands-below n x at (end y ∷ past) a (inl s) = (within_in a.0 n x (y ∷ []) a.2 (inl s.0)).1
stands-below n x at (end y ∷ past) a (inr s) = let h = stands-below a.0 x at past a.3 s in let l = a.1 in omega arith

-- a row of the newest token stands in no older one
newer : (n m : ℕ) (x : PlacedRow) (xs : List PlacedRow) (at : List Element) (past : List Token) → Within m n xs → In x xs → Apart m past
    → Stands x at past → ⊥
newer n m x xs at past w i a s =
    let h = (within_in m n x xs w i).0 in
    let k = stands-below m x at past a s in
    omega arith

once : (n : ℕ) (x : PlacedRow) (at other : List Element) (toks : List Token) → Apart n toks → Stands x at toks → Stands x other toks
    → other ≡ at
unfolding rows_of
once n x at other [] a s z = absurd s
once n x at other (tag t ∷ past) a (inl s) (inl z) = z.1 ∙ sym s.1
once n x at other (tag t ∷ past) a (inl s) (inr z) = absurd (newer n a.0 x (tag_rows t) other past a.2 s.0 a.3 z)
once n x at other (tag t ∷ past) a (inr s) (inl z) = absurd (newer n a.0 x (tag_rows t) at past a.2 z.0 a.3 s)
once n x at other (tag t ∷ past) a (inr s) (inr z) = once a.0 x at other past a.3 s z
once n x at other (text y ∷ past) a (inl s) (inl z) = z.1 ∙ sym s.1
once n x at other (text y ∷ past) a (inl s) (inr z) = absurd (newer n a.0 x (y ∷ []) other past a.2 (inl s.0) a.3 z)
once n x at other (text y ∷ past) a (inr s) (inl z) = absurd (newer n a.0 x (y ∷ []) at past a.2 (inl z.0) a.3 s)
once n x at other (text y ∷ past) a (inr s) (inr z) = once a.0 x at other past a.3 s z
once n x at other (end y ∷ past) a (inl s) (inl z) = z.1 ∙ sym s.1
once n x at other (end y ∷ past) a (inl s) (inr z) = absurd (newer n a.0 x (y ∷ []) other past a.2 (inl s.0) a.3 z)
once n x at other (end y ∷ past) a (inr s) (inl z) = absurd (newer n a.0 x (y ∷ []) at past a.2 (inl z.0) a.3 s)
once n x at other (end y ∷ past) a (inr s) (inr z) = once a.0 x at other past a.3 s z

pub stands_only : (x : PlacedRow) (at : List Element) (texts : List Bytes) (rows : List Row) → Stands x at (tokens texts rows)
    → StandsOnly x at (tokens texts rows)
stands_only x at texts rows s = (s, λ other z. once (length rows) x at other (tokens texts rows) (apart texts rows) s z)

pub stands_on : (x : PlacedRow) (at : List Element) (t : Token) (past : List Token) → Stands x at past → Stands x at (t ∷ past)
stands_on x at (tag t) past h = inr h
stands_on x at (text y) past h = inr h
stands_on x at (end y) past h = inr h
