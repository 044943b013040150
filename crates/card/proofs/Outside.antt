-- An extension list names no element of MC, since a row that did would be wrong.
use Rattle.std.proofs.Common.{◌≡◌, ℕ, ◌+◌, Bool, true, false, cond, not, ◌&&◌, ◌||◌, eqb, eqb-true, List, [], ◌∷◌, map, Some, None, Option, filter, sym, refl, ap, ◌∙◌, subst}
use Rattle.std.specs.Str.{bytes_eq}
use Rattle.std.proofs.lemmas.Bool.{false≢true}
use Rattle.std.proofs.lemmas.Slice.Eq.{bytes_eq-Decides}
use Rattle.text.specs.Bytes.{Bytes}
use Rattle.text.specs.Names.{in_mc}
use Rattle.record.specs.declared.row.Row.{Row}
use Rattle.file.specs.Form.{text_at}
use Rattle.file.specs.Files.{held}
use Rattle.card.specs.Rows.{first_at, some}
use Rattle.card.specs.Cards.{Name, OutsideMc, right_extension, right_row, wrong_row, right_name, right_stem, of_kind, extensions, on_list}
use Rattle.card.specs.declared.extensions.Extensions.{Extensions}
use Rattle.card.proofs.Finds.{some_more}

-- what a row 23 must be
picked : (n : ℕ) (a b c : Bool) → n ≡ 23 → not (cond (eqb n 21) a (cond (eqb n 22) b (cond (eqb n 23) c false))) ≡ false → c ≡ true
picked n a b c e h = at_it c (subst (λ (m : ℕ). not (cond (eqb m 21) a (cond (eqb m 22) b (cond (eqb m 23) c false))) ≡ false) e h)
  where
    at_it : (v : Bool) → not v ≡ false → v ≡ true
    at_it true q = refl
    at_it false q = absurd (false≢true (sym q))

and_left : (a b : Bool) → (a && b) ≡ true → a ≡ true
and_left true b h = refl
and_left false b h = h

second : (a m b : Bool) → (a && (not m && b)) ≡ true → m ≡ false
second true true b h = absurd (false≢true h)
second true false b h = refl
second false m b h = absurd (false≢true h)

-- a row 23 that is not wrong
row_outside : (texts : List Bytes) (row : Row) → eqb row.kind 23 ≡ true → wrong_row texts row ≡ false → in_mc (text_at texts row.a) ≡ false
unfolding wrong_row right_row right_extension
row_outside texts row k w =
    second _ _ _ (picked row.kind (right_name texts row) (right_stem texts row) (right_extension texts row) (eqb-true row.kind 23 k) w)

either : {P : Type 0} (a b : Bool) → (a ≡ true → P) → (b ≡ true → P) → (a || b) ≡ true → P
either true b f g h = f refl
either false b f g h = g h

abbrev name_of : List Bytes → Row → Name
name_of texts row = (text_at texts row.a, text_at texts row.b)

-- the names of the rows 23
abbrev names_of : List Bytes → List Row → List Name
names_of texts rows = map (name_of texts) (filter (λ (row : Row). eqb row.kind 23) rows)

module _ (namespace local : Bytes) where
  abbrev is_it : Name → Bool
  is_it name = bytes_eq name.0 namespace && bytes_eq name.1 local

  -- one row more
  row_more : (texts : List Bytes) (row : Row) (rows : List Row) (w e : Bool) → wrong_row texts row ≡ w → eqb row.kind 23 ≡ e → w ≡ false
      → (some is_it (names_of texts rows) ≡ true → in_mc namespace ≡ false)
      → some is_it (map (name_of texts) (cond e (row ∷ filter (λ (row : Row). eqb row.kind 23) rows) (filter (λ (row : Row). eqb row.kind 23) rows))) ≡ true
      → in_mc namespace ≡ false
  row_more texts row rows w false is_w is_e r behind s = behind s
  row_more texts row rows w true is_w is_e r behind s =
      either (is_it (name_of texts row)) (some is_it (names_of texts rows)) (λ q.
      let same : text_at texts row.a ≡ namespace = (bytes_eq-Decides _ _).0 (and_left _ _ q) in
      ap in_mc (sym same) ∙ row_outside texts row is_e (is_w ∙ r))
      behind (sym (some_more is_it (name_of texts row) (names_of texts rows)) ∙ s)

  -- rows of which none is wrong
  rows_outside : (texts : List Bytes) (rows : List Row) (k : ℕ) → first_at (wrong_row texts) k rows ≡ None → some is_it (names_of texts rows) ≡ true → in_mc namespace ≡ false
  unfolding first_at
  rows_outside texts [] k right h = absurd (false≢true h)
  rows_outside texts (row ∷ rows) k right h =
      row_more texts row rows (wrong_row texts row) (eqb row.kind 23) refl refl (none_left (wrong_row texts row) (first_at (wrong_row texts) (k + 1) rows) right)
      (rows_outside texts rows (k + 1) (none_right (wrong_row texts row) (first_at (wrong_row texts) (k + 1) rows) right)) h
    where
      none_left : (w : Bool) (rest : Option ℕ) → cond w (Some k) rest ≡ None → w ≡ false
      none_left true rest q = cc
      none_left false rest q = refl

      none_right : (w : Bool) (rest : Option ℕ) → cond w (Some k) rest ≡ None → rest ≡ None
      none_right true rest q = cc
      none_right false rest q = q

-- the list of a card
pub extensions_outside : (e : Extensions) → OutsideMc (extensions (held e.card))
unfolding extensions of_kind on_list
extensions_outside e namespace local = rows_outside namespace local (held e.card).texts (held e.card).rows 0 e.right
