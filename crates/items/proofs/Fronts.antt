-- The items and parts of a byte string, by its longest front without a separator.
use Rattle.std.proofs.Common.{◌≡◌, ℕ, Bool, suc, ◌+◌, ◌<◌, min, true, false, cond, not, ◌||◌, eqb, List, [], ◌∷◌, length, take, drop, sym, refl, ap, ◌∙◌, one-add, arith}
use Rattle.std.specs.List.{prefix_len, list_any}
use Rattle.std.proofs.lemmas.List.Folds.{length-prefix_len}
use Rattle.text.specs.Bytes.{Bytes}
use Rattle.items.specs.Items.{is_empty, is_blank, is_colon, cut_at, parts, non_empty, items, has_colon, two_parts, prefix_part, local_part}

-- a byte of an item, and of an item's part
abbrev pub in_item : ℕ → Bool
in_item b = not (is_blank b)

abbrev pub in_part : ℕ → Bool
in_part b = not (is_colon b)

-- the parts behind a blank
tails : Bytes → List Bytes
tails [] = []
tails (b ∷ bs) = parts bs

parts-front : (s : Bytes) → parts s ≡ take (prefix_len in_item s) s ∷ tails (drop (prefix_len in_item s) s)
unfolding parts cut_at tails
parts-front [] = refl
parts-front (b ∷ bs) =
    elim (is_blank b) as (λ v. cut_at v b (parts bs) ≡ take (cond (not v) (1 + prefix_len in_item bs) 0) (b ∷ bs) ∷ tails (drop (cond (not v) (1 + prefix_len in_item bs) 0) (b ∷ bs)))
    [ true ↦ refl | false ↦ rw (one-add, parts-front bs) ]

rest-parts : (s : Bytes) → non_empty (tails (drop (prefix_len in_item s) s)) ≡ non_empty (parts (drop (prefix_len in_item s) s))
unfolding parts cut_at tails non_empty
rest-parts [] = refl
rest-parts (b ∷ bs) =
    elim (is_blank b) as (λ v. is_blank b ≡ v → non_empty (tails (drop (prefix_len in_item (b ∷ bs)) (b ∷ bs))) ≡ non_empty (parts (drop (prefix_len in_item (b ∷ bs)) (b ∷ bs))))
    [ true ↦ λ e. simp e | false ↦ λ e. simp (e, one-add) (rest-parts bs) ] refl

-- the first item of a string that begins with none of the blanks
item_first : (s : Bytes) → 0 < prefix_len in_item s → items s ≡ take (prefix_len in_item s) s ∷ items (drop (prefix_len in_item s) s)
unfolding items non_empty
item_first [] h = absurd (omega arith)
item_first (b ∷ bs) h =
    elim (is_blank b) as (λ v. is_blank b ≡ v → items (b ∷ bs) ≡ take (prefix_len in_item (b ∷ bs)) (b ∷ bs) ∷ items (drop (prefix_len in_item (b ∷ bs)) (b ∷ bs))) [
      | true ↦ λ e. absurd (let z : 0 < 0 = simp e at h in omega arith)
      | false ↦ λ e. ap non_empty (parts-front (b ∷ bs)) ∙ simp (e, one-add) (ap (λ (t : List Bytes). (b ∷ take (prefix_len in_item bs) bs) ∷ t) (rest-parts bs))
    ] refl

gap_first : (s : Bytes) → items s ≡ items (drop (prefix_len is_blank s) s)
unfolding items non_empty parts cut_at
gap_first [] = refl
gap_first (b ∷ bs) =
    elim (is_blank b) as (λ v. is_blank b ≡ v → items (b ∷ bs) ≡ items (drop (prefix_len is_blank (b ∷ bs)) (b ∷ bs)))
    [ true ↦ λ e. simp (e, one-add) (gap_first bs) | false ↦ λ e. simp e ] refl

-- behind a gap stands an item, or nothing
gap_none : (s : Bytes) → prefix_len in_item (drop (prefix_len is_blank s) s) ≡ 0 → items s ≡ []
unfolding items non_empty parts cut_at
gap_none [] h = refl
gap_none (b ∷ bs) h =
    elim (is_blank b) as (λ v. is_blank b ≡ v → items (b ∷ bs) ≡ [])
    [ true ↦ λ e. simp e (gap_none bs (simp (e, one-add) at h)) | false ↦ λ e. absurd (let z : 1 + prefix_len in_item bs ≡ 0 = simp e at h in omega arith) ] refl

-- one step of the list reader: a gap, then an item
module _ (s from item rest : Bytes) (f : from ≡ drop (prefix_len is_blank s) s) (i : item ≡ take (prefix_len in_item from) from) (r : rest ≡ drop (prefix_len in_item from) from) where
  item-length : length item ≡ prefix_len in_item from
  item-length = ap length i ∙ length-prefix_len in_item from

  pub next_some : 0 < length item → items s ≡ item ∷ items rest
  next_some h =
      let k : 0 < prefix_len in_item from = omega (arith, item-length) in
      gap_first s ∙ rw (← f, r, i) (item_first from k)

  pub next_none : length item ≡ 0 → (items s ≡ []) × (items rest ≡ [])
  next_none h =
      let z : prefix_len in_item from ≡ 0 = sym item-length ∙ h in
      let y : items s ≡ [] = gap_none s (ap (prefix_len in_item) (sym f) ∙ z) in
      (y, ap items (r ∙ ap (λ k. drop k from) z) ∙ ap items f ∙ sym (gap_first s) ∙ y)

pub any_colon : (s : Bytes) → has_colon s ≡ list_any is_colon s
unfolding has_colon
any_colon [] = refl
any_colon (b ∷ bs) = ap (λ (t : Bool). is_colon b || t) (any_colon bs)

pub prefix-front : (s : Bytes) → prefix_part s ≡ take (prefix_len in_part s) s
unfolding prefix_part two_parts
prefix-front [] = refl
prefix-front (b ∷ bs) =
    elim (is_colon b) as (λ v. (cond {A = Bytes × Bytes} v ([], bs) (b ∷ (two_parts bs).0, (two_parts bs).1)).0 ≡ take (cond (not v) (1 + prefix_len in_part bs) 0) (b ∷ bs))
    [ true ↦ refl | false ↦ rw one-add (ap (λ (t : Bytes). b ∷ t) (prefix-front bs)) ]

local_front : (s : Bytes) → local_part s ≡ drop 1 (drop (prefix_len in_part s) s)
unfolding local_part two_parts
local_front [] = refl
local_front (b ∷ bs) =
    elim (is_colon b) as (λ v. (cond {A = Bytes × Bytes} v ([], bs) (b ∷ (two_parts bs).0, (two_parts bs).1)).1 ≡ drop 1 (drop (cond (not v) (1 + prefix_len in_part bs) 0) (b ∷ bs)))
    [ true ↦ refl | false ↦ rw one-add (local_front bs) ]

drop-one : (s : Bytes) → drop 1 s ≡ drop (min (length s) 1) s
drop-one [] = refl
drop-one (b ∷ bs) = let e : min (suc (length bs)) 1 ≡ 1 = omega arith in rw e

pub local_rest : (s rest : Bytes) → rest ≡ drop (prefix_len in_part s) s → local_part s ≡ drop (min (length rest) 1) rest
local_rest s rest e = local_front s ∙ ap (drop 1) (sym e) ∙ drop-one rest

pub empty_length : (s : Bytes) → is_empty s ≡ eqb (length s) 0
unfolding is_empty
empty_length [] = refl
empty_length (b ∷ bs) = grind arith
