-- One entry more in scope.
use Rattle.std.proofs.Common.{◌≡◌, suc, ◌+◌, ◌-◌, List, [], ◌∷◌, ◌++◌, map, reverse, length, take, drop, Some, None, Option, refl, ap, ◌∙◌, append_assoc, add-one, arith}
use mathlib.Core.List.{reverse-cons}
use Rattle.std.proofs.lemmas.List.{map_push, reverse-append, length_push, length-append, take_at, drop_at}
use Rattle.text.specs.Bytes.{Bytes}
use Rattle.std.specs.Option.{option_map}
use Rattle.items.specs.Items.{prefix_part, local_part}
use Rattle.rules.specs.Scope.{Binding, bound, cons_some}
use Rattle.scope.specs.Entries.{space_of, local_of, pair_of, processed_of}
use Rattle.scope.specs.declared.entries.Pair.{Pair}

pub counted : {X : Type 0} (xs ys : List X) (x : X) → ys ≡ xs ++ x ∷ [] → length ys ≡ suc (length xs)
counted xs ys x e = ap length e ∙ length_push xs x ∙ add-one (length xs)

-- an entry is added at the end, and stands first in what the entries mean
pub meant_push : {X Y : Type 0} (f : X → Y) (xs : List X) (x : X) → reverse (map f (xs ++ x ∷ [])) ≡ f x ∷ reverse (map f xs)
meant_push f xs x = ap reverse (map_push f xs x) ∙ reverse-append (map f xs) (f x ∷ [])

-- what an entry more means, between the items behind it and the entries before it
pub turned : {X : Type 0} (o : Option X) (xs ys : List X) → reverse (cons_some o xs) ++ ys ≡ reverse xs ++ cons_some o ys
unfolding cons_some
turned None xs ys = refl
turned {X} (Some x) xs ys = ap (λ (t : List X). t ++ ys) (reverse-cons x xs) ∙ append_assoc (reverse xs) (x ∷ []) ys

-- where a part stands, by its length and the length of what stands behind it
pub placed : (v w g l r : Bytes) → v ≡ w → v ≡ g ++ (l ++ r)
    → take ((length v - length r) - ((length v - length r) - length l)) (drop ((length v - length r) - length l) w) ≡ l
placed v w g l r q e =
    let n : length v ≡ length g + (length l + length r) = ap length e ∙ length-append g (l ++ r) ∙ ap (λ k. length g + k) (length-append l r) in
    let a : (length v - length r) - length l ≡ length g = omega arith in
    let b : (length v - length r) - length g ≡ length l = omega arith in
    rw (a, b, ← q, e) (ap (take (length l)) (drop_at g (l ++ r) (length g) refl) ∙ take_at l r (length l) refl)

-- a value, what of it is unread before an item and behind it, and the item's local name
pub behind_item : (v s i r a b : Bytes) → v ≡ a ++ s → s ≡ b ++ (i ++ r) → v ≡ (a ++ (b ++ i)) ++ r
behind_item v s i r a b e f = e ∙ ap (λ (t : Bytes). a ++ t) f ∙ simp append_assoc

pub around_local : (v s i r l a b d : Bytes) → v ≡ a ++ s → s ≡ b ++ (i ++ r) → i ≡ d ++ l → v ≡ (a ++ (b ++ d)) ++ (l ++ r)
around_local v s i r l a b d e f h = e ∙ ap (λ (t : Bytes). a ++ t) (f ∙ ap (λ (t : Bytes). b ++ (t ++ r)) h) ∙ simp append_assoc

-- an item of ProcessContent that passed, as a pair
pub pair_entered : (texts : List Bytes) (bindings : List Binding) (item : Bytes) (pairs after : List Pair) (p : Pair)
    → after ≡ pairs ++ p ∷ [] → bound bindings (prefix_part item) ≡ Some (space_of texts p.space) → local_of texts p ≡ local_part item
    → processed_of texts after ≡ cons_some (option_map (λ (ns : Bytes). (ns, local_part item)) (bound bindings (prefix_part item))) (processed_of texts pairs)
unfolding processed_of cons_some
pair_entered texts bindings item pairs after p more b l =
    ap (λ (t : List Pair). reverse (map (pair_of texts) t)) more ∙ meant_push (pair_of texts) pairs p
    ∙ rw (b, ← l)
