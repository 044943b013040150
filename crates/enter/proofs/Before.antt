-- What was in scope before: the eldest entries.
use Rattle.std.proofs.Common.{◌≡◌, ℕ, ◌+◌, ◌-◌, ◌≤◌, List, ◌++◌, map, reverse, length, take, drop, sym, refl, ap, ◌∙◌, arith}
use Rattle.std.proofs.lemmas.List.{map-append, reverse-append, length-map, length-reverse, length-append, length-drop, take-append-drop, drop_at, drop-drop}
use Rattle.text.specs.Bytes.{Bytes}
use Rattle.rules.specs.Elements.{Tag}
use Rattle.rules.specs.Scope.{Scope, scope_with, bindings_with, ignorables_with, processed_with}
use Rattle.scope.specs.declared.entries.Bound.{Bound}
use Rattle.scope.specs.declared.entries.Mark.{Mark}
use Rattle.scope.specs.declared.entries.Pair.{Pair}
use Rattle.scope.specs.Entries.{binding_of, bindings_of, mark_of, ignorables_of, pair_of, processed_of, scope_from}
use Rattle.enter.specs.declared.in_scope.InScope.{InScope}
use Rattle.enter.specs.declared.in_scope.Lengths.{Lengths}
use Rattle.enter.specs.Scopes.{scope_of, lengths_of, sizes, eldest, scope_before}

-- the eldest entries are the first of a list in memory
pub eldest_meant : {X Y : Type 0} (f : X → Y) (n : ℕ) (xs : List X) → reverse (map f (take n xs)) ≡ eldest n (reverse (map f xs))
unfolding eldest
eldest_meant {X} {Y} f n xs =
    let e : reverse (map f xs) ≡ reverse (map f (drop n xs)) ++ reverse (map f (take n xs)) =
    ap (λ (l : List X). reverse (map f l)) (sym (take-append-drop n xs)) ∙ ap reverse (map-append f (take n xs) (drop n xs))
    ∙ reverse-append (map f (take n xs)) (map f (drop n xs)) in
    let k : length (reverse (map f (drop n xs))) ≡ length (reverse (map f xs)) - n = simp (length-reverse, length-map, length-drop) in
    sym (ap (drop (length (reverse (map f xs)) - n)) e ∙ drop_at (reverse (map f (drop n xs))) (reverse (map f (take n xs))) _ k)

-- newer entries are none of the eldest
pub eldest_append : {X : Type 0} (n : ℕ) (ys xs : List X) → n ≤ length xs → eldest n (ys ++ xs) ≡ eldest n xs
unfolding eldest
eldest_append {X} n ys xs le =
    let k : length (ys ++ xs) - n ≡ length ys + (length xs - n) = simp length-append (omega arith) in
    ap (λ i. drop i (ys ++ xs)) k ∙ sym (drop-drop (length xs - n) (length ys) (ys ++ xs))
    ∙ ap (drop (length xs - n)) (drop_at ys xs (length ys) refl)

pub eldest-eldest : {X : Type 0} (n m : ℕ) (xs : List X) → n ≤ m → eldest n (eldest m xs) ≡ eldest n xs
unfolding eldest
eldest-eldest {X} n m xs le =
    drop-drop (length (drop (length xs - m) xs) - n) (length xs - m) xs
    ∙ ap (λ i. drop i xs) (simp length-drop (omega arith))

pub eldest_all : {X : Type 0} (xs : List X) → eldest (length xs) xs ≡ xs
unfolding eldest
eldest_all xs = let z : length xs - length xs ≡ 0 = omega arith in ap (λ i. drop i xs) z

-- a length that the list has
pub length-eldest : {X : Type 0} (n : ℕ) (xs : List X) → n ≤ length xs → length (eldest n xs) ≡ n
unfolding eldest
length-eldest n xs le = simp length-drop (omega arith)

pub before-before : (n m : Lengths) (s : Scope) → n.bindings ≤ m.bindings → n.marks ≤ m.marks → n.pairs ≤ m.pairs
    → scope_before n (scope_before m s) ≡ scope_before n s
unfolding scope_before
before-before n m s b i p =
    rw (eldest-eldest n.bindings m.bindings s.bindings b, eldest-eldest n.marks m.marks s.ignorables i, eldest-eldest n.pairs m.pairs s.processed p)

-- all that is in scope was there before nothing more came
pub before_all : (s : Scope) → scope_before (sizes s) s ≡ s
unfolding scope_before
before_all s = rw (eldest_all s.bindings, eldest_all s.ignorables, eldest_all s.processed)

-- an element's own entries were not there before it
pub before_with : (n : Lengths) (t : Tag) (s : Scope) → n.bindings ≤ length s.bindings → n.marks ≤ length s.ignorables → n.pairs ≤ length s.processed
    → scope_before n (scope_with t s) ≡ scope_before n s
unfolding scope_before scope_with bindings_with ignorables_with processed_with
before_with n t s b i p = simp eldest_append

-- the three numbers, as the lengths of what is meant
pub sizes-of : (texts : List Bytes) (s : InScope) → lengths_of s ≡ sizes (scope_of texts s)
unfolding bindings_of ignorables_of processed_of
sizes-of texts s = simp (length-reverse, length-map)

-- lists in memory that are cut
pub cut_meant : (texts : List Bytes) (n : Lengths) (bs cs : List Bound) (ms ns : List Mark) (ps qs : List Pair)
    → cs ≡ take n.bindings bs → ns ≡ take n.marks ms → qs ≡ take n.pairs ps → scope_from texts cs ns qs ≡ scope_before n (scope_from texts bs ms ps)
unfolding scope_before bindings_of ignorables_of processed_of
cut_meant texts n bs cs ms ns ps qs b i p =
    rw (b, i, p, eldest_meant (binding_of texts) n.bindings bs, eldest_meant (mark_of texts) n.marks ms, eldest_meant (pair_of texts) n.pairs ps)
