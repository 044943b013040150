-- The numbers of entries do not fall, when an entry is added and when a start is closed; a row is found by them.
use Rattle.std.proofs.Common.{◌≡◌, ℕ, ◌+◌, ◌-◌, ◌<◌, ◌≤◌, Bool, true, false, leb, leb-true, List, [], ◌∷◌, ◌++◌, length, set, get_or, Some, Option, sym, ap, ◌∙◌, subst, ⊎_elim, arith, length-set, get_or-set_same, get_or-set_other}
use Rattle.std.specs.List.{slice_get}
use Rattle.std.specs.List.Sorted.{IsNonDecreasingBy, IsPartitionedBy, IsPartitionPoint}
use Rattle.std.proofs.lemmas.List.Sorted.{IsNonDecreasingBy-push, IsPartitionedBy-leb}
use Rattle.std.proofs.lemmas.Option.{slice_get-get_or, slice_get_within, get_or_from_slice_get}
use Rattle.std.proofs.lemmas.Bool.{cases_lt, cases_eq}
use Rattle.outline.specs.declared.entry.Entry.{Entry}
use Rattle.outline.specs.Found.{number_or, number_at, StandsBy, LeadsUp}
use Rattle.outline.proofs.Lookups.{number_past}
use Rattle.outline.proofs.Nths.{nth_some}

pub rises_push : (es : List Entry) (e : Entry) (t : ℕ) (top : Option ℕ) → e.number ≡ t → LeadsUp es t top → IsNonDecreasingBy (λ x. x.number) es → IsNonDecreasingBy (λ x. x.number) (es ++ e ∷ [])
rises_push es e t top numbered lead up =
    IsNonDecreasingBy-push (λ x. x.number) es e up (λ d some.
    let i : ℕ = length es - 1 in
    let low = (lead.1 i (omega arith)).0 in
    let lt : i < length es = omega arith in
    let at : slice_get es i ≡ Some (get_or es i d) = slice_get-get_or es i d lt in
    let last : (get_or es i d).number < t = subst (λ o. number_or t o < t) at low in
    omega arith)

pub rises_set : (es : List Entry) (j : ℕ) (e x : Entry) → slice_get es j ≡ Some e → x.number ≡ e.number → IsNonDecreasingBy (λ y. y.number) es → IsNonDecreasingBy (λ y. y.number) (set es j x)
rises_set es j e x at same up i k d le lt =
    let long = length-set es j x in
    let h = up i k d le (omega arith) in
    let a = number i d in
    let b = number k d in
    omega arith
  where
    number : (i : ℕ) (d : Entry) → (get_or (set es j x) i d).number ≡ (get_or es i d).number
    number i d =
        ⊎_elim
        (λ (q : i ≡ j).
        ap (λ n. (get_or (set es j x) n d).number) q
        ∙ ap (λ y. y.number) (get_or-set_same es j x d (slice_get_within es j e at))
        ∙ same
        ∙ ap (λ y. y.number) (sym (get_or_from_slice_get es j e d at))
        ∙ ap (λ n. (get_or es n d).number) (sym q))
        (λ (ne : i ≡ j → ⊥). ap (λ y. y.number) (get_or-set_other es j i x d ne))
        (cases_eq i j)

-- how `partition_point` finds the entry that row `n` stands by, in a slice of the entries
pub parted : (es xs : List Entry) (n : ℕ) → xs ≡ es → IsNonDecreasingBy (λ e. e.number) es → IsPartitionedBy (λ e. leb e.number n) xs
parted es xs n same up =
    subst (IsPartitionedBy (λ e. leb e.number n)) (sym same) (IsPartitionedBy-leb (λ e. e.number) es n up)

module _ (es xs : List Entry) (same : xs ≡ es) (t n : ℕ) where
  tested : (b : Bool) (i : ℕ) → i < length es → ((d : Entry) → leb (get_or xs i d).number n ≡ b) → leb (number_at es t i) n ≡ b
  tested b i lt h =
      let e = nth_some es i lt in
      ap (λ o. leb (number_or t o) n) e.1
      ∙ ap (λ y. leb y.number n) (sym (get_or_from_slice_get es i e.0 e.0 e.1))
      ∙ ap (λ zs. leb (get_or zs i e.0).number n) (sym same)
      ∙ h e.0

  module _ (top : Option ℕ) (lead : LeadsUp es t top) (low : n < t) (p : ℕ) (bound : p ≤ length xs) (point : IsPartitionPoint (λ e. leb e.number n ≡ true) (λ e. leb e.number n ≡ false) xs p) where
    long : length xs ≡ length es
    long = ap length same

    behind : (i : ℕ) → p ≤ i → n < number_at es t i
    behind i le =
        let l = long in
        ⊎_elim
        (λ (lt : i < length es). let h = tested false i lt (λ d. point.1 i d le (omega arith)) in grind arith)
        (λ (past : length es ≤ i). let h = number_past es t i past in omega arith)
        (cases_lt i (length es))

    pub point_some : 1 ≤ p
    point_some =
        ⊎_elim
        (λ (h : 0 < p). omega arith)
        (λ (h : p ≤ 0). let first = behind 0 h in absurd (omega (arith, lead.0)))
        (cases_lt 0 p)

    pub point_stands : StandsBy es t (p - 1) n
    point_stands =
        let l = long in
        let some = point_some in
        let h = tested true (p - 1) (omega arith) (λ d. point.0 (p - 1) d (omega arith) (omega arith)) in
        (omega arith, leb-true _ _ h, behind (p - 1 + 1) (omega arith))
