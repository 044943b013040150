-- Rows put in parts.
use Rattle.std.proofs.Common.{◌≡◌, ℕ, ◌+◌, ◌<◌, ◌≤◌, Bool, true, false, cond, List, [], ◌∷◌, ◌++◌, map, length, get_or, drop, Ok, Err, Result, sym, refl, ap, ◌∙◌, subst, filter}
use Rattle.std.proofs.lemmas.List.{at_drop_more, drop_all}
use Rattle.text.specs.Bytes.{Bytes}
use Rattle.record.specs.declared.row.PlacedRow.{PlacedRow}
use Rattle.record.specs.declared.refusal.Refusal.{Refusal}
use Rattle.knowledge.specs.Understood.{Knows}
use Rattle.rules.specs.Elements.{decl_of, attr_of, decl_row, attr_row}
use Rattle.rules.specs.Steps.{when, is_kept_decl, is_kept_attr, kept_decls, kept_attrs}
use Rattle.sheet.specs.Rows.{Rows}
use Rattle.sheet.specs.Sheets.{Model, put_answer, after_put, then_rows, then_model, all_answer, after_all}
use Rattle.verdict.specs.Puts.{Puts}

pub all_append : (m : Model) (xs ys : Rows)
    → Puts m (xs ++ ys) (then_rows (all_answer m xs) (all_answer (after_all m xs) ys)) (then_model (all_answer m xs) (after_all (after_all m xs) ys) (after_all m xs))
unfolding all_answer after_all
all_append m [] ys = (refl, refl)
all_append m (x ∷ xs) ys =
    elim (put_answer m x) as (λ (v : Result (Unit {0}) Refusal).
    (then_rows (then_rows v (all_answer (after_put m x) xs)) (all_answer (then_model v (after_all (after_put m x) xs) (after_put m x)) ys)
    ≡ then_rows v (all_answer (after_put m x) (xs ++ ys)))
    × (then_model (then_rows v (all_answer (after_put m x) xs)) (after_all (then_model v (after_all (after_put m x) xs) (after_put m x)) ys) (then_model v (after_all (after_put m x) xs) (after_put m x))
    ≡ then_model v (after_all (after_put m x) (xs ++ ys)) (after_put m x)))
    [ Ok t ↦ all_append (after_put m x) xs ys | Err e ↦ (refl, refl) ]

pub answer_append : (m : Model) (xs ys : Rows) → all_answer m (xs ++ ys) ≡ then_rows (all_answer m xs) (all_answer (after_all m xs) ys)
answer_append m xs ys = sym (all_append m xs ys).0

pub after_append : (m : Model) (xs ys : Rows) → after_all m (xs ++ ys) ≡ then_model (all_answer m xs) (after_all (after_all m xs) ys) (after_all m xs)
after_append m xs ys = sym (all_append m xs ys).1

module _ (m m' : Model) (xs ys : Rows) where
  -- the first rows are accepted, and the others are to be put
  pub then-more : (said : Result (Unit {0}) Refusal) (left : Model) → Puts m xs (Ok tt) m' → Puts m' ys said left → Puts m (xs ++ ys) said left
  then-more said left a b = (
    b.0 ∙ ap (λ n. all_answer n ys) a.1 ∙ ap (λ r. then_rows r (all_answer (after_all m xs) ys)) a.0 ∙ (all_append m xs ys).0,
    b.1 ∙ ap (λ n. after_all n ys) a.1 ∙ ap (λ r. then_model r (after_all (after_all m xs) ys) (after_all m xs)) a.0 ∙ (all_append m xs ys).1,
  )

  -- one of the first rows is refused, and the others are not put
  pub then-none : (e : Refusal) → Puts m xs (Err e) m' → Puts m (xs ++ ys) (Err e) m'
  then-none e a = (
    ap (λ r. then_rows r (all_answer (after_all m xs) ys)) a.0 ∙ (all_append m xs ys).0,
    a.1 ∙ ap (λ r. then_model r (after_all (after_all m xs) ys) (after_all m xs)) a.0 ∙ (all_append m xs ys).1,
  )

pub one-row : (m m' : Model) (x : PlacedRow) (said : Result (Unit {0}) Refusal) → said ≡ put_answer m x → m' ≡ after_put m x → Puts m (x ∷ []) said m'
unfolding all_answer after_all
one-row m m' x said e after = (
  e ∙ elim (put_answer m x) as (λ (v : Result (Unit {0}) Refusal). v ≡ then_rows v (Ok tt)) [ Ok t ↦ refl | Err r ↦ refl ],
  after ∙ elim (put_answer m x) as (λ (v : Result (Unit {0}) Refusal). after_put m x ≡ then_model v (after_put m x) (after_put m x)) [ Ok t ↦ refl | Err r ↦ refl ],
)

pub no_rows : (m : Model) → Puts m [] (Ok tt) m
unfolding all_answer after_all
no_rows m = (refl, refl)

-- the rows of declarations and attributes are the rows that they came from
pub decl_rows : (texts : List Bytes) (xs : List PlacedRow) → map decl_row (map (decl_of texts) xs) ≡ xs
unfolding decl_row decl_of
decl_rows texts [] = refl
decl_rows texts (x ∷ xs) = ap (λ (t : List PlacedRow). x ∷ t) (decl_rows texts xs)

pub attr_rows : (texts : List Bytes) (xs : List PlacedRow) → map attr_row (map (attr_of texts) xs) ≡ xs
unfolding attr_row attr_of
attr_rows texts [] = refl
attr_rows texts (x ∷ xs) = ap (λ (t : List PlacedRow). x ∷ t) (attr_rows texts xs)

-- rows put in parts, and the rows of a tag
pub ruleset puts = (answer_append, after_append, decl_rows, attr_rows)

-- these rows from here give what those rows gave from there
abbrev pub Same : Model → Rows → Model → Rows → Type 0
Same m xs n ys = (all_answer m xs ≡ all_answer n ys) × (after_all m xs ≡ after_all n ys)

-- the first of some rows, if it passes, before the others that pass
front_when : (b : Bool) (x : PlacedRow) (rest : Rows) → cond b (x ∷ rest) rest ≡ when b x ++ rest
unfolding when
front_when true x rest = refl
front_when false x rest = refl

-- one turn of a loop that puts those of some rows that pass
module _ (test : PlacedRow → Bool) (xs : Rows) (i : ℕ) (d : PlacedRow) (lt : i < length xs) (m n : Model) (all : Rows)
    (h : Same m (filter test (drop i xs)) n all) where
  kept_first : (b : Bool) → b ≡ test (get_or xs i d) → filter test (drop i xs) ≡ cond b (get_or xs i d ∷ filter test (drop (i + 1) xs)) (filter test (drop (i + 1) xs))
  kept_first b e = at_drop_more (filter test) xs i d lt ∙ ap (λ b. cond b (get_or xs i d ∷ filter test (drop (i + 1) xs)) (filter test (drop (i + 1) xs))) (sym e)

  pub same_more : (m' : Model) → true ≡ test (get_or xs i d) → Ok tt ≡ put_answer m (get_or xs i d) → m' ≡ after_put m (get_or xs i d)
      → Same m' (filter test (drop (i + 1) xs)) n all
  same_more m' e said after =
      let a = one-row m m' (get_or xs i d) (Ok tt) said after in
      let q = then-more m m' (get_or xs i d ∷ []) (filter test (drop (i + 1) xs)) _ _ a (refl, refl) in (
        q.0 ∙ ap (all_answer m) (sym (kept_first true e)) ∙ h.0,
        q.1 ∙ ap (after_all m) (sym (kept_first true e)) ∙ h.1,
      )

  pub same_none : (m' : Model) (r : Refusal) → true ≡ test (get_or xs i d) → Err r ≡ put_answer m (get_or xs i d) → m' ≡ after_put m (get_or xs i d) → Puts n all (Err r) m'
  same_none m' r e said after =
      let a = one-row m m' (get_or xs i d) (Err r) said after in
      let q = then-none m m' (get_or xs i d ∷ []) (filter test (drop (i + 1) xs)) r a in (
        q.0 ∙ ap (all_answer m) (sym (kept_first true e)) ∙ h.0,
        q.1 ∙ ap (after_all m) (sym (kept_first true e)) ∙ h.1,
      )

  pub same_without : false ≡ test (get_or xs i d) → Same m (filter test (drop (i + 1) xs)) n all
  same_without e = subst (λ l. Same m l n all) (kept_first false e) h

pub same_over : (test : PlacedRow → Bool) (xs : Rows) (i : ℕ) → length xs ≤ i → (m n : Model) (all : Rows) → Same m (filter test (drop i xs)) n all → Puts n all (Ok tt) m
same_over test xs i le m n all h = let q = no_rows m in let e = ap (filter test) (drop_all i xs le) in (
  q.0 ∙ ap (all_answer m) (sym e) ∙ h.0,
  q.1 ∙ ap (after_all m) (sym e) ∙ h.1,
)

-- the rows of a tag that are kept are those that pass
module _ (knows : Knows) (ignorables : List Bytes) (texts : List Bytes) where
  pub decls_pass : (xs : List PlacedRow) → filter (λ x. is_kept_decl knows ignorables (decl_of texts x)) xs ≡ kept_decls knows ignorables (map (decl_of texts) xs)
  unfolding kept_decls decl_of
  decls_pass [] = refl
  decls_pass (x ∷ xs) = front_when _ x _ ∙ ap (λ l. when (is_kept_decl knows ignorables (decl_of texts x)) x ++ l) (decls_pass xs)

  pub attrs_pass : (xs : List PlacedRow) → filter (λ x. is_kept_attr knows ignorables (attr_of texts x)) xs ≡ kept_attrs knows ignorables (map (attr_of texts) xs)
  unfolding kept_attrs attr_of
  attrs_pass [] = refl
  attrs_pass (x ∷ xs) = front_when _ x _ ∙ ap (λ l. when (is_kept_attr knows ignorables (attr_of texts x)) x ++ l) (attrs_pass xs)
