-- A row more, by its kind.
use Rattle.std.proofs.Common.{◌≡◌, ℕ, suc, ◌+◌, ◌-◌, ◌^◌, ◌<◌, min, Bool, true, false, not, ◌&&◌, eqb, leb, List, [], ◌∷◌, length, Some, Option, sym, refl, ap, ◌∙◌, arith}
use mathlib.Core.List.{tail}
use Rattle.std.proofs.lemmas.Bool.{leb-false, not-false, or_parts}
use Rattle.text.specs.Bytes.{Bytes}
use Rattle.record.specs.declared.row.Row.{Row}
use Rattle.record.specs.declared.row.Kind.{Kind}
use Rattle.record.specs.declared.row.Kind.TheVariants.{Start, Text, End}
use Rattle.record.specs.Rows.{kind_of}
use Rattle.rules.specs.Elements.{Tag, Token, tag, start_of, on_top, add, placed_at, tokens, around}
use Rattle.rules.specs.Order.{is_none, has_ended, on_tag, is_in_order, is_at_limit, row_faults}
use Rattle.rules.specs.Records.{waiting}
use Rattle.rules.proofs.Members.{left_nil, right_nil, no_fault}
use Rattle.order.specs.declared.progress.Progress.{Progress}
use Rattle.order.specs.Following.{Follows, waiting_in}
use Rattle.order.proofs.Rests.{on-waiting, waiting_on_top, around_on_top, ended_on_tag, none-length, tail_length}

-- once a row has come
come : (rows depth n : ℕ) → rows ≡ suc n → (eqb depth 0 && not (eqb rows 0)) ≡ eqb depth 0
come rows depth n e = grind arith

module _ (ts : List Bytes) (past : List Row) (row : Row) (k : Kind) (ek : kind_of row.kind ≡ Some k) (e : row_faults ts past row ≡ []) where
  in_order : is_in_order (Some k) (tokens ts past) ≡ true
  unfolding row_faults
  in_order =
      sym (ap (λ (o : Option Kind). is_in_order o (tokens ts past)) ek)
      ∙ not-false _ (no_fault (not (is_in_order (kind_of row.kind) (tokens ts past))) _ (right_nil _ _ (left_nil _ _ (left_nil _ _ e))))

  within : (is_at_limit (kind_of row.kind) (tokens ts past) ≡ false) × (leb 2048 (length past) ≡ false)
  unfolding row_faults
  within = or_parts _ _ (no_fault _ _ (right_nil _ _ e))

  below_limit : is_at_limit (Some k) (tokens ts past) ≡ false
  below_limit = sym (ap (λ (o : Option Kind). is_at_limit o (tokens ts past)) ek) ∙ within.0

  module _ (p q : Progress) (f : Follows ts past p) (en : q.rows ≡ min (p.rows + 1) (2 ^ 32 - 1)) where
    abbrev more : List Token
    more = add (Some k) ts (placed_at p.rows row) (tokens ts past)

    -- a progress that has what the rules say of the tokens with this row
    follows : has_ended more ≡ is_none (around more) → q.depth ≡ length (around more) → waiting_in ts q ≡ waiting more → Follows ts (row ∷ past) q
    unfolding tokens
    follows some ed ew =
        let lt : length past < 2048 = leb-false 2048 (length past) within.1 in
        let t : more ≡ add (kind_of row.kind) ts (placed_at (length past) row) (tokens ts past) =
        ap (λ (n : ℕ). add (Some k) ts (placed_at n row) (tokens ts past)) f.count
        ∙ ap (λ (o : Option Kind). add o ts (placed_at (length past) row) (tokens ts past)) (sym ek) in
        let n : q.rows ≡ suc (length past) = omega (arith, f.count) in
        record {
          count = n;
          depth = ed ∙ ap (λ (l : List Token). length (around l)) t;
          ended = cc (come q.rows q.depth (length past) n, ed, none-length (around more), some, t);
          waits = ew ∙ ap waiting t;
        }

    -- a row of the element that waits
    pub noted_on_top : (top : Tag → Tag) (test limit : Tag → Bool)
        → more ≡ on_top top (tokens ts past) → is_in_order (Some k) (tokens ts past) ≡ on_tag test (tokens ts past) → is_at_limit (Some k) (tokens ts past) ≡ on_tag limit (tokens ts past)
        → q.depth ≡ p.depth → (on_tag limit (waiting_in ts p) ≡ false → waiting_in ts q ≡ on_top top (waiting_in ts p)) → Follows ts (row ∷ past) q
    noted_on_top top test limit m o l ed ew =
        let few : on_tag limit (waiting_in ts p) ≡ false = ap (on_tag limit) f.waits ∙ on-waiting limit (tokens ts past) ∙ sym l ∙ below_limit in
        follows (cc (m, ended_on_tag top test (tokens ts past) (sym o ∙ in_order))) (cc (m, f.depth, around_on_top top (tokens ts past)))
        (cc (m, ew few, f.waits, waiting_on_top top (tokens ts past)))

module _ (ts : List Bytes) (past : List Row) (row : Row) (p q : Progress) (f : Follows ts past p) (en : q.rows ≡ min (p.rows + 1) (2 ^ 32 - 1)) (e : row_faults ts past row ≡ []) where
  pub noted-start : kind_of row.kind ≡ Some Start → q.depth ≡ min (p.depth + 1) (2 ^ 64 - 1)
      → waiting_in ts q ≡ tag (start_of ts (placed_at p.rows row)) ∷ [] → Follows ts (row ∷ past) q
  unfolding add around has_ended waiting is_at_limit
  noted-start ek ed ew =
      let lt : length (around (tokens ts past)) < 64 = leb-false 64 (length (around (tokens ts past))) (below_limit ts past row Start ek e) in
      let n : q.depth ≡ suc (length (around (tokens ts past))) = omega (arith, f.depth) in
      follows ts past row Start ek e p q f en refl n ew

  pub noted-text : kind_of row.kind ≡ Some Text → q.depth ≡ p.depth → waiting_in ts q ≡ [] → Follows ts (row ∷ past) q
  unfolding add around has_ended waiting
  noted-text ek ed ew = follows ts past row Text ek e p q f en refl (ed ∙ f.depth) ew

  pub noted-end : kind_of row.kind ≡ Some End → q.depth ≡ p.depth - 1 → waiting_in ts q ≡ [] → Follows ts (row ∷ past) q
  unfolding add around has_ended waiting
  noted-end ek ed ew =
      let n : q.depth ≡ length (tail (around (tokens ts past))) = omega (arith, f.depth, tail_length (around (tokens ts past))) in
      follows ts past row End ek e p q f en refl n ew
