-- The first fault of a row, by what was found of it so far.
use Rattle.std.proofs.Common.{◌≡◌, ℕ, Bool, true, not, ◌||◌, leb, List, [], ◌∷◌, ◌++◌, length, is_some, Some, None, Option, IfSome, Err, refl}
use Rattle.std.specs.Option.{ok_or}
use Rattle.text.specs.Bytes.{Bytes}
use Rattle.record.specs.declared.row.Row.{Row}
use Rattle.record.specs.declared.row.Kind.{Kind}
use Rattle.record.specs.Rows.{kind_of}
use Rattle.record.specs.declared.refusal.Refusal.{Refusal}
use Rattle.record.specs.declared.refusal.Refusal.TheVariants.{BadRow, OutOfOrder, Forbidden, TooMany}
use Rattle.rules.specs.Elements.{tokens}
use Rattle.rules.specs.Faults.{fault, first}
use Rattle.rules.specs.Order.{is_well_formed, is_in_order, is_forbidden, is_at_limit, row_faults}

abbrev answer : Bool → Bool → Bool → Bool → ℕ → List Refusal
answer formed ordered forbidden many n = fault (not formed) (BadRow n) ++ fault (not ordered) (OutOfOrder n) ++ fault forbidden (Forbidden n) ++ fault many (TooMany n)

module _ (ts : List Bytes) (past : List Row) (row : Row) (n : ℕ) (count : n ≡ length past) where
  all-found : {a b c d : Bool} (o : Option Kind) → kind_of row.kind ≡ o → a ≡ is_well_formed ts row → b ≡ is_in_order o (tokens ts past)
      → c ≡ is_forbidden o ts row (tokens ts past) → d ≡ (is_at_limit o (tokens ts past) || leb 2048 n) → answer a b c d n ≡ row_faults ts past row
  unfolding row_faults
  all-found o k ea eb ec ed = cc

  pub malformed : (o : Option Kind) (e : Refusal) → Err e ≡ ok_or o (BadRow n) → is_some o ≡ is_well_formed ts row → Some e ≡ first (row_faults ts past row)
  unfolding fault
  malformed None e is formed = cc (all-found _ refl formed refl refl refl)
  malformed (Some k) e is formed = cc

  pub found : {b c d : Bool} {o : Option Kind} {k : Kind} → is_some o ≡ is_well_formed ts row → IfSome o (λ k. kind_of row.kind ≡ Some k) → o ≡ Some k
      → b ≡ is_in_order (Some k) (tokens ts past) → c ≡ is_forbidden (Some k) ts row (tokens ts past) → d ≡ (is_at_limit (Some k) (tokens ts past) || leb 2048 n)
      → first (answer true b c d n) ≡ first (row_faults ts past row)
  found {o = Some j} {k = k} formed kind e eb ec ed = cc (all-found (Some k) (cc) formed eb ec ed)
  found {o = None} {k = k} formed kind e eb ec ed = cc

-- a row that is not refused has no faults
pub no_faults : {X : Type 0} (xs : List X) → None ≡ first xs → xs ≡ []
no_faults [] e = refl
no_faults (x ∷ xs) e = cc
