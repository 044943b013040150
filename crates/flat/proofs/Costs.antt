-- What the rows of a flat sheet cost.
use Rattle.std.proofs.Common.{◌≡◌, ℕ, ◌+◌, ltb, leb, [], ◌∷◌, length, refl, arith}
use Rattle.record.specs.declared.row.PlacedRow.{PlacedRow}
use Rattle.sheet.specs.Rows.{Rows, cost_of, spent}
use Rattle.flat.specs.Flats.{flat_cost}

spent-flat : (xs : Rows) → spent flat_cost xs ≡ length xs
spent-flat [] = refl
spent-flat (x ∷ xs) = let h = spent-flat xs in omega arith

-- an entry left is room for a row more
pub flat-room : (xs : Rows) (x : PlacedRow) (capacity : ℕ) → ltb (length xs) capacity ≡ leb (spent flat_cost xs + cost_of flat_cost x) capacity
flat-room xs x capacity = let h = spent-flat xs in grind arith
