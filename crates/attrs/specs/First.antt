-- The first row that passes, whatever rows mean.
use Rattle.std.specs.Prelude.{◌≡◌, Bool, List, map, Option}
use Rattle.std.specs.Option.{option_map}
use Rattle.record.specs.declared.row.PlacedRow.{PlacedRow}
use Rattle.rules.specs.Elements.{Attr}
use Rattle.rules.specs.Scope.{first_with}

-- answers relates a row to what the test of it answers
pub record IsFirstPassing (answers : PlacedRow → Bool → Type 0) (rows : List PlacedRow) (found : Option PlacedRow) : Type 0 where
  pub by_meaning : (meaning : PlacedRow → Attr) (test : Attr → Bool) → ((x : PlacedRow) (b : Bool) → answers x b → b ≡ test (meaning x))
      → option_map meaning found ≡ first_with test (map meaning rows)
