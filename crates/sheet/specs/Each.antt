-- Rows that an iterator gives, put one after another.
use Rattle.std.specs.Prelude.{◌≡◌, Option, Result}
use Rattle.std.specs.Iterator.{AlwaysYields}
use Rattle.record.specs.declared.row.PlacedRow.{PlacedRow}
use Rattle.record.specs.declared.refusal.Refusal.{Refusal}
use Rattle.sheet.specs.Rows.{Rows}
use Rattle.sheet.specs.Sheets.{Model, all_answer, after_all}

-- whichever rows the iterator gives, they are what was put, up to the first refusal
abbrev pub PutsEach : {I : Type 0} → (I → Option PlacedRow → I → Type 0) → I → Model → Result (Unit {0}) Refusal → Model → Type 0
PutsEach steps it before said after =
    (xs : Rows) → AlwaysYields steps (λ x. x) it xs → (said ≡ all_answer before xs) × (after ≡ after_all before xs)
