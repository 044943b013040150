-- Rows put into a sheet one after another, up to the first refusal: what is answered, and what the sheet is then.
use Rattle.std.specs.Prelude.{◌≡◌, Result}
use Rattle.record.specs.declared.refusal.Refusal.{Refusal}
use Rattle.sheet.specs.Rows.{Rows}
use Rattle.sheet.specs.Sheets.{Model, all_answer, after_all}

abbrev pub Puts : Model → Rows → Result (Unit {0}) Refusal → Model → Type 0
Puts before rows answer after = (answer ≡ all_answer before rows) × (after ≡ after_all before rows)
