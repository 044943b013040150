-- What a sheet means, by the members of its traits.
use Rattle.sheet.specs.declared.Readable as readable
use Rattle.sheet.specs.declared.Sheet as taking
use Rattle.sheet.specs.Sheets.{Model, model}

-- its sealed rows, its draft, its capacity and what each kind costs
abbrev pub meaning : {S : Type 0} → readable.Ghosts S → taking.Ghosts S → S → Model
meaning r s x = model (r.rows x) (s.draft x) (s.capacity x) s.cost
