use Rattle.std.proofs.Common.{◌≡◌, Bool, drop, filter}
use Rattle.record.specs.declared.row.PlacedRow.{PlacedRow}
use Rattle.sheet.specs.Meaning.{meaning}
use Rattle.verdict.proofs.Puts.{Same}
use Rattle.verdict.proofs.put.put_those.Given as goal

-- what is left to put gives what all gives
abbrev pub invariant-loop-x : goal.invariant-loop-x
invariant-loop-x g l =
    (test : PlacedRow → Bool) → ((x : PlacedRow) (b : Bool) → goal.F-post g l.keeps x b → b ≡ test x)
    → Same (meaning g.S.Readable g.S.Sheet l.sheet) (filter test (drop l.x-index l.rows)) (meaning g.S.Readable g.S.Sheet l.initial.sheet) (filter test l.rows)
