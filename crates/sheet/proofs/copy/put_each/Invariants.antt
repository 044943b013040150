use Rattle.sheet.specs.Meaning.{meaning}
use Rattle.sheet.proofs.Each.{Rest}
use Rattle.sheet.proofs.copy.put_each.Given as goal

-- what is left to put gives what all the rows give
abbrev pub invariant-loop-row : goal.invariant-loop-row
invariant-loop-row g l =
    Rest g.I.Iterator.next_gives l.fn.rows (meaning g.S.Readable g.S.Sheet l.initial.sheet) l.row-iterator (meaning g.S.Readable g.S.Sheet l.sheet)
