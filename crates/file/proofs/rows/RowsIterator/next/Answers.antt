use Rattle.std.proofs.Common.{◌≡◌, ◌∷◌, length, rules, arith, ap}
use Rattle.file.specs.Form.{rows_of}
use Rattle.file.specs.Rows.{rows_left}
use Rattle.file.proofs.Tables.{row_of-front, rows_of-more, rows_of-end}
use Rattle.file.proofs.rows.RowsIterator.next.Goals as goal

pub returns-in_err-row-clause-steps : goal.returns-in_err-row-clause-steps
unfolding rows_left
returns-in_err-row-clause-steps c = let none = rows_of-end c.args.self.now.left.now in grind arith

pub returns : goal.returns
unfolding rows_left
returns c =
    let more = rows_of-more c.args.self.now.left.now c.in_ok-row.ensures.cases.0 in
    let front = row_of-front c.args.self.now.left.now in
    let steps : rows_of c.args.self.now.left.now ≡ c.row_at.result ∷ rows_of c.in_ok-row.left.now = cc (more, front, c.in_ok-row.ensures.cases.1, c.in_ok-row.ensures.cases.2) in
    let fewer = ap length steps in
    record { steps = steps; goes = record { on = λ _. search rules; keeps = search rules; rests = search rules } }
