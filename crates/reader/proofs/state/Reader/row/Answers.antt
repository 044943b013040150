use Rattle.std.proofs.Common.{rules}
use Rattle.order.proofs.Refused.{no_faults}
use Rattle.reader.proofs.Calls.{from_open, row_keeps, row_spoils}
use Rattle.reader.proofs.state.Reader.row.Goals as goal

pub returns-then-is_err_and : goal.returns-then-is_err_and
returns-then-is_err_and g c =
    from_open _ _ c.in-Open.source c.in-Open.is
    (λ knows rows stands.
    let passed = c.in_ok-kind.ensures.answer knows _ rows stands in
    row_spoils c.in-Open.source knows rows c.args.row _ _ _ c.take-answer.result passed (c.take-answer.ensures knows rows stands c.in_ok-kind.ensures.kind (no_faults _ passed))
    c.if-is_err_and.ensures (λ e p. search rules) _ c.drop_draft.ensures)

pub returns-else-is_err_and : goal.returns-else-is_err_and
returns-else-is_err_and g c =
    from_open _ _ c.in-Open.source c.in-Open.is
    (λ knows rows stands.
    let passed = c.in_ok-kind.ensures.answer knows _ rows stands in
    row_keeps c.in-Open.source knows rows c.args.row _ _ _ c.take-answer.result passed (c.take-answer.ensures knows rows stands c.in_ok-kind.ensures.kind (no_faults _ passed))
    c.if-is_err_and.ensures (λ e p. search rules) _ c.in-Open.is)
