use Rattle.std.proofs.Common.{◌≡◌, sym, refl, ap, ◌∙◌, rules}
use Rattle.std.proofs.lemmas.Result.{err_from_is_err_and}
use Rattle.std.proofs.lemmas.Iterator.Adapters.{position_from-zero}
use Rattle.std.proofs.lemmas.Iterator.Consumers.{YieldsList-from_first}
use Rattle.std.proofs.lemmas.Iterator.Search.{position_from_yields_List}
use Rattle.file.specs.Rows.{rows_left}
use Rattle.file.specs.Files.{held}
use Rattle.card.specs.Rows.{first_at}
use Rattle.card.specs.Cards.{opened_card, as_card, wrong_row}
use Rattle.card.proofs.Finds.{first-within, first_at-position}
use Rattle.card.proofs.checked.Card.check.Goals as goal
use Rattle.card.proofs.checked.Card.check.Goals.{After-position, at-overflow_cast-result, at-returns-in-Some, at-invariant_of-result, at-returns}

pub returns-in_err-file : goal.returns-in_err-file
unfolding opened_card
returns-in_err-file c =
    let p = err_from_is_err_and c.from_residual.result c.from_residual.ensures.1 in
    rw (p.1, p.2) (ap as_card c.in_err-file.ensures.answer)

first_wrong : (c : After-position) → c.position.result ≡ first_at (wrong_row (held c.in_ok-file.file).texts) 0 (held c.in_ok-file.file).rows
unfolding wrong_row
first_wrong c =
    let wrong = wrong_row (held c.in_ok-file.file).texts in
    let rows = (held c.in_ok-file.file).rows in
    position_from_yields_List wrong _ _ _ c.position.ensures.ran (YieldsList-from_first (λ row. row) rows_left rows c.rows.ensures.rows) (λ row b q k. search rules)
    ∙ position_from-zero wrong rows ∙ sym (first_at-position wrong rows 0)

pub overflow_cast-result : goal.overflow_cast-result
overflow_cast-result c =
    let found = first_wrong (at-overflow_cast-result c).After-position in
    let within = first-within (wrong_row (held c.in_ok-file.file).texts) (held c.in_ok-file.file).rows 0 c.in-Some.row (sym found ∙ c.in-Some.is) in
    let few = c.in_ok-file.ensures.few in
    search rules

pub returns-in-Some : goal.returns-in-Some
unfolding opened_card
returns-in-Some c =
    let found = first_wrong (at-returns-in-Some c).After-position in
    rw (← c.in_ok-file.ensures.answer) (rw (sym found ∙ c.in-Some.is) refl)

pub invariant_of-result : goal.invariant_of-result
invariant_of-result c = record { right = sym (first_wrong (at-invariant_of-result c).After-position) ∙ c.in_default.is }

pub returns : goal.returns
unfolding opened_card
returns c =
    let found = first_wrong (at-returns c).After-position in
    rw (← c.in_ok-file.ensures.answer) (rw (sym found ∙ c.in_default.is) refl)
