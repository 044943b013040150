use Rattle.std.proofs.Common.{◌≡◌, true, false, sym, ap, ◌∙◌, rules}
use Rattle.std.proofs.lemmas.Result.{err_from_is_err_and}
use Rattle.file.specs.Form.{opened, within_limits, text_count, row_count, byte_count, size, with_rows, rows_of, read_texts}
use Rattle.file.specs.Files.{held}
use Rattle.file.proofs.Opens.{opened_short, opened-outside, opened_wrong, opened-parts}
use Rattle.file.proofs.Tables.{few-rows}
use Rattle.file.proofs.checked.File.check.Goals as goal
use Rattle.file.proofs.checked.File.check.Goals.{After-check, at-returns, at-returns-in_err-texts}

pub returns-then-bytes-lt12 : goal.returns-then-bytes-lt12
returns-then-bytes-lt12 c = record { answer = sym (opened_short c.args.bytes.now c.if-bytes-lt12.true); distinct = tt; few = tt }

pub returns-then-not-within_limits : goal.returns-then-not-within_limits
unfolding text_count row_count byte_count
returns-then-not-within_limits c =
    let out : within_limits (text_count c.args.bytes.now) (row_count c.args.bytes.now) (byte_count c.args.bytes.now) ≡ false =
    rw (← c.number_at-text_count.ensures, ← c.number_at-row_count.ensures, ← c.number_at-byte_count.ensures) (sym c.if-not-within_limits.ensures) in
    record { answer = sym (opened-outside c.args.bytes.now c.if-bytes-lt12.false out); distinct = tt; few = tt }

pub returns-then-bytes-text_count : goal.returns-then-bytes-text_count
unfolding text_count row_count byte_count size
returns-then-bytes-text_count c =
    let limits : within_limits (text_count c.args.bytes.now) (row_count c.args.bytes.now) (byte_count c.args.bytes.now) ≡ true =
    rw (← c.number_at-text_count.ensures, ← c.number_at-row_count.ensures, ← c.number_at-byte_count.ensures) (sym c.if-not-within_limits.ensures) in
    record {
      answer =
          sym (opened_wrong c.args.bytes.now c.if-bytes-lt12.false limits
          (rw (← c.number_at-text_count.ensures, ← c.number_at-row_count.ensures, ← c.number_at-byte_count.ensures) c.if-bytes-text_count.true));
      distinct = tt;
      few = tt;
    }

cut : (c : After-check) → opened c.args.bytes.now ≡ with_rows (rows_of c.split_at-3.result.0.now) (read_texts c.split_at-2.result.0.now c.split_at-3.result.1.now)
cut c =
    opened-parts c.args.bytes.now c.split_at.result.1.now c.split_at-2.result.0.now c.split_at-2.result.1.now
    c.split_at-3.result.0.now c.split_at-3.result.1.now
    c.number_at-text_count.result c.number_at-row_count.result c.number_at-byte_count.result
    c.number_at-text_count.ensures c.number_at-row_count.ensures c.number_at-byte_count.ensures
    c.if-bytes-lt12.false c.if-not-within_limits.ensures c.if-bytes-text_count.false
    c.split_at.ensures.back c.split_at-2.ensures.front c.split_at-2.ensures.back
    c.split_at-3.ensures.front c.split_at-3.ensures.back

pub check-requires : goal.check-requires
unfolding within_limits
check-requires c = search rules

pub returns-in_err-texts : goal.returns-in_err-texts
returns-in_err-texts c =
    let p = err_from_is_err_and c.from_residual.result c.from_residual.ensures.1 in
    let o = cut (at-returns-in_err-texts c).After-check in
    rw (p.1, p.2) (record { answer = ap (with_rows (rows_of c.split_at-3.result.0.now)) c.in_err-texts.ensures.answer ∙ sym o; distinct = tt; few = tt })

pub returns : goal.returns
unfolding held within_limits
returns c =
    let o = cut (at-returns c).After-check in
    record {
      answer = ap (with_rows (rows_of c.split_at-3.result.0.now)) c.in_ok-texts.ensures.answer ∙ sym o;
      distinct = c.in_ok-texts.ensures.distinct;
      few = few-rows c.split_at-3.result.0.now c.number_at-row_count.result c.split_at-3.ensures.front_len (search rules);
    }
