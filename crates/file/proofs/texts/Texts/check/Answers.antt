use Rattle.std.proofs.Common.{not, is_some, sym, ap}
use Rattle.file.specs.Form.{read_texts}
use Rattle.file.specs.Texts.{texts}
use Rattle.file.proofs.Sound.{distinct_texts}
use Rattle.file.proofs.texts.Texts.check.Goals as goal

pub returns : goal.returns
unfolding read_texts texts
returns c =
    record {
      answer = rw (sym c.in_default.ensures, sym c.in_default-first_repeated.ensures);
      distinct =
          distinct_texts c.args.pairs.now c.args.bytes.now (ap (λ o. not (is_some o)) (sym c.in_default-first_repeated.ensures));
    }
