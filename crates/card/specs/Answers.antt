-- What a checked card holds.
use Rattle.std.specs.Prelude.{Ok, Err, Result}
use Rattle.record.specs.declared.refusal.Refusal.{Refusal}
use Rattle.file.specs.Form.{Contents}
use Rattle.file.specs.Files.{held}
use Rattle.card.specs.declared.checked.Card.{Card}

abbrev pub holds : Card → Contents
holds card = held card.file

-- the answer of a check, the card given by what it holds
abbrev pub card_answer : Result Card Refusal → Result Contents Refusal
card_answer (Ok card) = Ok (holds card)
card_answer (Err refusal) = Err refusal
