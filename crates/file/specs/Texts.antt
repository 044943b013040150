-- What the texts of a checked file mean.
use Rattle.std.specs.Prelude.{List, Ok, Err, Result}
use Rattle.record.specs.declared.refusal.Refusal.{Refusal}
use Rattle.text.specs.Bytes.{Bytes}
use Rattle.file.specs.Form.{texts_of}
use Rattle.file.specs.declared.texts.Texts.{Texts}

unfoldable pub texts : Texts → List Bytes
texts t = texts_of t.pairs.now t.bytes.now

-- the answer of a check, the texts given by what they mean
abbrev pub texts_answer : Result Texts Refusal → Result (List Bytes) Refusal
texts_answer (Ok t) = Ok (texts t)
texts_answer (Err e) = Err e
