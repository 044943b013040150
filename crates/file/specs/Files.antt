-- What a checked file holds.
use Rattle.std.specs.Prelude.{Ok, Err, Result}
use Rattle.record.specs.declared.refusal.Refusal.{Refusal}
use Rattle.file.specs.Form.{Contents, rows_of}
use Rattle.file.specs.Texts.{texts}
use Rattle.file.specs.declared.checked.File.{File}

unfoldable pub held : File → Contents
held f = record { texts = texts f.texts; rows = rows_of f.rows.now }

-- the answer of a check, the file given by what it holds
abbrev pub answer : Result File Refusal → Result Contents Refusal
answer (Ok f) = Ok (held f)
answer (Err e) = Err e
