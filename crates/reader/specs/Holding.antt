-- What a reader stands for, and when a call does what it should.
use Rattle.std.specs.Prelude.{◌≡◌}
use Rattle.file.specs.Texts.{texts}
use Rattle.sheet.specs.Sheets.{Model}
use Rattle.calls.specs.declared.answer.Answer.{Answer}
use Rattle.calls.specs.Calls.{Begun, Reading, idle, active, spoilt, Out}
use Rattle.frames.specs.Lists.{extension_list}
use Rattle.course.specs.Standing.{Stands}
use Rattle.reader.specs.declared.state.Source.{Source}
use Rattle.reader.specs.declared.state.Turn.TheVariants.{Closed, Open, Spoilt}
use Rattle.reader.specs.declared.state.Reader.{Reader}

-- a record is open: what it is read by, and its course
pub record Active (r : Reader) (b : Begun) : Type 0 where
  pub source : Source
  pub is_open : r.turn ≡ Open source
  pub of_texts : texts source.texts ≡ b.taken.texts
  pub of_list : extension_list source.extensions ≡ b.taken.extensions
  pub stands : Stands b.taken.texts b.taken.knows b.taken.extensions b.rows r.course

abbrev pub Holds : Reader → Reading → Type 0
Holds r idle = r.turn ≡ Closed
Holds r (active b) = Active r b
Holds r (spoilt b) = r.turn ≡ Spoilt

-- A call answers this, and leaves a reader and a sheet that stand for what it should leave.
pub record Does (o : Out) (r : Reader) (m : Model) (answer : Answer) : Type 0 where
  pub answered : answer ≡ o.answer
  pub reads : Holds r o.reading
  pub sheet : m ≡ o.sheet
