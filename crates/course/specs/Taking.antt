-- One row more: the element that waits is judged, then the row itself.
use Rattle.std.specs.Prelude.{◌≡◌, Bool, true, false, List, ◌∷◌, ◌++◌, IfOk, Some, None, Err, Option, Result}
use mathlib.Core.List.{tail}
use Rattle.std.specs.Option.{option_or}
use Rattle.record.specs.declared.row.Row.{Row}
use Rattle.record.specs.declared.row.PlacedRow.{PlacedRow}
use Rattle.record.specs.declared.row.Kind.{Kind}
use Rattle.record.specs.declared.row.Kind.TheVariants.{Start, Declaration, Attribute, Text, End}
use Rattle.record.specs.declared.refusal.Refusal.{Refusal}
use Rattle.sheet.specs.Sheets.{Model}
use Rattle.rules.specs.Elements.{tokens}
use Rattle.rules.specs.Scope.{Scope}
use Rattle.rules.specs.Records.{judged, waiting, newly_judged}
use Rattle.trial.specs.Answers.{refusal_of}
use Rattle.calls.specs.Calls.{Taken, begun, Put, tokens_put, row_put, is_of_sheet}
use Rattle.enter.specs.Scopes.{scope_of, scope_before}
use Rattle.frames.specs.declared.frame.Frame.{Frame}
use Rattle.frames.specs.declared.opened.Opened.{Opened}
use Rattle.frames.specs.Stacks.{innermost, renoted, Grown}
use Rattle.frames.specs.Settle.{Settled}
use Rattle.course.specs.declared.Course.{Course}
use Rattle.course.specs.Standing.{frames_of, Stands}

-- what judging the element that waits comes to
abbrev pub wait_put : Taken → List Row → Model → Put
wait_put t rows m = tokens_put t m (waiting (tokens t.texts rows)) (judged (tokens t.texts rows))

-- the frames with those that a start opened, and the first mismatch

abbrev pub with_opened : Option Opened → List Frame → List Frame
with_opened None fs = fs
with_opened (Some o) fs = o.frame ∷ renoted o.around fs

abbrev pub with_mark : Option Opened → Option Refusal → Option Refusal
with_mark None m = m
with_mark (Some o) m = option_or m o.mismatch

-- the frames without the innermost at an end, and what is in scope then

abbrev pub closed_at : Kind → List Frame → List Frame
closed_at Start fs = fs
closed_at Declaration fs = fs
closed_at Attribute fs = fs
closed_at Text fs = fs
closed_at End fs = tail fs

abbrev pub scope_at : Kind → List Frame → Scope → Scope
scope_at Start fs s = s
scope_at Declaration fs s = s
scope_at Attribute fs s = s
scope_at Text fs s = s
scope_at End fs s = scope_before (innermost (tail fs)).lengths s

-- a declaration or an attribute, which waits with its element
abbrev pub of_tag : Kind → Bool
of_tag Start = false
of_tag Declaration = true
of_tag Attribute = true
of_tag Text = false
of_tag End = false

-- The element that waits was judged and its kept rows put; what it opened is not held yet.
pub record Waited (t : Taken) (rows : List Row) (before after : Course) (m m-after : Model) (r : Result (Option Opened) Refusal)
    : Type 0 where
  pub answer : refusal_of r ≡ refusal_of (wait_put t rows m).answer
  pub sheet : m-after ≡ (wait_put t rows m).sheet
  pub settled : IfOk r (λ o.
      Settled t.knows t.extensions (tokens t.texts rows) (scope_of t.texts after.scope) (with_opened o (frames_of before))
      (with_mark o before.mismatch))
  pub grown : IfOk r (λ _. Grown (scope_of t.texts before.scope) (scope_of t.texts after.scope))
  pub left : (e : Refusal) → refusal_of r ≡ Some e → is_of_sheet e ≡ true
      → Grown (scope_of t.texts before.scope) (scope_of t.texts after.scope)

-- A row was judged, but has not joined the record yet.
pub record Judged (t : Taken) (rows : List Row) (x : PlacedRow) (kind : Kind) (before after : Course) (m m-after : Model)
    (r : Result (Unit {0}) Refusal) : Type 0 where
  pub answer : r ≡ (row_put (begun t rows) x.row m).answer
  pub sheet : m-after ≡ (row_put (begun t rows) x.row m).sheet
  pub settled : IfOk r (λ _.
      Settled t.knows t.extensions (newly_judged (Some kind) x (tokens t.texts rows) ++ judged (tokens t.texts rows))
      (scope_of t.texts after.scope) (frames_of after) after.mismatch)
  pub left : (e : Refusal) → r ≡ Err e → is_of_sheet e ≡ true
      → Grown (scope_of t.texts before.scope) (scope_of t.texts after.scope)
      × (after.frames ≡ before.frames) × (after.mismatch ≡ before.mismatch)

-- A row joined the record; or it was refused, and where the sheet itself refused it the course is as before.
pub record Took (t : Taken) (rows : List Row) (row : Row) (after : Course) (m m-after : Model) (r : Result (Unit {0}) Refusal) : Type 0 where
  pub answer : r ≡ (row_put (begun t rows) row m).answer
  pub sheet : m-after ≡ (row_put (begun t rows) row m).sheet
  pub stands : IfOk r (λ _. Stands t.texts t.knows t.extensions (row ∷ rows) after)
  pub left : (e : Refusal) → r ≡ Err e → is_of_sheet e ≡ true → Stands t.texts t.knows t.extensions rows after
