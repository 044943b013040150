-- What a reader stands for, by what its turn is.
use Rattle.std.proofs.Common.{◌≡◌, true, false, List, Ok, Err, Result, None, refl, subst, ap₂}
use Rattle.std.specs.Result.{MatchResult}
use Rattle.text.specs.Bytes.{Bytes}
use Rattle.record.specs.declared.row.Row.{Row}
use Rattle.record.specs.declared.refusal.Refusal.{Refusal}
use Rattle.file.specs.Texts.{texts}
use Rattle.knowledge.specs.Understood.{Knows}
use Rattle.sheet.specs.Sheets.{Model, after_drop}
use Rattle.rules.specs.Faults.{first}
use Rattle.rules.specs.Order.{row_faults}
use Rattle.card.specs.Cards.{Name}
use Rattle.calls.specs.Calls.{Taken, taken, begun, Reading, idle, active, spoilt, row_judged, row_on, done, is_of_sheet}
use Rattle.frames.specs.Lists.{extension_list}
use Rattle.course.specs.declared.Course.{Course}
use Rattle.course.specs.Standing.{Stands}
use Rattle.course.specs.Taking.{Took}
use Rattle.reader.specs.declared.state.Source.{Source}
use Rattle.reader.specs.declared.state.Turn.{Turn}
use Rattle.reader.specs.declared.state.Turn.TheVariants.{Closed, Open, Spoilt as Spoiled}
use Rattle.reader.specs.declared.state.Reader.{Reader}
use Rattle.reader.specs.Holding.{Holds, Does}

-- what a record is read by, as begin takes it
abbrev pub taken_by : Source → Knows → Taken
taken_by s knows = taken (texts s.texts) knows (extension_list s.extensions)

module _ (r : Reader) (P : Reading → Type 0) where
  pub from_closed : r.turn ≡ Closed → P idle → (reading : Reading) → Holds r reading → P reading
  from_closed is p idle h = p
  from_closed is p (active b) h = cc
  from_closed is p (spoilt b) h = cc

  pub from_open : (s : Source) → r.turn ≡ Open s
      → ((knows : Knows) (rows : List Row) → Stands (texts s.texts) knows (extension_list s.extensions) rows r.course → P (active (begun (taken_by s knows) rows)))
      → (reading : Reading) → Holds r reading → P reading
  from_open s is p idle h = cc
  from_open s is p (spoilt b) h = cc
  from_open s is p (active b) h =
      let same : h.source ≡ s = cc in
      let t : texts s.texts ≡ b.taken.texts = cc (same, h.of_texts) in
      let l : extension_list s.extensions ≡ b.taken.extensions = cc (same, h.of_list) in
      subst P (ap₂ (λ (ts : List Bytes) (xs : List Name). active (begun (taken ts b.taken.knows xs) b.rows)) t l) (p b.taken.knows b.rows (rw (t, l) h.stands))

-- A row that may come next was taken, which spoils the record where the answer says so.
module _ (s : Source) (knows : Knows) (rows : List Row) (row : Row) (m m' : Model) (c : Course) where
  module _ (ans : Result (Unit {0}) Refusal) (passed : None ≡ first (row_faults (texts s.texts) rows row)) (took : Took (taken_by s knows) rows row c m m' ans) where
    judged : row_on (active (begun (taken_by s knows) rows)) row m ≡ row_judged ans row (begun (taken_by s knows) rows) m'
    unfolding row_on
    judged = cc (passed, took.answer, took.sheet)

  pub row_keeps : (ans : Result (Unit {0}) Refusal) → None ≡ first (row_faults (texts s.texts) rows row) → Took (taken_by s knows) rows row c m m' ans
      → {Q : Refusal → Type 0} → MatchResult ans (λ _. false ≡ false) Q → ((e : Refusal) → Q e → is_of_sheet e ≡ true) → (turn : Turn) → turn ≡ Open s
      → Does (row_on (active (begun (taken_by s knows) rows)) row m) (record { turn = turn; course = c }) m' (done ans)
  row_keeps (Ok u) passed took left sheets turn is =
      rw (judged (Ok u) passed took)
      (record { answered = refl; reads = record { source = s; is_open = is; of_texts = refl; of_list = refl; stands = took.stands }; sheet = refl })
  row_keeps (Err e) passed took left sheets turn is =
      let o = sheets e left in
      rw (judged (Err e) passed took, o)
      (record { answered = refl; reads = record { source = s; is_open = is; of_texts = refl; of_list = refl; stands = took.left e refl o }; sheet = refl })

  pub row_spoils : (ans : Result (Unit {0}) Refusal) → None ≡ first (row_faults (texts s.texts) rows row) → Took (taken_by s knows) rows row c m m' ans
      → {Q : Refusal → Type 0} → MatchResult ans (λ _. true ≡ false) Q → ((e : Refusal) → Q e → is_of_sheet e ≡ false) → (m'' : Model) → m'' ≡ after_drop m'
      → Does (row_on (active (begun (taken_by s knows) rows)) row m) (record { turn = Spoiled; course = c }) m'' (done ans)
  row_spoils (Ok u) passed took mine others m'' dropped = cc
  row_spoils (Err e) passed took mine others m'' dropped =
      let o = others e mine in
      rw (judged (Err e) passed took, o) (record { answered = refl; reads = refl; sheet = dropped })
