-- The law over every sequence of calls to a new reader over a new sheet. Calls have the newest first.
use Rattle.std.specs.Prelude.{◌≡◌, ℕ, true, false, ◌⊎◌, List, [], ◌∷◌, ◌++◌, length, Some}
use Rattle.text.specs.Bytes.{Bytes}
use Rattle.record.specs.declared.row.Row.{Row}
use Rattle.record.specs.declared.row.PlacedRow.{PlacedRow}
use Rattle.record.specs.Rows.{kind_of}
use Rattle.file.specs.Form.{opened, text_at}
use Rattle.knowledge.specs.Understood.{Knows}
use Rattle.card.specs.Cards.{Name}
use Rattle.rules.specs.Elements.{Element}
use Rattle.rules.specs.Scope.{in_extension}
use Rattle.rules.specs.Lists.{In}
use Rattle.rules.specs.Laws.{StandsOnly, has_name, Fine, Wider, Earlier}
use Rattle.calls.specs.Calls.{taken, Begun, tokens_of, Call, begin, row, file, finish, abandon}
use Rattle.calls.specs.Book.{New, answer_to, sealed_by, Event, events, book, is_accepted, record_in, begun_by}

-- This call, behind these events, ends a record that call number i began, i calls being before that one.
abbrev pub Ends : Call → List Event → ℕ → Begun → Type 0
Ends (begin t) past i b = ⊥
Ends (row r) past i b = ⊥
Ends (file bytes knows extensions) past i b = (i ≡ length past) × (record_in (opened bytes) knows extensions ≡ Some b)
Ends finish past i b = (i ≡ begun_by past) × ((book past).current ≡ Some b)
Ends abandon past i b = ⊥

-- the last of these calls ends that record, is accepted and puts these rows behind the sealed ones
abbrev pub SealedLast : New → Call → List Call → ℕ → Begun → List PlacedRow → Type 0
SealedLast new c past i b rows =
    Ends c (events new past) i b × (is_accepted (answer_to new c past) ≡ true) × (sealed_by new (c ∷ past) ≡ sealed_by new past ++ rows)

-- one of them does: a record begun by call number i was sealed, as these rows
abbrev pub Sealed : New → List Call → ℕ → Begun → List PlacedRow → Type 0
Sealed new [] i b rows = ⊥
Sealed new (c ∷ past) i b rows = Sealed new past i b rows ⊎ SealedLast new c past i b rows

-- The same calls, each with a knowledge that says yes wherever the first one's does; the other arguments are the same.

pub data SameCall : Call → Call → Type 0 where
  begins : (texts : List Bytes) (extensions : List Name) {knows more : Knows} → Wider knows more
      → SameCall (begin (taken texts knows extensions)) (begin (taken texts more extensions))
  rows : (r : Row) → SameCall (row r) (row r)
  files : (bytes : Bytes) (extensions : List Name) {knows more : Knows} → Wider knows more
      → SameCall (file bytes knows extensions) (file bytes more extensions)
  finishes : SameCall finish finish
  abandons : SameCall abandon abandon

pub data SameCalls : List Call → List Call → Type 0 where
  none : SameCalls [] []
  more : {c d : Call} {past other : List Call} → SameCall c d → SameCalls past other → SameCalls (c ∷ past) (d ∷ other)

-- (a) The sealed rows are those of the book: the kept rows of the records that finish or file accepted, end to end.
abbrev pub AreTheBooks : New → List Call → List PlacedRow → Type 0
AreTheBooks new calls sealed = sealed ≡ (book (events new calls)).sealed

-- Of a record: outside extension elements, the row has no namespace, the XML namespace or one understood.
abbrev pub FineIn : Begun → PlacedRow → Type 0
FineIn b x =
    (at : List Element) × StandsOnly x at (tokens_of b)
    × (in_extension b.taken.extensions at ≡ false → Fine b.taken.knows (text_at b.taken.texts x.row.a))

-- (b) Every sealed row is of a sealed record; and in every sealed record each element and attribute is fine.
abbrev pub AreUnderstood : New → List Call → List PlacedRow → Type 0
AreUnderstood new calls sealed =
    ((x : PlacedRow) → In x sealed → (i : ℕ) × (b : Begun) × (rows : List PlacedRow) × Sealed new calls i b rows × In x rows)
    × ((i : ℕ) (b : Begun) (rows : List PlacedRow) → Sealed new calls i b rows
    → (x : PlacedRow) → In x rows → has_name (kind_of x.row.kind) ≡ true → FineIn b x)

-- Of a record of two readers: the row lies in an AlternateContent where the second selects an earlier branch than the first.
abbrev pub LiesEarlier : Begun → Begun → PlacedRow → Type 0
LiesEarlier b other x =
    (at : List Element) × StandsOnly x at (tokens_of b) × Earlier b.taken.knows other.taken.knows b.taken.extensions at

-- (c) A second reader, over any new sheet, gets the same calls with knowledge that says yes wherever the first one's does. Of a record
-- begun by the same call and sealed by both, it has sealed every row that the first has, unless it selects an earlier branch there.
abbrev pub StayWithMore : New → List Call → Type 0
StayWithMore new calls =
    (new' : New) (calls' : List Call) → SameCalls calls calls'
    → (i : ℕ) (b b' : Begun) (rows rows' : List PlacedRow) → Sealed new calls i b rows → Sealed new' calls' i b' rows'
    → (x : PlacedRow) → In x rows → In x rows' ⊎ LiesEarlier b b' x

-- what is promised of the sealed rows after these calls
abbrev pub Lawful : New → List Call → List PlacedRow → Type 0
Lawful new calls sealed = AreTheBooks new calls sealed × AreUnderstood new calls sealed × StayWithMore new calls

abbrev pub EveryRunIsLawful : Type 0
EveryRunIsLawful = (new : New) (calls : List Call) → Lawful new calls (sealed_by new calls)
