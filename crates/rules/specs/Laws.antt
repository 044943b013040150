-- The laws of the rules. Rows have the newest first, except those that an outcome is of.
use Rattle.std.specs.Prelude.{◌≡◌, ℕ, zero, ◌≤◌, Bool, true, false, not, ◌&&◌, ◌||◌, ◌⊎◌, List, [], ◌∷◌, ◌++◌, map, reverse, length, Some, None, Ok, Option}
use Rattle.text.specs.Bytes.{Bytes}
use Rattle.text.specs.Names.{xml_namespace}
use Rattle.record.specs.declared.row.Row.{Row}
use Rattle.record.specs.declared.row.PlacedRow.{PlacedRow}
use Rattle.record.specs.declared.row.Kind.{Kind}
use Rattle.record.specs.declared.row.Kind.TheVariants.{Start, Declaration, Attribute, Text, End}
use Rattle.record.specs.Rows.{kind_of}
use Rattle.record.specs.declared.refusal.Cause.{Cause}
use Rattle.record.specs.declared.refusal.Refusal.{Refusal}
use Rattle.record.specs.declared.refusal.Refusal.TheVariants.{Mismatch}
use Rattle.record.specs.Refusals.{numbered, place_of}
use Rattle.file.specs.Form.{text_at}
use Rattle.knowledge.specs.Understood.{Knows, is_understood}
use Rattle.card.specs.Cards.{Name}
use Rattle.rules.specs.Elements.{Tag, Token, tag, text, end, placed_at, tokens, children, Element, element, around, tag_rows}
use Rattle.rules.specs.Scope.{is_choice, is_fallback, in_extension, scope, in_alternate_content}
use Rattle.rules.specs.Steps.{is_satisfied, selected, kept_of, kept_rows}
use Rattle.rules.specs.Mismatches.{marks_of, mismatches}
use Rattle.rules.specs.Faults.{any_fallback, faults_of, faults}
use Rattle.rules.specs.Order.{is_well_formed, has_ended, Accepted}
use Rattle.rules.specs.Records.{judged, newly_judged, draft, Sealed, outcome}
use Rattle.rules.specs.States.{ground, frames, step, faults_in, kept_in, marks_in}
use Rattle.rules.specs.Lists.{In, Sub, RisesFrom, placed_rows, open_after}

-- Rows more leave what was decided: the draft of the longer record begins with the draft of the shorter.
abbrev pub WhatWasDecidedStays : Type 0
WhatWasDecidedStays =
    (texts : List Bytes) (knows : Knows) (extensions : List Name) (later rows : List Row)
    → (more : List PlacedRow) × (draft texts knows extensions (later ++ rows) ≡ draft texts knows extensions rows ++ more)

-- A row lets the element that waits be judged, unless it is its declaration or attribute, and then itself, if it is a text or an end.
abbrev pub WhatARowLetsBeJudged : Type 0
WhatARowLetsBeJudged =
    (texts : List Bytes) (r : Row) (rows : List Row)
    → judged (tokens texts (r ∷ rows))
    ≡ newly_judged (kind_of r.kind) (placed_at (length rows) r) (tokens texts rows) ++ judged (tokens texts rows)

-- these are rows of the record in the order of their places, some left out
abbrev pub InOrderOf : List Row → List PlacedRow → Type 0
InOrderOf rows some = Sub PlacedRow some (placed_rows rows) × RisesFrom 0 (map (λ (x : PlacedRow). x.place) some)

-- So are the draft and the kept rows of a record.
abbrev pub KeptRowsRise : Type 0
KeptRowsRise =
    (texts : List Bytes) (knows : Knows) (extensions : List Name) (rows : List Row) → Accepted texts rows
    → InOrderOf rows (draft texts knows extensions rows) × InOrderOf rows (kept_rows knows extensions (tokens texts rows))

-- Every row among them is one that a record may have: of its kinds, its numbers naming texts or being 0 as they must.
abbrev pub KeptRowsAreWellFormed : Type 0
KeptRowsAreWellFormed =
    (texts : List Bytes) (knows : Knows) (extensions : List Name) (rows : List Row) → Accepted texts rows
    → (x : PlacedRow) → In x (kept_rows knows extensions (tokens texts rows)) → is_well_formed texts x.row ≡ true

-- In the draft every end has its start; after the root's end every kept start has its end too.
abbrev pub KeptRowsPair : Type 0
KeptRowsPair =
    (texts : List Bytes) (knows : Knows) (extensions : List Name) (rows : List Row)
    → ((n : ℕ) × (open_after (Some 0) (draft texts knows extensions rows) ≡ Some n))
    × (has_ended (tokens texts rows) ≡ true → open_after (Some 0) (kept_rows knows extensions (tokens texts rows)) ≡ Some 0)

-- So of a sealed record: its rows are rows of the record in order, starts and ends pair, and their number is counted.
abbrev pub SealedRowsRiseAndPair : Type 0
SealedRowsRiseAndPair =
    (texts : List Bytes) (knows : Knows) (extensions : List Name) (rows : List Row) (sealed : Sealed)
    → outcome texts knows extensions rows ≡ Ok sealed
    → InOrderOf (reverse rows) sealed.rows
    × (open_after (Some 0) sealed.rows ≡ Some 0) × (sealed.count ≡ length sealed.rows)

-- A row stands in these elements, the innermost first; in its own too, if it is a start, a declaration or an attribute.
abbrev pub Stands : PlacedRow → List Element → List Token → Type 0
Stands x at [] = ⊥
Stands x at (tag t ∷ past) = (In x (tag_rows t) × (at ≡ element t (children zero past) ∷ around past)) ⊎ Stands x at past
Stands x at (text y ∷ past) = ((x ≡ y) × (at ≡ around past)) ⊎ Stands x at past
Stands x at (end y ∷ past) = ((x ≡ y) × (at ≡ around past)) ⊎ Stands x at past

-- in these and no others
abbrev pub StandsOnly : PlacedRow → List Element → List Token → Type 0
StandsOnly x at toks = Stands x at toks × ((other : List Element) → Stands x other toks → other ≡ at)

abbrev pub has_name : Option Kind → Bool
has_name (Some Start) = true
has_name (Some Declaration) = false
has_name (Some Attribute) = true
has_name (Some Text) = false
has_name (Some End) = false
has_name None = false

-- no namespace, the XML namespace, or one that is understood
abbrev pub Fine : Knows → Bytes → Type 0
Fine knows ns = (ns ≡ []) ⊎ (ns ≡ xml_namespace) ⊎ (is_understood knows ns ≡ true)

-- Of a record without refusal or mismatch, each kept start and attribute stands in an extension element or has such a namespace.
abbrev pub UnderstoodOnly : Type 0
UnderstoodOnly =
    (texts : List Bytes) (knows : Knows) (extensions : List Name) (rows : List Row) (sealed : Sealed)
    → outcome texts knows extensions rows ≡ Ok sealed
    → (x : PlacedRow) → In x sealed.rows → has_name (kind_of x.row.kind) ≡ true
    → (at : List Element) × StandsOnly x at (tokens texts (reverse rows))
    × (in_extension extensions at ≡ false → Fine knows (text_at texts x.row.a))

-- the second knowledge says yes wherever the first does
abbrev pub Wider : Knows → Knows → Type 0
Wider knows more = (ns : Bytes) → knows ns ≡ true → more ns ≡ true

-- one of these siblings, the youngest first, is selected
unfoldable pub any_selected : Knows → List Name → List Element → List Tag → Bool
any_selected knows extensions out [] = false
any_selected knows extensions out (t ∷ elder) = selected knows extensions (element t elder ∷ out) || any_selected knows extensions out elder

-- Branches are selected in turn: a Choice whose requirements are met, and a Fallback, unless an elder sibling is selected. A Fallback
-- among the elder ones is refused.
abbrev pub SelectedInTurn : Type 0
SelectedInTurn =
    (knows : Knows) (extensions : List Name) (t : Tag) (elder : List Tag) (out : List Element) → any_fallback elder ≡ false
    → selected knows extensions (element t elder ∷ out)
    ≡ ((is_fallback t || is_choice t && is_satisfied knows (scope extensions out).bindings t) && not (any_selected knows extensions out elder))

-- These elements lie in an AlternateContent where the first knowledge selects a branch and the second an earlier one.
abbrev pub Earlier : Knows → Knows → List Name → List Element → Type 0
Earlier knows more extensions [] = ⊥
Earlier knows more extensions (e ∷ out) =
    ((in_alternate_content out ≡ true) × (selected knows extensions (e ∷ out) ≡ true) × (any_selected more extensions out e.elder ≡ true))
    ⊎ Earlier knows more extensions out

-- Every row kept under the lesser knowledge is kept under the greater, unless it lies in an AlternateContent where the greater
-- selects an earlier branch.
abbrev pub MoreKnowledgeMoreRows : Type 0
MoreKnowledgeMoreRows =
    (texts : List Bytes) (knows more : Knows) (extensions : List Name) (rows : List Row) → Wider knows more
    → faults knows extensions (tokens texts rows) ≡ []
    → (x : PlacedRow) → In x (kept_rows knows extensions (tokens texts rows))
    → In x (kept_rows more extensions (tokens texts rows))
    ⊎ ((at : List Element) × StandsOnly x at (tokens texts rows) × Earlier knows more extensions at)

-- So of a record that is sealed under both.
abbrev pub MoreKnowledgeSealsMore : Type 0
MoreKnowledgeSealsMore =
    (texts : List Bytes) (knows more : Knows) (extensions : List Name) (rows : List Row) (lesser greater : Sealed) → Wider knows more
    → outcome texts knows extensions rows ≡ Ok lesser → outcome texts more extensions rows ≡ Ok greater
    → (x : PlacedRow) → In x lesser.rows
    → In x greater.rows ⊎ ((at : List Element) × StandsOnly x at (tokens texts (reverse rows)) × Earlier knows more extensions at)

-- No row has two causes of mismatch.
abbrev pub OneCause : Type 0
OneCause =
    (texts : List Bytes) (knows : Knows) (extensions : List Name) (rows : List Row) → Accepted texts rows
    → (place : ℕ) (cause other : Cause) → In (Mismatch place cause) (mismatches knows extensions (tokens texts rows))
    → In (Mismatch place other) (mismatches knows extensions (tokens texts rows)) → cause ≡ other

-- The mismatches come in the order of their places, each at a place of its own.
abbrev pub MismatchesRise : Type 0
MismatchesRise =
    (texts : List Bytes) (knows : Knows) (extensions : List Name) (rows : List Row) → Accepted texts rows
    → RisesFrom 0 (map place_of (mismatches knows extensions (tokens texts rows)))

-- What an element or an end is refused with is numbered 13 to 20.
abbrev pub FaultsAreNumbered : Type 0
FaultsAreNumbered =
    (knows : Knows) (extensions : List Name) (t : Token) (past : List Token) (refusal : Refusal)
    → In refusal (faults_of knows extensions t past) → (13 ≤ (numbered refusal).number) × ((numbered refusal).number ≤ 20)

-- The state of an element and the three lists at it follow from those of the element around it and its own tag; an end gives back
-- those around it.
abbrev pub StatesFollow : Type 0
StatesFollow =
    (knows : Knows) (extensions : List Name)
    → (frames knows extensions [] ≡ ground ∷ [])
    × ((t : Token) (past : List Token) → frames knows extensions (t ∷ past) ≡ step knows extensions t (frames knows extensions past))

-- What a token is refused with, the rows of it that are kept and its mismatches follow from the frame of the element around it.
abbrev pub RowsFollowStates : Type 0
RowsFollowStates =
    (knows : Knows) (extensions : List Name) (t : Token) (past : List Token)
    → (faults_of knows extensions t past ≡ faults_in knows extensions t (frames knows extensions past))
    × (faults knows extensions (t ∷ past) ≡ []
    → (kept_of knows extensions t past ≡ kept_in knows extensions t (frames knows extensions past))
    × (marks_of knows extensions t past ≡ marks_in knows extensions t (frames knows extensions past)))
