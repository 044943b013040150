-- Eight records, each with its whole outcome.
use Rattle.std.specs.Prelude.{List, [], ◌∷◌, codes, Result}
use Rattle.text.specs.Bytes.{Bytes}
use Rattle.text.specs.Names.{mc_namespace}
use Rattle.record.specs.declared.row.Row.{Row}
use Rattle.record.specs.declared.refusal.Cause.TheVariants.{StrayChild, ForeignName}
use Rattle.record.specs.declared.refusal.Refusal.{Refusal}
use Rattle.record.specs.declared.refusal.Refusal.TheVariants.{NotIgnorable, Misplaced, Mismatch}
use Rattle.card.specs.Cards.{Name}
use Rattle.rules.specs.Records.{Sealed}
use Rattle.rules_cases.specs.Case.{Case, row, start, declare, attribute, text, end, keeps, refuses, AsStated}

-- The record from the bench: texts 1 to 9, and rows 0 to 9.

abbrev bench_texts : List Bytes
bench_texts =
    []
    ∷ codes "urn:pump:1" ∷ codes "urn:pump:2" ∷ mc_namespace
    ∷ codes "Test" ∷ codes "q" ∷ codes "Ignorable"
    ∷ codes "Flow" ∷ codes "Noise" ∷ codes "12" ∷ []

abbrev bench_rows : List Row
bench_rows =
    row 1 1 4 0
    ∷ row 2 5 2 0
    ∷ row 3 3 6 5
    ∷ row 3 0 7 9
    ∷ row 3 2 8 9
    ∷ row 4 9 0 0
    ∷ row 1 2 8 0
    ∷ row 4 9 0 0
    ∷ row 5 0 0 0
    ∷ row 5 0 0 0
    ∷ []

-- the supplier's ignorable attribute and element are dropped
abbrev suppliers_names_are_dropped : Case
suppliers_names_are_dropped =
    record {
      texts = bench_texts;
      understood = codes "urn:pump:1" ∷ [];
      extensions = [];
      rows = bench_rows;
      expected = keeps bench_rows (0 ∷ 3 ∷ 5 ∷ 9 ∷ []) 4;
    }

-- the same record with the supplier understood: all but the Ignorable attribute
abbrev suppliers_names_are_understood : Case
suppliers_names_are_understood =
    record {
      texts = bench_texts;
      understood = codes "urn:pump:1" ∷ codes "urn:pump:2" ∷ [];
      extensions = [];
      rows = bench_rows;
      expected = keeps bench_rows (0 ∷ 1 ∷ 3 ∷ 4 ∷ 5 ∷ 6 ∷ 7 ∷ 8 ∷ 9 ∷ []) 9;
    }

-- In the others the root is p:r, except where another is given; the namespace of p is understood, that of q is not.
-- Texts: 1 urn:p, 2 urn:q, 3 MC, 4 r, 5 q, 6 Ignorable, 7 ProcessContent, 8 W, 9 q:W, 10 AlternateContent, 11 Choice,
-- 12 Fallback, 13 Requires, 14 X, 15 text.
abbrev texts : List Bytes
texts =
    []
    ∷ codes "urn:p" ∷ codes "urn:q" ∷ mc_namespace ∷ codes "r" ∷ codes "q"
    ∷ codes "Ignorable" ∷ codes "ProcessContent" ∷ codes "W" ∷ codes "q:W" ∷ codes "AlternateContent"
    ∷ codes "Choice" ∷ codes "Fallback" ∷ codes "Requires" ∷ codes "X" ∷ codes "text" ∷ []

abbrev reading : List Name → List Row → Result Sealed Refusal → Case
reading extensions rows expected =
    record { texts = texts; understood = codes "urn:p" ∷ []; extensions = extensions; rows = rows; expected = expected }

-- <p:r xmlns:q="urn:q" mc:Ignorable="q" mc:ProcessContent="q:W"><q:W>text</q:W></p:r>
abbrev unwrapped_rows : List Row
unwrapped_rows =
    start 1 4
    ∷ declare 5 2
    ∷ attribute 3 6 5
    ∷ attribute 3 7 9
    ∷ start 2 8
    ∷ text 15
    ∷ end
    ∷ end
    ∷ []

abbrev an_unwrapped_element_leaves_its_text : Case
an_unwrapped_element_leaves_its_text = reading [] unwrapped_rows (keeps unwrapped_rows (0 ∷ 5 ∷ 7 ∷ []) 3)

-- <p:r xmlns:q="urn:q" mc:ProcessContent="q:W"><q:W>text</q:W></p:r>
abbrev process_content_wants_ignorable : Case
process_content_wants_ignorable =
    reading []
    (start 1 4
    ∷ declare 5 2
    ∷ attribute 3 7 9
    ∷ start 2 8
    ∷ text 15
    ∷ end
    ∷ end
    ∷ [])
    (refuses (NotIgnorable 2))

-- <p:r xmlns:q="urn:q"><mc:AlternateContent><mc:Choice Requires="q"><p:W/></mc:Choice>
-- <mc:Fallback><p:X/></mc:Fallback></mc:AlternateContent></p:r>
abbrev fallback_rows : List Row
fallback_rows =
    start 1 4
    ∷ declare 5 2
    ∷ start 3 10
    ∷ start 3 11
    ∷ attribute 0 13 5
    ∷ start 1 8
    ∷ end
    ∷ end
    ∷ start 3 12
    ∷ start 1 14
    ∷ end
    ∷ end
    ∷ end
    ∷ end
    ∷ []

abbrev the_fallback_is_selected : Case
the_fallback_is_selected = reading [] fallback_rows (keeps fallback_rows (0 ∷ 1 ∷ 9 ∷ 10 ∷ 13 ∷ []) 5)

-- <p:r xmlns:q="urn:q"><mc:AlternateContent><mc:Fallback/><mc:Choice Requires="q"/></mc:AlternateContent></p:r>
abbrev a_choice_behind_the_fallback : Case
a_choice_behind_the_fallback =
    reading []
    (start 1 4
    ∷ declare 5 2
    ∷ start 3 10
    ∷ start 3 12
    ∷ end
    ∷ start 3 11
    ∷ attribute 0 13 5
    ∷ end
    ∷ end
    ∷ end
    ∷ [])
    (refuses (Misplaced 5))

-- <q:r/>
abbrev a_foreign_root : Case
a_foreign_root = reading [] (start 2 4 ∷ end ∷ []) (refuses (Mismatch 0 ForeignName))

-- <p:r xmlns:q="urn:q" mc:Ignorable="q"><mc:AlternateContent><q:X/><mc:Choice Requires="q"/></mc:AlternateContent></p:r>,
-- with q:X on the extension list
abbrev an_extension_element_in_alternate_content : Case
an_extension_element_in_alternate_content =
    reading ((codes "urn:q", codes "X") ∷ [])
    (start 1 4
    ∷ declare 5 2
    ∷ attribute 3 6 5
    ∷ start 3 10
    ∷ start 2 14
    ∷ end
    ∷ start 3 11
    ∷ attribute 0 13 5
    ∷ end
    ∷ end
    ∷ end
    ∷ [])
    (refuses (Mismatch 4 StrayChild))

abbrev pub eight : List Case
eight =
    suppliers_names_are_dropped
    ∷ suppliers_names_are_understood
    ∷ an_unwrapped_element_leaves_its_text
    ∷ process_content_wants_ignorable
    ∷ the_fallback_is_selected
    ∷ a_choice_behind_the_fallback
    ∷ a_foreign_root
    ∷ an_extension_element_in_alternate_content
    ∷ []

abbrev pub EightAsStated : Type 0
EightAsStated = AsStated eight
