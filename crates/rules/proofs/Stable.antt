-- A row more leaves what was decided.
use Rattle.std.proofs.Common.{◌≡◌, List, [], ◌∷◌, ◌++◌, length, Some, None, Option, sym, refl, ap, ◌∙◌, append_assoc, append-nil}
use Rattle.text.specs.Bytes.{Bytes}
use Rattle.record.specs.declared.row.Row.{Row}
use Rattle.record.specs.declared.row.PlacedRow.{PlacedRow}
use Rattle.record.specs.declared.row.Kind.{Kind}
use Rattle.record.specs.declared.row.Kind.TheVariants.{Start, Declaration, Attribute, Text, End}
use Rattle.record.specs.Rows.{kind_of}
use Rattle.knowledge.specs.Understood.{Knows}
use Rattle.card.specs.Cards.{Name}
use Rattle.rules.specs.Elements.{Tag, Token, tag, text, end, add, on_top, placed_at, tokens}
use Rattle.rules.specs.Steps.{kept_rows, kept_of}
use Rattle.rules.specs.Records.{judged, waiting, newly_judged, draft}
use Rattle.rules.specs.Laws.{WhatWasDecidedStays, WhatARowLetsBeJudged}

top-same : (f : Tag → Tag) (past : List Token) → judged (on_top f past) ≡ judged past
unfolding judged on_top
top-same f [] = refl
top-same f (tag t ∷ past) = refl
top-same f (text x ∷ past) = refl
top-same f (end x ∷ past) = refl

waits : (past : List Token) → past ≡ waiting past ++ judged past
unfolding waiting judged
waits [] = refl
waits (tag t ∷ past) = refl
waits (text x ∷ past) = refl
waits (end x ∷ past) = refl

newly : (k : Option Kind) (texts : List Bytes) (x : PlacedRow) (past : List Token)
    → judged (add k texts x past) ≡ newly_judged k x past ++ judged past
unfolding add judged newly_judged
newly (Some Start) texts x past = waits past
newly (Some Declaration) texts x past = top-same _ past
newly (Some Attribute) texts x past = top-same _ past
newly (Some Text) texts x past = ap (λ l. text x ∷ l) (waits past)
newly (Some End) texts x past = ap (λ l. end x ∷ l) (waits past)
newly None texts x past = refl

pub what_a_row_lets_be_judged : WhatARowLetsBeJudged
unfolding tokens
what_a_row_lets_be_judged texts r rows = newly (kind_of r.kind) texts (placed_at (length rows) r) (tokens texts rows)

module _ (K : Knows) (ext : List Name) where
  -- tokens more add behind what is kept
  grows : (new past : List Token) → (more : List PlacedRow) × (kept_rows K ext (new ++ past) ≡ kept_rows K ext past ++ more)
  unfolding kept_rows
  grows [] past = ([], sym (append-nil _))
  grows (t ∷ new) past =
      let h = grows new past in (
        h.0 ++ kept_of K ext t (new ++ past),
        ap (λ xs. xs ++ kept_of K ext t (new ++ past)) h.1 ∙ append_assoc (kept_rows K ext past) h.0 (kept_of K ext t (new ++ past)),
      )

  one_more : (texts : List Bytes) (r : Row) (rows : List Row)
      → (more : List PlacedRow) × (draft texts K ext (r ∷ rows) ≡ draft texts K ext rows ++ more)
  unfolding draft
  one_more texts r rows =
      let g = grows (newly_judged (kind_of r.kind) (placed_at (length rows) r) (tokens texts rows)) (judged (tokens texts rows)) in
      (g.0, ap (kept_rows K ext) (what_a_row_lets_be_judged texts r rows) ∙ g.1)

  many_more : (texts : List Bytes) (later rows : List Row)
      → (more : List PlacedRow) × (draft texts K ext (later ++ rows) ≡ draft texts K ext rows ++ more)
  many_more texts [] rows = ([], sym (append-nil _))
  many_more texts (r ∷ later) rows =
      let h = many_more texts later rows in
      let k = one_more texts r (later ++ rows) in
      (h.0 ++ k.0, k.1 ∙ ap (λ xs. xs ++ k.0) h.1 ∙ append_assoc (draft texts K ext rows) h.0 k.0)

pub what_was_decided_stays : WhatWasDecidedStays
what_was_decided_stays texts K ext later rows = many_more K ext texts later rows
