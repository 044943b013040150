-- The draft of a record whose rows were accepted, and what one row more adds to it.
use Rattle.std.proofs.Common.{◌≡◌, ℕ, suc, Bool, true, ◌||◌, List, [], ◌∷◌, ◌++◌, length, Some, None, Option, sym, refl, ap, ◌∙◌, subst, inl, inr, arith}
use Rattle.std.proofs.lemmas.List.{map-append}
use Rattle.text.specs.Bytes.{Bytes}
use Rattle.record.specs.declared.row.Row.{Row}
use Rattle.record.specs.declared.row.PlacedRow.{PlacedRow}
use Rattle.record.specs.declared.row.Kind.{Kind}
use Rattle.record.specs.declared.row.Kind.TheVariants.{Start, Declaration, Attribute, Text, End}
use Rattle.record.specs.Rows.{kind_of}
use Rattle.knowledge.specs.Understood.{Knows}
use Rattle.card.specs.Cards.{Name}
use Rattle.sheet.specs.Rows.{formed, well_formed}
use Rattle.rules.specs.Elements.{Tag, Token, tag, text, end, placed_at, tokens, around}
use Rattle.rules.specs.Steps.{when, tag_kept, kept_of, kept_rows}
use Rattle.rules.specs.Order.{is_shaped, is_well_formed, Accepted}
use Rattle.rules.specs.Records.{judged, waiting, newly_judged, draft}
use Rattle.rules.specs.Lists.{In, Sub, RisesFrom, open_after}
use Rattle.rules.proofs.Members.{sub_refl, sub_left, in_sub, in_right}
use Rattle.rules.proofs.Rows.{IsKind, TokenTrue, AllTrue, all_true}
use Rattle.rules.proofs.Rise.{kept_rows_rise, kept_rows_are_well_formed}
use Rattle.rules.proofs.Stable.{what_a_row_lets_be_judged}
use Rattle.rules.proofs.Pairs.{open_append, tally, tag-opens, text-opens, end-opens, kept_rows_pair}
use Rattle.calls.specs.Calls.{Taken, Begun, tokens_of, fresh}
use Rattle.calls.proofs.Fits.{Fit, fit_whole, places_of, AllFormed, Loose}
use Rattle.calls.proofs.Judging.{newly, newly-kept}

shaped_formed : (k : Option Kind) (r : Row) → is_shaped k r ≡ true → formed k r ≡ true
unfolding is_shaped
shaped_formed k r h = grind arith

row-formed : (texts : List Bytes) (r : Row) → is_well_formed texts r ≡ true → well_formed r ≡ true
unfolding is_well_formed well_formed
row-formed texts r e = shaped_formed (kind_of r.kind) r (let h : is_shaped (kind_of r.kind) r ≡ true = grind arith in h)

pub judged-part : (K : Knows) (ext : List Name) (toks : List Token) → Sub PlacedRow (kept_rows K ext (judged toks)) (kept_rows K ext toks)
unfolding judged kept_rows
judged-part K ext [] = sub_refl _
judged-part K ext (tag t ∷ past) = sub_left _ _
judged-part K ext (text x ∷ past) = sub_refl _
judged-part K ext (end x ∷ past) = sub_refl _

module _ (texts : List Bytes) (K : Knows) (ext : List Name) (rows : List Row) (w : Accepted texts rows) where
  draft-formed : AllFormed (draft texts K ext rows)
  unfolding draft
  draft-formed x i = row-formed texts x.row (kept_rows_are_well_formed texts K ext rows w x (in_sub x (judged-part K ext (tokens texts rows)) i))

  draft-fits : Fit None 0 (draft texts K ext rows)
  draft-fits =
      let p = (kept_rows_pair texts K ext rows).0 in
      fit_whole p.0 (draft texts K ext rows) (kept_rows_rise texts K ext rows w).0.1 draft-formed p.1

-- Of the rows that a row adds, no end lacks its start, unless it is the only one.

loose-one : (b : Bool) (x : PlacedRow) → Loose (when b x)
unfolding when
loose-one b x = grind arith

module _ (t : Taken) where
  tag-text : (x k b : Bool) (igs : List Bytes) (s : Tag) (y : PlacedRow) → TokenTrue t.texts (tag s) → IsKind Text y
      → Loose (tag_kept t.knows x k igs s ++ when b y)
  tag-text x k b igs s y h e =
      inr (
        tally (x || k) 0,
        open_append (Some 0) (tag_kept t.knows x k igs s) (when b y)
            ∙ ap (λ o. open_after o (when b y)) (tag-opens t.knows t.extensions t.texts x k igs s 0 h)
            ∙ text-opens t.knows t.extensions t.texts b y (tally (x || k) 0) e,
      )

  tag-end : (x k : Bool) (igs : List Bytes) (s : Tag) (y : PlacedRow) → TokenTrue t.texts (tag s) → IsKind End y
      → Loose (tag_kept t.knows x k igs s ++ when (x || k) y)
  tag-end x k igs s y h e =
      inr (
        0,
        open_append (Some 0) (tag_kept t.knows x k igs s) (when (x || k) y)
            ∙ ap (λ o. open_after o (when (x || k) y)) (tag-opens t.knows t.extensions t.texts x k igs s 0 h)
            ∙ end-opens t.knows t.extensions t.texts (x || k) y 0 e,
      )

  loose : (k : Option Kind) (x : PlacedRow) (toks : List Token) → kind_of x.row.kind ≡ k → AllTrue t.texts toks
      → Loose (newly t (newly_judged k x toks) (judged toks))
  unfolding newly newly_judged waiting judged kept_of around
  loose None x toks e h = inl tt
  loose (Some Declaration) x toks e h = inl tt
  loose (Some Attribute) x toks e h = inl tt
  loose (Some Start) x [] e h = inl tt
  loose (Some Start) x (tag y ∷ past) e h = inr (_, tag-opens t.knows t.extensions t.texts _ _ _ y 0 h.0)
  loose (Some Start) x (text y ∷ past) e h = inl tt
  loose (Some Start) x (end y ∷ past) e h = inl tt
  loose (Some Text) x [] e h = loose-one _ x
  loose (Some Text) x (tag y ∷ past) e h = tag-text _ _ _ _ y x h.0 e
  loose (Some Text) x (text y ∷ past) e h = loose-one _ x
  loose (Some Text) x (end y ∷ past) e h = loose-one _ x
  loose (Some End) x [] e h = loose-one _ x
  loose (Some End) x (tag y ∷ past) e h = tag-end _ _ _ y x h.0 e
  loose (Some End) x (text y ∷ past) e h = loose-one _ x
  loose (Some End) x (end y ∷ past) e h = loose-one _ x

-- One row more.

rises_right : (m : ℕ) (a b : List ℕ) → RisesFrom m (a ++ b) → (k : ℕ) × RisesFrom k b
rises_right m [] b h = (m, h)
rises_right m (n ∷ a) b h = rises_right (suc n) a b h.1

module _ (b : Begun) (r : Row) where
  -- what it adds to the draft
  unfoldable pub adds : List PlacedRow
  adds = newly b.taken (fresh b r) (judged (tokens_of b))

  unfoldable pub draft_of : List Row → List PlacedRow
  draft_of rows = draft b.taken.texts b.taken.knows b.taken.extensions rows

  pub draft-more : draft_of (r ∷ b.rows) ≡ draft_of b.rows ++ adds
  unfolding draft draft_of adds
  draft-more =
      ap (kept_rows b.taken.knows b.taken.extensions) (what_a_row_lets_be_judged b.taken.texts r b.rows)
      ∙ newly-kept b.taken (fresh b r) (judged (tokens_of b))

  module _ (w : Accepted b.taken.texts (r ∷ b.rows)) where
    pub adds-fits : Fit None 0 (draft_of b.rows ++ adds)
    unfolding draft_of
    adds-fits = subst (Fit None 0) draft-more (draft-fits b.taken.texts b.taken.knows b.taken.extensions (r ∷ b.rows) w)

    pub adds-formed : AllFormed adds
    unfolding draft_of
    adds-formed x i =
        draft-formed b.taken.texts b.taken.knows b.taken.extensions (r ∷ b.rows) w x
        (subst (In x) (sym draft-more) (in_right x (draft_of b.rows) adds i))

    pub adds_rises : (k : ℕ) × RisesFrom k (places_of adds)
    unfolding draft_of
    adds_rises =
        rises_right 0 (places_of (draft_of b.rows)) (places_of adds)
        (subst (RisesFrom 0) (ap places_of draft-more ∙ map-append _ (draft_of b.rows) adds)
        (kept_rows_rise b.taken.texts b.taken.knows b.taken.extensions (r ∷ b.rows) w).0.1)

  pub adds-loose : Loose adds
  unfolding adds placed_at
  adds-loose = loose b.taken (kind_of r.kind) (placed_at (length b.rows) r) (tokens_of b) refl (all_true b.taken.texts b.rows)
