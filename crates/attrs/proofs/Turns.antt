-- One row more, and the first attribute that is at fault.
use Rattle.std.proofs.Common.{◌≡◌, ℕ, ◌+◌, ◌<◌, ◌≤◌, Bool, true, false, not, ◌&&◌, cond, List, [], ◌∷◌, ◌++◌, map, length, get_or, drop, is_some, Some, None, Option, sym, refl, ap, ◌∙◌}
use Rattle.std.proofs.lemmas.List.{at_drop_more, drop_all}
use Rattle.std.specs.Option.{option_map}
use Rattle.text.specs.Bytes.{Bytes}
use Rattle.text.specs.Names.{in_mc, in_xml, is_inherited, attribute_named}
use Rattle.record.specs.declared.row.PlacedRow.{PlacedRow}
use Rattle.record.specs.declared.refusal.Refusal.{Refusal}
use Rattle.record.specs.declared.refusal.Refusal.TheVariants.{UnknownName, BadAttribute, XmlAttribute}
use Rattle.file.specs.Form.{text_at}
use Rattle.rules.specs.Elements.{Attr, attr_of}
use Rattle.rules.specs.Scope.{first_with}
use Rattle.rules.specs.Faults.{first, fault, attr_name_faults, is_bad_attr, bad_attrs, xml_faults}
use Rattle.attrs.specs.First.{IsFirstPassing}

-- what is read past the end of some rows
abbrev pub blank : PlacedRow
blank = record { place = 0; row = record { kind = 0; a = 0; b = 0; c = 0 } }

module _ {X Y : Type 0} (f : X → Y) (test : Y → Bool) (xs : List X) (i : ℕ) where
  pub first_turn : (d : X) → i < length xs
      → first_with test (map f (drop i xs)) ≡ cond (test (f (get_or xs i d))) (Some (f (get_or xs i d))) (first_with test (map f (drop (i + 1) xs)))
  unfolding first_with
  first_turn d lt = at_drop_more (λ (l : List X). first_with test (map f l)) xs i d lt

  pub first_over : length xs ≤ i → first_with test (map f (drop i xs)) ≡ None
  unfolding first_with
  first_over le = ap (λ (l : List X). first_with test (map f l)) (drop_all i xs le)

first-fault : (b : Bool) (r : Refusal) (rest : List Refusal) → first (fault b r ++ rest) ≡ cond b (Some r) (first rest)
unfolding fault
first-fault true r rest = refl
first-fault false r rest = refl

-- The first of some attributes that is at fault gives the first of their faults.
module _ (bad : Attr → Bool) (refusal : ℕ → Refusal) (all : List Attr → List Refusal)
    (none : all [] ≡ []) (more : (x : Attr) (xs : List Attr) → all (x ∷ xs) ≡ fault (bad x) (refusal x.placed.place) ++ all xs) where
  first_bad : (xs : List Attr) → option_map (λ (x : Attr). refusal x.placed.place) (first_with bad xs) ≡ first (all xs)
  unfolding first_with
  first_bad [] = ap first (sym none)
  first_bad (x ∷ xs) =
      elim (bad x) as (λ v. option_map (λ (y : Attr). refusal y.placed.place) (cond v (Some x) (first_with bad xs)) ≡ cond v (Some (refusal x.placed.place)) (first (all xs)))
      [ true ↦ refl | false ↦ first_bad xs ]
      ∙ sym (ap first (more x xs) ∙ first-fault (bad x) (refusal x.placed.place) (all xs))

  refused : (texts : List Bytes) (rows : List PlacedRow) (found : Option PlacedRow) → option_map (attr_of texts) found ≡ first_with bad (map (attr_of texts) rows)
      → option_map (λ (x : PlacedRow). refusal x.place) found ≡ first (all (map (attr_of texts) rows))
  unfolding attr_of
  refused texts rows None h = ap (option_map (λ (x : Attr). refusal x.placed.place)) h ∙ first_bad (map (attr_of texts) rows)
  refused texts rows (Some x) h = ap (option_map (λ (x : Attr). refusal x.placed.place)) h ∙ first_bad (map (attr_of texts) rows)

module _ {answers : PlacedRow → Bool → Type 0} {rows : List PlacedRow} {found : Option PlacedRow} (h : IsFirstPassing answers rows found) (texts : List Bytes) where
  pub names_refused : ((x : PlacedRow) (b : Bool) → answers x b → b ≡ in_mc (text_at texts x.row.a) && not (is_some (attribute_named (text_at texts x.row.b))))
      → option_map (λ (x : PlacedRow). UnknownName x.place) found ≡ first (attr_name_faults (map (attr_of texts) rows))
  unfolding attr_of attr_name_faults
  names_refused same = refused _ UnknownName attr_name_faults refl (λ x xs. refl) texts rows found (h.by_meaning (attr_of texts) _ same)

  pub bad_refused : (ignorables : List Bytes) (choice : Bool) → ((x : PlacedRow) (b : Bool) → answers x b → b ≡ is_bad_attr ignorables choice (attr_of texts x))
      → option_map (λ (x : PlacedRow). BadAttribute x.place) found ≡ first (bad_attrs ignorables choice (map (attr_of texts) rows))
  unfolding bad_attrs
  bad_refused ignorables choice same = refused _ BadAttribute (bad_attrs ignorables choice) refl (λ x xs. refl) texts rows found (h.by_meaning (attr_of texts) _ same)

  pub xml_refused : (unwrapped : Bool) → ((x : PlacedRow) (b : Bool) → answers x b → b ≡ unwrapped && in_xml (text_at texts x.row.a) && is_inherited (text_at texts x.row.b))
      → option_map (λ (x : PlacedRow). XmlAttribute x.place) found ≡ first (xml_faults unwrapped (map (attr_of texts) rows))
  unfolding attr_of xml_faults
  xml_refused unwrapped same = refused _ XmlAttribute (xml_faults unwrapped) refl (λ x xs. refl) texts rows found (h.by_meaning (attr_of texts) _ same)
