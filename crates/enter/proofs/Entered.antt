-- Declarations as entries, how many entries there are, and what the trial of an element is made of.
use Rattle.std.proofs.Common.{◌≡◌, ◌+◌, List, [], ◌∷◌, ◌++◌, map, reverse, length, refl, ap, ◌∙◌, arith}
use Rattle.std.proofs.lemmas.List.{map-append, reverse-append, length-append, length-map, length-reverse}
use Rattle.text.specs.Bytes.{Bytes}
use Rattle.record.specs.declared.row.PlacedRow.{PlacedRow}
use Rattle.rules.specs.Elements.{decl_of}
use Rattle.items.specs.Items.{is_empty}
use Rattle.rules.specs.Scope.{Binding, ignorable_of, process_content_of, must_understand_of, binding_of, bindings_with, ignorables_with, processed_with, scope_with}
use Rattle.rules.specs.Steps.{is_foreign, is_dispensable, is_unwrapped}
use Rattle.rules.specs.Faults.{element_faults}
use Rattle.rules.proofs.Firsts.{first_append}
use Rattle.scope.specs.declared.entries.Bound.{Bound}
use Rattle.scope.specs.declared.entries.Mark.{Mark}
use Rattle.scope.specs.declared.entries.Pair.{Pair}
use Rattle.scope.specs.Entries as entries
use Rattle.scope.specs.Entries.{bindings_of, ignorables_of, processed_of}
use Rattle.judge.specs.declared.element.Element.{Element}
use Rattle.judge.specs.Tags.{tag_of, bound_of}
use Rattle.enter.specs.Trials.{list_faults, rest_faults}

module _ (texts : List Bytes) where
  decls_meant : (ds : List PlacedRow) → map (entries.binding_of texts) (map bound_of ds) ≡ map binding_of (map (decl_of texts) ds)
  unfolding binding_of decl_of
  decls_meant [] = refl
  decls_meant (d ∷ ds) = ap (λ (l : List Binding). entries.binding_of texts (bound_of d) ∷ l) (decls_meant ds)

  pub bindings_entered : (bs : List Bound) (e : Element) → bindings_of texts (bs ++ map bound_of e.decls.now) ≡ bindings_with (tag_of texts e) (bindings_of texts bs)
  unfolding bindings_of bindings_with
  bindings_entered bs e =
      ap reverse (map-append (entries.binding_of texts) bs (map bound_of e.decls.now))
      ∙ reverse-append (map (entries.binding_of texts) bs) (map (entries.binding_of texts) (map bound_of e.decls.now))
      ∙ ap (λ (l : List Binding). reverse l ++ reverse (map (entries.binding_of texts) bs)) (decls_meant e.decls.now)

  pub length_entered : (bs : List Bound) (e : Element) → length (bindings_with (tag_of texts e) (bindings_of texts bs)) ≡ length bs + length e.decls.now
  unfolding bindings_of bindings_with
  length_entered bs e = simp (length-append, length-reverse, length-map) (omega arith)

  pub length_ignorables : (ms : List Mark) → length (ignorables_of texts ms) ≡ length ms
  unfolding ignorables_of
  length_ignorables ms = simp (length-reverse, length-map)

  pub length_processed : (ps : List Pair) → length (processed_of texts ps) ≡ length ps
  unfolding processed_of
  length_processed ps = simp (length-reverse, length-map)

-- what the trials of an element cite
pub ruleset trying = (first_append, bindings_entered, length_entered, length_ignorables, length_processed)

-- opens what the trial of an element is made of, as far as its parts
unfoldable pub open_trial : Unit {0}
unfolding is_empty ignorable_of process_content_of must_understand_of ignorables_with processed_with scope_with is_foreign is_dispensable is_unwrapped element_faults list_faults rest_faults
open_trial = tt
