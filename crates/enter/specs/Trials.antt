-- The trial of an element in two parts: what its declarations and lists hold, then the rest (docs/REFUSALS.md, "An element", 1 to 5 and 6 to 9).
use Rattle.std.specs.Prelude.{Bool, List, ◌++◌, length, nat_lt}
use Rattle.text.specs.Names.{in_mc}
use Rattle.record.specs.declared.refusal.Refusal.{Refusal}
use Rattle.record.specs.declared.refusal.Refusal.TheVariants.{ScopeFull}
use Rattle.rules.specs.Elements.{Tag}
use Rattle.rules.specs.Scope.{Scope, scope_with, is_choice, is_ignorable_in, ignorable_of, process_content_of, must_understand_of}
use Rattle.rules.specs.Faults.{fault, start_name_faults, attr_name_faults, ignorable_faults, process_faults, must_faults, place_faults, attr_faults, choice_faults, xml_faults}

-- by what is in scope around the element
unfoldable pub list_faults : Scope → Tag → List Refusal
list_faults out t =
    let at : Scope = scope_with t out in
    fault (nat_lt 128 (length at.bindings)) (ScopeFull t.placed.place)
    ++ start_name_faults t
    ++ attr_name_faults t.attrs
    ++ ignorable_faults at.bindings (length out.ignorables) (ignorable_of t)
    ++ process_faults at.bindings at.ignorables (length out.processed) (process_content_of t)
    ++ must_faults at.bindings (must_understand_of t)

-- by what is in scope at the element, and whether it is unwrapped
unfoldable pub rest_faults : Bool → Scope → Bool → Bool → Tag → List Refusal
rest_faults unwrapped at inside behind_fallback t =
    place_faults inside behind_fallback (is_ignorable_in at.ignorables t.namespace) t
    ++ attr_faults (in_mc t.namespace) at.ignorables t
    ++ choice_faults (is_choice t) at.bindings t
    ++ xml_faults unwrapped t.attrs
