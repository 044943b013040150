-- What the lists in scope mean to the rules, and what of them was there before.
use Rattle.std.specs.Prelude.{ℕ, ◌-◌, List, length, drop}
use Rattle.text.specs.Bytes.{Bytes}
use Rattle.rules.specs.Scope.{Scope}
use Rattle.scope.specs.Bounded.{held}
use Rattle.scope.specs.Entries.{scope_from}
use Rattle.enter.specs.declared.in_scope.InScope.{InScope}
use Rattle.enter.specs.declared.in_scope.Lengths.{Lengths}

abbrev pub scope_of : List Bytes → InScope → Scope
scope_of texts s = scope_from texts (held s.bindings) (held s.marks) (held s.pairs)

abbrev pub lengths_of : InScope → Lengths
lengths_of s = record { bindings = length (held s.bindings); marks = length (held s.marks); pairs = length (held s.pairs) }

-- how many entries the lists of a scope have
abbrev pub sizes : Scope → Lengths
sizes s = record { bindings = length s.bindings; marks = length s.ignorables; pairs = length s.processed }

-- so many entries of a list, those that were there first: it has the newest first
unfoldable pub eldest : {X : Type 0} → ℕ → List X → List X
eldest n xs = drop (length xs - n) xs

unfoldable pub scope_before : Lengths → Scope → Scope
scope_before n s =
    record { bindings = eldest n.bindings s.bindings; ignorables = eldest n.marks s.ignorables; processed = eldest n.pairs s.processed }
