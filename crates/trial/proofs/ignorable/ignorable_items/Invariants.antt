use Rattle.std.proofs.Common.{◌≡◌, ◌++◌, reverse, length}
use Rattle.file.specs.Texts.{texts}
use Rattle.items.specs.Items.{items}
use Rattle.items.specs.Unread.{unread}
use Rattle.rules.specs.Scope.{named}
use Rattle.rules.specs.Faults.{ignorable_items}
use Rattle.rules.specs.Faults.{first}
use Rattle.scope.specs.Bounded.{held}
use Rattle.scope.specs.Entries.{bindings_of, ignorables_of}
use Rattle.trial.proofs.ignorable.ignorable_items.Given as goal

-- the items that are left, with the marks, give what all give
abbrev pub invariant-loop-item : goal.invariant-loop-item
invariant-loop-item l =
    (first (ignorable_items (bindings_of (texts l.lent) l.bindings) l.place (length (held l.marks)) (items (unread l.item-iterator)))
    ≡ first (ignorable_items (bindings_of (texts l.lent) l.bindings) l.place (length (held l.initial.marks)) (items l.value)))
    × (reverse (named (bindings_of (texts l.lent) l.bindings) (items (unread l.item-iterator))) ++ ignorables_of (texts l.lent) (held l.marks)
    ≡ reverse (named (bindings_of (texts l.lent) l.bindings) (items l.value)) ++ ignorables_of (texts l.lent) (held l.initial.marks))
