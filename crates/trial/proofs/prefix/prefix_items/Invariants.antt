use Rattle.std.proofs.Common.{◌≡◌}
use Rattle.file.specs.Texts.{texts}
use Rattle.items.specs.Items.{items}
use Rattle.items.specs.Unread.{unread}
use Rattle.rules.specs.Faults.{first, prefix_items}
use Rattle.scope.specs.Entries.{bindings_of}
use Rattle.trial.proofs.prefix.prefix_items.Given as goal

-- the items that are left give what all give
abbrev pub invariant-loop-item : goal.invariant-loop-item
invariant-loop-item l =
    first (prefix_items (bindings_of (texts l.lent) l.bindings) l.place (items (unread l.item-iterator)))
    ≡ first (prefix_items (bindings_of (texts l.lent) l.bindings) l.place (items l.value))
