use Rattle.std.proofs.Common.{◌≡◌, ℕ, List, ◌++◌, reverse, length}
use Rattle.file.specs.Form.{text_at}
use Rattle.file.specs.Texts.{texts}
use Rattle.items.specs.Items.{items}
use Rattle.items.specs.Unread.{unread}
use Rattle.rules.specs.Scope.{named_pairs}
use Rattle.rules.specs.Faults.{process_items}
use Rattle.rules.specs.Faults.{first}
use Rattle.scope.specs.Bounded.{held}
use Rattle.scope.specs.Entries.{bindings_of, ignorables_of, processed_of}
use Rattle.trial.proofs.process.process_items.Given as goal

-- the items that are left, with the pairs, give what all give, and stand at the value's end
abbrev pub invariant-loop-item : goal.invariant-loop-item
invariant-loop-item l =
    (first (process_items (bindings_of (texts l.lent) l.bindings) (ignorables_of (texts l.lent) l.marks) l.place (length (held l.pairs)) (items (unread l.list)))
    ≡ first (process_items (bindings_of (texts l.lent) l.bindings) (ignorables_of (texts l.lent) l.marks) l.place (length (held l.initial.pairs)) (items (text_at (texts l.lent) l.text))))
    × (reverse (named_pairs (bindings_of (texts l.lent) l.bindings) (items (unread l.list))) ++ processed_of (texts l.lent) (held l.pairs)
    ≡ reverse (named_pairs (bindings_of (texts l.lent) l.bindings) (items (text_at (texts l.lent) l.text))) ++ processed_of (texts l.lent) (held l.initial.pairs))
    × ((front : List ℕ) × (text_at (texts l.lent) l.text ≡ front ++ unread l.list))

abbrev pub decreases-loop-item : goal.decreases-loop-item
decreases-loop-item l = length (unread l.list)
