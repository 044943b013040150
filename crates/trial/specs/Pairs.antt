-- The trials of an item of ProcessContent before it makes an entry.
use Rattle.std.specs.Prelude.{ℕ, not, List, ◌++◌, is_some}
use Rattle.text.specs.Bytes.{Bytes}
use Rattle.record.specs.declared.refusal.Refusal.{Refusal}
use Rattle.record.specs.declared.refusal.Refusal.TheVariants.{BadItem, Unbound, NotIgnorable}
use Rattle.items.specs.Items.{prefix_part, is_pair}
use Rattle.rules.specs.Scope.{Binding, bound}
use Rattle.rules.specs.Faults.{fault, names_ignorable}

unfoldable pub pair_faults : List Binding → List Bytes → ℕ → Bytes → List Refusal
pair_faults bindings ignorables place item =
    fault (not (is_pair item)) (BadItem place)
    ++ fault (not (is_some (bound bindings (prefix_part item)))) (Unbound place)
    ++ fault (not (names_ignorable ignorables (bound bindings (prefix_part item)))) (NotIgnorable place)
