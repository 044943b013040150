-- The first fault of an item of ProcessContent.
use Rattle.std.proofs.Common.{◌≡◌, ℕ, cond, List, Some, None, ap, ◌∙◌, append_assoc}
use Rattle.std.specs.Option.{option_or}
use Rattle.text.specs.Bytes.{Bytes}
use Rattle.record.specs.declared.refusal.Refusal.TheVariants.{ScopeFull}
use Rattle.rules.specs.Scope.{Binding}
use Rattle.rules.specs.Faults.{fault, is_full, process_item, first}
use Rattle.rules.proofs.Firsts.{first_append, first_one}
use Rattle.trial.specs.Pairs.{pair_faults}

-- what is tried of its parts, then the room for its entry
pub first-process : (bindings : List Binding) (ignorables : List Bytes) (place entries : ℕ) (item : Bytes)
    → first (process_item bindings ignorables place entries item)
    ≡ option_or (first (pair_faults bindings ignorables place item)) (cond (is_full entries) (Some (ScopeFull place)) None)
unfolding process_item pair_faults
first-process bindings ignorables place entries item =
    ap first (simp append_assoc)
    ∙ first_append (pair_faults bindings ignorables place item) (fault (is_full entries) (ScopeFull place))
    ∙ ap (option_or (first (pair_faults bindings ignorables place item))) (first_one (is_full entries) (ScopeFull place))
