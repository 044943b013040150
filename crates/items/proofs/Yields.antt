-- The items that a list reader yields, for a chain of iterators over it.
use Rattle.std.proofs.Common.{◌≡◌, length, ap, subst}
use Rattle.std.proofs.lemmas.Iterator.{YieldsList}
use Rattle.std.proofs.lemmas.Iterator.Consumers.{YieldsList-from_shown}
use Rattle.text.specs.Bytes.{Bytes}
use Rattle.items.specs.Items.{items}
use Rattle.items.specs.Unread.{unread, unread_items, GivesItem}
use Rattle.items.specs.declared.list.Items.{Items}

pub YieldsList-from_items : (list : Items) (value : Bytes) → unread list ≡ value → YieldsList GivesItem (λ x. x.now) list (items value)
YieldsList-from_items list value e =
    subst (λ (v : Bytes). YieldsList GivesItem (λ x. x.now) list (items v)) e
    (YieldsList-from_shown GivesItem (λ x. x.now) unread_items (λ s t h. ap length h.item.0) (λ s x t h. h.item) list)
