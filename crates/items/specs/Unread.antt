-- What a list reader has still to read.
use Rattle.std.specs.Prelude.{◌≡◌, ℕ, ◌<◌, ◌≤◌, List, ◌++◌, length, IfSome, MatchOption, Option}
use Rattle.std.specs.Iterator.{YieldsFirstRef}
use Rattle.std.specs.Borrow.{Bor}
use Rattle.text.specs.Bytes.{Bytes}
use Rattle.items.specs.Items.{items}
use Rattle.items.specs.declared.list.Items.{Items}

abbrev pub unread : Items → Bytes
unread list = list.rest.now

abbrev pub unread_items : Items → List Bytes
unread_items list = items (unread list)

-- The reader gives its first item, or nothing where only blanks are left. An item lies in what was unread, and what is left lies behind it.
pub record GivesItem (before : Items) (given : Option (Bor Bytes)) (after : Items) : Type 0 where
  pub item : YieldsFirstRef unread_items before given after
  pub place : IfSome given (λ x. (gap : List ℕ) × (unread before ≡ gap ++ (x.now ++ unread after)))
  pub less : MatchOption given (length (unread after) ≤ length (unread before)) (λ _. length (unread after) < length (unread before))
