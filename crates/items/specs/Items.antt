-- The items of a list value, and the two parts of an item of ProcessContent: rule 2 of docs/RULES.md.
use Rattle.std.specs.Prelude.{ℕ, Bool, true, false, cond, not, ◌&&◌, ◌||◌, List, [], ◌∷◌, codes, ◌==◌}
use Rattle.std.specs.Str.{bytes_eq}
use Rattle.text.specs.Bytes.{Bytes}

unfoldable pub is_empty : Bytes → Bool
is_empty [] = true
is_empty (b ∷ bs) = false

-- space, tab, line feed and carriage return
abbrev pub is_blank : ℕ → Bool
is_blank b = b == 32 || b == 9 || b == 10 || b == 13

abbrev pub is_colon : ℕ → Bool
is_colon b = b == 58

-- one byte more in front: a blank parts, another byte belongs to the first part
unfoldable pub cut_at : Bool → ℕ → List Bytes → List Bytes
cut_at true b ps = [] ∷ ps
cut_at false b [] = []
cut_at false b (p ∷ ps) = (b ∷ p) ∷ ps

-- what stands between blanks, empty parts too
unfoldable pub parts : Bytes → List Bytes
parts [] = [] ∷ []
parts (b ∷ bs) = cut_at (is_blank b) b (parts bs)

unfoldable pub non_empty : List Bytes → List Bytes
non_empty [] = []
non_empty ([] ∷ ps) = non_empty ps
non_empty ((b ∷ bs) ∷ ps) = (b ∷ bs) ∷ non_empty ps

unfoldable pub items : Bytes → List Bytes
items value = non_empty (parts value)

unfoldable pub has_colon : Bytes → Bool
has_colon [] = false
has_colon (b ∷ bs) = is_colon b || has_colon bs

-- the two parts of an item: what stands before its first colon, and what stands behind it
unfoldable pub two_parts : Bytes → Bytes × Bytes
two_parts [] = ([], [])
two_parts (b ∷ bs) = cond (is_colon b) ([], bs) (b ∷ (two_parts bs).0, (two_parts bs).1)

unfoldable pub prefix_part : Bytes → Bytes
prefix_part item = (two_parts item).0

unfoldable pub local_part : Bytes → Bytes
local_part item = (two_parts item).1

-- Around its only colon an item has a prefix and a local name; neither is empty, and the local name is not a star.
unfoldable pub is_pair : Bytes → Bool
is_pair item =
    not (is_empty (prefix_part item)) && not (is_empty (local_part item))
    && not (has_colon (local_part item)) && not (bytes_eq (local_part item) (codes "*"))

-- opens the definitions of this file, for a proof that computes
unfoldable pub open_items : Unit {0}
unfolding is_empty cut_at parts non_empty items has_colon two_parts prefix_part local_part is_pair
open_items = tt
