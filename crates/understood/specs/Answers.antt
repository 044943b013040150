-- What was answered for the texts of a record, and when that is what a knowledge says of them.
use Rattle.std.specs.Prelude.{◌≡◌, ℕ, Bool, true, List, slice_index_or}
use Rattle.text.specs.Bytes.{Bytes}
use Rattle.file.specs.Form.{text_at}
use Rattle.knowledge.specs.Understood.{Knows, is_understood}
use Rattle.scope.specs.declared.entries.Space.{Space}
use Rattle.scope.specs.declared.entries.Space.TheVariants.{Text, Xml}
use Rattle.understood.specs.declared.Understood.{Understood}

-- the answer for a number; one past the last stands for the empty string
unfoldable pub asked : Understood → ℕ → Bool
asked u n = slice_index_or u.answers n u.empty

-- XML is always understood
abbrev pub asked_of : Understood → Space → Bool
asked_of u (Text n) = asked u n
asked_of u Xml = true

-- every number has the answer of this knowledge
abbrev pub Knowing : List Bytes → Knows → Understood → Type 0
Knowing texts knows u = (n : ℕ) → asked u n ≡ is_understood knows (text_at texts n)
