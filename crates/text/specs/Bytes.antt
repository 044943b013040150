-- Byte strings.
use Rattle.std.specs.Prelude.{ℕ, Bool, List, length, take}
use Rattle.std.specs.Str.{bytes_eq}

-- a byte string: a list of numbers below 256
abbrev pub Bytes : Type 0
Bytes = List ℕ

-- a string begins with a stem: its front as long as the stem is the stem
unfoldable pub begins : Bytes → Bytes → Bool
begins stem s = bytes_eq stem (take (length stem) s)
