-- Which namespaces are understood under a knowledge.
use Rattle.std.specs.Prelude.{Bool, not, ◌&&◌, ◌||◌}
use Rattle.text.specs.Bytes.{Bytes}
use Rattle.text.specs.Names.{in_mc, in_xml}

-- a yes or no for every byte string
abbrev pub Knows : Type 0
Knows = Bytes → Bool

-- MC is never understood, XML always, another namespace if the knowledge says yes
unfoldable pub is_understood : Knows → Bytes → Bool
is_understood knows namespace = not (in_mc namespace) && (in_xml namespace || knows namespace)
