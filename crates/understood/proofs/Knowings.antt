-- What a table that has a knowledge's answers says of a namespace in scope.
use Rattle.std.proofs.Common.{◌≡◌, true, List, sym, refl}
use Rattle.text.specs.Bytes.{Bytes}
use Rattle.text.specs.Names.{mc_namespace, xml_namespace, in_mc, in_xml}
use Rattle.knowledge.specs.Understood.{Knows, is_understood}
use Rattle.scope.specs.Entries.{space_of}
use Rattle.scope.specs.declared.entries.Space.{Space}
use Rattle.scope.specs.declared.entries.Space.TheVariants.{Text, Xml}
use Rattle.understood.specs.declared.Understood.{Understood}
use Rattle.understood.specs.Answers.{asked_of, Knowing}

xml-understood : (knows : Knows) → is_understood knows xml_namespace ≡ true
unfolding is_understood in_mc in_xml mc_namespace xml_namespace
xml-understood knows = refl

-- a namespace in scope has the answer of the knowledge too
pub knowing-space : (texts : List Bytes) (knows : Knows) (u : Understood) → Knowing texts knows u
    → (space : Space) → asked_of u space ≡ is_understood knows (space_of texts space)
knowing-space texts knows u k (Text n) = k n
knowing-space texts knows u k Xml = sym (xml-understood knows)
