-- The fixed names of markup compatibility. A name is compared with them byte for byte.
use Rattle.std.specs.Prelude.{Bool, cond, ◌||◌, Some, None, codes, Option}
use Rattle.std.specs.Str.{bytes_eq}
use Rattle.text.specs.Bytes.{Bytes}
use Rattle.text.specs.declared.names.McElement.{McElement}
use Rattle.text.specs.declared.names.McElement.TheVariants.{AlternateContent, Choice, Fallback}
use Rattle.text.specs.declared.names.McAttribute.{McAttribute}
use Rattle.text.specs.declared.names.McAttribute.TheVariants.{Ignorable, ProcessContent, MustUnderstand}

-- the markup compatibility namespace, MC
unfoldable pub mc_namespace : Bytes
mc_namespace = codes "http://schemas.openxmlformats.org/markup-compatibility/2006"

-- the XML namespace, to which the prefix xml is bound everywhere
unfoldable pub xml_namespace : Bytes
xml_namespace = codes "http://www.w3.org/XML/1998/namespace"

unfoldable pub in_mc : Bytes → Bool
in_mc ns = bytes_eq ns mc_namespace

unfoldable pub in_xml : Bytes → Bool
in_xml ns = bytes_eq ns xml_namespace

unfoldable pub is_xml_prefix : Bytes → Bool
is_xml_prefix p = bytes_eq p (codes "xml")

unfoldable pub is_requires : Bytes → Bool
is_requires n = bytes_eq n (codes "Requires")

-- the element of MC with this local name
unfoldable pub element_named : Bytes → Option McElement
element_named n =
    cond (bytes_eq n (codes "AlternateContent")) (Some AlternateContent)
    (cond (bytes_eq n (codes "Choice")) (Some Choice)
    (cond (bytes_eq n (codes "Fallback")) (Some Fallback) None))

-- the attribute of MC with this local name
unfoldable pub attribute_named : Bytes → Option McAttribute
attribute_named n =
    cond (bytes_eq n (codes "Ignorable")) (Some Ignorable)
    (cond (bytes_eq n (codes "ProcessContent")) (Some ProcessContent)
    (cond (bytes_eq n (codes "MustUnderstand")) (Some MustUnderstand) None))

-- xml:base, xml:lang and xml:space hold for what is inside their element too
unfoldable pub is_inherited : Bytes → Bool
is_inherited n = bytes_eq n (codes "base") || bytes_eq n (codes "lang") || bytes_eq n (codes "space")
