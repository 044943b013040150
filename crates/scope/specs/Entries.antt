-- What entries in scope mean to the rules, whose lists have the newest first.
use Rattle.std.specs.Prelude.{◌-◌, List, map, reverse, take, drop}
use Rattle.text.specs.Bytes.{Bytes}
use Rattle.text.specs.Names.{xml_namespace}
use Rattle.file.specs.Form.{text_at}
use Rattle.card.specs.Cards.{Name}
use Rattle.rules.specs.Scope.{Binding, Scope}
use Rattle.scope.specs.declared.entries.Space.{Space}
use Rattle.scope.specs.declared.entries.Space.TheVariants.{Text, Xml}
use Rattle.scope.specs.declared.entries.Bound.{Bound}
use Rattle.scope.specs.declared.entries.Mark.{Mark}
use Rattle.scope.specs.declared.entries.Pair.{Pair}

abbrev pub space_of : List Bytes → Space → Bytes
space_of texts (Text n) = text_at texts n
space_of texts Xml = xml_namespace

abbrev pub binding_of : List Bytes → Bound → Binding
binding_of texts b = record { prefix = text_at texts b.prefix; namespace = text_at texts b.space }

unfoldable pub bindings_of : List Bytes → List Bound → List Binding
bindings_of texts bs = reverse (map (binding_of texts) bs)

abbrev pub mark_of : List Bytes → Mark → Bytes
mark_of texts m = space_of texts m.space

unfoldable pub ignorables_of : List Bytes → List Mark → List Bytes
ignorables_of texts ms = reverse (map (mark_of texts) ms)

unfoldable pub local_of : List Bytes → Pair → Bytes
local_of texts p = take (p.to - p.from) (drop p.from (text_at texts p.text))

abbrev pub pair_of : List Bytes → Pair → Name
pair_of texts p = (space_of texts p.space, local_of texts p)

unfoldable pub processed_of : List Bytes → List Pair → List Name
processed_of texts ps = reverse (map (pair_of texts) ps)

-- the three lists together
abbrev pub scope_from : List Bytes → List Bound → List Mark → List Pair → Scope
scope_from texts bindings marks pairs =
    record { bindings = bindings_of texts bindings; ignorables = ignorables_of texts marks; processed = processed_of texts pairs }
