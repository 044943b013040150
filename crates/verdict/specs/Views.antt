-- What an element is judged by, as the rules have it.
use Rattle.std.specs.Prelude.{List}
use Rattle.text.specs.Bytes.{Bytes}
use Rattle.file.specs.Texts.{texts}
use Rattle.knowledge.specs.Understood.{Knows}
use Rattle.rules.specs.Elements.{Tag}
use Rattle.rules.specs.Scope.{Scope}
use Rattle.judge.specs.Tags.{tag_of}
use Rattle.judge.specs.declared.element.Element.{Element}
use Rattle.scope.specs.Entries.{scope_from}
use Rattle.understood.specs.Answers.{Knowing}
use Rattle.verdict.specs.declared.view.View.{View}

-- the texts of the record
abbrev pub texts_seen : View → List Bytes
texts_seen v = texts v.lent

-- what is in scope
abbrev pub scope_seen : View → Scope
scope_seen v = scope_from (texts v.lent) v.bindings.now v.marks.now v.pairs.now

-- an element
abbrev pub tag_seen : View → Element → Tag
tag_seen v e = tag_of (texts v.lent) e

-- what is known is what this knowledge says
abbrev pub Sees : View → Knows → Type 0
Sees v knows = Knowing (texts v.lent) knows v.known.now
