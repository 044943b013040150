-- What a waiting element means to the rules: its tag, as a list of one token.
use Rattle.std.specs.Prelude.{List, [], ◌∷◌, map, Some, None, Option}
use Rattle.text.specs.Bytes.{Bytes}
use Rattle.record.specs.declared.row.PlacedRow.{PlacedRow}
use Rattle.file.specs.Form.{text_at}
use Rattle.rules.specs.Elements.{Tag, Token, tag, decl_of, attr_of}
use Rattle.scope.specs.Bounded.{held}
use Rattle.judge.specs.declared.element.Element.{Element}
use Rattle.judge.specs.Tags.{tag_of}
use Rattle.order.specs.declared.waiting.Waiting.{Waiting}

-- a start, its declarations and its attributes as a tag
abbrev pub tag_from : List Bytes → PlacedRow → List PlacedRow → List PlacedRow → Tag
tag_from texts start decls attrs =
    record {
      placed = start;
      namespace = text_at texts start.row.a;
      name = text_at texts start.row.b;
      decls = map (decl_of texts) decls;
      attrs = map (attr_of texts) attrs;
    }

-- the element that waits, where its start has come
abbrev pub tokens_from : List Bytes → Option PlacedRow → List PlacedRow → List PlacedRow → List Token
tokens_from texts None decls attrs = []
tokens_from texts (Some start) decls attrs = tag (tag_from texts start decls attrs) ∷ []

abbrev pub waiting_of : List Bytes → Waiting → List Token
waiting_of texts w = tokens_from texts w.start (held w.decls) (held w.attrs)

-- the same of an element that is handed on to be judged
abbrev pub waiting_tag : List Bytes → Option Element → List Token
waiting_tag texts None = []
waiting_tag texts (Some e) = tag (tag_of texts e) ∷ []
