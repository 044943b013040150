-- What a waiting element means to the rules.
use Rattle.std.specs.Prelude.{List, map}
use Rattle.text.specs.Bytes.{Bytes}
use Rattle.record.specs.declared.row.PlacedRow.{PlacedRow}
use Rattle.file.specs.Form.{text_at}
use Rattle.rules.specs.Elements.{Tag, decl_of, attr_of}
use Rattle.scope.specs.declared.entries.Bound.{Bound}
use Rattle.judge.specs.declared.element.Element.{Element}

abbrev pub tag_of : List Bytes → Element → Tag
tag_of texts e =
    record {
      placed = e.start;
      namespace = text_at texts e.start.row.a;
      name = text_at texts e.start.row.b;
      decls = map (decl_of texts) e.decls.now;
      attrs = map (attr_of texts) e.attrs.now;
    }

-- a declaration as an entry
abbrev pub bound_of : PlacedRow → Bound
bound_of x = record { prefix = x.row.a; space = x.row.b }
