-- Types of the code, as placed types; for private clauses.
use Rattle.std.specs.Prelude.{List, map, option_map, string_bytes}
use Rattle.csdl_schema.specs.declared.named_type.NamedType.{NamedType}
use Rattle.csdl_schema.specs.declared.named_type.NamedBody.{NamedBody}
use Rattle.csdl_schema.specs.declared.named_type.StructuredType.{StructuredType}
use Rattle.csdl_schema.specs.declared.named_type.NamedBody.TheVariants as code
use Rattle.csdl_schema.specs.private.Placed.{PlacedType, PlacedBody, placed_structured, placed_enumeration, placed_definition, entry_view}

abbrev pub structured_view : StructuredType → PlacedBody
structured_view s = placed_structured s.is_entity s.base (map entry_view s.properties.entries)

abbrev pub placed_body_view : NamedBody → PlacedBody
placed_body_view (code.Structured s) = structured_view s
placed_body_view (code.Enumeration e) = placed_enumeration e
placed_body_view (code.Definition p) = placed_definition p

abbrev pub placed_view : NamedType → PlacedType
placed_view t = record {
  name = string_bytes t.name;
  alias_name = option_map string_bytes t.alias_name;
  body = placed_body_view t.body;
}

abbrev pub placed_of : List NamedType → List PlacedType
placed_of ts = map placed_view ts
