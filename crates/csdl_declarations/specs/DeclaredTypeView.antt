-- A declared type of the code, as the model says it.
use Rattle.std.specs.Prelude.{List, map, option_map, string_bytes}
use Rattle.csdl_declarations.specs.declared.declared_type.PropertyDeclaration as code_property
use Rattle.csdl_declarations.specs.declared.declared_type.TypeBody as code_body
use Rattle.csdl_declarations.specs.declared.declared_type.TypeBody.TheVariants as code
use Rattle.csdl_declarations.specs.declared.declared_type.DeclaredType as code_type
use Rattle.csdl_declarations.specs.DeclaredType.{PropertyDeclaration, TypeBody, DeclaredType, structured, enumeration, definition}

abbrev pub property_view : code_property.PropertyDeclaration → PropertyDeclaration
property_view p = record {
  name = p.name.now;
  type_name = p.type_name.now;
  navigates = p.navigates;
  many = p.many;
  nullable = p.nullable;
}

abbrev pub body_view : code_body.TypeBody → TypeBody
body_view (code.Structured is_entity base properties) =
    structured is_entity (option_map (λ s. s.now) base) (map property_view properties.items)
body_view (code.Enumeration found) = enumeration found
body_view (code.Definition underlying) = definition underlying.now

abbrev pub type_view : code_type.DeclaredType → DeclaredType
type_view t = record {
  name = string_bytes t.name;
  alias_name = option_map string_bytes t.alias_name;
  body = body_view t.body;
}

-- likewise types one after another
abbrev pub types_view : List code_type.DeclaredType → List DeclaredType
types_view ts = map type_view ts
