-- An entity type is one that a schema holds.
use Rattle.std.proofs.Common.{refl, ℕ, Option, Some, None, slice_get}
use Rattle.std.specs.Prelude.{IsTrue}
use Rattle.csdl_schema.specs.SchemaModel.{SchemaModel, TypeModel, ModelBody, structured_type, enumeration_type, type_definition, is_entity_type, is_structured, body_passes, HoldsType, IsEntityAt}

structured_body : (body : ModelBody) → IsTrue (is_entity_type body) → IsTrue (is_structured body)
structured_body (structured_type is_entity base own) is = refl
structured_body (enumeration_type e) is = absurd cc
structured_body (type_definition p) is = absurd cc

structured_there : (found : Option TypeModel) → IsTrue (body_passes is_entity_type found) → IsTrue (body_passes is_structured found)
structured_there None is = absurd cc
structured_there (Some t) is = structured_body t.body is

pub entity_held : (schema : SchemaModel) (index : ℕ) → IsEntityAt schema index → HoldsType schema index
entity_held schema index entity = structured_there (slice_get schema.types index) entity
