-- How the types of expressions are written (CSDL JSON 4.01, sections 3.3 and 4.1).
use Rattle.std.specs.Prelude.{ℕ, List, [], ◌++◌, codes, unwrap_or}
use Rattle.edm_values.specs.declared.primitive.PrimitiveType.{PrimitiveType}
use Rattle.csdl_schema.specs.SchemaModel.{SchemaModel, is_enumeration, is_structured, name_of_kind}
use Rattle.odata_signatures.specs.declared.edm_type.EdmType.{EdmType}
use Rattle.odata_signatures.specs.declared.edm_type.ValueType.{ValueType}

-- the qualified name of a primitive type
abbrev pub primitive_name : PrimitiveType → List ℕ
primitive_name PrimitiveType.Bool = codes "Edm.Boolean"
primitive_name PrimitiveType.Byte = codes "Edm.Byte"
primitive_name PrimitiveType.SByte = codes "Edm.SByte"
primitive_name PrimitiveType.Int16 = codes "Edm.Int16"
primitive_name PrimitiveType.Int32 = codes "Edm.Int32"
primitive_name PrimitiveType.Int64 = codes "Edm.Int64"
primitive_name PrimitiveType.String = codes "Edm.String"
primitive_name PrimitiveType.Date = codes "Edm.Date"
primitive_name PrimitiveType.DateTimeOffset = codes "Edm.DateTimeOffset"
primitive_name PrimitiveType.Guid = codes "Edm.Guid"

-- that of the type of one value, as the schema has it; no text where the schema has no such type
abbrev pub value_type_text : SchemaModel → ValueType → List ℕ
value_type_text schema (ValueType.Prim p) = primitive_name p
value_type_text schema (ValueType.Enum id) = unwrap_or (name_of_kind is_enumeration schema id) []
value_type_text schema (ValueType.Structured id) = unwrap_or (name_of_kind is_structured schema id) []

-- the type of an expression: `Null`, the type of one value, or `Collection(..)` of it
abbrev pub type_text : SchemaModel → EdmType → List ℕ
type_text schema EdmType.Null = codes "Null"
type_text schema (EdmType.Single s) = value_type_text schema s
type_text schema (EdmType.Collection s) = codes "Collection(" ++ (value_type_text schema s ++ codes ")")
