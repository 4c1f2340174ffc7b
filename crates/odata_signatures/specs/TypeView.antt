-- The types of the code, by name.
use Rattle.csdl_schema.specs.ExprType.{SingleType, primitive, enumeration, structured}
use Rattle.csdl_schema.specs.ExprType.{ExprType, null_type, single, collection}
use Rattle.csdl_schema.specs.SchemaModel.{SchemaModel, type_name_at}
use Rattle.odata_signatures.specs.declared.edm_type.EdmType.{EdmType}
use Rattle.odata_signatures.specs.declared.edm_type.ValueType.{ValueType}

-- of one value: enumerations and structured types by their qualified names
abbrev pub single_type : SchemaModel → ValueType → SingleType
single_type schema (ValueType.Prim p) = primitive p
single_type schema (ValueType.Enum id) = enumeration (type_name_at schema id)
single_type schema (ValueType.Structured id) = structured (type_name_at schema id)

-- the type of an expression that a type of the code stands for
abbrev pub expr_type : SchemaModel → EdmType → ExprType
expr_type schema EdmType.Null = null_type
expr_type schema (EdmType.Single s) = single (single_type schema s)
expr_type schema (EdmType.Collection s) = collection (single_type schema s)
