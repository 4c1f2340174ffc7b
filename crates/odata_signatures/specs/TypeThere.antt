-- Types whose enumerations a schema has.
use Rattle.csdl_schema.specs.SchemaModel.{SchemaModel, HoldsEnumeration}
use Rattle.odata_signatures.specs.declared.edm_type.EdmType.{EdmType}
use Rattle.odata_signatures.specs.declared.edm_type.ValueType.{ValueType}

-- the schema has the enumeration that the type is of, if it is of one
abbrev pub IsThere : SchemaModel → ValueType → Type 0
IsThere schema (ValueType.Prim p) = Unit {0}
IsThere schema (ValueType.Enum id) = HoldsEnumeration schema id
IsThere schema (ValueType.Structured id) = Unit {0}

-- the same of the type of an expression
abbrev pub IsTypeThere : SchemaModel → EdmType → Type 0
IsTypeThere schema EdmType.Null = Unit {0}
IsTypeThere schema (EdmType.Single s) = IsThere schema s
IsTypeThere schema (EdmType.Collection s) = IsThere schema s
