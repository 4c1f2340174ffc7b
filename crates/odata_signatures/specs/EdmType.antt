-- The type of one value or of many.
use Rattle.std.specs.Prelude.{Bool, true, false}
use Rattle.odata_signatures.specs.declared.edm_type.EdmType.{EdmType}
use Rattle.odata_signatures.specs.declared.edm_type.ValueType.{ValueType}

-- a collection of such values where there are many
abbrev pub type_of_many : ValueType → Bool → EdmType
type_of_many value_type true = EdmType.Collection value_type
type_of_many value_type false = EdmType.Single value_type
