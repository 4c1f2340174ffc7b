-- Types of expressions by their role (CSDL JSON 4.01, section 3.3; OData URL Conventions 4.01, section 5.1.1).
use Rattle.std.specs.Prelude.{◌≡◌, ◌⊎◌, Option, Some, None}
use Rattle.edm_values.specs.NumberTypes.{IsNumberType}
use Rattle.edm_values.specs.declared.primitive.PrimitiveType.{PrimitiveType}
use Rattle.csdl_schema.specs.ExprType.{SingleType, primitive, enumeration, structured}
use Rattle.csdl_schema.specs.ExprType.{ExprType, null_type, single, collection}

-- the type of one Boolean
abbrev pub boolean_type : ExprType
boolean_type = single (primitive PrimitiveType.Bool)

-- the type of one String
abbrev pub string_type : ExprType
string_type = single (primitive PrimitiveType.String)

-- what a filter may be, and an operand of `and`, `or` and `not`
abbrev pub IsBooleanOrNull : ExprType → Type 0
IsBooleanOrNull type = (type ≡ boolean_type) ⊎ (type ≡ null_type)

abbrev pub IsNumberSingle : SingleType → Option PrimitiveType → Type 0
IsNumberSingle (primitive p) number = IsNumberType p × (number ≡ Some p)
IsNumberSingle (enumeration name) number = ⊥
IsNumberSingle (structured name) number = ⊥

-- what an operand of arithmetic may be: of that number type, or of type Null for None
abbrev pub IsNumberOrNull : ExprType → Option PrimitiveType → Type 0
IsNumberOrNull null_type number = number ≡ None
IsNumberOrNull (single s) number = IsNumberSingle s number
IsNumberOrNull (collection s) number = ⊥

-- the type of that
abbrev pub number_or_null : Option PrimitiveType → ExprType
number_or_null None = null_type
number_or_null (Some p) = single (primitive p)
