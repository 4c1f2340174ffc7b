-- Which type `has` makes of those of its operands (OData URL Conventions 4.01, section 5.1.1.1.10).
use Rattle.std.specs.Prelude.{◌≡◌, ◌⊎◌}
use Rattle.csdl_schema.specs.ExprType.{ExprType, null_type, single, enumeration}
use Rattle.csdl_schema.specs.SchemaModel.{Slots}
use Rattle.odata_signatures.specs.ExprTypes.{boolean_type}
use Rattle.odata_signatures.specs.QuotedNumber.{HasNumber}
use Rattle.odata_signatures.specs.Side.{Side}

-- one enumeration on both sides, or Null for either or both
abbrev pub AreFlags : ExprType → ExprType → Type 0
AreFlags null_type null_type = Unit {0}
AreFlags null_type (single (enumeration right)) = Unit {0}
AreFlags (single (enumeration left)) null_type = Unit {0}
AreFlags (single (enumeration left)) (single (enumeration right)) = left ≡ right
AreFlags _ _ = ⊥

-- `has` takes these sides and gives a value of the type: flags, or on the right a String literal that stands for a
-- number of the enumeration on the left
abbrev pub HasTyped : Slots → Side → Side → ExprType → Type 0
HasTyped slots left right type =
    (AreFlags left.type_of right.type_of ⊎ HasNumber slots left.type_of right.quoted) × (type ≡ boolean_type)
