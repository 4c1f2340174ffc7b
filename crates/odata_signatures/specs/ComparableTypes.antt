-- Which types a comparison takes on its two sides (OData URL Conventions 4.01, sections 5.1.1.1.1 to 5.1.1.1.6).
use Rattle.std.specs.Prelude.{◌≡◌, ◌⊎◌}
use Rattle.edm_values.specs.NumberTypes.{IsNumberType}
use Rattle.edm_values.specs.declared.primitive.PrimitiveType.{PrimitiveType}
use Rattle.csdl_schema.specs.ExprType.{SingleType, primitive, enumeration, structured}
use Rattle.csdl_schema.specs.ExprType.{ExprType, null_type, single}
use Rattle.odata_syntax.specs.declared.binary_operator.ComparisonOperator.{ComparisonOperator}
use Rattle.odata_syntax.specs.declared.binary_operator.ComparisonOperator.TheVariants.{Eq, Ne, Gt, Ge, Lt, Le}

-- two number types, or one type on both sides
abbrev pub AreAlikePrimitives : PrimitiveType → PrimitiveType → Type 0
AreAlikePrimitives left right = (IsNumberType left × IsNumberType right) ⊎ (left ≡ right)

-- of one value: two numbers, or one primitive or enumeration type on both sides
abbrev pub AreComparableSingles : SingleType → SingleType → Type 0
AreComparableSingles (primitive left) (primitive right) = AreAlikePrimitives left right
AreComparableSingles (enumeration left) (enumeration right) = left ≡ right
AreComparableSingles _ _ = ⊥

-- for `eq` and `ne`: the same, or Null beside anything but a collection
abbrev pub AreComparable : ExprType → ExprType → Type 0
AreComparable null_type null_type = Unit {0}
AreComparable null_type (single right) = Unit {0}
AreComparable (single left) null_type = Unit {0}
AreComparable (single left) (single right) = AreComparableSingles left right
AreComparable _ _ = ⊥

-- a primitive type whose values have an order: every one but Edm.Guid
abbrev pub IsOrderedPrimitive : PrimitiveType → Type 0
IsOrderedPrimitive PrimitiveType.Guid = ⊥
IsOrderedPrimitive _ = Unit {0}

abbrev pub IsOrderedSingle : SingleType → Type 0
IsOrderedSingle (primitive p) = IsOrderedPrimitive p
IsOrderedSingle (enumeration name) = ⊥
IsOrderedSingle (structured name) = ⊥

-- for the others: the same of types whose values have an order, or Null beside such a type or Null
abbrev pub AreOrdered : ExprType → ExprType → Type 0
AreOrdered null_type null_type = Unit {0}
AreOrdered null_type (single right) = IsOrderedSingle right
AreOrdered (single left) null_type = IsOrderedSingle left
AreOrdered (single left) (single right) = AreComparableSingles left right × IsOrderedSingle left
AreOrdered _ _ = ⊥

-- what the operator takes
abbrev pub AreComparedBy : ComparisonOperator → ExprType → ExprType → Type 0
AreComparedBy Eq left right = AreComparable left right
AreComparedBy Ne left right = AreComparable left right
AreComparedBy Gt left right = AreOrdered left right
AreComparedBy Ge left right = AreOrdered left right
AreComparedBy Lt left right = AreOrdered left right
AreComparedBy Le left right = AreOrdered left right
