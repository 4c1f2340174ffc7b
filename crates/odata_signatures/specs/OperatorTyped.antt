-- Which type an operator makes of those of its operands (OData URL Conventions 4.01, sections 5.1.1.1 and 5.1.1.2).
use Rattle.std.specs.Prelude.{◌≡◌, ◌⊎◌, ℕ, List, Option}
use Rattle.edm_values.specs.declared.primitive.PrimitiveType.{PrimitiveType}
use Rattle.csdl_schema.specs.ExprType.{ExprType}
use Rattle.csdl_schema.specs.SchemaModel.{Slots}
use Rattle.odata_functions.specs.Promotion.{promotion, negation_type}
use Rattle.odata_syntax.specs.declared.binary_operator.BinaryOperator.{BinaryOperator}
use Rattle.odata_syntax.specs.declared.binary_operator.BinaryOperator.TheVariants.{Logical, Comparison, Arithmetic}
use Rattle.odata_syntax.specs.declared.binary_operator.ComparisonOperator.{ComparisonOperator}
use Rattle.odata_signatures.specs.ComparableTypes.{AreComparedBy}
use Rattle.odata_signatures.specs.ExprTypes.{boolean_type, IsBooleanOrNull, IsNumberOrNull, number_or_null}
use Rattle.odata_signatures.specs.QuotedNumber.{HasNumber}
use Rattle.odata_signatures.specs.Side.{Side}

-- arithmetic of two numbers or nulls has the type to which these are promoted, that of two nulls type Null
pub record ArithmeticTyped (left right type : ExprType) : Type 0 where
  pub left_number : Option PrimitiveType
  pub right_number : Option PrimitiveType
  pub left_is : IsNumberOrNull left left_number
  pub right_is : IsNumberOrNull right right_number
  pub type_is : type ≡ number_or_null (promotion left_number right_number)

-- by the types alone the operator takes operands of the first two types and gives a value of the third
abbrev pub OperatorByTypes : BinaryOperator → ExprType → ExprType → ExprType → Type 0
OperatorByTypes (Logical logical) left right type =
    IsBooleanOrNull left × IsBooleanOrNull right × (type ≡ boolean_type)
OperatorByTypes (Comparison comparison) left right type = AreComparedBy comparison left right × (type ≡ boolean_type)
OperatorByTypes (Arithmetic arithmetic) left right type = ArithmeticTyped left right type

-- `eq` and `ne`
abbrev pub IsEquality : BinaryOperator → Type 0
IsEquality (BinaryOperator.Comparison ComparisonOperator.Eq) = Unit {0}
IsEquality (BinaryOperator.Comparison ComparisonOperator.Ne) = Unit {0}
IsEquality _ = ⊥

-- of `eq` and `ne`: this holds of the type of one side and of what the other one quotes
abbrev pub OfOneSide : (ExprType → Option (List ℕ) → Type 0) → BinaryOperator → Side → Side → Type 0
OfOneSide Holds operator left right =
    IsEquality operator × (Holds left.type_of right.quoted ⊎ Holds right.type_of left.quoted)

-- the operator takes these sides and gives a value of the type: by their types, or a String literal that stands for a
-- number of the enumeration on the other side
abbrev pub OperatorTyped : Slots → BinaryOperator → Side → Side → ExprType → Type 0
OperatorTyped slots operator left right type =
    OperatorByTypes operator left.type_of right.type_of type
    ⊎ (OfOneSide (HasNumber slots) operator left right × (type ≡ boolean_type))

-- `-` before an operand of the first type gives the second
pub record NegationTyped (operand type : ExprType) : Type 0 where
  pub number : Option PrimitiveType
  pub operand_is : IsNumberOrNull operand number
  pub type_is : type ≡ number_or_null (negation_type number)

-- and so does `not`
abbrev pub NotTyped : ExprType → ExprType → Type 0
NotTyped operand type = IsBooleanOrNull operand × (type ≡ boolean_type)
