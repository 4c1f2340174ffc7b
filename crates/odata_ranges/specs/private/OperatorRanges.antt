-- For private clauses: what an operator's range holds, by the ranges of its operands.
use Rattle.std.specs.Prelude.{◌≡◌, true}
use Rattle.edm_values.specs.Val.{Val}
use Rattle.csdl_schema.specs.SchemaModel.{SchemaModel}
use Rattle.odata_filter_operations.specs.CalculationGives.{CalculationGives}
use Rattle.odata_filter_operations.specs.Outcome.{Outcome}
use Rattle.odata_syntax.specs.declared.binary_operator.ArithmeticOperator.{ArithmeticOperator}
use Rattle.odata_signatures.specs.TypeView.{expr_type}
use Rattle.odata_signatures.specs.declared.edm_type.EdmType.{EdmType}
use Rattle.odata_syntax.specs.declared.binary_operator.BinaryOperator.{BinaryOperator}
use Rattle.odata_syntax.specs.declared.binary_operator.BinaryOperator.TheVariants.{Logical, Comparison, Arithmetic}
use Rattle.odata_ranges.specs.Within.{IsValueWithin, IsWithin}
use Rattle.odata_ranges.specs.declared.range.Range.{Range}
use Rattle.odata_ranges.specs.private.Values.{IsNumeric}

-- a fault of either is one
pub record CoversFaults (wider left right : Range) : Type 0 where
  pub first : left.may_fault ≡ true → wider.may_fault ≡ true
  pub second : right.may_fault ≡ true → wider.may_fault ≡ true

-- and null of either is null
pub record CoversNulls (wider left right : Range) : Type 0 where
  pub first : left.may_be_null ≡ true → wider.may_be_null ≡ true
  pub second : right.may_be_null ≡ true → wider.may_be_null ≡ true

-- what arithmetic in the type makes of values within the two, and the faults of both
pub record HoldsArithmetic (operator : ArithmeticOperator) (type : EdmType) (left right range : Range) : Type 0 where
  pub faults : CoversFaults range left right
  pub values :
      (schema : SchemaModel) (v w : Val) (o : Outcome) → IsValueWithin left v → IsValueWithin right w
      → CalculationGives operator (expr_type schema type) v w o → IsWithin range o

abbrev pub HoldsOperator : BinaryOperator → EdmType → Range → Range → Range → Type 0
HoldsOperator (Logical connective) type left right range = CoversFaults range left right × CoversNulls range left right
HoldsOperator (Comparison comparison) type left right range = CoversFaults range left right
HoldsOperator (Arithmetic arithmetic) type left right range = HoldsArithmetic arithmetic type left right range

-- arithmetic is in a number type, or in that of null
abbrev pub IsNumericIn : BinaryOperator → EdmType → Type 0
IsNumericIn (Arithmetic arithmetic) type = IsNumeric type
IsNumericIn class type = Unit {0}
