-- Arithmetic, whose result is bound to a type (OData URL Conventions 4.01, section 5.1.1.2).
use Rattle.std.specs.Prelude.{◌≡◌, ℕ, None, FitsSigned, IsSomeAnd, slice_get}
use Rattle.std.specs.Int.{w64}
use Rattle.edm_values.specs.NumberTypes.{IsNumberType}
use Rattle.edm_values.specs.Val.{Val, null, whole}
use Rattle.edm_values.specs.declared.primitive.PrimitiveType.{PrimitiveType}
use Rattle.odata_checked_filter.specs.Filter.{Filter}
use Rattle.odata_filter_operations.specs.CalculationGives.{CalculationGives}
use Rattle.odata_filter_operations.specs.Outcome.{Outcome, gives}
use Rattle.csdl_schema.specs.ExprType.{primitive, single}
use Rattle.odata_syntax.specs.declared.binary_operator.ArithmeticOperator.{ArithmeticOperator}
use Rattle.odata_ranges.specs.Within.{IsWithin}
use Rattle.odata_signatures.specs.declared.edm_type.EdmType.{EdmType}
use Rattle.odata_signatures.specs.declared.edm_type.ValueType.{ValueType}
use Rattle.sql_draft.specs.declared.sql_operand.Operand.{Operand}
use Rattle.sql_outcomes.specs.OperandFaults.{carrier_in}
use Rattle.sql_draft.specs.OperandHas.{OperandHas}
use Rattle.sql_draft.specs.World.{World}

-- numbers of 64 bits and null
abbrev pub IsOfNumbers : Outcome → Type 0
IsOfNumbers (gives null) = Unit {0}
IsOfNumbers (gives (whole n)) = FitsSigned w64 n
IsOfNumbers (gives v) = ⊥
IsOfNumbers o = Unit {0}

-- the first fault, or what the operator makes in the type
abbrev pub MadeOf : ArithmeticOperator → PrimitiveType → Outcome → Outcome → Outcome → Type 0
MadeOf operator type (gives v) (gives w) o = CalculationGives operator (single (primitive type)) v w o
MadeOf operator type (gives v) fault o = o ≡ fault
MadeOf operator type fault right o = o ≡ fault

-- the node at the index is computed in the type
abbrev pub IsComputedIn : Filter → ℕ → PrimitiveType → Type 0
IsComputedIn filter place type =
    IsNumberType type
    × IsSomeAnd (slice_get filter.list.nodes place) (λ node. node.edm_type ≡ EdmType.Single (ValueType.Prim type))

pub record CalculatedHas
    (filter : Filter) (operator : ArithmeticOperator) (place : ℕ) (left right : Operand) (world : World)
    (o : Outcome) : Type 0 where
  pub type : PrimitiveType
  pub computed : IsComputedIn filter place type
  pub first : Outcome
  pub second : Outcome
  pub left_has : OperandHas filter left world first
  pub right_has : OperandHas filter right world second
  pub left_plain : carrier_in left ≡ None → (v : Val) × (first ≡ gives v)
  pub right_plain : carrier_in right ≡ None → (v : Val) × (second ≡ gives v)
  pub left_within : IsWithin left.range first
  pub right_within : IsWithin right.range second
  pub left_number : IsOfNumbers first
  pub right_number : IsOfNumbers second
  pub made : MadeOf operator type first second o
