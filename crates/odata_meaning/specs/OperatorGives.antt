-- What an operator evaluates to (OData URL Conventions 4.01, sections 5.1.1.1 and 5.1.1.2).
use Rattle.edm_values.specs.Val.{Val}
use Rattle.odata_syntax.specs.declared.binary_operator.BinaryOperator.{BinaryOperator}
use Rattle.csdl_schema.specs.ExprType.{ExprType}
use Rattle.odata_syntax.specs.declared.binary_operator.BinaryOperator.TheVariants.{Logical, Comparison, Arithmetic}
use Rattle.odata_filter_operations.specs.CalculationGives.{CalculationGives}
use Rattle.odata_filter_operations.specs.CompareGives.{CompareGives}
use Rattle.odata_filter_operations.specs.LeftFirst.{After}
use Rattle.odata_filter_operations.specs.Outcome.{Outcome}
use Rattle.odata_filter_operations.specs.TruthGives.{LogicalGives}

-- a value that is computed in the type that the node has
abbrev pub InType : (ExprType → Type 0) → (ExprType → Outcome → Type 0) → Outcome → Type 0
InType NodeTyped Gives o = (type : ExprType) × NodeTyped type × Gives type o

-- of its left value and the outcomes of its right side, the node having a type: a logical operator may do without the
-- right side, all others take both values
abbrev pub OperatorGives : BinaryOperator → (ExprType → Type 0) → Val → (Outcome → Type 0) → Outcome → Type 0
OperatorGives (Logical logical) NodeTyped l Right o = LogicalGives logical l Right o
OperatorGives (Comparison comparison) NodeTyped l Right o = After Right (CompareGives comparison l) o
OperatorGives (Arithmetic arithmetic) NodeTyped l Right o =
    After Right (λ r. InType NodeTyped (λ type. CalculationGives arithmetic type l r)) o

-- of the outcomes of both sides
abbrev pub SidesGive : BinaryOperator → (ExprType → Type 0) → (Outcome → Type 0) → (Outcome → Type 0) → Outcome → Type 0
SidesGive operator NodeTyped Left Right = After Left (λ l. OperatorGives operator NodeTyped l Right)
