-- Arithmetic on two values, and negation of one (OData URL Conventions 4.01, section 5.1.1.2).
use Rattle.std.specs.Prelude.{◌≡◌, ℤ, Option, Some, Result, Ok, Err}
use Rattle.edm_values.specs.Val.{Val, null, whole}
use Rattle.edm_values.specs.declared.primitive.PrimitiveType.{PrimitiveType}
use Rattle.csdl_schema.specs.ExprType.{ExprType, single, primitive}
use Rattle.odata_functions.specs.Arithmetic as numbers
pub use Rattle.odata_functions.specs.KeptVal.{number_val}
use Rattle.odata_functions.specs.declared.arithmetic.ArithFault.{ArithFault}
use Rattle.odata_functions.specs.declared.arithmetic.ArithFault.TheVariants.{Overflow, DivideByZero}
use Rattle.odata_syntax.specs.declared.binary_operator.ArithmeticOperator.{ArithmeticOperator}
use Rattle.odata_filter_operations.specs.Outcome.{Outcome, gives, overflow, divides_by_zero}

-- what comes of numbers, as an outcome
abbrev pub number_outcome : Result (Option ℤ) ArithFault → Outcome
number_outcome (Ok number) = gives (number_val number)
number_outcome (Err Overflow) = overflow
number_outcome (Err DivideByZero) = divides_by_zero

-- a number as a whole number of that type; outside it Overflow
abbrev pub GivesNumber : PrimitiveType → ℤ → Outcome → Type 0
GivesNumber p n o =
    (answer : Result (Option ℤ) ArithFault) × numbers.ComesWithin p n answer × (o ≡ number_outcome answer)

-- two numbers, in the type in which they are computed
abbrev pub ComputesTo : ArithmeticOperator → PrimitiveType → Option ℤ → Option ℤ → Outcome → Type 0
ComputesTo operator p a b o =
    (answer : Result (Option ℤ) ArithFault) × numbers.ArithmeticGives operator p a b answer
    × (o ≡ number_outcome answer)

-- null where an operand is null; two numbers in the type of the operator's node, to which their types are promoted
abbrev pub CalculationGives : ArithmeticOperator → ExprType → Val → Val → Outcome → Type 0
CalculationGives operator type null null o = o ≡ gives null
CalculationGives operator type null (whole b) o = o ≡ gives null
CalculationGives operator type (whole a) null o = o ≡ gives null
CalculationGives operator (single (primitive p)) (whole a) (whole b) o = ComputesTo operator p (Some a) (Some b) o
CalculationGives operator type _ _ o = ⊥

-- `-`: null of null; of a number its negation in the type of the node
abbrev pub NegatedGives : ExprType → Val → Outcome → Type 0
NegatedGives type null o = o ≡ gives null
NegatedGives (single (primitive p)) (whole a) o =
    (answer : Result (Option ℤ) ArithFault) × numbers.NegationGives p (Some a) answer × (o ≡ number_outcome answer)
NegatedGives type _ o = ⊥
