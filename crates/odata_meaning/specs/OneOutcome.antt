-- What evaluates to one outcome at most, of the same values.
use Rattle.std.specs.Prelude.{◌≡◌, ℕ, List}
use Rattle.edm_values.specs.MomentParts.{MomentParts}
use Rattle.edm_values.specs.Val.{Val}
use Rattle.odata_filter_operations.specs.CompareGives.{CompareGives}
use Rattle.odata_filter_operations.specs.FunctionGives.{FunctionGives}
use Rattle.odata_filter_operations.specs.Outcome.{Outcome}
use Rattle.odata_meaning.specs.NameGives.{StepGives}
use Rattle.odata_signatures.specs.declared.function.Function.{Function}
use Rattle.odata_syntax.specs.declared.binary_operator.ComparisonOperator.{ComparisonOperator}

-- a comparison of two values, a function of values, and a step from a value to its property of that name
pub record ValuesHaveOneOutcome : Type 0 where
  pub compared :
      (operator : ComparisonOperator) (l r : Val) (a b : Outcome) → CompareGives operator l r a
      → CompareGives operator l r b → a ≡ b
  pub called :
      (now : MomentParts) (function : Function) (values : List Val) (a b : Outcome)
      → FunctionGives now function values a → FunctionGives now function values b → a ≡ b
  pub stepped : (v : Val) (name : List ℕ) (a b : Outcome) → StepGives v name a → StepGives v name b → a ≡ b
