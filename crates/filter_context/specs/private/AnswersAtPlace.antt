-- What is answered at an index of a filter's list.
use Rattle.std.specs.Prelude.{◌≡◌, ℕ, ℤ, Option, Some}
use Rattle.edm_values.specs.Val.{member}
use Rattle.csdl_schema.specs.ExprType.{ExprType}
use Rattle.odata_syntax.specs.Tree.{Tree}
use Rattle.odata_checked_filter.specs.Calls.{TakesMemory}
use Rattle.odata_filter_operations.specs.Outcome.{Outcome, gives}
use Rattle.odata_filter_operations.specs.Reports.{Reports}
use Rattle.filter_context.specs.private.EvalContext.{MeansHere, NumberHere, StandsHere, TypedHere}
use Rattle.filter_context.specs.private.ContextModel.{ContextModel}

-- it is an outcome of what stands at the index, by the type of that; where a literal has a number, it is that number
pub record AnswersAtPlace (context : ContextModel) (place : ℕ) (reported : ExprType → Option Outcome) : Type 0 where
  pub of_tree :
      (stop : ℕ) (tree : Tree) (type : ExprType) → StandsHere context place stop tree → TypedHere context tree type
      → Reports (TakesMemory tree) (MeansHere context tree) (reported type)
  pub of_number :
      (number : ℤ) (stop : ℕ) (tree : Tree) (type : ExprType) → NumberHere context number place stop tree
      → reported type ≡ Some (gives (member number))
