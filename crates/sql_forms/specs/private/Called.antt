-- For private clauses: trees in line, and calls of functions.
use Rattle.std.specs.Prelude.{List, [], ◌∷◌, Option, None, Some, map}
use Rattle.edm_values.specs.Val.{Val}
use Rattle.odata_checked_filter.specs.Filter.{Filter}
use Rattle.odata_filter_operations.specs.CallGives.{CallGives}
use Rattle.odata_filter_operations.specs.Outcome.{Outcome, gives}
use Rattle.odata_signatures.specs.declared.function.Function.{Function}
use Rattle.sql_meaning.specs.SqlFunctionGives.{SqlFunctionGives}
use Rattle.sql_tree.specs.declared.sql_node.Carrier.{Carrier}
use Rattle.sql_tree.specs.declared.sql_node.SqlFunction.{SqlFunction}
use Rattle.sql_tree.specs.declared.sql_node.SqlNode.{SqlNode}
use Rattle.sql_draft.specs.declared.sql_operand.Operand.{Operand}
use Rattle.sql_outcomes.specs.OperandFaults.{AllHave}
use Rattle.sql_draft.specs.World.{Has, World}
use Rattle.sql_outcomes.specs.Calls.{AreOfKinds}
use Rattle.sql_outcomes.specs.private.Functions.{IsFirstWithin}

abbrev pub carried_nodes : Option Carrier → List SqlNode
carried_nodes None = []
carried_nodes (Some carrier) = SqlNode.Carried carrier ∷ []

-- what the function of SQL makes of the operands' values
abbrev pub FunctionHas : Filter → SqlFunction → List Operand → Has
FunctionHas filter sql operands world x =
    (values : List Val) × AllHave filter operands world (map gives values) × SqlFunctionGives world.now sql values x

-- what the filter's function makes of the operands' values, null standing instead of a fault too
pub record CalledHas
    (filter : Filter) (function : Function) (operands : List Operand) (world : World) (o : Outcome) : Type 0 where
  pub values : List Val
  pub have : AllHave filter operands world (map gives values)
  pub kinds : AreOfKinds operands values
  pub within : IsFirstWithin operands values
  pub given : CallGives world.now function values o
