use Rattle.std.proofs.Common.{◌<◌, ◌≤◌, ◌-◌}
use Rattle.filter_context.specs.private.Place.{IsStopOf}
use Rattle.odata_eval.specs.private.NodeWays.{OperandsFrom}
use Rattle.odata_eval.proofs.node_value.operand_in_line.Given as goal

-- operands stand from the child on, and the index is not before it
abbrev pub invariant-loop-stop : goal.invariant-loop-stop
invariant-loop-stop l = record {
  operands : OperandsFrom l.context l.child l.index;
  further : l.outer < l.child;
  before : l.child ≤ l.index;
  stops : IsStopOf l.context.list l.child l.stop;
}

abbrev pub decreases-loop-stop : goal.decreases-loop-stop
decreases-loop-stop l = l.index - l.child
