use Rattle.std.proofs.Common.{◌-◌}
use Rattle.odata_eval.specs.private.NodeWays.{LiesIn}
use Rattle.odata_eval.proofs.node_value.evaluate_node.Given as goal

-- the node lies in the tree of an operand
abbrev pub invariant-loop-outer : goal.invariant-loop-outer
invariant-loop-outer l = LiesIn l.context l.outer l.index

abbrev pub decreases-loop-outer : goal.decreases-loop-outer
decreases-loop-outer l = l.index - l.outer
