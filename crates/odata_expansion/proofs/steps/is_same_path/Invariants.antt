use Rattle.std.proofs.Common.{◌≤◌, length, map}
use Rattle.odata_expansion.specs.PathSet.{PropertyPath}
use Rattle.odata_expansion.specs.private.StepView.{LeadsBack, step_model}
use Rattle.odata_expansion.proofs.Nodes.{IsBeside}
use Rattle.odata_expansion.proofs.steps.is_same_path.Given as goal

-- what is left of the path leads back from both nodes
abbrev pub invariant-loop-node : goal.invariant-loop-node
invariant-loop-node l = record {
  within : l.node ≤ length l.own;
  beside_within : l.beside ≤ length l.other;
  same : (names : PropertyPath) → LeadsBack (map step_model l.other) names l.other_node
      → IsBeside (map step_model l.own) (map step_model l.other) names l.own_node l.node l.beside;
}

abbrev pub decreases-loop-node : goal.decreases-loop-node
decreases-loop-node l = l.node
