use Rattle.edm_values.proofs.FewValues.{AreTaken}
use Rattle.edm_values.proofs.sparse.take_beside.Given as goal

-- the values that are left, and those that stand beside their slots
abbrev pub invariant-loop-value : goal.invariant-loop-value
invariant-loop-value l = AreTaken l.initial.values.items l.values.items l.held.items

abbrev pub decreases-loop-value : goal.decreases-loop-value
decreases-loop-value l = goal.left-loop-value l
