use Rattle.std.proofs.Common.{◌≡◌, map, drop}
use Rattle.odata_expansion.specs.ExpansionView.{next_from, next_node}
use Rattle.odata_expansion.specs.private.StepView.{step_model}
use Rattle.odata_expansion.proofs.steps.next_of.Given as goal

-- what is found among the steps from the index on is what is found among all
abbrev pub invariant-loop-index : goal.invariant-loop-index
invariant-loop-index l =
    next_from l.index (map step_model (drop l.index l.steps)) l.node l.name ≡ next_node (map step_model l.steps) l.node l.name
