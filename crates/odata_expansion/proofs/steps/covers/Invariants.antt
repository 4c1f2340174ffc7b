use Rattle.std.proofs.Common.{map}
use Rattle.odata_expansion.specs.private.StepView.{step_model}
use Rattle.odata_expansion.proofs.Nodes.{AreIn}
use Rattle.odata_expansion.proofs.steps.covers.Given as goal

-- the paths to the nodes so far are in the set, if they are in the other
abbrev pub invariant-loop-index : goal.invariant-loop-index
invariant-loop-index l = AreIn (map step_model l.own) (map step_model l.other) l.index
