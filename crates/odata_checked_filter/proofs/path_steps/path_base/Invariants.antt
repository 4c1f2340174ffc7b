use Rattle.std.proofs.Common.{ℕ, ◌<◌, ◌≤◌, ◌-◌}
use Rattle.odata_checked_filter.specs.private.PathSteps.{IsStepAt}
use Rattle.odata_checked_filter.proofs.path_steps.path_base.Given as goal

abbrev pub invariant-loop-index : goal.invariant-loop-index
invariant-loop-index l = record {
  below : l.top ≤ l.index;
  steps : (k : ℕ) → k < l.index → l.top ≤ k → IsStepAt l.list k;
}

abbrev pub decreases-loop-index : goal.decreases-loop-index
decreases-loop-index l = l.count - l.index
