use Rattle.std.proofs.Common.{ℕ, ◌<◌, ◌≤◌, ◌-◌}
use Rattle.filter_context.specs.private.Place.{IsClassAt}
use Rattle.odata_eval.proofs.walk_operand.spine_bottom.Given as goal

abbrev pub invariant-loop-place : goal.invariant-loop-place
invariant-loop-place l = record {
  below : l.top ≤ l.place;
  spine : (k : ℕ) → k < l.place → l.top ≤ k → IsClassAt l.context.list l.class k;
}

abbrev pub decreases-loop-place : goal.decreases-loop-place
decreases-loop-place l = l.count - l.place
