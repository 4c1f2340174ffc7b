use Rattle.std.proofs.Common.{◌-◌, length}
use Rattle.odata_eval.specs.private.ValueTests.{AndsAbove}
use Rattle.odata_eval.proofs.value_tests.ands_above.Given as goal

-- only `and`s stand before the node
abbrev pub invariant-loop-place : goal.invariant-loop-place
invariant-loop-place l = AndsAbove l.checked l.place

abbrev pub decreases-loop-place : goal.decreases-loop-place
decreases-loop-place l = length l.checked.list.nodes - l.place
