use Rattle.odata_ranges.proofs.Common.{◌≡◌, ◌≤◌, length, AreReportedFrom, AreRangesFrom}
use Rattle.odata_ranges.proofs.ranges.ranges_of.Given as goal

-- the ranges from the index on are right
abbrev pub invariant-loop-place : goal.invariant-loop-place
invariant-loop-place l = record {
  as_many : length l.ranges.items ≡ length l.checked.list.nodes;
  within : l.place ≤ length l.checked.list.nodes;
  each : AreRangesFrom l.checked l.place l.ranges.items;
  reported : AreReportedFrom l.checked l.place l.ranges.items;
}

abbrev pub decreases-loop-place : goal.decreases-loop-place
decreases-loop-place l = l.place
