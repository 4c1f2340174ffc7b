use Rattle.odata_ranges.proofs.Common.{◌≡◌, ◌≤◌, ◌-◌, false, AreQuiet}
use Rattle.odata_ranges.proofs.ranges.any_fault.Given as goal

-- none is found up to an index that is quiet so far, and none before a stop up to which it is
abbrev pub invariant-loop-at : goal.invariant-loop-at
invariant-loop-at l = record {
  onward : l.from ≤ l.at;
  none : l.found ≡ false → AreQuiet l.ranges l.from l.at;
  one : AreQuiet l.ranges l.from l.stop → l.found ≡ false;
}

abbrev pub decreases-loop-at : goal.decreases-loop-at
decreases-loop-at l = l.stop - l.at
