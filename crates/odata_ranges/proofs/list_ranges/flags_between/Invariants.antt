use Rattle.odata_ranges.proofs.Common.{◌≡◌, ◌≤◌, ◌-◌, false, AreQuiet}
use Rattle.odata_ranges.proofs.LinesOn.{IsOnward}
use Rattle.odata_ranges.proofs.list_ranges.flags_between.Given as goal

-- the trees from one index on are to come; what covers the flags so far and those of them covers all; there is no fault
-- before a stop up to which none is
abbrev pub invariant-loop-at : goal.invariant-loop-at
invariant-loop-at l = record {
  line : IsOnward l.checked l.ranges l.flags l.from l.stop l.at;
  onward : l.from ≤ l.at;
  quiet : AreQuiet l.ranges l.from l.stop → l.flags.may_fault ≡ false;
}

abbrev pub decreases-loop-at : goal.decreases-loop-at
decreases-loop-at l = l.stop - l.at
