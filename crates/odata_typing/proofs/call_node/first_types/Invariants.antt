use Rattle.std.proofs.Common.{◌≡◌, ◌-◌, ◌≤◌, length}
use Rattle.odata_typing.proofs.placed.TypeLoops.{AreTaken}
use Rattle.odata_typing.proofs.call_node.first_types.Given as goal

-- the types of the first nodes so far
abbrev pub invariant-loop-place : goal.invariant-loop-place
invariant-loop-place l = record {
  few : l.count ≤ 4;
  room : length l.types ≡ 4;
  taken : AreTaken l.walk.list.nodes l.types l.from l.place l.stop l.count;
}

abbrev pub decreases-loop-place : goal.decreases-loop-place
decreases-loop-place l = l.stop - l.place
