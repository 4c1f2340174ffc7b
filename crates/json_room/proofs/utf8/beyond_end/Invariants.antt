use Rattle.std.proofs.Common.{◌<◌, ◌≤◌, ◌-◌}
use Rattle.json_room.proofs.utf8.beyond_end.Given as goal

-- the offset is past the first one, unless that is the last, and not past the last
abbrev pub invariant-loop-place : goal.invariant-loop-place
invariant-loop-place l = (l.from ≤ l.place) × (l.place ≤ l.count) × (l.from < l.count → l.from < l.place)

abbrev pub decreases-loop-place : goal.decreases-loop-place
decreases-loop-place l = l.count - l.place
