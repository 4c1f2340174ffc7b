use Rattle.std.proofs.Common.{◌≤◌, ◌-◌, length}
use Rattle.json.specs.Written.{PlainBetween}
use Rattle.json_room.proofs.texts.plain_end.Given as goal

-- plain bytes of the line stand up to the offset
abbrev pub invariant-loop-end : goal.invariant-loop-end
invariant-loop-end l = (l.from ≤ l.place) × (l.place ≤ length l.line) × PlainBetween l.line l.from l.place

abbrev pub decreases-loop-end : goal.decreases-loop-end
decreases-loop-end l = length l.line - l.place
