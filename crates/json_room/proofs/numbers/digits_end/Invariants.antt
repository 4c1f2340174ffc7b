use Rattle.std.proofs.Common.{◌≤◌, ◌-◌, length}
use Rattle.json_room.specs.private.Lexemes.{DigitsBetween}
use Rattle.json_room.proofs.numbers.digits_end.Given as goal

-- digits of the line stand up to the offset
abbrev pub invariant-loop-end : goal.invariant-loop-end
invariant-loop-end l = (l.from ≤ l.place) × (l.place ≤ length l.line) × DigitsBetween l.line l.from l.place

abbrev pub decreases-loop-end : goal.decreases-loop-end
decreases-loop-end l = length l.line - l.place
