use Rattle.std.proofs.Common.{◌+◌, ◌-◌, ◌≤◌}
use Rattle.json_room.specs.private.Lexemes.{DigitsBetween}
use Rattle.room_literals.proofs.sure_texts.fraction_end.Given as goal

-- digits stand from after the point up to the offset
abbrev pub invariant-loop-place : goal.invariant-loop-place
invariant-loop-place l = (l.from + 1 ≤ l.place) × (l.place ≤ l.from + 10) × DigitsBetween l.bytes (l.from + 1) l.place

abbrev pub decreases-loop-place : goal.decreases-loop-place
decreases-loop-place l = l.from + 10 - l.place
