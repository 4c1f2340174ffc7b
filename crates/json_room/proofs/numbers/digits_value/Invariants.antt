use Rattle.std.proofs.Common.{◌<◌, ◌≤◌, ◌-◌, length, drop}
use Rattle.json_room.specs.private.Lexemes.{WritesWhole}
use Rattle.json_room.proofs.numbers.digits_value.Given as goal

-- the bytes so far are digits, and the number is theirs
abbrev pub invariant-loop-place : goal.invariant-loop-place
invariant-loop-place l = (l.from < l.place) × (l.place ≤ length l.line) × WritesWhole (drop l.from l.line) (l.place - l.from) l.number

abbrev pub decreases-loop-place : goal.decreases-loop-place
decreases-loop-place l = length l.line - l.place
