use Rattle.std.proofs.Common.{◌≤◌, ◌-◌, length}
use Rattle.json_room.specs.private.Lexemes.{AsciiBetween}
use Rattle.json_room.proofs.numbers.number_bytes_end.Given as goal

-- bytes of ASCII stand up to the offset
abbrev pub invariant-loop-place : goal.invariant-loop-place
invariant-loop-place l = (l.from ≤ l.place) × (l.place ≤ length l.line) × AsciiBetween l.line l.from l.place

abbrev pub decreases-loop-place : goal.decreases-loop-place
decreases-loop-place l = length l.line - l.place
