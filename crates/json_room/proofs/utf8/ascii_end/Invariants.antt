use Rattle.std.proofs.Common.{◌≤◌, ◌+◌, ◌-◌}
use Rattle.json_room.specs.private.Lexemes.{AsciiBetween}
use Rattle.json_room.proofs.utf8.ascii_end.Given as goal

-- bytes of ASCII stand up to the offset, which is past the last by less than one load
abbrev pub invariant-loop-place : goal.invariant-loop-place
invariant-loop-place l = (l.from ≤ l.place) × (l.place ≤ l.count + 16) × AsciiBetween l.bytes l.from l.place

abbrev pub decreases-loop-place : goal.decreases-loop-place
decreases-loop-place l = l.count + 16 - l.place
