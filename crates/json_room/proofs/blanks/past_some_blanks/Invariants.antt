use Rattle.std.proofs.Common.{◌-◌, length}
use Rattle.json_room.specs.private.Lexemes.{PassesSpaces}
use Rattle.json_room.proofs.blanks.past_some_blanks.Given as goal

-- white space stands up to the offset
abbrev pub invariant-loop-place : goal.invariant-loop-place
invariant-loop-place l = PassesSpaces l.line l.from l.place

abbrev pub decreases-loop-place : goal.decreases-loop-place
decreases-loop-place l = length l.line - l.place
