use Rattle.std.proofs.Common.{◌<◌, ◌≤◌, ℕ}
use Rattle.json_room.specs.private.SpelledKey.{StandsByte}
use Rattle.json_room.proofs.spelled_key.word_stands.Given as goal

-- the bytes so far are there
abbrev pub invariant-loop-k : goal.invariant-loop-k
invariant-loop-k l = (j : ℕ) → l.from ≤ j → j < l.k → StandsByte l.line l.place l.word j
