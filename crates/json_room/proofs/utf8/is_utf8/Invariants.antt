use Rattle.std.proofs.Common.{◌≤◌, ◌-◌, take}
use Rattle.std.specs.Str.{IsUtf8}
use Rattle.json_room.proofs.utf8.is_utf8.Given as goal

-- the bytes up to the offset are in UTF-8
abbrev pub invariant-loop-place : goal.invariant-loop-place
invariant-loop-place l = (l.place ≤ l.count) × IsUtf8 (take l.place l.bytes)

abbrev pub decreases-loop-place : goal.decreases-loop-place
decreases-loop-place l = l.count - l.place
