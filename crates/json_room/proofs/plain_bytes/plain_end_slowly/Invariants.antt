use Rattle.std.proofs.Common.{◌≤◌, ◌-◌, length}
use Rattle.json.specs.Written.{PlainBetween}
use Rattle.json_room.proofs.plain_bytes.plain_end_slowly.Given as goal

-- plain bytes stand up to the offset
abbrev pub invariant-loop-place : goal.invariant-loop-place
invariant-loop-place l = (l.from ≤ l.place) × (l.place ≤ length l.bytes) × PlainBetween l.bytes l.from l.place

abbrev pub decreases-loop-place : goal.decreases-loop-place
decreases-loop-place l = length l.bytes - l.place
