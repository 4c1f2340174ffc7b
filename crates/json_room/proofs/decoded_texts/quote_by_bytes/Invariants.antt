use Rattle.std.proofs.Common.{◌≡◌, ◌≤◌, ◌-◌, length, drop}
use Rattle.json.specs.Lex.{in_string, lex}
use Rattle.json_room.proofs.decoded_texts.quote_by_bytes.Given as goal

-- nothing but what the text says was passed
abbrev pub invariant-loop-place : goal.invariant-loop-place
invariant-loop-place l = (l.from ≤ l.place) × (lex in_string (drop l.place l.bytes) ≡ lex in_string (drop l.from l.bytes))

abbrev pub decreases-loop-place : goal.decreases-loop-place
decreases-loop-place l = length l.bytes - l.place
