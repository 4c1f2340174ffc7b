use Rattle.std.proofs.Common.{arith}
use Rattle.json.specs.Text.{code_unit}
use Rattle.json_room.proofs.decoded_escapes.unit_at.Goals as goal

pub returns-then-first-second-clause-value : goal.returns-then-first-second-clause-value
unfolding code_unit
returns-then-first-second-clause-value c =
    rw (← c.hex_digit-first.ensures.value, ← c.hex_digit-second.ensures.value, ← c.hex_digit-third.ensures.value, ← c.hex_digit-last.ensures.value) (grind arith)
