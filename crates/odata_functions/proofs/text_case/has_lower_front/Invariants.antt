use Rattle.std.proofs.Common.{◌≡◌, map, take}
use Rattle.std.specs.Char.{to_ascii_lowercase}
use Rattle.odata_functions.proofs.text_case.has_lower_front.Given as goal

-- so far they are the same
abbrev pub invariant-loop-at : goal.invariant-loop-at
invariant-loop-at l = take l.at (map to_ascii_lowercase l.bytes) ≡ take l.at l.front
