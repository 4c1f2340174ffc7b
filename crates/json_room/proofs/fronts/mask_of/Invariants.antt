use Rattle.std.proofs.Common.{◌≡◌, ◌<◌, ◌≤◌, ℕ, length, get_or}
use Rattle.json_room.proofs.fronts.mask_of.Given as goal

-- the bytes so far have all bits, and the others none
abbrev pub invariant-loop-k : goal.invariant-loop-k
invariant-loop-k l =
    (length l.mask ≡ 16) × ((j : ℕ) → j < l.k → get_or l.mask j 0 ≡ 255) × ((j : ℕ) → l.k ≤ j → get_or l.mask j 0 ≡ 0)
