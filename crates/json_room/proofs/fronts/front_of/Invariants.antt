use Rattle.std.proofs.Common.{◌≡◌, ◌<◌, ◌≤◌, ℕ, length, get_or}
use Rattle.json_room.proofs.fronts.front_of.Given as goal

-- the bytes so far are there, and zeros after them
abbrev pub invariant-loop-k : goal.invariant-loop-k
invariant-loop-k l =
    (length l.front ≡ 16) × ((j : ℕ) → j < l.k → get_or l.front j 0 ≡ get_or l.word j 0) × ((j : ℕ) → l.k ≤ j → get_or l.front j 0 ≡ 0)
