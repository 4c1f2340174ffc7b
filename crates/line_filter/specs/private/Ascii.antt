-- For private clauses: bytes of ASCII (RFC 20).
use Rattle.std.specs.Prelude.{◌<◌, ◌≤◌, ℕ, List, Bool, get_or, nat_le}

-- it is beyond ASCII
abbrev pub is_beyond : ℕ → Bool
is_beyond x = nat_le 128 x

-- each byte from one offset up to the other is of ASCII
abbrev pub AsciiBetween : List ℕ → ℕ → ℕ → Type 0
AsciiBetween bytes from to = (k : ℕ) → from ≤ k → k < to → get_or bytes k 0 < 128
