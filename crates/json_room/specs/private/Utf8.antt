-- For private clauses: bytes beyond ASCII (RFC 20).
use Rattle.std.specs.Prelude.{ℕ, Bool, nat_le}

-- it is beyond ASCII
abbrev pub is_beyond : ℕ → Bool
is_beyond x = nat_le 128 x
