-- Bytes of an item that change nothing about where it ends.
use Rattle.std.specs.Prelude.{◌≡◌, ℕ, ◌==◌, ◌||◌, ◌<◌, ◌≤◌, List, get_or, Bool, false, nat_lt}

-- a quote, a backslash, a bracket, a brace or a control character
abbrev pub is_stop : ℕ → Bool
is_stop byte =
    byte == 34 || byte == 92 || byte == 123 || byte == 91 || byte == 125 || byte == 93 || nat_lt byte 32

-- from one offset up to another none of these stands
abbrev pub ArePlain : List ℕ → ℕ → ℕ → Type 0
ArePlain bytes from to = (k : ℕ) → from ≤ k → k < to → is_stop (get_or bytes k 0) ≡ false
