-- For private clauses: a word in a line, byte by byte.
use Rattle.std.specs.Prelude.{◌≡◌, ◌+◌, ◌<◌, ℕ, List, length, get_or}

-- the byte of a word at that index, if it has one, is in the line where the word begins at an offset
abbrev pub StandsByte : List ℕ → ℕ → List ℕ → ℕ → Type 0
StandsByte line place word k = k < length word → get_or line (place + k) 10 ≡ get_or word k 0
