-- Marks of slots, as bits of words.
use Rattle.std.specs.Prelude.{◌+◌, ◌*◌, ◌^◌, ◌%◌, ℕ, List, [], ◌∷◌}

-- the bits of words of 64 as one number's, those of the first word the lowest
unfoldable pub bits_of : List ℕ → ℕ
bits_of [] = 0
bits_of (word ∷ words) = bits_of words * 2 ^ 64 + word % 2 ^ 64
