-- The bits of whole numbers, of which `has` asks (OData URL Conventions 4.01, section 5.1.1.1.10).
use Rattle.std.specs.Prelude.{◌≡◌, ◌<◌, ℕ, ℤ}
use Rattle.std.specs.Int.{bit_at, cast_unsigned, w64}

-- of the 64 bits of the number in two's complement, counted from the lowest, that one is 1
abbrev pub IsBitOf : ℤ → ℕ → Type 0
IsBitOf n k = bit_at (cast_unsigned w64 n) k ≡ 1

-- the value has every bit of the flags
abbrev pub HasBits : ℤ → ℤ → Type 0
HasBits value flags = (k : ℕ) → k < 64 → IsBitOf flags k → IsBitOf value k
