-- The bytes of `hh:mm`.
use Rattle.std.specs.Prelude.{◌≡◌, ℕ, ◌+◌, ◌/◌, ◌%◌}

-- the four digits of a clock
abbrev pub AreClockDigits : ℕ → ℕ → ℕ → ℕ → ℕ → ℕ → Type 0
AreClockDigits a b c d hour minute =
    (a ≡ 48 + hour / 10) × (b ≡ 48 + hour % 10) × (c ≡ 48 + minute / 10) × (d ≡ 48 + minute % 10)
