-- Number and time literals that are left out (OData ABNF 4.01, section 7, decimalValue, doubleValue, timeOfDayValue).
use Rattle.std.specs.Prelude.{◌≡◌, ◌⊎◌, ℕ, List, [], ◌∷◌}
use Rattle.std.specs.Str.Parse.{IsNumeral}
use Rattle.edm_values.specs.IntLiteral.{IsIntSpelling}
use Rattle.edm_values.specs.MomentLiteral.{IsClockSpelling, IsSecondsSpelling}
use Rattle.odata_text.specs.Sequence.{FollowedBy}

-- a dot (46) and one digit or more
abbrev pub IsFraction : List ℕ → Type 0
IsFraction [] = ⊥
IsFraction (dot ∷ digits) = (dot ≡ 46) × IsNumeral 10 digits

-- `e` (101) or `E` (69), a sign or none, and one digit or more
abbrev pub IsExponent : List ℕ → Type 0
IsExponent [] = ⊥
IsExponent (mark ∷ power) = ((mark ≡ 101) ⊎ (mark ≡ 69)) × IsIntSpelling power

-- a fraction, an exponent or both
abbrev pub IsDecimals : List ℕ → Type 0
IsDecimals text = IsFraction text ⊎ (IsExponent text ⊎ FollowedBy IsFraction IsExponent text)

-- a sign or none, digits, and directly after them a fraction, an exponent or both
abbrev pub IsDecimalSpelling : List ℕ → Type 0
IsDecimalSpelling text = FollowedBy IsIntSpelling IsDecimals text

-- `hh:mm`, perhaps `:ss`, after that perhaps a dot and digits; whether or not the day has such a time
abbrev pub IsTimeOfDaySpelling : List ℕ → Type 0
IsTimeOfDaySpelling text = FollowedBy IsClockSpelling IsSecondsSpelling text
