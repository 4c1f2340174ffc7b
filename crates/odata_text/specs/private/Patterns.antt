-- Patterns of bytes, and the parts of a moment.
use Rattle.std.specs.Prelude.{◌≡◌, ◌⊎◌, ℕ, ◌==◌, ◌||◌, Bool, true, List, [], ◌∷◌}
use Rattle.std.specs.Char.{is_ascii_digit, is_ascii_hexdigit}
use Rattle.edm_values.specs.MomentLiteral.{IsClockSpelling, IsOffsetSpelling, IsSecondsSpelling}
use Rattle.odata_text.specs.Sequence.{FollowedBy}
use Rattle.odata_text.specs.declared.byte_test.ByteTest.{ByteTest}
use Rattle.odata_text.specs.declared.byte_test.ByteTest.TheVariants.{Digit, HexDigit, Hyphen, Colon, Dot, Sign, TimeMark, OffsetMark, ExponentMark}

-- what may stand at one offset of a pattern
abbrev pub passes : ByteTest → ℕ → Bool
passes Digit b = is_ascii_digit b
passes HexDigit b = is_ascii_hexdigit b
passes Hyphen b = b == 45
passes Colon b = b == 58
passes Dot b = b == 46
passes Sign b = (b == 43) || (b == 45)
passes TimeMark b = (b == 84) || (b == 116)
passes OffsetMark b = (b == 90) || (b == 122)
passes ExponentMark b = (b == 101) || (b == 69)

-- the bytes fit the pattern one by one
abbrev pub PassesTests : List ByteTest → List ℕ → Type 0
PassesTests [] [] = Unit {0}
PassesTests [] (b ∷ bytes) = ⊥
PassesTests (test ∷ tests) [] = ⊥
PassesTests (test ∷ tests) (b ∷ bytes) = (passes test b ≡ true) × PassesTests tests bytes

-- `T` (84) or `t` (116), and `hh:mm`
abbrev pub IsMarkedClock : List ℕ → Type 0
IsMarkedClock [] = ⊥
IsMarkedClock (letter ∷ clock) = ((letter ≡ 84) ⊎ (letter ≡ 116)) × IsClockSpelling clock

-- the seconds, if any, and the offset
abbrev pub IsZoned : List ℕ → Type 0
IsZoned text = FollowedBy IsSecondsSpelling IsOffsetSpelling text

-- what stands after the date of a moment
abbrev pub IsTimed : List ℕ → Type 0
IsTimed text = FollowedBy IsMarkedClock IsZoned text
