-- Offsets in units of UTF-16.
use Rattle.std.specs.Prelude.{ℕ, ◌++◌, List, [], ◌∷◌, length, take}
use Rattle.std.specs.Char.Escape.{encode_utf16}
use Rattle.std.specs.Str.{chars}

-- characters in UTF-16 (Unicode 15.0, section 3.9, D91)
abbrev pub utf16_units : List ℕ → List ℕ
utf16_units [] = []
utf16_units (c ∷ cs) = encode_utf16 c ++ utf16_units cs

-- how many units a text has
abbrev pub utf16_length : List ℕ → ℕ
utf16_length text = length (utf16_units (chars text))

-- how many units are before a byte of a text
abbrev pub utf16_offset : List ℕ → ℕ → ℕ
utf16_offset text offset = utf16_length (take offset text)
