-- Guid literals (OData ABNF Construction Rules 4.01, section 7, `guidValue`).
use Rattle.std.specs.Prelude.{◌≡◌, ℕ, ◌+◌, ◌*◌, ◌/◌, ◌%◌, List, [], ◌∷◌, ◌++◌, length, take, drop}
use Rattle.std.specs.Char.{digit_value, digit_char}
use Rattle.std.specs.Str.Parse.{AllDigits}

-- groups of so many digits with a hyphen (45) after each, and then the digits that are left
abbrev pub digit_groups : List ℕ → List ℕ → List ℕ
digit_groups [] digits = digits
digit_groups (size ∷ sizes) digits = take size digits ++ 45 ∷ digit_groups sizes (drop size digits)

-- 32 digits as 8-4-4-4-12
abbrev pub guid_text : List ℕ → List ℕ
guid_text digits = digit_groups (8 ∷ 4 ∷ 4 ∷ 4 ∷ []) digits

-- the bytes that hexadecimal digits stand for, two digits a byte
abbrev pub hex_bytes : List ℕ → List ℕ
hex_bytes [] = []
hex_bytes (high ∷ []) = []
hex_bytes (high ∷ low ∷ digits) = (16 * digit_value high + digit_value low) ∷ hex_bytes digits

-- the value of a Guid spelling: the sixteen bytes of its 32 hexadecimal digits, which are in either case
pub record GuidValue (text bytes : List ℕ) : Type 0 where
  pub digits : List ℕ
  pub all_digits : AllDigits 16 digits
  pub count : length digits ≡ 32
  pub spelled : text ≡ guid_text digits
  pub value : bytes ≡ hex_bytes digits

-- 8-4-4-4-12 hexadecimal digits, in either case, with hyphens
abbrev pub IsGuidSpelling : List ℕ → Type 0
IsGuidSpelling text = (bytes : List ℕ) × GuidValue text bytes

-- the two digits of each byte, in lower case
abbrev pub hex_digits : List ℕ → List ℕ
hex_digits [] = []
hex_digits (byte ∷ bytes) = digit_char (byte / 16) ∷ digit_char (byte % 16) ∷ hex_digits bytes

-- the canonical spelling: in lower case
abbrev pub guid_spelling : List ℕ → List ℕ
guid_spelling bytes = guid_text (hex_digits bytes)
