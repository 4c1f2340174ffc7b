-- What the functions that read plain tokens answer.
use Rattle.std.specs.Prelude.{◌≡◌, ℕ, ◌<◌, ◌≤◌, ◌==◌, ◌||◌, nat_le, Bool, true, false, List, length, slice_index, slice_range}
use Rattle.std.specs.Char.{is_ascii_alphabetic, is_ascii_alphanumeric}
use Rattle.odata_text.specs.Tokens.{IsTokenAt}
use Rattle.odata_text.specs.declared.token.TokenKind.{TokenKind}

-- an ASCII letter or `_`
abbrev pub is_first_byte : ℕ → Bool
is_first_byte b = is_ascii_alphabetic b || (b == 95)

-- these and digits
abbrev pub is_name_byte : ℕ → Bool
is_name_byte b = is_ascii_alphanumeric b || (b == 95)

-- `'`, `-`, `.` or a byte of a character past ASCII: a longer piece may go on with it after a word
abbrev pub word_goes_on : ℕ → Bool
word_goes_on b = (b == 39) || ((b == 45) || ((b == 46) || nat_le 128 b))

-- the same after digits, of `:` (58) too; or an identifier character
abbrev pub number_goes_on : ℕ → Bool
number_goes_on b = is_name_byte b || (word_goes_on b || (b == 58))

-- the bytes between the offsets pass the test, and the next one, if there is one, does not
pub record IsRun (test : ℕ → Bool) (bytes : List ℕ) (from to : ℕ) : Type 0 where
  pub order : from ≤ to
  pub within : to ≤ length bytes
  pub each : (i : ℕ) → from ≤ i → i < to → test (slice_index bytes i) ≡ true
  pub stops : to < length bytes → test (slice_index bytes to) ≡ false

-- a faultless token of the kind between the offsets
abbrev pub IsTokenBetween : List ℕ → TokenKind → ℕ → ℕ → Type 0
IsTokenBetween text kind start stop =
    IsTokenAt text (record { kind = kind; start = start; stop = stop; text = slice_range text start stop })
