-- Moment literals (OData ABNF Construction Rules 4.01, section 7, `dateTimeOffsetValue`).
use Rattle.std.specs.Prelude.{◌≡◌, ◌⊎◌, ℕ, zero, suc, ◌+◌, ◌-◌, ◌*◌, ◌/◌, ◌%◌, ◌^◌, ◌<◌, ◌≤◌, ◌==◌, if◌then◌else◌, ℤ, pos, negsuc, neg_ℤ, List, [], ◌∷◌, ◌++◌, length}
use Rattle.std.specs.Str.Parse.{IsNumeral, digits_value}
use Rattle.edm_values.specs.Civil.{Date}
use Rattle.edm_values.specs.DateLiteral.{two_digits, IsDateSpelling, date_spelling}
use Rattle.edm_values.specs.MomentParts.{MomentParts, IsFourDigitYear}

-- `hh:mm`; the colon is 58
abbrev pub clock_text : ℕ → ℕ → List ℕ
clock_text hour minute = two_digits hour ++ 58 ∷ two_digits minute

-- two digits, a colon, two digits
abbrev pub IsClockSpelling : List ℕ → Type 0
IsClockSpelling text = (hour : ℕ) × (minute : ℕ) × (hour < 100) × (minute < 100) × (text ≡ clock_text hour minute)

-- nothing; a colon and two digits; or these, a dot (46) and one digit or more
abbrev pub IsSecondsSpelling : List ℕ → Type 0
IsSecondsSpelling text =
    (text ≡ [])
    ⊎ ((second : ℕ) × (second < 100)
    × ((text ≡ 58 ∷ two_digits second)
    ⊎ ((digits : List ℕ) × IsNumeral 10 digits × (text ≡ 58 ∷ two_digits second ++ 46 ∷ digits))))

-- `Z`, `z`, or a sign and `hh:mm`
abbrev pub IsOffsetSpelling : List ℕ → Type 0
IsOffsetSpelling text =
    (text ≡ 90 ∷ [])
    ⊎ ((text ≡ 122 ∷ [])
    ⊎ ((sign : ℕ) × (clock : List ℕ) × ((sign ≡ 43) ⊎ (sign ≡ 45)) × IsClockSpelling clock × (text ≡ sign ∷ clock)))

-- a date, `T` (84) or `t` (116), `hh:mm`, perhaps `:ss`, after that perhaps a dot and digits; then `Z` (90), `z` (122),
-- or a plus (43) or minus (45) and `hh:mm`; whether or not each of these is in its range
pub record IsMomentSpelling (text : List ℕ) : Type 0 where
  pub date : List ℕ
  pub letter : ℕ
  pub clock : List ℕ
  pub seconds : List ℕ
  pub offset : List ℕ
  pub spelled : text ≡ (date ++ letter ∷ clock) ++ (seconds ++ offset)
  pub is_date : IsDateSpelling date
  pub is_letter : (letter ≡ 84) ⊎ (letter ≡ 116)
  pub is_clock : IsClockSpelling clock
  pub is_seconds : IsSecondsSpelling seconds
  pub is_offset : IsOffsetSpelling offset

-- the nanoseconds that one to nine digits after the dot of a second stand for
abbrev pub FractionValue : List ℕ → ℕ → Type 0
FractionValue digits nanoseconds =
    IsNumeral 10 digits × (length digits ≤ 9) × (nanoseconds ≡ digits_value 10 digits * 10 ^ (9 - length digits))

-- what follows `hh:mm`: nothing, the seconds, or the seconds, a dot (46) and digits
abbrev pub SecondsValue : List ℕ → ℕ → ℕ → Type 0
SecondsValue text second nanosecond =
    ((text ≡ []) × (second ≡ 0) × (nanosecond ≡ 0))
    ⊎ (((text ≡ 58 ∷ two_digits second) × (nanosecond ≡ 0))
    ⊎ ((digits : List ℕ) × (text ≡ 58 ∷ two_digits second ++ 46 ∷ digits) × FractionValue digits nanosecond))

-- the minutes of an offset: `Z` (90), `z` (122), or a plus (43) or minus (45) and less than 24 hours
abbrev pub OffsetValue : List ℕ → ℤ → Type 0
OffsetValue text offset =
    (((text ≡ 90 ∷ []) ⊎ (text ≡ 122 ∷ [])) × (offset ≡ pos 0))
    ⊎ ((hours : ℕ) × (minutes : ℕ) × (hours < 24) × (minutes < 60)
    × (((text ≡ 43 ∷ clock_text hours minutes) × (offset ≡ pos (60 * hours + minutes)))
    ⊎ ((text ≡ 45 ∷ clock_text hours minutes) × (offset ≡ neg_ℤ (pos (60 * hours + minutes))))))

-- a date, `T` (84) or `t` (116), and `hh:mm`
abbrev pub MinutesValue : List ℕ → Date → ℕ → ℕ → Type 0
MinutesValue text date hour minute =
    IsFourDigitYear date.year × (letter : ℕ) × ((letter ≡ 84) ⊎ (letter ≡ 116))
    × (text ≡ date_spelling date ++ letter ∷ clock_text hour minute)

-- the value of a Moment spelling: a date and minutes, seconds if any, and an offset
pub record MomentValue (text : List ℕ) (m : MomentParts) : Type 0 where
  pub minutes : List ℕ
  pub seconds : List ℕ
  pub offset : List ℕ
  pub spelled : text ≡ minutes ++ (seconds ++ offset)
  pub is_minutes : MinutesValue minutes m.civil.date m.civil.time.hour m.civil.time.minute
  pub is_seconds : SecondsValue seconds m.civil.time.second m.civil.time.subsec_nanosecond
  pub is_offset : OffsetValue offset m.offset_minutes

-- the digits of n as a fraction of so many digits, up to the last that is not zero
unfoldable pub significant_digits : ℕ → ℕ → List ℕ
significant_digits zero n = []
significant_digits (suc k) n = if n == 0 then [] else (48 + n / 10 ^ k) ∷ significant_digits k (n % 10 ^ k)

-- a dot and the digits of the fraction, unless it is zero
abbrev pub fraction_text : ℕ → List ℕ
fraction_text nanoseconds = if nanoseconds == 0 then [] else 46 ∷ significant_digits 9 nanoseconds

-- `Z` for an offset of zero, else its sign and `hh:mm`
abbrev pub offset_text : ℤ → List ℕ
offset_text (pos zero) = 90 ∷ []
offset_text (pos (suc n)) = 43 ∷ clock_text (suc n / 60) (suc n % 60)
offset_text (negsuc n) = 45 ∷ clock_text (suc n / 60) (suc n % 60)

-- the canonical spelling: `T`, seconds, no last zeros in the fraction, `Z` where it can be
abbrev pub moment_spelling : MomentParts → List ℕ
moment_spelling m =
    (date_spelling m.civil.date ++ 84 ∷ clock_text m.civil.time.hour m.civil.time.minute)
    ++ ((58 ∷ two_digits m.civil.time.second ++ fraction_text m.civil.time.subsec_nanosecond)
    ++ offset_text m.offset_minutes)
