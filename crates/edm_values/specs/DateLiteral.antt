-- Date literals (OData ABNF Construction Rules 4.01, section 7, `dateValue`).
use Rattle.std.specs.Prelude.{◌≡◌, ℕ, ◌+◌, ◌/◌, ◌%◌, ◌<◌, List, [], ◌∷◌, ◌++◌, unsigned_abs}
use Rattle.edm_values.specs.Civil.{Date}
use Rattle.edm_values.specs.MomentParts.{IsFourDigitYear}

-- a number below 100 in two ASCII digits
abbrev pub two_digits : ℕ → List ℕ
two_digits n = (48 + n / 10) ∷ (48 + n % 10) ∷ []

-- a number below 10000 in four
abbrev pub four_digits : ℕ → List ℕ
four_digits n = two_digits (n / 100) ++ two_digits (n % 100)

-- `YYYY-MM-DD`; the hyphen is 45
abbrev pub date_text : ℕ → ℕ → ℕ → List ℕ
date_text year month day = four_digits year ++ 45 ∷ two_digits month ++ 45 ∷ two_digits day

-- four digits, two and two, whether or not the calendar has such a day
abbrev pub IsDateSpelling : List ℕ → Type 0
IsDateSpelling text =
    (year : ℕ) × (month : ℕ) × (day : ℕ) × (year < 10_000) × (month < 100) × (day < 100)
    × (text ≡ date_text year month day)

-- the one spelling of a date in the years 1 to 9999
abbrev pub date_spelling : Date → List ℕ
date_spelling d = date_text (unsigned_abs d.year) d.month d.day

-- the value of a Date spelling: the day of the calendar with this year, month and day
abbrev pub DateValue : List ℕ → Date → Type 0
DateValue text d = IsFourDigitYear d.year × (text ≡ date_spelling d)
