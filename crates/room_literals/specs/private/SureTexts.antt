-- For private clauses: bytes that are seen at once to be a literal.
use Rattle.std.specs.Prelude.{◌≡◌, ◌⊎◌, ℕ, ℤ, ◌+◌, ◌-◌, ◌<◌, ◌≤◌, List, take, drop, get_or}
use Rattle.edm_values.specs.Civil.{Date}
use Rattle.edm_values.specs.DateLiteral.{DateValue}
use Rattle.edm_values.specs.GuidLiteral.{IsGuidSpelling}
use Rattle.edm_values.specs.MomentLiteral.{MinutesValue, OffsetValue}
use Rattle.json_room.specs.private.Lexemes.{DigitsBetween}

-- each of sixteen bytes is the lowest of its lane or above that, by no more than its span
abbrev pub AreWithin : List ℕ → ℕ → List ℕ → List ℕ → Type 0
AreWithin bytes from lows spans =
    (k : ℕ) → k < 16 → get_or lows k 0 + get_or spans k 0 < 256
    → (get_or lows k 0 ≤ get_or bytes (from + k) 0) × (get_or bytes (from + k) 0 ≤ get_or lows k 0 + get_or spans k 0)

-- the byte at an offset is a digit
abbrev pub IsDigitAt : List ℕ → ℕ → Type 0
IsDigitAt bytes place = (48 ≤ get_or bytes place 0) × (get_or bytes place 0 ≤ 57)

-- ten bytes are `YYYY-MM-DD` of the years from 1000 on; the hyphen is 45
pub record IsDaySpelled (bytes : List ℕ) (from : ℕ) : Type 0 where
  pub year : (49 ≤ get_or bytes from 0) × (get_or bytes from 0 ≤ 57) × IsDigitAt bytes (from + 1)
      × IsDigitAt bytes (from + 2) × IsDigitAt bytes (from + 3)
  pub hyphen : get_or bytes (from + 4) 0 ≡ 45
  pub month : IsDigitAt bytes (from + 5) × IsDigitAt bytes (from + 6)
  pub second_hyphen : get_or bytes (from + 7) 0 ≡ 45
  pub day : IsDigitAt bytes (from + 8) × IsDigitAt bytes (from + 9)

-- ten bytes are a day of the calendar
abbrev pub IsDayAt : List ℕ → ℕ → Type 0
IsDayAt bytes from = (d : Date) × DateValue (take 10 (drop from bytes)) d

-- sixteen bytes are a day of the calendar and the minutes of a clock
abbrev pub IsMinutesAt : List ℕ → ℕ → Type 0
IsMinutesAt bytes from =
    (d : Date) × (hour : ℕ) × (minute : ℕ) × (hour < 24) × (minute < 60)
    × MinutesValue (take 16 (drop from bytes)) d hour minute

-- no bytes, or a point (46) and one to nine digits
abbrev pub IsFractionAt : List ℕ → ℕ → ℕ → Type 0
IsFractionAt bytes from to =
    (to ≡ from)
    ⊎ ((get_or bytes from 0 ≡ 46) × (from + 1 < to) × (to ≤ from + 10) × DigitsBetween bytes (from + 1) to)

-- at most six bytes are an offset
abbrev pub IsOffsetAt : List ℕ → ℕ → ℕ → Type 0
IsOffsetAt bytes from to =
    (from < to) × (to ≤ from + 6) × ((offset : ℤ) × OffsetValue (take (to - from) (drop from bytes)) offset)

-- 36 bytes are a Guid
abbrev pub IsGuidAt : List ℕ → ℕ → Type 0
IsGuidAt bytes from = IsGuidSpelling (take 36 (drop from bytes))
