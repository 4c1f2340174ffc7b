-- The Gregorian calendar, also before its time (ISO 8601; OData URL Conventions 4.01, section 5.1.1.8).
use Rattle.std.specs.Prelude.{◌≡◌, ◌≤◌, ◌+◌, ◌-◌, ◌*◌, ◌/◌, ◌%◌, ◌≤ℤ◌, ◌+ℤ◌, ◌-ℤ◌, ℕ, ℤ, pos, neg_ℤ, unsigned_abs, Bool, ◌==◌, ◌&&◌, ◌||◌, not, if◌then◌else◌, List, [], ◌∷◌, sum, take, slice_index}

-- every fourth year has a leap day, but of those that are divided by 100 only every fourth
abbrev pub has_leap_day : ℤ → Bool
has_leap_day year =
    (unsigned_abs year % 4 == 0) && (not (unsigned_abs year % 100 == 0) || (unsigned_abs year % 400 == 0))

-- the days of the twelve months
abbrev pub month_lengths : ℤ → List ℕ
month_lengths year =
    31 ∷ (if has_leap_day year then 29 else 28) ∷ 31 ∷ 30 ∷ 31 ∷ 30 ∷ 31 ∷ 31 ∷ 30 ∷ 31 ∷ 30 ∷ 31 ∷ []

-- the days of a month
abbrev pub days_of_month : ℤ → ℕ → ℕ
days_of_month year month = slice_index (month_lengths year) (month - 1)

-- the days of the months before it
abbrev pub days_before_month : ℤ → ℕ → ℕ
days_before_month year month = sum (take (month - 1) (month_lengths year))

-- the days of so many years from year -9999 on, or from any other of which this is true: it is one more than a
-- multiple of 400
abbrev pub days_of_years : ℕ → ℕ
days_of_years years = 365 * years + years / 4 - years / 100 + years / 400

-- how many days a date comes after 1970-01-01; that came 4,371,587 days after -9999-01-01
abbrev pub day_number : ℤ → ℕ → ℕ → ℤ
day_number year month day =
    pos (days_of_years (unsigned_abs (year +ℤ pos 9999)) + days_before_month year month + (day - 1)) -ℤ pos 4_371_587

-- the date with that day number, of a year with no more than four digits
pub record IsDateOf (number year : ℤ) (month day : ℕ) : Type 0 where
  pub year_in : (neg_ℤ (pos 9999) ≤ℤ year) × (year ≤ℤ pos 9999)
  pub month_in : (1 ≤ month) × (month ≤ 12)
  pub day_in : (1 ≤ day) × (day ≤ days_of_month year month)
  pub number_is : number ≡ day_number year month day
