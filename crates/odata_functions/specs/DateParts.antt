-- The parts of dates and moments (OData URL Conventions 4.01, section 5.1.1.8).
use Rattle.std.specs.Prelude.{◌≡◌, ℕ, ℤ, pos}
use Rattle.edm_values.specs.Civil.{Date}
use Rattle.edm_values.specs.MomentParts.{MomentParts}
use Rattle.odata_functions.specs.Gregorian.{IsDateOf}

-- the year of the date with that day number
abbrev pub IsYearOf : ℤ → ℤ → Type 0
IsYearOf number year = (month day : ℕ) × IsDateOf number year month day

-- likewise its month, from 1
abbrev pub IsMonthOf : ℤ → ℤ → Type 0
IsMonthOf number month = (year : ℤ) × (m day : ℕ) × (month ≡ pos m) × IsDateOf number year m day

-- likewise its day of the month, from 1
abbrev pub IsDayOf : ℤ → ℤ → Type 0
IsDayOf number day = (year : ℤ) × (month d : ℕ) × (day ≡ pos d) × IsDateOf number year month d

-- what the clock of a moment shows, at its own offset
abbrev pub date_of : MomentParts → Date
date_of moment = moment.civil.date

-- likewise the hour
abbrev pub hour_of : MomentParts → ℤ
hour_of moment = pos moment.civil.time.hour

-- likewise the minute
abbrev pub minute_of : MomentParts → ℤ
minute_of moment = pos moment.civil.time.minute

-- likewise the whole second
abbrev pub second_of : MomentParts → ℤ
second_of moment = pos moment.civil.time.second
