-- A date and time of day with an offset (OData ABNF Construction Rules 4.01, section 7, `dateTimeOffsetValue`).
use Rattle.std.specs.Prelude.{ℤ, pos, neg_ℤ}
use Rattle.edm_values.specs.Civil.{DateTime, IsBetween}

-- the date and time on the clock, and how many minutes that clock is ahead of UTC
pub record MomentParts : Type 0 where
  pub civil : DateTime
  pub offset_minutes : ℤ

-- a year of four digits other than 0000
abbrev pub IsFourDigitYear : ℤ → Type 0
IsFourDigitYear year = IsBetween (pos 1) (pos 9999) year

-- less than 24 hours east of UTC or west of it
abbrev pub IsOffset : ℤ → Type 0
IsOffset minutes = IsBetween (neg_ℤ (pos 1439)) (pos 1439) minutes

-- the parts of a moment that a literal can spell
abbrev pub IsMoment : DateTime → ℤ → Type 0
IsMoment civil offset_minutes = IsFourDigitYear civil.date.year × IsOffset offset_minutes
