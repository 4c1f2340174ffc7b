-- The whole numbers that arithmetic makes of numbers within ranges (OData URL Conventions 4.01, section 5.1.1.2).
use Rattle.std.specs.Prelude.{ℤ, pos, neg_ℤ, ◌≤ℤ◌}
use Rattle.odata_ranges.specs.declared.range.Range.{Range}

-- the number lies between two others
abbrev pub LiesBetween : ℤ → ℤ → ℤ → Type 0
LiesBetween low high n = (low ≤ℤ n) × (n ≤ℤ high)

-- the number lies between the bounds
abbrev pub HoldsNumber : Range → ℤ → Type 0
HoldsNumber range = LiesBetween range.low range.high

-- no farther from 0 than 2 to the power of 63: the product of two such numbers fits 128 bits
abbrev pub IsSmall : ℤ → Type 0
IsSmall = LiesBetween (neg_ℤ (pos 9_223_372_036_854_775_808)) (pos 9_223_372_036_854_775_808)

-- bounds in order, neither of them far from 0
pub record IsBounded (range : Range) : Type 0 where
  pub ordered : range.low ≤ℤ range.high
  pub low : IsSmall range.low
  pub high : IsSmall range.high
