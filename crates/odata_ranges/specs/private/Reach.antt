-- The whole numbers that arithmetic makes of numbers within ranges (OData URL Conventions 4.01, section 5.1.1.2).
use Rattle.std.specs.Prelude.{◌≡◌, ◌⊎◌, ℤ}
use Rattle.edm_values.specs.declared.primitive.PrimitiveType.{PrimitiveType}
use Rattle.odata_functions.specs.Arithmetic.{MakesNumber}
use Rattle.odata_syntax.specs.declared.binary_operator.ArithmeticOperator.{ArithmeticOperator}
use Rattle.odata_ranges.specs.Within.{CalculationHas, IsWithin}
use Rattle.odata_ranges.specs.declared.range.Range.{Range}
use Rattle.odata_ranges.specs.Reach.{HoldsNumber, LiesBetween}

-- what the operator makes of numbers of these ranges lies between the two
abbrev pub Reaches : ArithmeticOperator → Range → Range → ℤ × ℤ → Type 0
Reaches operator left right span =
    (a b n : ℤ) → HoldsNumber left a → HoldsNumber right b → MakesNumber operator a b n → LiesBetween span.0 span.1 n

-- the operator makes the number of a number of each range
pub record IsMade (operator : ArithmeticOperator) (left right : Range) (n : ℤ) : Type 0 where
  pub first : ℤ
  pub second : ℤ
  pub in_left : HoldsNumber left first
  pub in_right : HoldsNumber right second
  pub made : MakesNumber operator first second n

-- both of the two are made of numbers of these ranges
abbrev pub Attains : ArithmeticOperator → Range → Range → ℤ × ℤ → Type 0
Attains operator left right span = IsMade operator left right span.0 × IsMade operator left right span.1

-- one of four numbers
abbrev pub IsOneOf : ℤ → ℤ → ℤ → ℤ → ℤ → Type 0
IsOneOf a b c d n = (n ≡ a) ⊎ ((n ≡ b) ⊎ ((n ≡ c) ⊎ (n ≡ d)))

-- what arithmetic makes in that type of values within two ranges lies within a third
abbrev pub CalculatesWithin : ArithmeticOperator → PrimitiveType → Range → Range → Range → Type 0
CalculatesWithin operator type left right result = CalculationHas operator type left right (IsWithin result)
