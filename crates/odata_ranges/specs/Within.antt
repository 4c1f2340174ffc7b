-- What the outcomes of a node lie within.
use Rattle.std.specs.Prelude.{◌≡◌, ◌<ℤ◌, ◌≤ℤ◌, ℕ, ℤ, pos, length, true}
use Rattle.std.specs.Str.{chars}
use Rattle.edm_values.specs.Val.{Val, null, whole, text}
use Rattle.edm_values.specs.declared.primitive.PrimitiveType.{PrimitiveType}
use Rattle.csdl_schema.specs.ExprType.{primitive, single}
use Rattle.odata_syntax.specs.declared.binary_operator.ArithmeticOperator.{ArithmeticOperator}
use Rattle.odata_filter_operations.specs.CalculationGives.{CalculationGives}
use Rattle.odata_filter_operations.specs.Outcome.{Outcome, GivesSome, gives, overflow, divides_by_zero}
use Rattle.odata_ranges.specs.Reach.{HoldsNumber}
use Rattle.odata_ranges.specs.declared.range.Range.{Range}

-- 2 to the power of 62: as a bound of characters it says nothing
abbrev pub unbounded : ℤ
unbounded = pos 4_611_686_018_427_387_904

-- at most so many, unless that says nothing
abbrev pub IsUpTo : ℤ → ℕ → Type 0
IsUpTo high n = high <ℤ unbounded → pos n ≤ℤ high

abbrev pub HoldsCount : Range → ℕ → Type 0
HoldsCount range n = (range.low ≤ℤ pos n) × IsUpTo range.high n

-- null where it may be null, a number within the bounds, a text of so many characters; any other value
abbrev pub IsValueWithin : Range → Val → Type 0
IsValueWithin range null = range.may_be_null ≡ true
IsValueWithin range (whole n) = HoldsNumber range n
IsValueWithin range (text s) = HoldsCount range (length (chars s))
IsValueWithin range _ = Unit {0}

-- a fault where there may be one, or such a value
abbrev pub IsWithin : Range → Outcome → Type 0
IsWithin range (gives v) = IsValueWithin range v
IsWithin range overflow = range.may_fault ≡ true
IsWithin range divides_by_zero = range.may_fault ≡ true

-- what the operator makes in that type of values within two ranges
abbrev pub CalculationHas : ArithmeticOperator → PrimitiveType → Range → Range → (Outcome → Type 0) → Type 0
CalculationHas operator type left right Holds =
    (v w : Val) (o : Outcome) → IsValueWithin left v → IsValueWithin right w
    → CalculationGives operator (single (primitive type)) v w o → Holds o

-- is a value of every two
abbrev pub NeverFaults : ArithmeticOperator → PrimitiveType → Range → Range → Type 0
NeverFaults operator type left right = CalculationHas operator type left right (GivesSome (λ v. Unit {0}))

-- is a fault of some two numbers
pub record HasFault (operator : ArithmeticOperator) (type : PrimitiveType) (left right : Range) : Type 0 where
  pub first : ℤ
  pub second : ℤ
  pub in_left : HoldsNumber left first
  pub in_right : HoldsNumber right second
  pub outcome : Outcome
  pub given : CalculationGives operator (single (primitive type)) (whole first) (whole second) outcome
  pub is_fault : ¬ (GivesSome (λ v. Unit {0}) outcome)
