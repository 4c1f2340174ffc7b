-- For private clauses: arithmetic, whose result is bound to a type.
use Rattle.std.specs.Prelude.{ℤ, pos, Bool, true, false, Option, Some, None}
use Rattle.edm_values.specs.Val.{null, whole}
use Rattle.edm_values.specs.declared.primitive.PrimitiveType.{PrimitiveType}
use Rattle.odata_checked_filter.specs.Filter.{Filter}
use Rattle.odata_filter_operations.specs.CalculationGives.{ComputesTo, number_val}
use Rattle.odata_filter_operations.specs.Outcome.{Outcome, gives}
use Rattle.odata_syntax.specs.declared.binary_operator.ArithmeticOperator.{ArithmeticOperator}
use Rattle.odata_syntax.specs.declared.binary_operator.ComparisonOperator.{ComparisonOperator}
use Rattle.odata_ranges.specs.Reach.{HoldsNumber}
use Rattle.odata_ranges.specs.declared.range.Range.{Range}
use Rattle.sql_meaning.specs.Operands.{BothNumbers}
use Rattle.sql_meaning.specs.OperatorsGive.{ChoiceGives, GivesWhole, GivesWithin64, StrictlyGives, truth}
use Rattle.sql_draft.specs.declared.sql_operand.Operand.{Operand}
use Rattle.sql_draft.specs.OperandHas.{OperandHas}
use Rattle.sql_draft.specs.World.{Has, World}
use Rattle.sql_outcomes.specs.private.Functions.{IsFitted}

-- ---- the parts

-- whether the operand's number is 0
abbrev pub ZeroHas : Filter → Operand → Has
ZeroHas filter operand world o =
    (k : Option ℤ) × OperandHas filter operand world (gives (number_val k))
    × StrictlyGives ComparisonOperator.Eq (number_val k) (whole (pos 0)) o

-- the operand's number, null instead of 0
abbrev pub UnlessZeroHas : Filter → Operand → Has
UnlessZeroHas filter operand world o =
    (k : Option ℤ) × (zero : Option Bool) × OperandHas filter operand world (gives (number_val k))
    × StrictlyGives ComparisonOperator.Eq (number_val k) (whole (pos 0)) (truth zero)
    × ChoiceGives zero (gives null) (gives (number_val k)) o

abbrev pub DivisorHas : Bool → Filter → Operand → Has
DivisorHas true filter operand = UnlessZeroHas filter operand
DivisorHas false filter operand = OperandHas filter operand

-- the number that the operator makes, of any size
abbrev pub WideHas : Filter → ArithmeticOperator → Operand → Has → Has
WideHas filter operator left Divisor world o =
    (m : Option ℤ) × (d : Option ℤ) × OperandHas filter left world (gives (number_val m))
    × Divisor world (gives (number_val d)) × BothNumbers m d (GivesWhole operator) o

abbrev pub IsNumberIn : Range → Option ℤ → Type 0
IsNumberIn range None = Unit {0}
IsNumberIn range (Some n) = HoldsNumber range n

pub record CheckedHas
    (filter : Filter) (operator : ArithmeticOperator) (type : PrimitiveType) (left right : Operand) (world : World)
    (o : Outcome) : Type 0 where
  pub first : Option ℤ
  pub second : Option ℤ
  pub left_has : OperandHas filter left world (gives (number_val first))
  pub right_has : OperandHas filter right world (gives (number_val second))
  pub left_fits : IsFitted first
  pub right_fits : IsFitted second
  pub within : IsNumberIn right.range second
  pub comes : ComputesTo operator type first second o

-- what the operator makes where it evaluates to no fault
abbrev pub PlainHas : Filter → ArithmeticOperator → Operand → Operand → Has
PlainHas filter operator left right world o =
    (m : Option ℤ) × (k : Option ℤ) × OperandHas filter left world (gives (number_val m))
    × OperandHas filter right world (gives (number_val k)) × BothNumbers m k (GivesWithin64 operator) o
