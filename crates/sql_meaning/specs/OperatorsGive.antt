-- The operators of SQL on values: three-valued logic, comparisons and whole numbers (ISO/IEC 9075-2, sections 6 and 8).
use Rattle.std.specs.Prelude.{◌≡◌, ◌↔◌, ◌<◌, ℕ, ℤ, pos, Bool, true, false, Option, Some, None, FitsSigned}
use Rattle.std.specs.Int.{w64}
use Rattle.edm_values.specs.NumberTypes.{IsNumberOf}
use Rattle.edm_values.specs.Val.{Val, null, boolean, whole}
use Rattle.edm_values.specs.declared.primitive.PrimitiveType.{PrimitiveType}
use Rattle.odata_functions.specs.Arithmetic.{MakesNumber}
use Rattle.odata_functions.specs.Bits.{HasBits, IsBitOf}
use Rattle.odata_syntax.specs.declared.binary_operator.ArithmeticOperator.{ArithmeticOperator}
use Rattle.odata_syntax.specs.declared.binary_operator.ComparisonOperator.{ComparisonOperator}
use Rattle.odata_filter_operations.specs.CompareGives.{CompareGives, GivesTruth}
use Rattle.odata_filter_operations.specs.Outcome.{Outcome, gives}
use Rattle.odata_filter_operations.specs.TruthGives.{truth_val}

abbrev pub truth : Option Bool → Outcome
truth t = gives (truth_val t)

-- whether it is true: false for null
abbrev pub is_true : Option Bool → Outcome
is_true (Some b) = gives (boolean b)
is_true None = gives (boolean false)

abbrev pub GivesIsNull : Val → Outcome → Type 0
GivesIsNull null o = o ≡ gives (boolean true)
GivesIsNull _ o = o ≡ gives (boolean false)

-- a comparison of two values that are not null, as the filter has it; with null it is null
abbrev pub StrictlyGives : ComparisonOperator → Val → Val → Outcome → Type 0
StrictlyGives operator null right o = o ≡ gives null
StrictlyGives operator left null o = o ≡ gives null
StrictlyGives operator left right o = CompareGives operator left right o

-- the first child where the condition is true, else the second
abbrev pub ChoiceGives : Option Bool → Outcome → Outcome → Outcome → Type 0
ChoiceGives (Some true) first second o = o ≡ first
ChoiceGives (Some false) first second o = o ≡ second
ChoiceGives None first second o = o ≡ second

-- the first unless it is null, else the second
abbrev pub FirstGiven : Outcome → Outcome → Outcome → Type 0
FirstGiven (gives null) second o = o ≡ second
FirstGiven first second o = o ≡ first

-- a whole number that lies within 64 bits; the operator is outside its domain where it does not
abbrev pub GivesWithin64 : ArithmeticOperator → ℤ → ℤ → Outcome → Type 0
GivesWithin64 operator a b o =
    (n : ℤ) × MakesNumber operator a b n × FitsSigned w64 n × (o ≡ gives (whole n))

-- a whole number of any size, of numbers of 64 bits; there is none where the divisor is 0
abbrev pub GivesWhole : ArithmeticOperator → ℤ → ℤ → Outcome → Type 0
GivesWhole operator a b o =
    FitsSigned w64 a × FitsSigned w64 b × (n : ℤ) × MakesNumber operator a b n × (o ≡ gives (whole n))

-- whether a number lies within a type, null for null
abbrev pub GivesInRange : PrimitiveType → Option ℤ → Outcome → Type 0
GivesInRange type None o = o ≡ gives null
GivesInRange type (Some n) o = GivesTruth (IsNumberOf type n) o

-- of numbers of enumerations whether the first has the bits of the second, null with a null
abbrev pub GivesHasBits : ℤ → ℤ → Outcome → Type 0
GivesHasBits a b = GivesTruth (HasBits a b)

-- 0 for false, 1 for true and 2 for null
abbrev pub code_of_truth : Option Bool → Outcome
code_of_truth (Some false) = gives (whole (pos 0))
code_of_truth (Some true) = gives (whole (pos 1))
code_of_truth None = gives (whole (pos 2))

-- the bits that both numbers have, of 64 in two's complement
abbrev pub GivesBits : ℤ → ℤ → Outcome → Type 0
GivesBits a b o = (n : ℤ) × FitsSigned w64 n × ((k : ℕ) → k < 64 → IsBitOf n k ↔ (IsBitOf a k × IsBitOf b k))
    × (o ≡ gives (whole n))
