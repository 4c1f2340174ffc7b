-- Arithmetic on whole numbers and null (OData URL Conventions 4.01, section 5.1.1.2).
use Rattle.std.specs.Prelude.{◌≡◌, ℤ, pos, ◌+ℤ◌, ◌-ℤ◌, ◌*ℤ◌, neg_ℤ, Option, Some, None, Result, Ok, Err}
use Rattle.edm_values.specs.NumberTypes.{IsNumberOf}
use Rattle.edm_values.specs.declared.primitive.PrimitiveType.{PrimitiveType}
use Rattle.odata_functions.specs.Division.{IsDivision}
use Rattle.odata_functions.specs.declared.arithmetic.ArithFault.{ArithFault}
use Rattle.odata_functions.specs.declared.arithmetic.ArithFault.TheVariants.{Overflow, DivideByZero}
use Rattle.odata_syntax.specs.declared.binary_operator.ArithmeticOperator.{ArithmeticOperator}
use Rattle.odata_syntax.specs.declared.binary_operator.ArithmeticOperator.TheVariants.{Add, Sub, Mul, Div, Mod}

-- the whole number that the operator makes of two; division by zero makes none
abbrev pub MakesNumber : ArithmeticOperator → ℤ → ℤ → ℤ → Type 0
MakesNumber Add a b n = n ≡ a +ℤ b
MakesNumber Sub a b n = n ≡ a -ℤ b
MakesNumber Mul a b n = n ≡ a *ℤ b
MakesNumber Div a b n = (remainder : ℤ) × IsDivision a b n remainder
MakesNumber Mod a b n = (quotient : ℤ) × IsDivision a b quotient n

-- the operator divides by its right operand
abbrev pub IsDividing : ArithmeticOperator → Type 0
IsDividing Div = Unit {0}
IsDividing Mod = Unit {0}
IsDividing _ = ⊥

-- what comes of a whole number in that type: itself where it lies within, else Overflow
abbrev pub ComesWithin : PrimitiveType → ℤ → Result (Option ℤ) ArithFault → Type 0
ComesWithin type n (Ok answer) = (answer ≡ Some n) × IsNumberOf type n
ComesWithin type n (Err fault) = (fault ≡ Overflow) × (¬ (IsNumberOf type n))

-- two numbers in that type: DivideByZero, or what comes of the number that is made
abbrev pub NumbersGive : ArithmeticOperator → PrimitiveType → ℤ → ℤ → Result (Option ℤ) ArithFault → Type 0
NumbersGive operator type a b (Err DivideByZero) = IsDividing operator × (b ≡ pos 0)
NumbersGive operator type a b answer = (n : ℤ) × MakesNumber operator a b n × ComesWithin type n answer

-- null, which is None, where an operand is null
abbrev pub ArithmeticGives
    : ArithmeticOperator → PrimitiveType → Option ℤ → Option ℤ → Result (Option ℤ) ArithFault → Type 0
ArithmeticGives operator type (Some a) (Some b) answer = NumbersGive operator type a b answer
ArithmeticGives operator type (Some a) None answer = answer ≡ Ok None
ArithmeticGives operator type None right answer = answer ≡ Ok None

-- the negation of a number, in that type, or of null
abbrev pub NegationGives : PrimitiveType → Option ℤ → Result (Option ℤ) ArithFault → Type 0
NegationGives type (Some a) answer = ComesWithin type (neg_ℤ a) answer
NegationGives type None answer = answer ≡ Ok None
