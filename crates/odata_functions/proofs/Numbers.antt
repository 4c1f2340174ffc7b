-- Arithmetic has one answer.
use Rattle.std.proofs.Common.{◌≡◌, ◌≢◌, ◌⊎◌, inl, inr, ⊎_elim, zero, suc, ◌^◌, ℤ, pos, negsuc, neg_ℤ, ◌+ℤ◌, ◌-ℤ◌, ◌*ℤ◌, arith, refl, sym, ap, subst, ◌∙◌, Option, Some, None, Result, Ok, Err, SomeIff, FitsSigned, int_div, int_rem}
use Rattle.std.proofs.lemmas.Bool.{cases_lt}
use Rattle.std.specs.Int.{Width, w16, w32, w64, IsNonZero, CanDivide}
use Rattle.std.specs.Int.Signed.{mag}
use mir.Val.{hbits}
use Rattle.edm_values.specs.NumberTypes.{IsNumberOf}
use Rattle.edm_values.specs.declared.primitive.PrimitiveType.{PrimitiveType}
use Rattle.edm_values.specs.declared.primitive.PrimitiveType.TheVariants as type
use Rattle.odata_functions.specs.Arithmetic.{MakesNumber, IsDividing, ComesWithin, NumbersGive, ArithmeticGives, NegationGives}
use Rattle.odata_functions.specs.Division.{IsDivision}
use Rattle.odata_functions.specs.Promotion.{IsPromoted}
use Rattle.odata_functions.specs.Texts.{CountComes}
use Rattle.odata_functions.specs.declared.arithmetic.ArithFault.{ArithFault}
use Rattle.odata_functions.specs.declared.arithmetic.ArithFault.TheVariants.{Overflow, DivideByZero}
use Rattle.odata_syntax.specs.declared.binary_operator.ArithmeticOperator.{ArithmeticOperator}
use Rattle.odata_syntax.specs.declared.binary_operator.ArithmeticOperator.TheVariants.{Add, Sub, Mul, Div, Mod}
use Rattle.odata_functions.proofs.Divisions.{division, none_by_zero, one_quotient, one_remainder}

one_number : (operator : ArithmeticOperator) (a b m n : ℤ) → MakesNumber operator a b m → MakesNumber operator a b n → m ≡ n
one_number Add a b m n first second = first ∙ sym second
one_number Sub a b m n first second = first ∙ sym second
one_number Mul a b m n first second = first ∙ sym second
one_number Div a b m n first second = one_quotient a b m first.0 n second.0 first.1 second.1
one_number Mod a b m n first second = one_remainder a b first.0 m second.0 n first.1 second.1

none_at_zero : (operator : ArithmeticOperator) (a b n : ℤ) → IsDividing operator → b ≡ pos 0 → MakesNumber operator a b n → ⊥
none_at_zero Add a b n divides is_zero made = divides
none_at_zero Sub a b n divides is_zero made = divides
none_at_zero Mul a b n divides is_zero made = divides
none_at_zero Div a b n divides is_zero made = none_by_zero a n made.0 (subst (λ (z : ℤ). IsDivision a z n made.0) is_zero made.1)
none_at_zero Mod a b n divides is_zero made = none_by_zero a made.0 n (subst (λ (z : ℤ). IsDivision a z made.0 n) is_zero made.1)

within_once : (kind : PrimitiveType) (n : ℤ) (x y : Result (Option ℤ) ArithFault) → ComesWithin kind n x → ComesWithin kind n y → x ≡ y
within_once kind n (Ok x) (Ok y) first second = ap Ok (first.0 ∙ sym second.0)
within_once kind n (Ok x) (Err y) first second = absurd (second.1 first.1)
within_once kind n (Err x) (Ok y) first second = absurd (first.1 second.1)
within_once kind n (Err x) (Err y) first second = ap Err (first.0 ∙ sym second.0)

module _ (operator : ArithmeticOperator) (kind : PrimitiveType) (a b : ℤ) where
  -- the number that was made, and what came of it
  abbrev Made : Result (Option ℤ) ArithFault → Type 0
  Made x = (n : ℤ) × MakesNumber operator a b n × ComesWithin kind n x

  made_once : (x y : Result (Option ℤ) ArithFault) → Made x → Made y → x ≡ y
  made_once x y first second = within_once kind first.0 x y first.2
      (subst (λ (n : ℤ). ComesWithin kind n y) (one_number operator a b second.0 first.0 second.1 first.1) second.2)

  pub numbers_once : (x y : Result (Option ℤ) ArithFault) → NumbersGive operator kind a b x → NumbersGive operator kind a b y → x ≡ y
  numbers_once (Ok x) (Ok y) first second = made_once (Ok x) (Ok y) first second
  numbers_once (Ok x) (Err Overflow) first second = made_once (Ok x) (Err Overflow) first second
  numbers_once (Ok x) (Err DivideByZero) first second = absurd (none_at_zero operator a b first.0 second.0 second.1 first.1)
  numbers_once (Err Overflow) (Ok y) first second = made_once (Err Overflow) (Ok y) first second
  numbers_once (Err Overflow) (Err Overflow) first second = refl
  numbers_once (Err Overflow) (Err DivideByZero) first second = absurd (none_at_zero operator a b first.0 second.0 second.1 first.1)
  numbers_once (Err DivideByZero) (Ok y) first second = absurd (none_at_zero operator a b second.0 first.0 first.1 second.1)
  numbers_once (Err DivideByZero) (Err Overflow) first second = absurd (none_at_zero operator a b second.0 first.0 first.1 second.1)
  numbers_once (Err DivideByZero) (Err DivideByZero) first second = refl

pub arithmetic_once : (operator : ArithmeticOperator) (kind : PrimitiveType) (left right : Option ℤ) (x y : Result (Option ℤ) ArithFault)
    → ArithmeticGives operator kind left right x → ArithmeticGives operator kind left right y → x ≡ y
arithmetic_once operator kind None right x y first second = first ∙ sym second
arithmetic_once operator kind (Some a) None x y first second = first ∙ sym second
arithmetic_once operator kind (Some a) (Some b) x y first second = numbers_once operator kind a b x y first second

pub negation_once : (kind : PrimitiveType) (operand : Option ℤ) (x y : Result (Option ℤ) ArithFault)
    → NegationGives kind operand x → NegationGives kind operand y → x ≡ y
negation_once kind None x y first second = first ∙ sym second
negation_once kind (Some a) x y first second = within_once kind _ x y first second

-- a number that was made, and what came of it
pub number_gives : (operator : ArithmeticOperator) (kind : PrimitiveType) (a b n : ℤ) (x : Result (Option ℤ) ArithFault)
    → MakesNumber operator a b n → ComesWithin kind n x → NumbersGive operator kind a b x
number_gives operator kind a b n (Ok x) made within = (n, made, within)
number_gives operator kind a b n (Err Overflow) made within = (n, made, within)
number_gives operator kind a b n (Err DivideByZero) made within = absurd (cc (within.0))

-- beside a divisor that is not zero, a quotient is there where it fits
pub quotient_fits : (a b : ℤ) (o : Option ℤ) → IsNonZero w64 b → SomeIff o (CanDivide w64 a b) (int_div a b)
    → SomeIff o (FitsSigned w64 (int_div a b)) (int_div a b)
quotient_fits a b None other is = λ fits. is (other, fits)
quotient_fits a b (Some n) other is = (is.0.1, is.1)

zero_or_not : (b : ℤ) → (b ≡ pos 0) ⊎ (b ≢ pos 0)
zero_or_not (pos zero) = inl refl
zero_or_not (pos (suc n)) = inr (λ e. cc)
zero_or_not (negsuc n) = inr (λ e. cc)

module _ (n : ℤ) where
  fits_or_not : (w : Width) → FitsSigned w n ⊎ (¬ (FitsSigned w n))
  fits_or_not w = ⊎_elim (λ h. inl (record { sfits = h })) (λ g. inr (λ f. absurd (omega (arith, f.sfits)))) (cases_lt (mag n) (2 ^ hbits w))

  within_or_not : (kind : PrimitiveType) → IsPromoted kind → IsNumberOf kind n ⊎ (¬ (IsNumberOf kind n))
  within_or_not type.Int16 is = fits_or_not w16
  within_or_not type.Int32 is = fits_or_not w32
  within_or_not type.Int64 is = fits_or_not w64
  within_or_not type.Bool is = absurd is
  within_or_not type.Byte is = absurd is
  within_or_not type.SByte is = absurd is
  within_or_not type.String is = absurd is
  within_or_not type.Date is = absurd is
  within_or_not type.DateTimeOffset is = absurd is
  within_or_not type.Guid is = absurd is

  comes_to : (kind : PrimitiveType) → IsPromoted kind → (x : Result (Option ℤ) ArithFault) × ComesWithin kind n x
  comes_to kind is = ⊎_elim (λ h. (Ok (Some n), (refl, h))) (λ no. (Err Overflow, (refl, no))) (within_or_not kind is)

pub count_there : (n : ℤ) → (x : Result ℤ ArithFault) × CountComes n x
count_there n = ⊎_elim (λ h. (Ok n, (refl, h))) (λ no. (Err Overflow, (refl, no))) (within_or_not n type.Int32 tt)

pub count_once : (n : ℤ) (x y : Result ℤ ArithFault) → CountComes n x → CountComes n y → x ≡ y
count_once n (Ok x) (Ok y) first second =
    let same : Some x ≡ Some y = first.0 ∙ sym second.0 in
    let f : x ≡ y = cc in
    ap Ok f
count_once n (Ok x) (Err y) first second = absurd (second.1 first.1)
count_once n (Err x) (Ok y) first second = absurd (first.1 second.1)
count_once n (Err x) (Err y) first second = ap Err (first.0 ∙ sym second.0)

pub negation_there : (kind : PrimitiveType) (operand : Option ℤ) → IsPromoted kind → (x : Result (Option ℤ) ArithFault) × NegationGives kind operand x
negation_there kind None is = (Ok None, refl)
negation_there kind (Some a) is = comes_to (neg_ℤ a) kind is

module _ (kind : PrimitiveType) (is : IsPromoted kind) (a b : ℤ) where
  from_number : (operator : ArithmeticOperator) (n : ℤ) → MakesNumber operator a b n → (x : Result (Option ℤ) ArithFault) × NumbersGive operator kind a b x
  from_number operator n made =
      let comes = comes_to n kind is in
      (comes.0, number_gives operator kind a b n comes.0 made comes.1)

  divided : (operator : ArithmeticOperator) → IsDividing operator
      → (b ≢ pos 0 → (x : Result (Option ℤ) ArithFault) × NumbersGive operator kind a b x)
      → (b ≡ pos 0) ⊎ (b ≢ pos 0) → (x : Result (Option ℤ) ArithFault) × NumbersGive operator kind a b x
  divided operator divides given (inl is_zero) = (Err DivideByZero, (divides, is_zero))
  divided operator divides given (inr other) = given other

  numbers_there : (operator : ArithmeticOperator) → (x : Result (Option ℤ) ArithFault) × NumbersGive operator kind a b x
  numbers_there Add = from_number Add (a +ℤ b) refl
  numbers_there Sub = from_number Sub (a -ℤ b) refl
  numbers_there Mul = from_number Mul (a *ℤ b) refl
  numbers_there Div = divided Div tt (λ other. from_number Div (int_div a b) (int_rem a b, division a b other)) (zero_or_not b)
  numbers_there Mod = divided Mod tt (λ other. from_number Mod (int_rem a b) (int_div a b, division a b other)) (zero_or_not b)

pub arithmetic_there : (operator : ArithmeticOperator) (kind : PrimitiveType) (left right : Option ℤ) → IsPromoted kind
    → (x : Result (Option ℤ) ArithFault) × ArithmeticGives operator kind left right x
arithmetic_there operator kind None right is = (Ok None, refl)
arithmetic_there operator kind (Some a) None is = (Ok None, refl)
arithmetic_there operator kind (Some a) (Some b) is = numbers_there kind is a b operator
