-- What arithmetic evaluates to, of operands within two ranges.
use Rattle.odata_ranges.proofs.Common.{◌≡◌, ◌≢◌, ◌⊎◌, inl, inr, ℤ, pos, ◌*ℤ◌, ◌<ℤ◌, ◌≤ℤ◌, Bool, true, false, ◌||◌, Option, Some, None, Result, Ok, Err, sym, subst, int_div, int_rem, by_lt_z, IsNumberOf, null, whole, PrimitiveType, number_outcome, Outcome, division, one_quotient, ArithmeticGives, IsDividing, MakesNumber, ArithFault, Overflow, DivideByZero, ArithmeticOperator, HoldsNumber, IsBounded, LiesBetween, Reaches, CalculatesWithin, IsWithin, Range}
use Rattle.odata_ranges.proofs.Corners.{product_between, quotient_between}
use Rattle.odata_ranges.proofs.Counts.{fault_or}
use Rattle.odata_ranges.proofs.Flags.{of_left, of_right}

-- ---- spans by their corners

pub product_reaches : (left right : Range) (p q r s : ℤ) (span : ℤ × ℤ)
    → p ≡ left.low *ℤ right.low → q ≡ left.low *ℤ right.high → r ≡ left.high *ℤ right.low → s ≡ left.high *ℤ right.high
    → (span.0 ≤ℤ p) × (span.0 ≤ℤ q) × (span.0 ≤ℤ r) × (span.0 ≤ℤ s)
    → (p ≤ℤ span.1) × (q ≤ℤ span.1) × (r ≤ℤ span.1) × (s ≤ℤ span.1) → Reaches ArithmeticOperator.Mul left right span
product_reaches left right p q r s span is_p is_q is_r is_s lows highs = λ a b n in_left in_right made.
    subst (λ (z : ℤ). LiesBetween span.0 span.1 z) (sym made)
    (product_between span.0 span.1 left.low a left.high right.low b right.high in_left.0 in_left.1 in_right.0 in_right.1
    (subst (λ (z : ℤ). span.0 ≤ℤ z) is_p lows.0, subst (λ (z : ℤ). span.0 ≤ℤ z) is_q lows.1, subst (λ (z : ℤ). span.0 ≤ℤ z) is_r lows.2, subst (λ (z : ℤ). span.0 ≤ℤ z) is_s lows.3)
    (subst (λ (z : ℤ). z ≤ℤ span.1) is_p highs.0, subst (λ (z : ℤ). z ≤ℤ span.1) is_q highs.1, subst (λ (z : ℤ). z ≤ℤ span.1) is_r highs.2, subst (λ (z : ℤ). z ≤ℤ span.1) is_s highs.3))

-- a range without 0 lies above it or below
pub apart_from_zero : (right : Range) → IsBounded right → (HoldsNumber right (pos 0) → ⊥) → (pos 0 <ℤ right.low) ⊎ (right.high <ℤ pos 0)
apart_from_zero right bounded without =
    by_lt_z (pos 0) right.low (λ above. inl above)
    (λ low. by_lt_z right.high (pos 0) (λ below. inr below) (λ high. absurd (without (low, high))))

pub quotient_reaches : (left right : Range) (p q r s : ℤ) (span : ℤ × ℤ) → IsBounded right → (HoldsNumber right (pos 0) → ⊥)
    → p ≡ int_div left.low right.low → q ≡ int_div left.low right.high → r ≡ int_div left.high right.low → s ≡ int_div left.high right.high
    → (span.0 ≤ℤ p) × (span.0 ≤ℤ q) × (span.0 ≤ℤ r) × (span.0 ≤ℤ s)
    → (p ≤ℤ span.1) × (q ≤ℤ span.1) × (r ≤ℤ span.1) × (s ≤ℤ span.1) → Reaches ArithmeticOperator.Div left right span
quotient_reaches left right p q r s span bounded without is_p is_q is_r is_s lows highs = λ a b n in_left in_right made.
    let other : b ≢ pos 0 = λ same. without (subst (λ (z : ℤ). HoldsNumber right z) same in_right) in
    let is : n ≡ int_div a b = one_quotient a b n made.0 (int_div a b) (int_rem a b) made.1 (division a b other) in
    subst (λ (z : ℤ). LiesBetween span.0 span.1 z) (sym is)
    (quotient_between span.0 span.1 left.low a left.high right.low b right.high (apart_from_zero right bounded without) other
    in_left.0 in_left.1 in_right.0 in_right.1
    (subst (λ (z : ℤ). span.0 ≤ℤ z) is_p lows.0, subst (λ (z : ℤ). span.0 ≤ℤ z) is_q lows.1, subst (λ (z : ℤ). span.0 ≤ℤ z) is_r lows.2, subst (λ (z : ℤ). span.0 ≤ℤ z) is_s lows.3)
    (subst (λ (z : ℤ). z ≤ℤ span.1) is_p highs.0, subst (λ (z : ℤ). z ≤ℤ span.1) is_q highs.1, subst (λ (z : ℤ). z ≤ℤ span.1) is_r highs.2, subst (λ (z : ℤ). z ≤ℤ span.1) is_s highs.3))

-- ---- outcomes

pub true_false : (b : Bool) → b ≡ true → b ≡ false → ⊥
true_false b is other = cc

pub never_false : (result within : Bool) → result ≡ (within || true) → result ≡ false → ⊥
never_false result true is other = cc
never_false result false is other = cc

-- what a calculation does with its operands, by the range of its results
pub record Calculated (operator : ArithmeticOperator) (type : PrimitiveType) (left right result : Range) : Type 0 where
  pub null_is : result.may_be_null ≡ (left.may_be_null || right.may_be_null)
  pub numbers : (a b n : ℤ) → HoldsNumber left a → HoldsNumber right b → MakesNumber operator a b n → IsNumberOf type n → HoldsNumber result n
  pub faults : result.may_fault ≡ false → (a b n : ℤ) → HoldsNumber left a → HoldsNumber right b → MakesNumber operator a b n → IsNumberOf type n
  pub apart : result.may_fault ≡ false → IsDividing operator → HoldsNumber right (pos 0) → ⊥

module _ (operator : ArithmeticOperator) (type : PrimitiveType) (left right result : Range) (h : Calculated operator type left right result) where
  answer_within : (a b : ℤ) (answer : Result (Option ℤ) ArithFault) → HoldsNumber left a → HoldsNumber right b
      → ArithmeticGives operator type (Some a) (Some b) answer → IsWithin result (number_outcome answer)
  answer_within a b (Ok (Some m)) in_left in_right given =
      let made : Some m ≡ Some given.0 = given.2.0 in
      let same : m ≡ given.0 = cc in
      subst (λ (n : ℤ). HoldsNumber result n) (sym same) (h.numbers a b given.0 in_left in_right given.1 given.2.1)
  answer_within a b (Ok None) in_left in_right given = let none : None ≡ Some given.0 = given.2.0 in cc
  answer_within a b (Err Overflow) in_left in_right given =
      fault_or result.may_fault (λ safe. given.2.1 (h.faults safe a b given.0 in_left in_right given.1))
  answer_within a b (Err DivideByZero) in_left in_right given =
      fault_or result.may_fault (λ safe. h.apart safe given.0 (subst (λ (z : ℤ). HoldsNumber right z) given.1 in_right))

  pub calculated_within : CalculatesWithin operator type left right result
  calculated_within null null o of_v of_w given =
      subst (λ (x : Outcome). IsWithin result x) (sym given) (of_left result.may_be_null left.may_be_null right.may_be_null h.null_is of_v)
  calculated_within null (whole b) o of_v of_w given =
      subst (λ (x : Outcome). IsWithin result x) (sym given) (of_left result.may_be_null left.may_be_null right.may_be_null h.null_is of_v)
  calculated_within (whole a) null o of_v of_w given =
      subst (λ (x : Outcome). IsWithin result x) (sym given) (of_right result.may_be_null left.may_be_null right.may_be_null h.null_is of_w)
  calculated_within (whole a) (whole b) o of_v of_w given =
      subst (λ (x : Outcome). IsWithin result x) (sym given.2) (answer_within a b given.0 of_v of_w given.1)
  calculated_within _ _ o of_v of_w given = absurd given

-- ---- the two ways to a result

pub from_span : (operator : ArithmeticOperator) (type : PrimitiveType) (left right within result : Range) (span : ℤ × ℤ)
    → Reaches operator left right span → (IsDividing operator → HoldsNumber right (pos 0) → ⊥)
    → ((n : ℤ) → IsNumberOf type n → HoldsNumber within n) → ((n : ℤ) → HoldsNumber within n → IsNumberOf type n)
    → ((n : ℤ) → LiesBetween span.0 span.1 n → HoldsNumber within n → HoldsNumber result n)
    → (result.may_fault ≡ false → (n : ℤ) → LiesBetween span.0 span.1 n → HoldsNumber within n)
    → result.may_be_null ≡ (left.may_be_null || right.may_be_null) → Calculated operator type left right result
from_span operator type left right within result span reaches apart into out numbers faults null_is = record {
  null_is = null_is;
  numbers = λ a b n in_left in_right made of_type. numbers n (reaches a b n in_left in_right made) (into n of_type);
  faults = λ safe a b n in_left in_right made. out n (faults safe n (reaches a b n in_left in_right made));
  apart = λ safe. apart;
}

pub from_type : (operator : ArithmeticOperator) (type : PrimitiveType) (left right result : Range) → result.may_fault ≡ true
    → ((n : ℤ) → IsNumberOf type n → HoldsNumber result n) → result.may_be_null ≡ (left.may_be_null || right.may_be_null)
    → Calculated operator type left right result
from_type operator type left right result may into null_is = record {
  null_is = null_is;
  numbers = λ a b n in_left in_right made of_type. into n of_type;
  faults = λ safe. absurd (true_false result.may_fault may safe);
  apart = λ safe. absurd (true_false result.may_fault may safe);
}
