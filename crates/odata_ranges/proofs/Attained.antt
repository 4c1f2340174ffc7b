-- Bounds that are made of numbers of the ranges, and the faults that follow.
use Rattle.odata_ranges.proofs.Common.{◌≡◌, ◌≢◌, ◌⊎◌, inl, inr, ℤ, pos, ◌*ℤ◌, ◌<ℤ◌, ◌≤ℤ◌, Err, Some, refl, sym, subst, ◌∙◌, arith, ints, int_div, int_rem, IsNumberOf, PrimitiveType, division, MakesNumber, IsDividing, DivideByZero, Overflow, ArithmeticOperator, HoldsNumber, IsBounded, LiesBetween, Attains, HasFault, IsMade, IsOneOf, Reaches, Range, divides_by_zero, overflow}
use Rattle.odata_functions.specs.Division.{IsDivision}

pub low_in : (range : Range) → IsBounded range → HoldsNumber range range.low
low_in range bounded = let itself : range.low ≤ℤ range.low = omega (arith, ints) in (itself, bounded.ordered)

pub high_in : (range : Range) → IsBounded range → HoldsNumber range range.high
high_in range bounded = let itself : range.high ≤ℤ range.high = omega (arith, ints) in (bounded.ordered, itself)

-- ---- spans whose bounds are made

module _ (operator : ArithmeticOperator) (left right : Range) where
  one_made : (p q r s n : ℤ) → IsMade operator left right p → IsMade operator left right q → IsMade operator left right r
      → IsMade operator left right s → IsOneOf p q r s n → IsMade operator left right n
  one_made p q r s n of_p of_q of_r of_s (inl is) = subst (IsMade operator left right) (sym is) of_p
  one_made p q r s n of_p of_q of_r of_s (inr (inl is)) = subst (IsMade operator left right) (sym is) of_q
  one_made p q r s n of_p of_q of_r of_s (inr (inr (inl is))) = subst (IsMade operator left right) (sym is) of_r
  one_made p q r s n of_p of_q of_r of_s (inr (inr (inr is))) = subst (IsMade operator left right) (sym is) of_s

  pub span_ordered : (span : ℤ × ℤ) → Reaches operator left right span → Attains operator left right span → span.0 ≤ℤ span.1
  span_ordered span reaches attains =
      (reaches attains.0.first attains.0.second span.0 attains.0.in_left attains.0.in_right attains.0.made).1

made_product : (left right : Range) (a b p : ℤ) → HoldsNumber left a → HoldsNumber right b → p ≡ a *ℤ b → IsMade ArithmeticOperator.Mul left right p
made_product left right a b p in_left in_right is =
    record { first = a; second = b; in_left = in_left; in_right = in_right; made = is }

pub product_attains : (left right : Range) (p q r s : ℤ) (span : ℤ × ℤ) → IsBounded left → IsBounded right
    → p ≡ left.low *ℤ right.low → q ≡ left.low *ℤ right.high → r ≡ left.high *ℤ right.low → s ≡ left.high *ℤ right.high
    → IsOneOf p q r s span.0 → IsOneOf p q r s span.1 → Attains ArithmeticOperator.Mul left right span
product_attains left right p q r s span of_left of_right is_p is_q is_r is_s low high =
    let made_p = made_product left right left.low right.low p (low_in left of_left) (low_in right of_right) is_p in
    let made_q = made_product left right left.low right.high q (low_in left of_left) (high_in right of_right) is_q in
    let made_r = made_product left right left.high right.low r (high_in left of_left) (low_in right of_right) is_r in
    let made_s = made_product left right left.high right.high s (high_in left of_left) (high_in right of_right) is_s in (
      one_made ArithmeticOperator.Mul left right p q r s span.0 made_p made_q made_r made_s low,
      one_made ArithmeticOperator.Mul left right p q r s span.1 made_p made_q made_r made_s high,
    )

made_quotient : (left right : Range) (a b p : ℤ) → (HoldsNumber right (pos 0) → ⊥) → HoldsNumber left a → HoldsNumber right b
    → p ≡ int_div a b → IsMade ArithmeticOperator.Div left right p
made_quotient left right a b p without in_left in_right is =
    let other : b ≢ pos 0 = λ same. without (subst (λ (z : ℤ). HoldsNumber right z) same in_right) in
    record { first = a; second = b; in_left = in_left; in_right = in_right; made = (int_rem a b, subst (λ (z : ℤ). IsDivision a b z (int_rem a b)) (sym is) (division a b other)) }

pub quotient_attains : (left right : Range) (p q r s : ℤ) (span : ℤ × ℤ) → IsBounded left → IsBounded right
    → (HoldsNumber right (pos 0) → ⊥)
    → p ≡ int_div left.low right.low → q ≡ int_div left.low right.high → r ≡ int_div left.high right.low → s ≡ int_div left.high right.high
    → IsOneOf p q r s span.0 → IsOneOf p q r s span.1 → Attains ArithmeticOperator.Div left right span
quotient_attains left right p q r s span of_left of_right without is_p is_q is_r is_s low high =
    let made_p = made_quotient left right left.low right.low p without (low_in left of_left) (low_in right of_right) is_p in
    let made_q = made_quotient left right left.low right.high q without (low_in left of_left) (high_in right of_right) is_q in
    let made_r = made_quotient left right left.high right.low r without (high_in left of_left) (low_in right of_right) is_r in
    let made_s = made_quotient left right left.high right.high s without (high_in left of_left) (high_in right of_right) is_s in (
      one_made ArithmeticOperator.Div left right p q r s span.0 made_p made_q made_r made_s low,
      one_made ArithmeticOperator.Div left right p q r s span.1 made_p made_q made_r made_s high,
    )

-- ---- faults

overflows : (operator : ArithmeticOperator) (type : PrimitiveType) (left right : Range) (n : ℤ) → IsMade operator left right n
    → (IsNumberOf type n → ⊥) → HasFault operator type left right
overflows operator type left right n made outside = record {
  first = made.first;
  second = made.second;
  in_left = made.in_left;
  in_right = made.in_right;
  outcome = overflow;
  given = (Err Overflow, (n, made.made, (refl, outside)), refl);
  is_fault = λ value. value;
}

-- a bound of the span that lies outside the type
pub past_faults : (operator : ArithmeticOperator) (type : PrimitiveType) (left right within : Range) (span : ℤ × ℤ)
    → Attains operator left right span → ((n : ℤ) → IsNumberOf type n → HoldsNumber within n)
    → (span.0 <ℤ within.low) ⊎ (within.high <ℤ span.1) → HasFault operator type left right
past_faults operator type left right within span attains into (inl below) =
    overflows operator type left right span.0 attains.0 (λ of_type. let inside = into span.0 of_type in absurd (omega (arith, ints, below, inside.0)))
past_faults operator type left right within span attains into (inr above) =
    overflows operator type left right span.1 attains.1 (λ of_type. let inside = into span.1 of_type in absurd (omega (arith, ints, above, inside.1)))

-- a divisor that may be 0
pub zero_faults : (operator : ArithmeticOperator) (type : PrimitiveType) (left right : Range) → IsBounded left
    → IsDividing operator → HoldsNumber right (pos 0) → HasFault operator type left right
zero_faults operator type left right of_left dividing zero = record {
  first = left.low;
  second = pos 0;
  in_left = low_in left of_left;
  in_right = zero;
  outcome = divides_by_zero;
  given = (Err DivideByZero, (dividing, refl), refl);
  is_fault = λ value. value;
}
