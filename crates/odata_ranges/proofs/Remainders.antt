-- Products fit, and remainders lie near 0.
use Rattle.odata_ranges.proofs.Common.{◌≡◌, ◌≢◌, ◌⊎◌, inl, inr, suc, ◌≤◌, ℤ, pos, negsuc, ◌*ℤ◌, ◌<ℤ◌, ◌≤ℤ◌, arith, lit<, sym, subst, int_rem, int_div, unsigned_abs, w128, FitsSigned, mod-le, fits_signed_mul, ints, division, one_remainder, MakesNumber, ArithmeticOperator, IsSmall}
use Rattle.odata_functions.specs.Division.{IsDivision}

small_abs : (n : ℤ) → IsSmall n → unsigned_abs n ≤ 9_223_372_036_854_775_808
small_abs n small = omega (arith, ints)

pub small_product : (a b : ℤ) → IsSmall a → IsSmall b → FitsSigned w128 (a *ℤ b)
small_product a b small_a small_b =
    fits_signed_mul w128 a b 9_223_372_036_854_775_808 9_223_372_036_854_775_808 (small_abs a small_a) (small_abs b small_b) (lit< tt)

-- the remainder of the code is of the dividend's sign, and no farther from 0
on_one_side : (a b : ℤ) → ((pos 0 ≤ℤ int_rem a b) × (int_rem a b ≤ℤ a)) ⊎ ((a <ℤ pos 0) × (a ≤ℤ int_rem a b) × (int_rem a b ≤ℤ pos 0))
on_one_side (pos n) b = let few = mod-le n (unsigned_abs b) in inl (omega (arith, ints), omega (arith, ints))
on_one_side (negsuc n) b = let few = mod-le (suc n) (unsigned_abs b) in inr (omega (arith, ints), omega (arith, ints), omega (arith, ints))

divisor_not_0 : (a b r : ℤ) → (q : ℤ) → IsDivision a b q r → b ≢ pos 0
divisor_not_0 a b r q is same =
    let zero_divisor : IsDivision a (pos 0) q r = subst (λ (z : ℤ). IsDivision a z q r) same is in
    absurd (omega (arith, zero_divisor.small))

pub near_side : (a b n : ℤ) → MakesNumber ArithmeticOperator.Mod a b n
    → ((pos 0 ≤ℤ n) × (n ≤ℤ a)) ⊎ ((a <ℤ pos 0) × (a ≤ℤ n) × (n ≤ℤ pos 0))
near_side a b n made =
    let same : n ≡ int_rem a b = one_remainder a b made.0 n (int_div a b) (int_rem a b) made.1 (division a b (divisor_not_0 a b n made.0 made.1)) in
    subst (λ (r : ℤ). ((pos 0 ≤ℤ r) × (r ≤ℤ a)) ⊎ ((a <ℤ pos 0) × (a ≤ℤ r) × (r ≤ℤ pos 0))) (sym same) (on_one_side a b)
