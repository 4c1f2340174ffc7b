-- Decimal digits.
use Rattle.std.proofs.Common.{lit<, ◌==◌, false, ◌≡◌, ◌≢◌, inl, inr, ℕ, zero, suc, ◌+◌, ◌-◌, ◌*◌, ◌/◌, ◌%◌, ◌^◌, ◌<◌, ◌≤◌, List, [], ◌∷◌, ◌++◌, length, arith, refl, sym, ap, ◌∙◌, append_assoc}
use Rattle.std.specs.Char.{digit_value}
use Rattle.std.specs.Str.Parse.{AllDigits, digits_value, digits_value_after}
use Rattle.std.proofs.Math.Nat.{pow-suc, pow-le-pow_right, mul-add, mul_assoc, mul_comm, div-lt_iff_lt-mul, mul-lt-mul_of_pos_right}
use Rattle.std.proofs.lemmas.Nat.{pow-add}
use Rattle.std.proofs.lemmas.Bool.Decides.{eqb_tells, nat_tests}
use Rattle.edm_values.specs.MomentLiteral.{significant_digits}

pub ten_pos : (k : ℕ) → 0 < 10 ^ k
ten_pos zero = omega arith
ten_pos (suc k) = omega (arith, pow-suc 10 k, ten_pos k)

-- a number that is not zero has a digit
pub some_left : (k rest : ℕ) → rest ≢ 0 → rest < 10 ^ k → 0 < k
some_left zero rest some below = absurd (some (omega arith))
some_left (suc k) rest some below = omega arith

-- the first of its digits is a digit
pub first_digit : (k rest : ℕ) → rest < 10 ^ suc k → rest / 10 ^ k < 10
first_digit k rest below = (div-lt_iff_lt-mul (ten_pos k)).1 (omega (arith, pow-suc 10 k))

-- one more digit goes over to what is written
pub digit_step : (k rest : ℕ) (text all : List ℕ) → rest ≢ 0 → text ++ significant_digits (suc k) rest ≡ all
    → (text ++ ((48 + rest / 10 ^ k) ∷ [])) ++ significant_digits k (rest % 10 ^ k) ≡ all
unfolding significant_digits
digit_step k rest text all some same =
    elim (eqb_tells rest 0) [
      | inl none ↦ absurd (some none.1)
      | inr other ↦ append_assoc text ((48 + rest / 10 ^ k) ∷ []) (significant_digits k (rest % 10 ^ k)) ∙ rw other.0 at same
    ]

pub significant_digits-zero : (k : ℕ) → significant_digits k 0 ≡ []
unfolding significant_digits
significant_digits-zero zero = refl
significant_digits-zero (suc k) = refl

-- digits after a number push it up
digit_pushes_up : (a b p v : ℕ) → (a * 10 + b) * p + v ≡ a * (p * 10) + ((0 * 10 + b) * p + v)
digit_pushes_up a b p v =
    let e : (a * 10 + b) * p ≡ p * (a * 10) + p * b = mul_comm (a * 10 + b) p ∙ mul-add p (a * 10) b in
    let f : p * (a * 10) ≡ a * (p * 10) = sym (mul_assoc p a 10) ∙ ap (λ (k : ℕ). k * 10) (mul_comm p a) ∙ mul_assoc a p 10 in
    let g : (0 * 10 + b) * p ≡ p * b = mul_comm (0 * 10 + b) p ∙ ap (λ (k : ℕ). p * k) (let z : 0 * 10 + b ≡ b = omega arith in z) in
    omega (arith, e, f, g)

pub value_after : (n : ℕ) (cs : List ℕ) → digits_value_after 10 n cs ≡ n * 10 ^ length cs + digits_value 10 cs
value_after n [] = omega arith
value_after n (c ∷ cs) =
    value_after (n * 10 + digit_value c) cs
    ∙ digit_pushes_up n (digit_value c) (10 ^ length cs) (digits_value 10 cs)
    ∙ sym (ap (λ (k : ℕ). n * k + digits_value_after 10 (0 * 10 + digit_value c) cs) (pow-suc 10 (length cs))
    ∙ ap (λ (k : ℕ). n * (10 ^ length cs * 10) + k) (value_after (0 * 10 + digit_value c) cs))

-- what the digits of n stand for
pub record AreFractionDigits (k n : ℕ) (digits : List ℕ) : Type 0 where
  pub all_digits : AllDigits 10 digits
  pub few : length digits ≤ k
  pub value : digits_value 10 digits * 10 ^ (k - length digits) ≡ n

digit_of : (d : ℕ) → d < 10 → digit_value (48 + d) ≡ d
digit_of d small = grind (arith, nat_tests)

-- d in front of k digits
more_value : (d rest k len v : ℕ) → len ≤ k → v * 10 ^ (k - len) ≡ rest → (d * 10 ^ len + v) * 10 ^ (k - len) ≡ d * 10 ^ k + rest
more_value d rest k len v few same =
    let split : 10 ^ len * 10 ^ (k - len) ≡ 10 ^ k = sym (pow-add 10 len (k - len)) ∙ ap (λ (j : ℕ). 10 ^ j) (let e : len + (k - len) ≡ k = omega arith in e) in
    let p = 10 ^ (k - len) in
    let e : (d * 10 ^ len + v) * p ≡ p * (d * 10 ^ len) + p * v = mul_comm (d * 10 ^ len + v) p ∙ mul-add p (d * 10 ^ len) v in
    let f : p * (d * 10 ^ len) ≡ d * 10 ^ k = mul_comm p (d * 10 ^ len) ∙ mul_assoc d (10 ^ len) p ∙ ap (λ (j : ℕ). d * j) split in
    let g : p * v ≡ rest = mul_comm p v ∙ same in
    omega (arith, e, f, g)

pub are-significant_digits : (k n : ℕ) → n < 10 ^ k → AreFractionDigits k n (significant_digits k n)
unfolding significant_digits
are-significant_digits zero n below = record { all_digits = tt; few = omega arith; value = omega arith }
are-significant_digits (suc k) n below =
    elim (eqb_tells n 0) [
      | inl none ↦ rw none.0 (record { all_digits = tt; few = omega arith; value = omega (arith, none.1) })
      | inr some ↦
          let unit = 10 ^ k in
          let rest : AreFractionDigits k (n % 10 ^ k) (significant_digits k (n % 10 ^ k)) = are-significant_digits k (n % 10 ^ k) (omega (arith, ten_pos k)) in
          let small : n / 10 ^ k < 10 = first_digit k n below in
          let len = length (significant_digits k (n % 10 ^ k)) in
          let v = digits_value 10 (significant_digits k (n % 10 ^ k)) in
          let d : digit_value (48 + n / 10 ^ k) ≡ n / 10 ^ k = digit_of (n / 10 ^ k) small in
          let fewer : suc k - suc len ≡ k - len = omega arith in
          let whole : n / 10 ^ k * 10 ^ k + n % 10 ^ k ≡ n = omega (arith, ten_pos k) in
          let first : digits_value_after 10 (0 * 10 + digit_value (48 + n / 10 ^ k)) (significant_digits k (n % 10 ^ k)) ≡ n / 10 ^ k * 10 ^ len + v =
          value_after (0 * 10 + digit_value (48 + n / 10 ^ k)) (significant_digits k (n % 10 ^ k))
          ∙ ap (λ (j : ℕ). j * 10 ^ len + v) (let z : 0 * 10 + digit_value (48 + n / 10 ^ k) ≡ n / 10 ^ k = omega (arith, d) in z) in
          rw some.0 (record {
            all_digits = (omega (arith, d, small), rest.all_digits);
            few = omega (arith, rest.few);
            value = ap (λ (j : ℕ). j * 10 ^ (suc k - suc len)) first
                ∙ ap (λ (j : ℕ). (n / 10 ^ k * 10 ^ len + v) * 10 ^ j) fewer
                ∙ more_value (n / 10 ^ k) (n % 10 ^ k) k len v rest.few rest.value ∙ whole;
          })
    ]

-- at most nine digits and the zeros that they lack stay below 10 ^ 9
pub fraction_below : (n len : ℕ) → len ≤ 9 → n < 10 ^ len → n * 10 ^ (9 - len) < 10 ^ 9
fraction_below n len few below =
    let split : 10 ^ len * 10 ^ (9 - len) ≡ 10 ^ 9 = sym (pow-add 10 len (9 - len)) ∙ ap (λ (j : ℕ). 10 ^ j) (let e : len + (9 - len) ≡ 9 = omega arith in e) in
    let product : n * 10 ^ (9 - len) < 10 ^ len * 10 ^ (9 - len) = mul-lt-mul_of_pos_right below (ten_pos (9 - len)) in
    rw split at product

pub small_power : (i j : ℕ) → i ≤ j → 10 ^ i ≤ 10 ^ j
small_power i j h = pow-le-pow_right {n = 10} (lit< tt) {i = i} {j = j} h

pub some_length : (n : ℕ) → (n == 0) ≡ false → 0 < n
some_length n some = grind (arith, nat_tests)

-- a number that is not zero has at least one digit
pub some-significant_digits : (k n : ℕ) → n ≢ 0 → 0 < length (significant_digits (suc k) n)
unfolding significant_digits
some-significant_digits k n some =
    elim (eqb_tells n 0) [
      | inl none ↦ absurd (some none.1)
      | inr other ↦ rw other.0 (omega arith)
    ]
