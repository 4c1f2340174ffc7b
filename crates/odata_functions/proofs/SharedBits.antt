-- When one number has all bits of another.
use Rattle.std.proofs.Common.{◌≡◌, refl, sym, ap, subst, ◌∙◌, inl, inr, ℕ, zero, suc, ◌<◌, ◌^◌, min, true, false, bit_and, arith, eqb, eqb-true, eq-eqb}
use Rattle.std.specs.Int.{bit_at}
use Rattle.std.proofs.lemmas.Bool.{cases_lt}
use Rattle.std.proofs.lemmas.Nat.Bits.{bit_at-lt, bit_at_above, bit_at_and, same_from_bits}
use Rattle.odata_functions.proofs.Decided.{Reported}

-- where the bits that they share are those of the second
pub each_shared : (v f k : ℕ) → bit_and v f ≡ f → bit_at f k ≡ 1 → bit_at v k ≡ 1
each_shared v f k all one =
    let shared : min (bit_at v k) (bit_at f k) ≡ bit_at f k = sym (bit_at_and v f k) ∙ ap (λ (n : ℕ). bit_at n k) all in
    let low : bit_at v k < 2 = bit_at-lt v k in
    omega (arith, shared, one, low)

lesser_bit : (a b : ℕ) → b < 2 → (b ≡ 1 → a ≡ 1) → min a b ≡ b
lesser_bit a zero low has = omega arith
lesser_bit a (suc zero) low has = let one = has refl in omega (arith, one)
lesser_bit a (suc (suc b)) low has = absurd (omega (arith, low))

-- beyond the 64th there is none
shared_bit : (v f : ℕ) → f < 2 ^ 64 → ((k : ℕ) → k < 64 → bit_at f k ≡ 1 → bit_at v k ≡ 1) → (i : ℕ) → bit_at f i ≡ 1 → bit_at v i ≡ 1
shared_bit v f small each i one =
    elim (cases_lt i 64) [
      | inl below ↦ each i below one
      | inr above ↦ let none = bit_at_above f 64 i small above in absurd (omega (arith, none, one))
    ]

pub all_shared : (v f : ℕ) → f < 2 ^ 64 → ((k : ℕ) → k < 64 → bit_at f k ≡ 1 → bit_at v k ≡ 1) → bit_and v f ≡ f
all_shared v f small each =
    same_from_bits (bit_and v f) f
    (λ i. bit_at_and v f i ∙ lesser_bit (bit_at v i) (bit_at f i) (bit_at-lt f i) (shared_bit v f small each i))

-- ---- whether it has them, by bits

reported_number : (a b : ℕ) → Reported (a ≡ b)
reported_number a b = (eqb a b, (eqb-true a b, eq-eqb a b))

reported_if : {P Q : Type 0} → Reported P → Reported Q → Reported (P → Q)
reported_if (false, is) other = (true, (λ e p. cc (is.1 p), λ any. refl))
reported_if (true, is) (true, other) = (true, (λ e p. other.0 refl, λ any. refl))
reported_if (true, is) (false, other) = (false, (λ e. cc, λ any. other.1 (any (is.0 refl))))

abbrev BitsBelow : ℕ → ℕ → ℕ → Type 0
BitsBelow v f n = (k : ℕ) → k < n → bit_at f k ≡ 1 → bit_at v k ≡ 1

one_more : (v f n : ℕ) → BitsBelow v f n → (bit_at f n ≡ 1 → bit_at v n ≡ 1) → BitsBelow v f (suc n)
one_more v f n each last k below =
    elim (cases_lt k n) [
      | inl earlier ↦ each k earlier
      | inr later ↦ let same : n ≡ k = omega (arith, below, later) in subst (λ i. bit_at f i ≡ 1 → bit_at v i ≡ 1) same last
    ]

more_reported : (v f n : ℕ) → Reported (BitsBelow v f n) → Reported (bit_at f n ≡ 1 → bit_at v n ≡ 1) → Reported (BitsBelow v f (suc n))
more_reported v f n (true, is) (true, last) = (true, (λ e. one_more v f n (is.0 refl) (last.0 refl), λ all. refl))
more_reported v f n (true, is) (false, last) = (false, (λ e. cc, λ all. last.1 (all n (omega arith))))
more_reported v f n (false, is) other = (false, (λ e. cc, λ all. is.1 (λ k below. all k (omega (arith, below)))))

pub bits_reported : (v f n : ℕ) → Reported (BitsBelow v f n)
bits_reported v f zero = (true, (λ e k below. absurd (omega (arith, below)), λ all. refl))
bits_reported v f (suc n) = more_reported v f n (bits_reported v f n) (reported_if (reported_number (bit_at f n) 1) (reported_number (bit_at v n) 1))
