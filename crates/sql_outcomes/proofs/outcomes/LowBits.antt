-- The code that was decided is in the lowest three bits of the least decision.
use Rattle.sql_outcomes.proofs.Common.{◌≡◌, ◌<◌, ◌+◌, ◌*◌, ◌^◌, inl, inr, ℕ, pos, refl, sym, ap, ◌∙◌, arith, bit_at, cases_lt, ints, whole, gives, GivesBits}
use Rattle.std.proofs.lemmas.Nat.Bits.{bit_at_above, bit_at_cat_low, bit_at_ones, bit_at_ones_above}

-- one more bit of the code, as of the decision
same_low : (p d k : ℕ) → k < 3 → bit_at (8 * p + d) k ≡ bit_at d k
same_low p d k low =
    let e : 8 * p + d ≡ p * 2 ^ 3 + d = omega arith in
    ap (λ (n : ℕ). bit_at n k) e ∙ bit_at_cat_low p 3 d k low

into : (p d k : ℕ) → d < 8 → bit_at d k ≡ 1 → (bit_at (8 * p + d) k ≡ 1) × (bit_at 7 k ≡ 1)
into p d k below is =
    elim (cases_lt k 3) [
      | inl low ↦ (same_low p d k low ∙ is, bit_at_ones 3 k low)
      | inr high ↦ absurd (omega (arith, is, bit_at_above d 3 k below high))
    ]

out : (p d k : ℕ) → d < 8 → (bit_at (8 * p + d) k ≡ 1) × (bit_at 7 k ≡ 1) → bit_at d k ≡ 1
out p d k below both =
    elim (cases_lt k 3) [
      | inl low ↦ sym (same_low p d k low) ∙ both.0
      | inr high ↦ absurd (omega (arith, both.1, bit_at_ones_above 3 k high))
    ]

pub bits_low : (p d : ℕ) → d < 8 → GivesBits (pos (8 * p + d)) (pos 7) (gives (whole (pos d)))
bits_low p d below = (pos d, omega (arith, ints), λ k under. (into p d k below, out p d k below), refl)
