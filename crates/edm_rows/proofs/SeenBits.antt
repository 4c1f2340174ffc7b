-- Marks of slots, which are bits of a number.
use Rattle.std.proofs.Common.{◌≡◌, ◌⊎◌, ⊎_elim, ℕ, zero, suc, ◌+◌, ◌^◌, ◌<◌, bit_or, nat_eq, Bool, true, false, refl, sym, ap, ◌∙◌, subst, arith}
use Rattle.std.specs.Int.{bit_at}
use Rattle.std.proofs.lemmas.Bool.{cases_eq, cases_lt, true≢false}
use Rattle.std.proofs.lemmas.Nat.Bits.{bit_at-lt, bit_at-pow_other, bit_at-pow_same, bit_at-zero, bit_at_or}

-- a slot that was not seen, or was
pub unmarked : (seen index : ℕ) {b : Bool} → b ≡ nat_eq (bit_at seen index) 1 → b ≡ false → bit_at seen index ≡ 0
unmarked seen index is none = go (bit_at seen index) refl (bit_at-lt seen index) (sym is ∙ none)
  where
    go : (n : ℕ) → bit_at seen index ≡ n → n < 2 → nat_eq (bit_at seen index) 1 ≡ false → bit_at seen index ≡ 0
    go zero same less apart = same
    go (suc zero) same less apart = absurd (true≢false (sym (ap (λ n. nat_eq n 1) same) ∙ apart))
    go (suc (suc n)) same less apart = absurd (omega (arith, less))

-- where none was seen
pub unseen_optional : {seen : ℕ} (optional : ℕ) → seen ≡ 0 → (k : ℕ) → (bit_at seen k ≡ 1) ⊎ (bit_at optional k ≡ 1) → bit_at optional k ≡ 1
unseen_optional optional none k = ⊎_elim (λ was. absurd (omega (arith, was, ap (λ n. bit_at n k) none, bit_at-zero k))) (λ is. is)

-- ---- one slot more

-- all slots so far
pub all_more : (all count : ℕ) → ((k : ℕ) → k < count → bit_at all k ≡ 1) → (k : ℕ) → k < count + 1 → bit_at (bit_or all (2 ^ count)) k ≡ 1
all_more all count before k inside =
    ⊎_elim (λ less. omega (arith, bit_at_or all (2 ^ count) k, before k less, bit_at-lt (2 ^ count) k))
    (λ more.
    let here : k ≡ count = omega (arith, more, inside) in
    ap (bit_at (bit_or all (2 ^ count))) here ∙ omega (arith, bit_at_or all (2 ^ count) count, bit_at-pow_same count, bit_at-lt all count)) (cases_lt k count)

-- those that may be absent
pub optional_more : (Q : ℕ → Type 0) (optional index : ℕ) → ((k : ℕ) → bit_at optional k ≡ 1 → Q k) → Q index → (k : ℕ) → bit_at (bit_or optional (2 ^ index)) k ≡ 1 → Q k
optional_more Q optional index before here k set =
    ⊎_elim (λ same. subst Q (sym same) here) (λ apart. before k (omega (arith, bit_at_or optional (2 ^ index) k, bit_at-pow_other index k apart, set))) (cases_eq k index)
