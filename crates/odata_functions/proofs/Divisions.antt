-- Quotient and remainder: the code's are those of the definition, and there are no others.
use Rattle.std.proofs.Common.{◌≡◌, ◌≢◌, ◌⊎◌, inl, inr, ℕ, zero, suc, ◌+◌, ◌*◌, ◌<◌, ◌≤◌, ◌%◌, ℤ, pos, negsuc, neg_ℤ, ◌+ℤ◌, ◌-ℤ◌, ◌*ℤ◌, arith, refl, sym, ap, subst, ◌∙◌, int_div, int_rem, unsigned_abs}
use Rattle.std.proofs.lemmas.Int.{ints, quot-rem, rem_below, unsigned_abs-mul}
use Rattle.odata_functions.specs.Division.{IsDivision, HaveOneSign}
use borrow.Author.Differences.{up, down}
use Rattle.std.proofs.Math.Nat.{mod-le}

sign_above : (n r : ℕ) → r ≤ n → (pos r ≡ pos 0) ⊎ HaveOneSign (pos n) (pos r)
sign_above n zero h = inl refl
sign_above n (suc r) h = inr (inl (omega (arith, ints), omega (arith, ints)))

sign_below : (n r : ℕ) → (neg_ℤ (pos r) ≡ pos 0) ⊎ HaveOneSign (negsuc n) (neg_ℤ (pos r))
sign_below n zero = inl refl
sign_below n (suc r) = inr (inr (omega (arith, ints), omega (arith, ints)))

sign_of_rem : (a b : ℤ) → (int_rem a b ≡ pos 0) ⊎ HaveOneSign a (int_rem a b)
sign_of_rem (pos n) b = sign_above n (n % unsigned_abs b) (omega (arith, mod-le n (unsigned_abs b)))
sign_of_rem (negsuc n) b = sign_below n (suc n % unsigned_abs b)

pub some_abs : (b : ℤ) → b ≢ pos 0 → 0 < unsigned_abs b
some_abs (pos zero) other = absurd (other refl)
some_abs (pos (suc n)) other = omega arith
some_abs (negsuc n) other = omega arith

pub division : (a b : ℤ) → b ≢ pos 0 → IsDivision a b (int_div a b) (int_rem a b)
division a b other = record { whole = sym (quot-rem a b); small = rem_below a b (some_abs b other); sign = sign_of_rem a b }

pub none_by_zero : (a q r : ℤ) → ¬ (IsDivision a (pos 0) q r)
none_by_zero a q r is = absurd (omega (arith, is.small))

-- two remainders of one number lie near each other
near : (a r s : ℤ) (n : ℕ) → unsigned_abs r < n → unsigned_abs s < n → (r ≡ pos 0) ⊎ HaveOneSign a r
    → (s ≡ pos 0) ⊎ HaveOneSign a s → unsigned_abs (s -ℤ r) < n
near a r s n small_r small_s (inl x) (inl y) = omega (arith, ints)
near a r s n small_r small_s (inl x) (inr (inl y)) = omega (arith, ints)
near a r s n small_r small_s (inl x) (inr (inr y)) = omega (arith, ints)
near a r s n small_r small_s (inr (inl x)) (inl y) = omega (arith, ints)
near a r s n small_r small_s (inr (inr x)) (inl y) = omega (arith, ints)
near a r s n small_r small_s (inr (inl x)) (inr (inl y)) = omega (arith, ints)
near a r s n small_r small_s (inr (inr x)) (inr (inr y)) = omega (arith, ints)
near a r s n small_r small_s (inr (inl x)) (inr (inr y)) = absurd (omega (arith, ints))
near a r s n small_r small_s (inr (inr x)) (inr (inl y)) = absurd (omega (arith, ints))

-- what differs by a multiple of `b` differs by the multiple's factor times `b`
apart : (a b q r p s : ℤ) → a ≡ q *ℤ b +ℤ r → a ≡ p *ℤ b +ℤ s → (q -ℤ p) *ℤ b ≡ s -ℤ r
apart a b q r p s first second =
    let d = q -ℤ p in
    let sum : up d + down q + up p ≡ up q + down p + down d = omega (arith, ints) in
    let above = ap (λ (x : ℕ). x * up b) sum in
    let below = ap (λ (x : ℕ). x * down b) sum in
    omega (arith, ints)

no_factor : (k n : ℕ) → k * n < n → k ≡ 0
no_factor zero n h = refl
no_factor (suc k) n h = absurd (omega arith)

pub one_quotient : (a b q r p s : ℤ) → IsDivision a b q r → IsDivision a b p s → q ≡ p
one_quotient a b q r p s first second =
    let close = near a r s (unsigned_abs b) first.small second.small first.sign second.sign in
    let times : unsigned_abs (q -ℤ p) * unsigned_abs b < unsigned_abs b =
    subst (λ (n : ℕ). n < unsigned_abs b)
    (ap unsigned_abs (sym (apart a b q r p s first.whole second.whole)) ∙ unsigned_abs-mul (q -ℤ p) b) close in
    let none = no_factor (unsigned_abs (q -ℤ p)) (unsigned_abs b) times in
    omega (arith, ints)

pub one_remainder : (a b q r p s : ℤ) → IsDivision a b q r → IsDivision a b p s → r ≡ s
one_remainder a b q r p s first second =
    let same = one_quotient a b q r p s first second in
    let with_q : a ≡ q *ℤ b +ℤ s = subst (λ (z : ℤ). a ≡ z *ℤ b +ℤ s) (sym same) second.whole in
    let of_first = first.whole in
    omega (arith, ints)
