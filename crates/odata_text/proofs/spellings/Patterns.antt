-- Patterns of bytes.
use Rattle.odata_text.proofs.Common.{drop, or_right, eq-eqb, ◌≡◌, ◌⊎◌, inl, inr, ⊎_elim, ℕ, zero, suc, ◌<◌, ◌≤◌, ◌==◌, ◌||◌, true, false, List, [], ◌∷◌, ◌++◌, length, get_or, take, arith, refl, sym, ◌∙◌, ap, subst, both_ways, or_left, or_cases, eqb-true, get_or-take, IsReach, PassesTests, passes, FollowedBy, ByteTest, both_length}
use Rattle.odata_text.proofs.spellings.Sequences.{pair-reach, pieces-sized, reach-as, reach-sized, reach-unsized}

-- one of two bytes, and the test of it
pub either-byte : (b c d : ℕ) → ((b == c) || (b == d)) ≡ true → (b ≡ c) ⊎ (b ≡ d)
either-byte b c d passed = ⊎_elim (λ e. inl (eqb-true b c e)) (λ e. inr (eqb-true b d e)) (or_cases (b == c) (b == d) passed)

pub either-passes : (b c d : ℕ) → (b ≡ c) ⊎ (b ≡ d) → ((b == c) || (b == d)) ≡ true
either-passes b c d (inl first) = or_left _ _ (eq-eqb b c first)
either-passes b c d (inr second) = or_right _ _ (eq-eqb b d second)

pub fits-length : (tests : List ByteTest) (bytes : List ℕ) → PassesTests tests bytes → length bytes ≡ length tests
fits-length [] [] fits = refl
fits-length [] (b ∷ bytes) fits = absurd fits
fits-length (t ∷ tests) [] fits = absurd fits
fits-length (t ∷ tests) (b ∷ bytes) fits = ap suc (fits-length tests bytes fits.1)

pub fits-at : (tests : List ByteTest) (bytes : List ℕ) → PassesTests tests bytes → (k : ℕ) (d : ByteTest) → k < length tests → passes (get_or tests k d) (get_or bytes k 0) ≡ true
fits-at [] bytes fits k d below = absurd (omega arith)
fits-at (t ∷ tests) [] fits k d below = absurd fits
fits-at (t ∷ tests) (b ∷ bytes) fits zero d below = fits.0
fits-at (t ∷ tests) (b ∷ bytes) fits (suc k) d below = fits-at tests bytes fits.1 k d (omega arith)

fits-from_reads : (tests : List ByteTest) (rest : List ℕ) (d : ByteTest) → length tests ≤ length rest
    → ((k : ℕ) → k < length tests → passes (get_or tests k d) (get_or rest k 0) ≡ true) → PassesTests tests (take (length tests) rest)
fits-from_reads [] rest d within reads = tt
fits-from_reads (t ∷ tests) [] d within reads = absurd (omega arith)
fits-from_reads (t ∷ tests) (b ∷ rest) d within reads = (reads 0 (omega arith), fits-from_reads tests rest d (omega arith) (λ k below. reads (suc k) (omega arith)))

-- What the code finds.

pub pattern-short : (tests : List ByteTest) (rest : List ℕ) → length rest < length tests → IsReach (PassesTests tests) 0 rest
pattern-short tests rest short = reach-unsized (PassesTests tests) (length tests) rest (fits-length tests) (λ inside fits. omega arith)

pub pattern-fails : (tests : List ByteTest) (rest : List ℕ) (k : ℕ) (d : ByteTest) → k < length tests → passes (get_or tests k d) (get_or rest k 0) ≡ false → IsReach (PassesTests tests) 0 rest
pattern-fails tests rest k d below fails = reach-unsized (PassesTests tests) (length tests) rest (fits-length tests) (λ inside fits.
    both_ways _ fails (sym (ap (passes (get_or tests k d)) (get_or-take (length tests) rest k 0 below)) ∙ fits-at tests (take (length tests) rest) fits k d below))

pub pattern-stands : (tests : List ByteTest) (rest : List ℕ) (d : ByteTest) → length tests ≤ length rest
    → ((k : ℕ) → k < length tests → passes (get_or tests k d) (get_or rest k 0) ≡ true) → IsReach (PassesTests tests) (length tests) rest
pattern-stands tests rest d within reads = reach-sized (PassesTests tests) (length tests) rest (fits-length tests) within (fits-from_reads tests rest d within reads)

-- A byte that passes a test, and a piece after it.

pub marked-pair : (test : ByteTest) (B : List ℕ → Type 0) (b : ℕ) (behind : List ℕ) → passes test b ≡ true → B behind → FollowedBy (PassesTests (test ∷ [])) B (b ∷ behind)
marked-pair test B b behind passed is = record { front = b ∷ []; back = behind; whole = refl; is_front = (passed, tt); is_back = is }

pub pair-marked : (test : ByteTest) (B P : List ℕ → Type 0) → ((b : ℕ) (behind : List ℕ) → passes test b ≡ true → B behind → P (b ∷ behind)) → (bytes : List ℕ) → FollowedBy (PassesTests (test ∷ [])) B bytes → P bytes
pair-marked test B P each bytes pair = subst P (sym pair.whole) (parts pair.front pair.is_front)
  where
    parts : (front : List ℕ) → PassesTests (test ∷ []) front → P (front ++ pair.back)
    parts [] fits = absurd fits
    parts (b ∷ []) fits = each b pair.back fits.0 pair.is_back
    parts (b ∷ c ∷ more) fits = absurd fits.1

-- as the code measures them
pub marked-reach : (test : ByteTest) (B P : List ℕ → Type 0) → (B [] → ⊥) → ((b : ℕ) (behind : List ℕ) → passes test b ≡ true → B behind → P (b ∷ behind)) → ((xs : List ℕ) → P xs → FollowedBy (PassesTests (test ∷ [])) B xs)
    → (rest left : List ℕ) (a b n : ℕ) → left ≡ drop a rest → IsReach (PassesTests (test ∷ [])) a rest → IsReach B b left → n ≡ both_length a b → IsReach P n rest
marked-reach test B P none to from rest left a b n behind mark piece is =
    reach-as (FollowedBy (PassesTests (test ∷ [])) B) P n rest (pair-marked test B P to) from
    (pair-reach (PassesTests (test ∷ [])) B (pieces-sized (PassesTests (test ∷ [])) B 0 (fits-length (test ∷ [])) none) rest left a b n behind mark piece is)
