-- Lists by their indexes.
use Rattle.std.proofs.Common.{◌≡◌, ◌≢◌, ℕ, zero, suc, ◌<◌, ◌≤◌, List, [], ◌∷◌, length, take, slice_get, slice_set, Some, IfSome, refl, ap, subst, arith}

pub take_none : {X : Type 0} (xs : List X) → take 0 xs ≡ []
take_none [] = refl
take_none (x ∷ xs) = refl

pub set_there : {X : Type 0} (xs : List X) (n : ℕ) (x : X) → n < length xs → slice_get (slice_set xs n x) n ≡ Some x
set_there [] n x within = absurd (omega (arith, within))
set_there (y ∷ xs) zero x within = refl
set_there (y ∷ xs) (suc n) x within = set_there xs n x (omega (arith, within))

-- the others stay
pub other_kept : {X : Type 0} (xs : List X) (n k : ℕ) (x : X) → k ≢ n → slice_get (slice_set xs n x) k ≡ slice_get xs k
other_kept [] n k x other = refl
other_kept (y ∷ xs) zero zero x other = absurd (other refl)
other_kept (y ∷ xs) zero (suc k) x other = refl
other_kept (y ∷ xs) (suc n) zero x other = refl
other_kept (y ∷ xs) (suc n) (suc k) x other = other_kept xs n k x (λ same. other (ap suc same))

pub each_at : {X : Type 0} (Q : ℕ → X → Type 0) (items : List X) (k : ℕ) (x : X) → ((n : ℕ) → IfSome (slice_get items n) (Q n)) → slice_get items k ≡ Some x → Q k x
each_at Q items k x each at = subst (λ o. IfSome o (Q k)) at (each k)

-- what two lists say of one index
pub both_at : {X Y : Type 0} (xs : List X) (ys : List Y) (P : X → Y → Type 0) (Q : X → Type 0) (n : ℕ) → length xs ≡ length ys → IfSome (slice_get xs n) (λ x. IfSome (slice_get ys n) (P x)) → ((x : X) (y : Y) → P x y → Q x) → IfSome (slice_get xs n) Q
both_at [] ys P Q n long each by = tt
both_at (x ∷ xs) [] P Q n long each by = absurd (omega (arith, long))
both_at (x ∷ xs) (y ∷ ys) P Q zero long each by = by x y each
both_at (x ∷ xs) (y ∷ ys) P Q (suc n) long each by = both_at xs ys P Q n (omega (arith, long)) each by

-- nothing stands behind the end
pub past_end : {X : Type 0} (P : X → Type 0) (xs : List X) (k : ℕ) → length xs ≤ k → IfSome (slice_get xs k) P
past_end P [] zero past = tt
past_end P [] (suc k) past = tt
past_end P (x ∷ xs) zero past = absurd (omega (arith, past))
past_end P (x ∷ xs) (suc k) past = past_end P xs k (omega (arith, past))
