-- What stands at an index of a list.
use Rattle.std.proofs.Common.{◌≡◌, refl, ap, inl, inr, ◌⊎◌, ℕ, zero, suc, ◌<◌, ◌≤◌, ◌+◌, ◌-◌, List, [], ◌∷◌, ◌++◌, length, drop, Option, Some, slice_get, slice_set, true, false, arith}
use Rattle.std.specs.Prelude.{nat_lt}
use Rattle.std.proofs.lemmas.Bool.Decides.{nat_tests}
use Rattle.std.proofs.lemmas.Option.{none-some, slice_get_within}

pub get_front : {X : Type 0} (xs ys : List X) (k : ℕ) (x : X) → slice_get xs k ≡ Some x → slice_get (xs ++ ys) k ≡ Some x
get_front [] ys k x found = absurd (none-some x found)
get_front (y ∷ xs) ys zero x found = found
get_front (y ∷ xs) ys (suc k) x found = get_front xs ys k x found

-- what stands in a list stands in one of its parts
pub get_parts :
    {X : Type 0} (xs ys : List X) (k : ℕ) (x : X)
    → slice_get (xs ++ ys) k ≡ Some x
    → (slice_get xs k ≡ Some x) ⊎ ((j : ℕ) × ((k ≡ length xs + j) × (slice_get ys j ≡ Some x)))
get_parts [] ys k x found = inr (k, (omega arith, found))
get_parts (y ∷ xs) ys zero x found = inl found
get_parts (y ∷ xs) ys (suc k) x found =
    elim (get_parts xs ys k x found) [ inl h ↦ inl h | inr h ↦ inr (h.0, (let e : k ≡ length xs + h.0 = h.1.0 in omega arith, h.1.1)) ]

pub get_last : {X : Type 0} (xs : List X) (k : ℕ) (x : X) → k ≡ length xs → slice_get (xs ++ x ∷ []) k ≡ Some x
get_last [] zero x last = refl
get_last [] (suc k) x last = let e : suc k ≡ 0 = last in absurd (omega arith)
get_last (y ∷ xs) zero x last = let e : 0 ≡ suc (length xs) = last in absurd (omega arith)
get_last (y ∷ xs) (suc k) x last = get_last xs k x (let e : suc k ≡ suc (length xs) = last in omega arith)

pub get_put : {X : Type 0} (xs : List X) (k : ℕ) (x : X) → k < length xs → slice_get (slice_set xs k x) k ≡ Some x
get_put [] k x within = let h : k < 0 = within in absurd (omega arith)
get_put (y ∷ xs) zero x within = refl
get_put (y ∷ xs) (suc k) x within = get_put xs k x (let h : suc k < suc (length xs) = within in omega arith)

-- from an index on, the list is what stands there and the rest
pub drop_at : {X : Type 0} (xs : List X) (k : ℕ) (x : X) → slice_get xs k ≡ Some x → drop k xs ≡ x ∷ drop (k + 1) xs
drop_at [] k x found = absurd (none-some x found)
drop_at (y ∷ xs) zero x found = let same : y ≡ x = cc found in ap (λ z. z ∷ xs) same
drop_at (y ∷ xs) (suc k) x found = let e : suc k + 1 ≡ suc (k + 1) = omega arith in rw e (drop_at xs k x found)

pub same_found : {X : Type 0} (o : Option X) (x y : X) → o ≡ Some x → o ≡ Some y → x ≡ y
same_found o x y a b = cc

-- what is found below the length is something
pub found_within : {X : Type 0} (xs : List X) (k : ℕ) → k < length xs → (x : X) × (slice_get xs k ≡ Some x)
found_within [] k within = let h : k < 0 = within in absurd (omega arith)
found_within (x ∷ xs) zero within = (x, refl)
found_within (x ∷ xs) (suc k) within = found_within xs k (let h : suc k < suc (length xs) = within in omega arith)

pub found_before : {X : Type 0} (xs : List X) (k : ℕ) (x : X) → slice_get xs k ≡ Some x → k < length xs
found_before xs k x found = slice_get_within xs k x found

-- the index before one, in a walk backwards
pub before_is : (at place bottom : ℕ) → place < at → at ≤ bottom → (at - 1 + 1 ≡ at) × ((at - 1 < bottom) × (place ≤ at - 1))
before_is at place bottom above within = (omega (arith, above), (omega (arith, above, within), omega (arith, above)))

-- what a test of two indexes says
pub below : (a b : ℕ) → b ≤ a → nat_lt a b ≡ false
below a b h = grind (arith, nat_tests)

pub above : (a b : ℕ) → a < b → nat_lt a b ≡ true
above a b h = grind (arith, nat_tests)
