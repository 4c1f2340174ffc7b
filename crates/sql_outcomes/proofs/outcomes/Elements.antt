-- What holds of all elements of a list.
use Rattle.sql_outcomes.proofs.Common.{◌≡◌, ◌++◌, ◌∷◌, [], ℕ, zero, suc, List, Some, None, subst, slice_get, AllByRecursion, length, refl, arith}

-- it holds of one of them
pub at_all : {T : Type 0} (P : T → Type 0) (xs : List T) (n : ℕ) (x : T) → AllByRecursion P xs → slice_get xs n ≡ Some x → P x
at_all P [] n x all at = let none : None ≡ Some x = at in absurd (cc)
at_all P (first ∷ xs) zero x all at =
    let same : first ≡ x = cc at in
    subst P same all.0
at_all P (first ∷ xs) (suc n) x all at = at_all P xs n x all.1 at

-- what holds of all of two lists in one holds of all of each
pub front_all : {T : Type 0} (P : T → Type 0) (xs ys : List T) → AllByRecursion P (xs ++ ys) → AllByRecursion P xs
front_all P [] ys all = tt
front_all P (x ∷ xs) ys all = (all.0, front_all P xs ys all.1)

pub rest_all : {T : Type 0} (P : T → Type 0) (xs ys : List T) → AllByRecursion P (xs ++ ys) → AllByRecursion P ys
rest_all P [] ys all = all
rest_all P (x ∷ xs) ys all = rest_all P xs ys all.1

-- lists by their lengths
pub only_one : {A : Type 0} (xs : List A) (x : A) → length xs ≡ 1 → slice_get xs 0 ≡ Some x → xs ≡ x ∷ []
only_one [] x one at = absurd (cc)
only_one (y ∷ []) x one at = let e : Some y ≡ Some x = at in cc
only_one (y ∷ z ∷ xs) x one at = absurd (omega (arith, one))

pub none_left : {A : Type 0} (xs : List A) → length xs ≡ 0 → xs ≡ []
none_left [] none = refl
none_left (x ∷ xs) none = absurd (cc)
