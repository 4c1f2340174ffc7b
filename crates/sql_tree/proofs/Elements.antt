-- Whether each element of a list is such a one, element by element.
use Rattle.std.proofs.Common.{◌≡◌, ◌≤◌, ◌↔◌, ℕ, zero, suc, ◌+◌, List, [], ◌∷◌, Bool, true, false, IsTrue, Some, None, drop, length, slice_get, refl, subst, sym, ap, ◌∙◌, arith}
use Rattle.std.specs.List.{AllByRecursion}
use Rattle.std.proofs.lemmas.List.{drop_all}

module _ {A : Type 0} (P : A → Type 0) where
  -- all are so where those from an index on are
  abbrev pub LeftAll : List A → ℕ → Type 0
  LeftAll xs k = AllByRecursion P (drop k xs) ↔ AllByRecursion P xs

  pub left_first : (xs : List A) → LeftAll xs 0
  left_first [] = (λ all. all, λ all. all)
  left_first (x ∷ xs) = (λ all. all, λ all. all)

  none_there : (x : A) → None ≡ Some x → ⊥
  none_there x at = cc

  here : (first x : A) → Some first ≡ Some x → first ≡ x
  here first x at = cc

  from_index : (xs : List A) (k : ℕ) (x : A) → slice_get xs k ≡ Some x → drop k xs ≡ x ∷ drop (k + 1) xs
  from_index [] k x at = absurd (none_there x at)
  from_index (first ∷ rest) zero x at = ap (λ (y : A). y ∷ rest) (here first x at)
  from_index (first ∷ rest) (suc k) x at =
      let e : suc (k + 1) ≡ suc k + 1 = omega arith in
      from_index rest k x at ∙ ap (λ (n : ℕ). x ∷ drop n (first ∷ rest)) e

  module _ (xs : List A) (k : ℕ) (x : A) (at : slice_get xs k ≡ Some x) (left : LeftAll xs k) where
    parts : AllByRecursion P xs → P x × AllByRecursion P (drop (k + 1) xs)
    parts all = subst (AllByRecursion P) (from_index xs k x at) (left.1 all)

    -- this one is
    pub left_on : P x → LeftAll xs (k + 1)
    left_on is = (λ more. left.0 (subst (AllByRecursion P) (sym (from_index xs k x at)) (is, more)), λ all. (parts all).1)

    -- this one is not
    pub left_not : (answer : Bool) → IsTrue answer ↔ P x → answer ≡ false → IsTrue false ↔ AllByRecursion P xs
    left_not answer is not_so = (
      λ (holds : IsTrue false). absurd (cc),
      λ (all : AllByRecursion P xs). let holds = is.1 (parts all).0 in absurd (cc),
    )

  -- none is left
  pub left_end : (xs : List A) (k : ℕ) → length xs ≤ k → LeftAll xs k → IsTrue true ↔ AllByRecursion P xs
  left_end xs k last left =
      (λ (holds : IsTrue true). left.0 (subst (AllByRecursion P) (sym (drop_all k xs last)) tt), λ (all : AllByRecursion P xs). refl)
