-- Numbers as results of their types.
use Rattle.odata_ranges.proofs.Common.{◌≡◌, ℤ, Bool, true, false, Option, Some, None, Result, Ok, Err, refl, sym, subst, IsNumberOf, PrimitiveType, number_outcome, GivesNumber, Outcome, ComesWithin, ArithFault, Overflow, DivideByZero, HoldsNumber, IsWithin, Range}

pub fault_or : (b : Bool) → (b ≡ false → ⊥) → b ≡ true
fault_or true other = refl
fault_or false other = absurd (other refl)

-- a number within a range, where numbers of the type lie, and beyond which there may be a fault
pub number_within : (p : PrimitiveType) (result : Range) (n : ℤ) (o : Outcome) → (IsNumberOf p n → HoldsNumber result n) → (result.may_fault ≡ false → IsNumberOf p n)
    → GivesNumber p n o → IsWithin result o
number_within p result n o holds fits given = subst (IsWithin result) (sym given.2) (answered given.0 given.1)
  where
    answered : (answer : Result (Option ℤ) ArithFault) → ComesWithin p n answer → IsWithin result (number_outcome answer)
    answered (Ok (Some m)) comes =
        let number : Some m ≡ Some n = comes.0 in
        let same : m ≡ n = cc in
        subst (HoldsNumber result) (sym same) (holds comes.1)
    answered (Ok None) comes = let none : None ≡ Some n = comes.0 in cc
    answered (Err Overflow) comes = fault_or result.may_fault (λ safe. comes.1 (fits safe))
    answered (Err DivideByZero) comes = fault_or result.may_fault (λ safe. comes.1 (fits safe))
