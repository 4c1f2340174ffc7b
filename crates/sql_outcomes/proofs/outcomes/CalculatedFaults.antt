-- Arithmetic over operands that may be faults, with the `Let` around it.
use Rattle.sql_outcomes.proofs.Common.{◌≡◌, ℤ, Option, Some, None, Ok, refl, sym, ◌∙◌, IsSomeAnd, null, whole, PrimitiveType, CheckedNode, ComputesTo, number_val, Outcome, gives, overflow, divides_by_zero, ArithmeticOperator, EdmType, ValueType, without_fault, IsFitted, IsOfNumbers}

-- ---- numbers, and null instead of faults

abbrev pub number_in : Outcome → Option ℤ
number_in (gives (whole n)) = Some n
number_in o = None

pub without_is : (o : Outcome) → IsOfNumbers o → without_fault o ≡ gives (number_val (number_in o))
without_is (gives null) is = refl
without_is (gives (whole n)) is = refl
without_is overflow is = refl
without_is divides_by_zero is = refl
without_is (gives _) is = absurd is

pub fits_it : (o : Outcome) → IsOfNumbers o → IsFitted (number_in o)
fits_it (gives null) is = tt
fits_it (gives (whole n)) is = is
fits_it overflow is = tt
fits_it divides_by_zero is = tt
fits_it (gives _) is = absurd is

pub no_number : (operator : ArithmeticOperator) (type : PrimitiveType) (k : Option ℤ) → ComputesTo operator type None k (gives null)
no_number operator type k = (Ok None, refl, refl)

pub no_second : (operator : ArithmeticOperator) (type : PrimitiveType) (m : Option ℤ) → ComputesTo operator type m None (gives null)
no_second operator type None = (Ok None, refl, refl)
no_second operator type (Some n) = (Ok None, refl, refl)

-- one type stands at the index
pub one_type : (node : Option CheckedNode) (s t : PrimitiveType) → IsSomeAnd node (λ n. n.edm_type ≡ EdmType.Single (ValueType.Prim s)) → IsSomeAnd node (λ n. n.edm_type ≡ EdmType.Single (ValueType.Prim t)) → s ≡ t
one_type None s t is other = absurd is
one_type (Some node) s t is other = let same : EdmType.Single (ValueType.Prim s) ≡ EdmType.Single (ValueType.Prim t) = sym is ∙ other in cc
