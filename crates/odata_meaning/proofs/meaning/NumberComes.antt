-- A whole number in a type has one outcome.
use Rattle.std.proofs.Common.{◌≡◌, ℤ, Option, Some, None, Result, Ok, Err, refl, sym, subst}
use Rattle.std.specs.Prelude.{neg_ℤ}
use Rattle.std.proofs.Math.IntN.{neg_ℤ-neg_ℤ}
use Rattle.edm_values.specs.NumberTypes.{IsNumberOf}
use Rattle.edm_values.specs.declared.primitive.PrimitiveType.{PrimitiveType}
use Rattle.csdl_schema.specs.ExprType.{single, primitive}
use Rattle.csdl_schema.specs.SchemaModel.{Slots}
use Rattle.odata_functions.specs.Arithmetic.{ComesWithin}
use Rattle.odata_functions.specs.Promotion.{IsPromoted}
use Rattle.odata_functions.specs.declared.arithmetic.ArithFault.{ArithFault}
use Rattle.odata_functions.specs.declared.arithmetic.ArithFault.TheVariants.{Overflow, DivideByZero}
use Rattle.odata_filter_operations.specs.CalculationGives.{GivesNumber, number_outcome}
use Rattle.odata_meaning.specs.EndsOnce.{IsOutcomeOf}
use Rattle.odata_meaning.proofs.meaning.Ends.{Ends}
use Rattle.odata_meaning.specs.private.LawsBelow.{OneEach, SomeEach}
use Rattle.odata_meaning.proofs.meaning.OneLeaf.{same_number}
use Rattle.odata_meaning.proofs.meaning.OneStep.{AtMostOne}
use Rattle.odata_meaning.proofs.meaning.TypeValues.{null_has, number_has}

-- a number is the negation of its own
twice_negated : (p : PrimitiveType) (n : ℤ) (answer : Result (Option ℤ) ArithFault) → ComesWithin p n answer → ComesWithin p (neg_ℤ (neg_ℤ n)) answer
twice_negated p n answer comes = subst (λ (m : ℤ). ComesWithin p m answer) (sym (neg_ℤ-neg_ℤ n)) comes

pub GivesNumber-one : OneEach → (p : PrimitiveType) (n : ℤ) → AtMostOne (GivesNumber p n)
GivesNumber-one known p n a b of_a of_b =
    same_number of_a.0 of_b.0 a b
    (known.negation p (Some (neg_ℤ n)) of_a.0 of_b.0 (twice_negated p n of_a.0 of_a.1) (twice_negated p n of_b.0 of_b.1)) of_a.2 of_b.2

-- what comes of a number in a type lies within that
pub number_typed : (slots : Slots) (p : PrimitiveType) (n : ℤ) (answer : Result (Option ℤ) ArithFault) → ComesWithin p n answer
    → IsOutcomeOf slots (single (primitive p)) (number_outcome answer)
number_typed slots p n (Ok (Some m)) comes = let same : m ≡ n = cc in number_has slots p m (subst (λ (k : ℤ). IsNumberOf p k) (sym same) comes.1)
number_typed slots p n (Ok None) comes = null_has slots (single (primitive p))
number_typed slots p n (Err Overflow) comes = tt
number_typed slots p n (Err DivideByZero) comes = tt

pub number_given : SomeEach → (slots : Slots) (p : PrimitiveType) → IsPromoted p → (n : ℤ) → Ends slots (single (primitive p)) (GivesNumber p n)
number_given some slots p is n =
    let answer = some.negation p (Some (neg_ℤ n)) is in
    let comes = subst (λ (m : ℤ). ComesWithin p m answer.0) (neg_ℤ-neg_ℤ n) answer.1 in
    (number_outcome answer.0, ((answer.0, comes, refl), number_typed slots p n answer.0 comes))
