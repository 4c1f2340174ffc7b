-- Arithmetic over operands that may be faults, with the `Let` around it.
use Rattle.sql_forms.proofs.Common.{◌≡◌, ◌∷◌, [], ℕ, ℤ, List, Option, Some, None, length, refl, sym, subst, slice_get, null, whole, PrimitiveType, ComputesTo, number_val, Outcome, gives, overflow, divides_by_zero, ArithmeticOperator, LiesBetween, IsWithin, Range, without_fault, Carrier, Draft, Lifted, Operand, CalculatedHas, IsComputedIn, IsFitted, IsNumberIn, IsOfNumbers, MadeOf, Grows, AllHave, ArePlain, IsLifted, IsOpened, fault_else, faults_front, within_let, OperandHas, Has, Puts, PutsAll, Question, World}
use Rattle.sql_outcomes.specs.private.ValueForms.{Itself}
use Rattle.sql_outcomes.proofs.outcomes.LiftedFaults.{IsInner, TwoInner, lifted_values, two_inner}
use Rattle.sql_forms.proofs.lets.LiftedPut.{Same, carried_put, closed}
use Rattle.sql_forms.proofs.lets.LiftedWhole.{FaultsGiven, faults_put, in_body}
use Rattle.sql_outcomes.proofs.outcomes.LiftedValues.{body_have}
use Rattle.sql_outcomes.proofs.outcomes.CalculatedFaults.{number_in, without_is, fits_it, no_number, no_second, one_type}

number_within : (range : Range) (o : Outcome) → IsOfNumbers o → IsWithin range o → IsNumberIn range (number_in o)
number_within range (gives null) is within = tt
number_within range (gives (whole n)) is within = within
number_within range overflow is within = tt
number_within range divides_by_zero is within = tt
number_within range (gives _) is within = absurd is

-- the bounds in the body are those outside
inner_within : (outer within_it : Operand) (m : Option ℤ) → IsInner outer within_it → IsNumberIn outer.range m → IsNumberIn within_it.range m
inner_within outer within_it None is within = tt
inner_within outer within_it (Some n) is within =
    subst (λ (low : ℤ). LiesBetween low within_it.range.high n) (sym is.low) (subst (λ (high : ℤ). LiesBetween outer.range.low high n) (sym is.high) within)

-- what the operator makes of numbers and null, and how its faults and those of the operands come first
pub record Made (operator : ArithmeticOperator) (type : PrimitiveType) (a b o : Outcome) : Type 0 where
  pub inner : Outcome
  pub comes : ComputesTo operator type (number_in a) (number_in b) inner
  pub is : o ≡ fault_else a (fault_else b inner)

made : (operator : ArithmeticOperator) (type : PrimitiveType) (a b o : Outcome) → IsOfNumbers a → IsOfNumbers b → MadeOf operator type a b o → Made operator type a b o
made operator type (gives null) (gives null) o a_is b_is given = record { inner = gives null; comes = no_number operator type None; is = given }
made operator type (gives null) (gives (whole b)) o a_is b_is given = record { inner = gives null; comes = no_number operator type (Some b); is = given }
made operator type (gives (whole a)) (gives null) o a_is b_is given = record { inner = gives null; comes = no_second operator type (Some a); is = given }
made operator type (gives (whole a)) (gives (whole b)) o a_is b_is given = record { inner = o; comes = given; is = refl }
made operator type (gives null) (gives w) o a_is b_is given = absurd b_is
made operator type (gives (whole a)) (gives w) o a_is b_is given = absurd b_is
made operator type (gives v) (gives w) o a_is b_is given = absurd a_is
made operator type (gives v) _ o a_is b_is given = record { inner = gives null; comes = no_second operator type (number_in (gives v)); is = given }
made operator type _ b o a_is b_is given = record { inner = gives null; comes = no_number operator type (number_in b); is = given }

-- ---- the body over what is bound

module _ (question : Question) (operator : ArithmeticOperator) (place : ℕ) (type : PrimitiveType) (computed : IsComputedIn question.filter place type) (left right first second : Operand) (Inner : Has)
    (into : (world : World) (m k : Option ℤ) (r : Outcome) → OperandHas question.filter first world (gives (number_val m)) → OperandHas question.filter second world (gives (number_val k))
    → IsFitted m → IsFitted k → IsNumberIn left.range m → IsNumberIn right.range k → IsNumberIn second.range k → ComputesTo operator type m k r → Inner world r) where
  module _ (lifted : Lifted) (old opened fronted body new : Draft) (is_lifted : IsLifted (left ∷ right ∷ []) old.depth lifted) (is_opened : IsOpened lifted old opened)
      (front : Grows opened fronted (faults_front (Some Carrier.Number) lifted.level lifted.bound.items)) (put : Puts question fronted body Inner Itself)
      (is_first : slice_get lifted.inner.items 0 ≡ Some first) (is_second : slice_get lifted.inner.items 1 ≡ Some second)
      (values : PutsAll question (closed body (length lifted.bound.items)) new (AllHave question.filter lifted.bound.items) (length lifted.bound.items))
      (idle : lifted.bound.items ≡ [] → Grows (closed body (length lifted.bound.items)) new []) where
    module _ (world : World) (o : Outcome) (at : old.depth ≡ length world.bound) (has : CalculatedHas question.filter operator place left right world o) where
      abbrev sides : List Outcome
      sides = has.first ∷ has.second ∷ []

      abbrev within : World
      within = in_body question (left ∷ right ∷ []) lifted old is_lifted world sides

      plain : ArePlain (left ∷ right ∷ []) sides
      plain = (has.left_plain, (has.right_plain, tt))

      have : AllHave question.filter (left ∷ right ∷ []) world sides
      have = (has.left_has, (has.right_has, refl))

      inner : TwoInner question.filter left right first second within (without_fault has.first) (without_fault has.second)
      inner =
          two_inner question.filter left right first second old.depth is_lifted.choices within (without_fault has.first) (without_fault has.second) is_lifted.are
          (subst (λ (xs : List Operand). slice_get xs 0 ≡ Some first) is_lifted.inner is_first) (subst (λ (xs : List Operand). slice_get xs 1 ≡ Some second) is_lifted.inner is_second)
          (subst (AllHave question.filter (within_let old.depth is_lifted.choices (left ∷ right ∷ [])) within) (lifted_values is_lifted.choices (left ∷ right ∷ []) sides is_lifted.are refl plain)
          (body_have question.filter world old.depth is_lifted.choices (left ∷ right ∷ []) sides at is_lifted.are have))

      what : Made operator type has.first has.second o
      what =
          made operator type has.first has.second o has.left_number has.right_number
          (subst (λ (t : PrimitiveType). MadeOf operator t has.first has.second o) (one_type (slice_get question.filter.list.nodes place) has.type type has.computed.1 computed.1) has.made)

      inner_has : Inner within what.inner
      inner_has =
          into within (number_in has.first) (number_in has.second) what.inner
          (subst (OperandHas question.filter first within) (without_is has.first has.left_number) inner.first_has)
          (subst (OperandHas question.filter second within) (without_is has.second has.right_number) inner.second_has)
          (fits_it has.first has.left_number) (fits_it has.second has.right_number)
          (number_within left.range has.first has.left_number has.left_within) (number_within right.range has.second has.right_number has.right_within)
          (inner_within right second (number_in has.second) inner.second_is (number_within right.range has.second has.right_number has.right_within)) what.comes

      given : FaultsGiven question (left ∷ right ∷ []) lifted old is_lifted Inner Itself Itself Same world o
      given = record { os = sides; have = have; plain = plain; inner = what.inner; has = inner_has; goes = λ x form. (what.inner, form, what.is) }

    pub calculated_put : Puts question old new (CalculatedHas question.filter operator place left right) Itself
    calculated_put =
        faults_put question (left ∷ right ∷ []) lifted old is_lifted opened body new is_opened values idle Inner (CalculatedHas question.filter operator place left right) Itself Itself Same Itself
        (carried_put question lifted.bound.items lifted.level opened fronted body Inner Itself Carrier.Number front put) (λ world o at is has. given world o at has)
