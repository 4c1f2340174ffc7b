-- The code of a comparison whose left side may be null instead of a fault.
use Rattle.sql_forms.proofs.Common.{◌≡◌, inl, inr, ◌∷◌, [], List, Bool, Option, Some, None, length, refl, sym, subst, slice_get, null, ComparisonOperator, Filter, Outcome, gives, overflow, divides_by_zero, IsCoded, code_of, without_fault, truth, SqlMeans, Draft, Lifted, Operand, Kind, Form, ComparisonHas, FaultyHave, NoTruth, Grows, IsOfKind, AllHave, ArePlain, IsLifted, IsOpened, faults_front, faults_of, within_let, AsCode, FaultyOrNull, IsPlainValue, NullBeside, OperandHas, IsWorldOf, Puts, PutsAll, Question, World, puts_as}
use Rattle.sql_forms.specs.Forms.{IsInForm}
use Rattle.sql_outcomes.proofs.outcomes.Apart.{null_kind}
use Rattle.sql_outcomes.proofs.outcomes.CodeTables.{code_below_5, coded, Coded}
use Rattle.sql_forms.proofs.puts.EqualCodesPut.{own_code, reported_coded}
use Rattle.sql_forms.proofs.puts.FaultyComparisonsPut.{OrCode, body, have, plain_has, unfaulted_value}
use Rattle.sql_outcomes.proofs.outcomes.LiftedFaults.{TwoInner, lifted_values, two_inner}
use Rattle.sql_forms.proofs.lets.LiftedPut.{closed, coded_put}
use Rattle.sql_outcomes.proofs.outcomes.LiftedValues.{body_have}
use Rattle.sql_forms.proofs.lets.LiftedWhole.{FaultsGiven, faults_put, in_body}

-- ---- what a comparison evaluates to

faulty_coded : (filter : Filter) (operator : ComparisonOperator) (left right : Operand) (world : World) (o : Outcome) → FaultyHave filter operator left right world o → IsCoded o
faulty_coded filter operator left right world o has = reported_coded has.left_outcome has.right_outcome o operator has.given

-- a code alone
pub only_code_put : (question : Question) (operator : ComparisonOperator) (left right : Operand) (old new : Draft) → Puts question old new (FaultyOrNull question.filter operator left right) AsCode
    → Puts question old new (FaultyHave question.filter operator left right) (IsInForm Form.Code)
only_code_put question operator left right old new inner =
    puts_as question old new (FaultyOrNull question.filter operator left right) (FaultyHave question.filter operator left right) AsCode (IsInForm Form.Code) inner
    (λ world o is has. (o, inl has, λ x form. form.0 (faulty_coded question.filter operator left right world o has)))

-- and one of an operator whose left side is never null instead of a fault
pub as_code_put : (question : Question) (operator : ComparisonOperator) (left right : Operand) → (IsPlainValue left.kind → ⊥) → (old new : Draft)
    → Puts question old new (FaultyHave question.filter operator left right) Coded → Puts question old new (FaultyOrNull question.filter operator left right) AsCode
as_code_put question operator left right no_value old new inner = record {
  t = inner.t;
  shaped = inner.shaped;
  grows = inner.grows;
  says = λ world o is has. by world o is has;
}
  where
    by : (world : World) (o : Outcome) → IsWorldOf question new world → FaultyOrNull question.filter operator left right world o
        → (x : Outcome) × SqlMeans world.asked world.bound inner.t x × AsCode o x
    by world o is (inl has) =
        let m = inner.says world o is has in
        (m.0, m.1, subst (AsCode o) (sym m.2) (own_code o (faulty_coded question.filter operator left right world o has)))
    by world o is (inr nulls) = absurd (no_value nulls.value)

-- ---- of two sides that are no truth values

-- the code of the second outcome serves the first as one
abbrev IntoCode : Outcome → Outcome → Type 0
IntoCode o f = AsCode o (coded f)

faults_coded : (r : Outcome) (t : Option Bool) → IsCoded (faults_of (gives null ∷ r ∷ []) (truth t))
faults_coded (gives v) None = tt
faults_coded (gives v) (Some b) = tt
faults_coded overflow t = tt
faults_coded divides_by_zero t = tt

module _ (question : Question) (operator : ComparisonOperator) (left right first second : Operand) (lifted : Lifted) (old : Draft) (is_lifted : IsLifted (left ∷ right ∷ []) old.depth lifted)
    (at_first : slice_get lifted.inner.items 0 ≡ Some first) (at_second : slice_get lifted.inner.items 1 ≡ Some second) (no_left : NoTruth left) (no_right : NoTruth right) where
  is_first : slice_get (within_let old.depth is_lifted.choices (left ∷ right ∷ [])) 0 ≡ Some first
  is_first = subst (λ (xs : List Operand). slice_get xs 0 ≡ Some first) is_lifted.inner at_first

  is_second : slice_get (within_let old.depth is_lifted.choices (left ∷ right ∷ [])) 1 ≡ Some second
  is_second = subst (λ (xs : List Operand). slice_get xs 1 ≡ Some second) is_lifted.inner at_second

  abbrev Given : World → Outcome → Type 0
  Given = FaultsGiven question (left ∷ right ∷ []) lifted old is_lifted (ComparisonHas question.filter operator first second) OrCode Coded IntoCode

  module _ (world : World) (o : Outcome) (at : old.depth ≡ length world.bound) where
    -- ---- a comparison, whatever its sides evaluate to

    of_faulty : FaultyHave question.filter operator left right world o → Given world o
    of_faulty has =
        let choices = is_lifted.choices in
        let b = body question operator left right first second old.depth choices is_lifted.are is_first is_second world o at no_left no_right has in
        record {
          os = has.left_outcome ∷ has.right_outcome ∷ [];
          have = have question operator left right first second old.depth choices is_lifted.are is_first is_second world o at no_left no_right has;
          plain = (has.left_plain no_left, (has.right_plain no_right, tt));
          inner = b.marked;
          has = b.marked_has;
          goes = λ x form.
              let g = b.goes x form in
              (g.0, g.1, subst (λ (p : Outcome). AsCode o (coded p)) g.2 (own_code o (faulty_coded question.filter operator left right world o has)));
        }

    -- ---- null instead of a fault

    module _ (has : NullBeside question.filter left right world o) where
      abbrev os : List Outcome
      os = gives null ∷ has.right_outcome ∷ []

      abbrev within : World
      within = in_body question (left ∷ right ∷ []) lifted old is_lifted world os

      have_null : AllHave question.filter (left ∷ right ∷ []) world os
      have_null = (has.left_null.has, (plain_has question.filter right.kind right.source world has.right_outcome no_right has.right_has, refl))

      plain : ArePlain (left ∷ right ∷ []) os
      plain = (λ none. (null, refl), (has.right_plain no_right, tt))

      inner : TwoInner question.filter left right first second within (gives null) (without_fault has.right_outcome)
      inner =
          two_inner question.filter left right first second old.depth is_lifted.choices within (gives null) (without_fault has.right_outcome) is_lifted.are is_first is_second
          (subst (AllHave question.filter (within_let old.depth is_lifted.choices (left ∷ right ∷ [])) within) (lifted_values is_lifted.choices (left ∷ right ∷ []) os is_lifted.are refl plain)
          (body_have question.filter world old.depth is_lifted.choices (left ∷ right ∷ []) os at is_lifted.are have_null))

      compared : ComparisonHas question.filter operator first second within overflow
      compared =
          let w = unfaulted_value right has.right_outcome has.right_fits in
          inr (
            tt,
            (
              null,
              w.0,
              record { has = inner.first_has; kind = null_kind first.kind },
              record { has = subst (OperandHas question.filter second within) w.1 inner.second_has; kind = subst (λ (k : Kind). IsOfKind k w.0) (sym inner.second_is.kind) w.2 },
              inl refl,
            ),
          )

      of_null : Given world o
      of_null = record {
        os = os;
        have = have_null;
        plain = plain;
        inner = overflow;
        has = compared;
        goes = λ x form.
            let rest : Outcome = truth form.0 in
            let is_coded : IsCoded (faults_of os rest) = faults_coded has.right_outcome form.0 in
            (rest, form.1, (λ is. absurd (has.unsaid is), code_of (faults_of os rest), code_below_5 (faults_of os rest) is_coded, refl));
      }

  -- their faults first, and else the code of the comparison
  pub compared_code_put : (opened fronted body new : Draft) → IsOpened lifted old opened → PutsAll question (closed body (length lifted.bound.items)) new (AllHave question.filter lifted.bound.items) (length lifted.bound.items)
      → (lifted.bound.items ≡ [] → Grows (closed body (length lifted.bound.items)) new []) → Grows opened fronted (faults_front None lifted.level lifted.bound.items)
      → Puts question fronted body (ComparisonHas question.filter operator first second) OrCode → Puts question old new (FaultyOrNull question.filter operator left right) AsCode
  compared_code_put opened fronted body new is_opened values idle front put =
      faults_put question (left ∷ right ∷ []) lifted old is_lifted opened body new is_opened values idle (ComparisonHas question.filter operator first second)
      (FaultyOrNull question.filter operator left right) OrCode Coded IntoCode AsCode
      (coded_put question lifted.bound.items lifted.level opened fronted body (ComparisonHas question.filter operator first second) OrCode IntoCode AsCode (λ o f is. is) front put)
      (λ world o at is has. by world o at has)
    where
      by : (world : World) (o : Outcome) → old.depth ≡ length world.bound → FaultyOrNull question.filter operator left right world o → Given world o
      by world o at (inl has) = of_faulty world o at has
      by world o at (inr nulls) = of_null world o at nulls
