-- The code of `in` before a list: the fault of its left side, and else the code of whether an item is equal.
use Rattle.sql_forms.proofs.Common.{HasValue, ◌≡◌, ◌≢◌, inl, inr, ◌∷◌, [], ℕ, List, Bool, true, false, Option, Some, None, length, map, refl, sym, ap, subst, ◌∙◌, IsSomeAnd, pos, slice_get, AllByRecursion, Val, whole, ComparisonOperator, Filter, CompareGives, Then, Outcome, gives, IsCoded, code_of, BoundValue, bound_value, SqlType, IsFault, Draft, Lifted, Operand, Source, Kind, CodeHas, FaultyHave, HasOrCode, NoTruth, Grows, AllHave, IsLifted, IsOpened, carrier_in, chosen_of, faults_front, faults_of, AsCode, EachCompared, EqualCodesOrNull, IsPlainValue, ListHas, NullBeside, any_of, SourceHas, carrier_of, IsAskedOf, OfPlace, Puts, PutsAll, Question, World, extended}
use Rattle.sql_outcomes.proofs.outcomes.Apart.{stays_fault as fault_stays}
use Rattle.sql_outcomes.proofs.nodes.Binding.{found, stays}
use Rattle.sql_forms.proofs.puts.EqualCodesPut.{any_coded, each_coded, outcome_of_code}
use Rattle.sql_forms.proofs.lets.OneLeft.{one_is, one_null, one_value}
use Rattle.sql_forms.proofs.puts.FaultyComparisonsPut.{plain_has}
use Rattle.sql_outcomes.proofs.outcomes.LiftedFaults.{IsInner}
use Rattle.sql_outcomes.proofs.outcomes.CodeTables.{Coded}
use Rattle.sql_forms.proofs.lets.LiftedPut.{Same, closed, coded_put, same_coded}
use Rattle.sql_outcomes.proofs.outcomes.LiftedValues.{source_stays}
use Rattle.sql_forms.proofs.lets.LiftedWhole.{FaultsGiven, faults_put, in_body}

-- ---- operands in a body

code_stays : (filter : Filter) (source : Source) (world : World) (more : List BoundValue) (o : Outcome) → CodeHas filter source world o → CodeHas filter source (extended world more) o
code_stays filter (Source.Bound level) world more o has =
    let b = found (slice_get world.bound level) (λ (b : BoundValue). b.value ≡ gives (whole (pos (code_of o)))) has in
    subst (λ (held : Option BoundValue). IsSomeAnd held (λ b. b.value ≡ gives (whole (pos (code_of o))))) (sym (stays world.bound more level b.0 b.1)) b.2
code_stays filter source world more o has = source_stays filter source world more o has

pub has_stays : (filter : Filter) (kind : Kind) (source : Source) (world : World) (more : List BoundValue) (o : Outcome) → HasOrCode filter kind source world o → HasOrCode filter kind source (extended world more) o
has_stays filter (Kind.Value SqlType.Truth) source world more o has = code_stays filter source world more o has
has_stays filter kind source world more o has = source_stays filter source world more o has

has_plain : (filter : Filter) (kind : Kind) (source : Source) (world : World) (o : Outcome) → kind ≢ Kind.Value SqlType.Truth → SourceHas filter source world o → HasOrCode filter kind source world o
has_plain filter (Kind.Value SqlType.Truth) source world o other has = absurd (other refl)
has_plain filter kind source world o other has = has

-- what carries a fault is a value
no_carrier : (b : Bool) → carrier_of b Kind.Null ≡ None
no_carrier true = refl
no_carrier false = refl

no_carrier_within : (b : Bool) → carrier_of b Kind.Structured ≡ None
no_carrier_within true = refl
no_carrier_within false = refl

carries_value : (b : Bool) (kind : Kind) → kind ≢ Kind.Value SqlType.Truth → (carrier_of b kind ≡ None → ⊥) → IsPlainValue kind
carries_value b Kind.Null other carries = absurd (carries (no_carrier b))
carries_value b (Kind.Value SqlType.Truth) other carries = absurd (other refl)
carries_value b (Kind.Value type) other carries = tt
carries_value b Kind.Structured other carries = absurd (carries (no_carrier_within b))

module _ (question : Question) (place : ℕ) (left first : Operand) (items : List Operand) (lifted : Lifted) (old : Draft) (is_lifted : IsLifted (left ∷ []) old.depth lifted) (no_truth : NoTruth left)
    (at_first : slice_get lifted.inner.items 0 ≡ Some first)
    (comes : (world : World) (o : Outcome) → IsAskedOf question world → OfPlace question.filter place world o → ListHas question.filter left items world o) where
  inner_is : IsInner left first
  inner_is = one_is question left first lifted old is_lifted at_first

  module _ (world : World) (o : Outcome) (at : old.depth ≡ length world.bound) (come : ListHas question.filter left items world o) where
    abbrev os : List Outcome
    os = come.left_outcome ∷ []

    abbrev more : List BoundValue
    more = map bound_value (chosen_of is_lifted.choices os)

    abbrev within : World
    within = in_body question (left ∷ []) lifted old is_lifted world os

    have : AllHave question.filter (left ∷ []) world os
    have = (plain_has question.filter left.kind left.source world come.left_outcome no_truth come.left_has, refl)

    record Given : Type 0 where
      inner : Outcome
      has : EqualCodesOrNull question.filter first items within inner
      goes : (x : Outcome) → AsCode inner x → (rest : Outcome) × Coded rest x × (o ≡ faults_of os rest)

    -- of a value: each item beside it
    module _ (l : Val) (is : come.left_outcome ≡ gives l) where
      first_value_has : (v : Val) → gives l ≡ gives v → HasValue question.filter first within v
      first_value_has v same = one_value question left first lifted old is_lifted at_first world come.left_outcome at have.0 (come.left_plain no_truth) v (is ∙ same) (come.left_fits v (is ∙ same))

      compared : (item : Operand) (e : Outcome) (f : FaultyHave question.filter ComparisonOperator.Eq left item world e) → f.left_outcome ≡ come.left_outcome
          → (g : FaultyHave question.filter ComparisonOperator.Eq first item within e) × (g.left_outcome ≡ gives l)
      compared item e f same =
          let left_same : f.left_outcome ≡ gives l = same ∙ is in (
            record {
              left_outcome = gives l;
              right_outcome = f.right_outcome;
              left_has = has_plain question.filter first.kind first.source within (gives l) (λ is. no_truth (sym inner_is.kind ∙ is)) (first_value_has l refl).has;
              right_has = has_stays question.filter item.kind item.source world more f.right_outcome f.right_has;
              left_fits = λ v same_value. (first_value_has v same_value).fits;
              right_fits = f.right_fits;
              left_plain = λ no_first none. (l, refl);
              right_plain = f.right_plain;
              given = subst (λ (p : Outcome). Then p (λ x. Then f.right_outcome (CompareGives ComparisonOperator.Eq x)) e) left_same f.given;
            },
            refl,
          )

      all_compared : (xs : List Operand) (es : List Outcome) → EachCompared question.filter left come.left_outcome xs world es → EachCompared question.filter first (gives l) xs within es
      all_compared [] es each = each
      all_compared (item ∷ xs) [] each = absurd each
      all_compared (item ∷ xs) (e ∷ es) each = let g = compared item e each.0 each.1 in (g.0, g.1, all_compared xs es each.2)

      of_value : Given
      of_value = record {
        inner = any_of come.outcomes;
        has = inl (record { left_outcome = gives l; outcomes = come.outcomes; each = all_compared items come.outcomes come.each; is = refl });
        goes = λ x form. (
          any_of come.outcomes,
          form.0 (any_coded come.outcomes (each_coded question.filter left come.left_outcome items world come.outcomes come.each)),
          come.is,
        );
      }

    -- of a fault, instead of which null stands
    module _ (fault : IsFault come.left_outcome) where
      carries : carrier_in left ≡ None → ⊥
      carries none = let v = come.left_plain no_truth none in let value : IsFault (gives v.0) = subst IsFault v.1 fault in value

      unsaid : IsCoded (gives (whole (pos 0))) → ⊥
      unsaid is = is

      beside : (item : Operand) (e : Outcome) → FaultyHave question.filter ComparisonOperator.Eq left item world e → NullBeside question.filter first item within (gives (whole (pos 0)))
      beside item e f = record {
        unsaid = unsaid;
        value = subst IsPlainValue (sym inner_is.kind) (carries_value left.range.may_fault left.kind no_truth carries);
        left_null = one_null question left first lifted old is_lifted at_first world come.left_outcome at have.0 (come.left_plain no_truth) fault;
        right_outcome = f.right_outcome;
        right_has = has_stays question.filter item.kind item.source world more f.right_outcome f.right_has;
        right_fits = f.right_fits;
        right_plain = f.right_plain;
      }

      all_beside : (xs : List Operand) (es : List Outcome) → EachCompared question.filter left come.left_outcome xs world es
          → AllByRecursion (λ (item : Operand). NullBeside question.filter first item within (gives (whole (pos 0)))) xs
      all_beside [] es each = tt
      all_beside (item ∷ xs) [] each = absurd each
      all_beside (item ∷ xs) (e ∷ es) each = (beside item e each.0, all_beside xs es each.2)

      of_fault : Given
      of_fault = record {
        inner = gives (whole (pos 0));
        has = inr (unsaid, all_beside items come.outcomes come.each);
        goes = λ x form.
            let p = outcome_of_code form.1 form.2 in (
              p.0,
              form.3 ∙ ap (λ (n : ℕ). gives (whole (pos n))) (sym p.2),
              come.is ∙ fault_stays come.left_outcome (any_of come.outcomes) fault ∙ sym (fault_stays come.left_outcome p.0 fault),
            );
      }

    given : Given
    given = by come.left_outcome refl
      where
        by : (lo : Outcome) → come.left_outcome ≡ lo → Given
        by (gives l) is = of_value l is
        by _ is = of_fault (subst IsFault (sym is) tt)

    list_given : FaultsGiven question (left ∷ []) lifted old is_lifted (EqualCodesOrNull question.filter first items) AsCode Coded Same world o
    list_given = let g = given in record { os = os; have = have; plain = (come.left_plain no_truth, tt); inner = g.inner; has = g.has; goes = g.goes }

  pub list_code_put : (opened fronted body new : Draft) → IsOpened lifted old opened → PutsAll question (closed body (length lifted.bound.items)) new (AllHave question.filter lifted.bound.items) (length lifted.bound.items)
      → (lifted.bound.items ≡ [] → Grows (closed body (length lifted.bound.items)) new []) → Grows opened fronted (faults_front None lifted.level lifted.bound.items)
      → Puts question fronted body (EqualCodesOrNull question.filter first items) AsCode → Puts question old new (OfPlace question.filter place) Coded
  list_code_put opened fronted body new is_opened values idle front put =
      faults_put question (left ∷ []) lifted old is_lifted opened body new is_opened values idle (EqualCodesOrNull question.filter first items) (OfPlace question.filter place) AsCode Coded Same Coded
      (coded_put question lifted.bound.items lifted.level opened fronted body (EqualCodesOrNull question.filter first items) AsCode Same Coded same_coded front put)
      (λ world o at is has. list_given world o at (comes world o is.seen has))
