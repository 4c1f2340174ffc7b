-- A comparison in the body of a `Let`: what is put for one that is true of two nulls, with the `Let` around it.
use Rattle.sql_forms.proofs.Common.{◌≡◌, ◌≢◌, ◌∷◌, [], inl, inr, List, Some, Result, Ok, Err, OnOk, length, refl, sym, subst, slice_get, Val, null, Outcome, gives, ComparesTrue, ComparisonOperator, SqlNode, Draft, Lifted, Operand, Kind, ComparisonHas, StrictHas, Grows, GrowsBy, IsOfKind, AllHave, IsLifted, IsOpened, within_let, Fits, HasLoosely, HasValue, NullHas, OperandHas, Puts, PutsAll, Question, World, by_node}
use Rattle.sql_outcomes.specs.private.ValueForms.{Itself, OrTruth}
use Rattle.sql_outcomes.proofs.outcomes.LiftedFaults.{IsInner, TwoInner, lifted_values, two_inner, inner_fits}
use Rattle.sql_forms.proofs.lets.LiftedPut.{closed}
use Rattle.sql_outcomes.proofs.outcomes.LiftedValues.{body_have}
use Rattle.sql_forms.proofs.lets.LiftedWhole.{BodyGiven, in_body, lifted_put}
use Rattle.sql_forms.proofs.puts.OrNullsPut.{or_nulls_put}

module _ (question : Question) (operator : ComparisonOperator) (left right first second : Operand) (lifted : Lifted) (old : Draft) (is_lifted : IsLifted (left ∷ right ∷ []) old.depth lifted)
    (is_first : slice_get lifted.inner.items 0 ≡ Some first) (is_second : slice_get lifted.inner.items 1 ≡ Some second) where
  abbrev values_of : Val → Val → List Outcome
  values_of l r = gives l ∷ gives r ∷ []

  module _ (world : World) (o : Outcome) (at : old.depth ≡ length world.bound) where
    -- the two operands of the body evaluate to the same values
    inner_of : (l r : Val) → OperandHas question.filter left world (gives l) → OperandHas question.filter right world (gives r)
        → TwoInner question.filter left right first second (in_body question (left ∷ right ∷ []) lifted old is_lifted world (values_of l r)) (gives l) (gives r)
    inner_of l r left_has right_has =
        two_inner question.filter left right first second old.depth is_lifted.choices (in_body question (left ∷ right ∷ []) lifted old is_lifted world (values_of l r)) (gives l) (gives r) is_lifted.are
        (subst (λ (xs : List Operand). slice_get xs 0 ≡ Some first) is_lifted.inner is_first) (subst (λ (xs : List Operand). slice_get xs 1 ≡ Some second) is_lifted.inner is_second)
        (subst (AllHave question.filter (within_let old.depth is_lifted.choices (left ∷ right ∷ [])) (in_body question (left ∷ right ∷ []) lifted old is_lifted world (values_of l r)))
        (lifted_values is_lifted.choices (left ∷ right ∷ []) (values_of l r) is_lifted.are refl ((λ none. (l, refl)), ((λ none. (r, refl)), tt)))
        (body_have question.filter world old.depth is_lifted.choices (left ∷ right ∷ []) (values_of l r) at is_lifted.are (left_has, (right_has, refl))))

    value_in : (outer inner : Operand) (within : World) (v : Val) → IsInner outer inner → OperandHas question.filter inner within (gives v) → Fits outer v → HasValue question.filter inner within v
    value_in outer inner within v is has fits = record { has = has; fits = inner_fits outer inner v is fits }

    loose_in : (outer inner : Operand) (within : World) (v : Val) → IsInner outer inner → OperandHas question.filter inner within (gives v) → IsOfKind outer.kind v → HasLoosely question.filter inner within v
    loose_in outer inner within v is has kind = record { has = has; kind = subst (λ (k : Kind). IsOfKind k v) (sym is.kind) kind }

    -- so does the comparison
    pub comparison_in : ComparisonHas question.filter operator left right world o
        → BodyGiven question (left ∷ right ∷ []) lifted old is_lifted (ComparisonHas question.filter operator first second) (OrTruth Itself) (OrTruth Itself) world o
    comparison_in (inl given) =
        let within = in_body question (left ∷ right ∷ []) lifted old is_lifted world (values_of given.0 given.1) in
        let inner = inner_of given.0 given.1 given.2.has given.3.has in
        record {
          os = values_of given.0 given.1;
          have = (given.2.has, (given.3.has, refl));
          inner = o;
          has = inl (
            given.0,
            given.1,
            value_in left first within given.0 inner.first_is inner.first_has given.2.fits,
            value_in right second within given.1 inner.second_is inner.second_has given.3.fits,
            given.4,
          );
          goes = λ x form. form;
        }
    comparison_in (inr fault) =
        let within = in_body question (left ∷ right ∷ []) lifted old is_lifted world (values_of fault.1.0 fault.1.1) in
        let inner = inner_of fault.1.0 fault.1.1 fault.1.2.has fault.1.3.has in
        record {
          os = values_of fault.1.0 fault.1.1;
          have = (fault.1.2.has, (fault.1.3.has, refl));
          inner = o;
          has = inr (
            fault.0,
            (
              fault.1.0,
              fault.1.1,
              loose_in left first within fault.1.0 inner.first_is inner.first_has fault.1.2.kind,
              loose_in right second within fault.1.1 inner.second_is inner.second_has fault.1.3.kind,
              fault.1.4,
            ),
          );
          goes = λ x form. form;
        }

  module _ (opened d1 d2 d3 d4 d5 body new : Draft) (is_opened : IsOpened lifted old opened) (other : operator ≢ ComparisonOperator.Ne) (of_nulls : ComparesTrue operator null null)
      (or_node : GrowsBy opened d1 (SqlNode.Or ∷ []) [] []) (true_node : GrowsBy d1 d2 (SqlNode.IsTrue ∷ []) [] []) (strict : Puts question d2 d3 (StrictHas question.filter operator first second) Itself)
      (and_node : GrowsBy d3 d4 (SqlNode.And ∷ []) [] []) (left_null : Puts question d4 d5 (NullHas question.filter first) (OrTruth Itself))
      (right_null : Puts question d5 body (NullHas question.filter second) (OrTruth Itself)) where
    pub ok_or_nulls : {T E : Type 0} (r : Result T E) → OnOk r (PutsAll question (closed body (length lifted.bound.items)) new (AllHave question.filter lifted.bound.items) (length lifted.bound.items))
        → OnOk r (lifted.bound.items ≡ [] → Grows (closed body (length lifted.bound.items)) new []) → OnOk r (Puts question old new (ComparisonHas question.filter operator left right) (OrTruth Itself))
    ok_or_nulls (Ok v) values idle =
        lifted_put question (left ∷ right ∷ []) lifted old is_lifted opened body new is_opened values idle (ComparisonHas question.filter operator first second)
        (ComparisonHas question.filter operator left right) (OrTruth Itself) (OrTruth Itself)
        (or_nulls_put question first second operator opened d1 d2 d3 d4 d5 body other of_nulls (by_node opened d1 SqlNode.Or refl or_node) (by_node d1 d2 SqlNode.IsTrue refl true_node) strict
        (by_node d3 d4 SqlNode.And refl and_node) left_null right_null)
        (λ world o at is has. comparison_in world o at has)
    ok_or_nulls (Err e) values idle = tt
