-- What `put_calculated` and `put_arithmetic` return.
use Rattle.sql_forms.proofs.Common.{◌≡◌, ◌∷◌, ◌∙◌, [], ℕ, Result, OnOk, Some, length, subst, sym, refl, slice_get, PrimitiveType, EdmType, ValueType, Filter, CheckedNode, found_there, some_there, FieldType, IsOfTypeAt, single_of, NeverFaults, ArithmeticOperator, Carrier, SqlNode, Draft, Operand, Lifted, CalculatedHas, CheckedHas, IsComputedIn, PlainHas, Grows, GrowsBy, AllHave, IsLifted, IsOpened, faults_front, OperandHas, Puts, PutsAll, Question, by_node, on_both}
use Rattle.sql_outcomes.specs.private.ValueForms.{Itself}
use Rattle.sql_forms.proofs.lets.CalculatedLet.{calculated_put}
use Rattle.sql_forms.proofs.lets.LiftedPut.{closed}
use Rattle.sql_forms.proofs.puts.PlainPut.{checked_of, plain_of, plain_put}

module _ (question : Question) (operator : ArithmeticOperator) (place : ℕ) (type : PrimitiveType) (computed : IsComputedIn question.filter place type) (left right first second : Operand) (lifted : Lifted)
    (old opened fronted body new : Draft) (is_lifted : IsLifted (left ∷ right ∷ []) old.depth lifted) (is_opened : IsOpened lifted old opened)
    (front : Grows opened fronted (faults_front (Some Carrier.Number) lifted.level lifted.bound.items)) (is_first : slice_get lifted.inner.items 0 ≡ Some first) (is_second : slice_get lifted.inner.items 1 ≡ Some second)
    {T E : Type 0} (r : Result T E) (values : OnOk r (PutsAll question (closed body (length lifted.bound.items)) new (AllHave question.filter lifted.bound.items) (length lifted.bound.items)))
    (idle : OnOk r (lifted.bound.items ≡ [] → Grows (closed body (length lifted.bound.items)) new [])) where
  -- the result is checked against the type
  pub ok_checked : Puts question fronted body (CheckedHas question.filter operator type first second) Itself → OnOk r (Puts question old new (CalculatedHas question.filter operator place left right) Itself)
  ok_checked put =
      on_both r (PutsAll question (closed body (length lifted.bound.items)) new (AllHave question.filter lifted.bound.items) (length lifted.bound.items)) (lifted.bound.items ≡ [] → Grows (closed body (length lifted.bound.items)) new [])
      (Puts question old new (CalculatedHas question.filter operator place left right) Itself)
      (λ v i. calculated_put question operator place type computed left right first second (CheckedHas question.filter operator type first second) (checked_of question operator type left right first second)
      lifted old opened fronted body new is_lifted is_opened front put is_first is_second v i) values idle

  -- it cannot lie outside
  pub ok_safe : NeverFaults operator type left.range right.range → (middle next : Draft) → GrowsBy fronted middle (SqlNode.Plain operator ∷ []) [] [] → Puts question middle next (OperandHas question.filter first) Itself
      → Puts question next body (OperandHas question.filter second) Itself → OnOk r (Puts question old new (CalculatedHas question.filter operator place left right) Itself)
  ok_safe never middle next grows one two =
      on_both r (PutsAll question (closed body (length lifted.bound.items)) new (AllHave question.filter lifted.bound.items) (length lifted.bound.items)) (lifted.bound.items ≡ [] → Grows (closed body (length lifted.bound.items)) new [])
      (Puts question old new (CalculatedHas question.filter operator place left right) Itself)
      (λ v i. calculated_put question operator place type computed left right first second (PlainHas question.filter operator first second) (plain_of question operator type left right first second never)
      lifted old opened fronted body new is_lifted is_opened front (plain_put question operator first second fronted middle next body (by_node fronted middle (SqlNode.Plain operator) refl grows) one two) is_first is_second v i) values idle

-- ---- the type in which a node is computed

same_primitive : (a b : PrimitiveType) → EdmType.Single (ValueType.Prim a) ≡ EdmType.Single (ValueType.Prim b) → a ≡ b
same_primitive a b same = cc

no_member : (a : PrimitiveType) (id : ℕ) → EdmType.Single (ValueType.Prim a) ≡ EdmType.Single (ValueType.Enum id) → ⊥
no_member a id same = cc

module _ (filter : Filter) (place : ℕ) (number : (type : PrimitiveType) × IsComputedIn filter place type) where
  is_number : (type : EdmType) → IsOfTypeAt filter place type → EdmType.Single (ValueType.Prim number.0) ≡ type
  is_number type is =
      let s = some_there (λ (n : CheckedNode). n.edm_type ≡ type) (slice_get filter.list.nodes place) is in
      let own = found_there (λ (n : CheckedNode). n.edm_type ≡ EdmType.Single (ValueType.Prim number.0)) (slice_get filter.list.nodes place) s.0 s.1.0 number.1.1 in
      sym own ∙ s.1.1

  pub computed_in : (field : FieldType) → IsOfTypeAt filter place (EdmType.Single (single_of field)) → (type : PrimitiveType) → field ≡ FieldType.Prim type → IsComputedIn filter place type
  computed_in field is type primitive =
      let there = subst (λ (f : FieldType). IsOfTypeAt filter place (EdmType.Single (single_of f))) primitive is in
      subst (IsComputedIn filter place) (same_primitive number.0 type (is_number (EdmType.Single (ValueType.Prim type)) there)) number.1

  pub computed_in_no_enumeration : (field : FieldType) → IsOfTypeAt filter place (EdmType.Single (single_of field)) → (id : ℕ) → field ≡ FieldType.Enum id → ⊥
  computed_in_no_enumeration field is id enumeration =
      let there = subst (λ (f : FieldType). IsOfTypeAt filter place (EdmType.Single (single_of f))) enumeration is in
      no_member number.0 id (is_number (EdmType.Single (ValueType.Enum id)) there)
