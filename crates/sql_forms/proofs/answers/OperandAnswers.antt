-- What the functions that put operands return.
use Rattle.sql_forms.proofs.Common.{◌≡◌, ◌≢◌, [], ◌∷◌, ℕ, Result, OnOk, true, false, sym, subst, refl, Digit, Carrier, FieldType, SqlNode, SqlType, Draft, Operand, Source, Kind, GrowsBy, ComparedHas, NullHas, OperandHas, SourceHas, PutsPath, OfPlace, Puts, Question, by_node, where_ok}
use Rattle.sql_outcomes.specs.private.ValueForms.{Itself, OrTruth}
use Rattle.sql_forms.proofs.puts.OperandsPut.{always_null, bound_put, compared_put, field_put, missing_put, never_null, path_missing, unfaulted_put, value_null, zero_put}

-- one node more, by number
module _ (question : Question) (operand : Operand) (old new : Draft) {T E : Type 0} (r : Result T E) where
  -- the source says what the operand has
  of_source : (source : Source) → operand.source ≡ source → Puts question old new (SourceHas question.filter source) Itself → Puts question old new (OperandHas question.filter operand) Itself
  of_source source is put = subst (λ (s : Source). Puts question old new (SourceHas question.filter s) Itself) (sym is) put

  pub ok_node : (place : ℕ) → operand.source ≡ Source.Node place → OnOk r (Puts question old new (OfPlace question.filter place) Itself) → OnOk r (Puts question old new (OperandHas question.filter operand) Itself)
  ok_node place is put = where_ok (of_source (Source.Node place) is) r put

  pub ok_bound : (level : ℕ) → operand.source ≡ Source.Bound level → OnOk r (GrowsBy old new (SqlNode.Bound level ∷ []) [] []) → OnOk r (Puts question old new (OperandHas question.filter operand) Itself)
  ok_bound level is put = where_ok (λ (g : GrowsBy old new (SqlNode.Bound level ∷ []) [] []). of_source (Source.Bound level) is (bound_put question old new level (by_node old new (SqlNode.Bound level) refl g))) r put

  pub ok_unfaulted : (middle : Draft) (level : ℕ) (carrier : Carrier) → operand.source ≡ Source.Unfaulted level carrier → GrowsBy old middle (SqlNode.Unfault carrier ∷ []) [] []
      → OnOk r (GrowsBy middle new (SqlNode.Bound level ∷ []) [] []) → OnOk r (Puts question old new (OperandHas question.filter operand) Itself)
  ok_unfaulted middle level carrier is first put = where_ok (λ (g : GrowsBy middle new (SqlNode.Bound level ∷ []) [] []). of_source (Source.Unfaulted level carrier) is (unfaulted_put question old middle new level carrier (by_node old middle (SqlNode.Unfault carrier) refl first) (by_node middle new (SqlNode.Bound level) refl g))) r put

  pub ok_field : (path : ℕ) (type : FieldType) → operand.source ≡ Source.Field path type → OnOk r (GrowsBy old new (SqlNode.Field path type ∷ []) [] [])
      → OnOk r (Puts question old new (OperandHas question.filter operand) Itself)
  ok_field path type is put = where_ok (λ (g : GrowsBy old new (SqlNode.Field path type ∷ []) [] []). of_source (Source.Field path type) is (field_put question old new path type (by_node old new (SqlNode.Field path type) refl g))) r put

  pub ok_number : (place : ℕ) → operand.source ≡ Source.Number place → OnOk r (Puts question old new (SourceHas question.filter (Source.Number place)) Itself)
      → OnOk r (Puts question old new (OperandHas question.filter operand) Itself)
  ok_number place is put = where_ok (of_source (Source.Number place) is) r put

  pub ok_zero : operand.source ≡ Source.Zero → OnOk r (GrowsBy old new (SqlNode.Number Digit.Zero ∷ []) [] []) → OnOk r (Puts question old new (OperandHas question.filter operand) Itself)
  ok_zero is put = where_ok (λ (g : GrowsBy old new (SqlNode.Number Digit.Zero ∷ []) [] []). of_source Source.Zero is (zero_put question old new (by_node old new (SqlNode.Number Digit.Zero) refl g))) r put

  pub ok_compared : (type : SqlType) → operand.kind ≡ Kind.Value type → type ≢ SqlType.Moment → OnOk r (Puts question old new (OperandHas question.filter operand) Itself)
      → OnOk r (Puts question old new (ComparedHas question.filter operand) Itself)
  ok_compared type kind other put = where_ok (compared_put question operand old new type kind other) r put

  -- ---- whether it is null

  pub ok_never : operand.range.may_be_null ≡ false → OnOk r (GrowsBy old new (SqlNode.Truth false ∷ []) [] []) → OnOk r (Puts question old new (NullHas question.filter operand) (OrTruth Itself))
  ok_never never put = where_ok (λ (g : GrowsBy old new (SqlNode.Truth false ∷ []) [] []). never_null question operand old new never (by_node old new (SqlNode.Truth false) refl g)) r put

  pub ok_always : operand.kind ≡ Kind.Null → OnOk r (GrowsBy old new (SqlNode.Truth true ∷ []) [] []) → OnOk r (Puts question old new (NullHas question.filter operand) (OrTruth Itself))
  ok_always kind put = where_ok (λ (g : GrowsBy old new (SqlNode.Truth true ∷ []) [] []). always_null question operand old new kind (by_node old new (SqlNode.Truth true) refl g)) r put

  pub ok_missing : (path : ℕ) → operand.source ≡ Source.Place path → OnOk r (GrowsBy old new (SqlNode.IsMissing path ∷ []) [] []) → OnOk r (Puts question old new (NullHas question.filter operand) (OrTruth Itself))
  ok_missing path is put = where_ok (λ (g : GrowsBy old new (SqlNode.IsMissing path ∷ []) [] []). missing_put question operand old new path is (by_node old new (SqlNode.IsMissing path) refl g)) r put

  pub ok_null : (middle : Draft) → GrowsBy old middle (SqlNode.IsNull ∷ []) [] [] → OnOk r (Puts question middle new (OperandHas question.filter operand) Itself)
      → OnOk r (Puts question old new (NullHas question.filter operand) (OrTruth Itself))
  ok_null middle first put = where_ok (value_null question operand old middle new (by_node old middle SqlNode.IsNull refl first)) r put

  pub ok_path : (middle : Draft) (place number : ℕ) → operand.source ≡ Source.Node place → PutsPath question old middle place number → OnOk r (GrowsBy middle new (SqlNode.IsMissing number ∷ []) [] [])
      → OnOk r (Puts question old new (NullHas question.filter operand) (OrTruth Itself))
  ok_path middle place number is path put = where_ok (λ (g : GrowsBy middle new (SqlNode.IsMissing number ∷ []) [] []). path_missing question operand place number old middle new is path (by_node middle new (SqlNode.IsMissing number) refl g)) r put
