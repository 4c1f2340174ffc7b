-- What the functions return that put nodes of truth values.
use Rattle.sql_forms.proofs.Common.{◌≡◌, ◌+◌, ◌∷◌, [], ℕ, List, false, Result, OnOk, refl, IsSomeAnd, slice_get, IsMoment, NodeKind, EndsOnceOnEntities, HasKind, OneLiteralValue, Outcome, Range, ComparisonOperator, LiteralKind, IsTableOfNot, LookUp, SqlNode, SqlType, Draft, Operand, Kind, Form, ComparisonHas, FaultyHave, IsComparisonOf, GrowsBy, kind_of_type, IsLiteralAt, AreRanges, IsFaultless, IsTruthAt, OfPlace, Puts, Question, by_node, puts_as, literal_there, where_ok}
use Rattle.sql_forms.specs.Forms.{IsInForm}
use Rattle.sql_forms.specs.private.AskedForms.{IsAskedCode, asked_digit}
use Rattle.sql_outcomes.specs.private.ValueForms.{Itself, OrTruth}
use Rattle.sql_forms.proofs.puts.CodeConditions.{code_condition}
use Rattle.sql_forms.proofs.puts.FormsPut.{comparison_code_put, code_by_truth, code_there, denies_by_truth, keeps_by_truth, null_asked_put, null_truth_put, value_there}
use Rattle.sql_outcomes.proofs.nodes.ComparisonPlaces.{comparison_put}
use Rattle.sql_outcomes.proofs.nodes.NotNodes.{not_code_put}
use Rattle.sql_forms.proofs.puts.NotPut.{not_denies, not_keeps, not_truth_put}

module _ (question : Question) (ranges : List Range) (are : AreRanges question ranges) (ends : EndsOnceOnEntities) (is_moment : IsMoment question.now.civil question.now.offset_minutes) (place : ℕ)
    {T E : Type 0} (r : Result T E) where
  -- what is put for the node, in a form
  abbrev pub PutIn : Form → Draft → Draft → Type 0
  PutIn form old new = Puts question old new (OfPlace question.filter place) (IsInForm form)

  -- ---- of type Null

  module _ (truth : IsTruthAt question.filter place) (is_null : IsSomeAnd (slice_get question.filter.list.nodes place) (λ node. kind_of_type node.edm_type ≡ Kind.Null)) where
    pub ok_null_truth : (old new : Draft) → OnOk r (GrowsBy old new (SqlNode.Null SqlType.Truth ∷ []) [] []) → OnOk r (PutIn Form.Truth old new)
    ok_null_truth old new put =
        where_ok (λ (g : GrowsBy old new (SqlNode.Null SqlType.Truth ∷ []) [] []). null_truth_put question ranges are ends is_moment place truth is_null old new (by_node old new (SqlNode.Null SqlType.Truth) refl g)) r put

    pub ok_null_asked : (form : Form) → IsAskedCode form → (old new : Draft) → OnOk r (GrowsBy old new (SqlNode.Truth false ∷ []) [] []) → OnOk r (PutIn form old new)
    ok_null_asked form asked old new put =
        where_ok (λ (g : GrowsBy old new (SqlNode.Truth false ∷ []) [] []). null_asked_put question ranges are ends is_moment place truth is_null form asked old new (by_node old new (SqlNode.Truth false) refl g)) r put

  -- ---- a comparison

  module _ (operator : ComparisonOperator) (left right : Operand) (is : IsComparisonOf question ranges place operator left right) (old new : Draft) where
    pub ok_comparison : IsFaultless ranges place → (Form : Outcome → Outcome → Type 0) → OnOk r (Puts question old new (ComparisonHas question.filter operator left right) (OrTruth Form))
        → OnOk r (Puts question old new (OfPlace question.filter place) Form)
    ok_comparison faultless Form put =
        where_ok (comparison_put question ranges are place operator left right is faultless Form old new) r put

    pub ok_comparison_code : OnOk r (Puts question old new (FaultyHave question.filter operator left right) (IsInForm Form.Code)) → OnOk r (PutIn Form.Code old new)
    ok_comparison_code put =
        where_ok (comparison_code_put question ranges place operator left right is old new) r put

  -- ---- a literal

  pub ok_literal : OneLiteralValue → (kind : LiteralKind) (value : ℕ) → HasKind question.filter.list place (NodeKind.Literal kind value) → (old new : Draft)
      → OnOk r (Puts question old new (IsLiteralAt question.filter value) Itself) → OnOk r (Puts question old new (OfPlace question.filter place) Itself)
  ok_literal one kind value here old new put =
      where_ok (λ (p : Puts question old new (IsLiteralAt question.filter value) Itself). puts_as question old new (IsLiteralAt question.filter value) (OfPlace question.filter place) Itself Itself p
      (λ world o is has. (o, literal_there question.filter place kind value here one world o is.seen.row_is has, λ x form. form))) r put

  -- ---- `not`

  module _ (here : HasKind question.filter.list place NodeKind.Not) (operand_truth : IsTruthAt question.filter (place + 1)) where
    abbrev BelowIn : Form → Draft → Draft → Type 0
    BelowIn form old new = Puts question old new (OfPlace question.filter (place + 1)) (IsInForm form)

    pub ok_not_truth : IsFaultless ranges (place + 1) → (old middle new : Draft) → GrowsBy old middle (SqlNode.Not ∷ []) [] [] → OnOk r (BelowIn Form.Truth middle new) → OnOk r (PutIn Form.Truth old new)
    ok_not_truth faultless old middle new grows put =
        where_ok (not_truth_put question place here (λ world o seen has. code_there question ranges are ends is_moment (place + 1) operand_truth world o seen has) old middle new
        (λ world o is has. value_there question ranges are ends is_moment (place + 1) operand_truth faultless world o is.seen has) (by_node old middle SqlNode.Not refl grows)) r put

    pub ok_not_code : IsTableOfNot LookUp.Not → (old middle new : Draft) → GrowsBy old middle (SqlNode.LookUp LookUp.Not ∷ []) [] [] → OnOk r (BelowIn Form.Code middle new) → OnOk r (PutIn Form.Code old new)
    ok_not_code table old middle new grows put =
        where_ok (not_code_put question place here (λ world o seen has. code_there question ranges are ends is_moment (place + 1) operand_truth world o seen has) old middle new table
        (by_node old middle (SqlNode.LookUp LookUp.Not) refl grows)) r put

    pub ok_not_keeps : (old new : Draft) → OnOk r (BelowIn Form.Denies old new) → OnOk r (PutIn Form.Keeps old new)
    ok_not_keeps old new put =
        where_ok (not_keeps question place here (λ world o seen has. code_there question ranges are ends is_moment (place + 1) operand_truth world o seen has) old new) r put

    pub ok_not_denies : (old new : Draft) → OnOk r (BelowIn Form.Keeps old new) → OnOk r (PutIn Form.Denies old new)
    ok_not_denies old new put =
        where_ok (not_denies question place here (λ world o seen has. code_there question ranges are ends is_moment (place + 1) operand_truth world o seen has) old new) r put

  -- ---- by the value, or by the code

  module _ (truth : IsTruthAt question.filter place) where
    pub ok_code_by_truth : IsFaultless ranges place → (old middle new : Draft) → GrowsBy old middle (SqlNode.TruthCode ∷ []) [] [] → OnOk r (PutIn Form.Truth middle new) → OnOk r (PutIn Form.Code old new)
    ok_code_by_truth faultless old middle new grows put =
        where_ok (code_by_truth question ranges are ends is_moment place truth faultless old middle new (by_node old middle SqlNode.TruthCode refl grows)) r put

    pub ok_keeps_by_truth : IsFaultless ranges place → (old new : Draft) → OnOk r (PutIn Form.Truth old new) → OnOk r (PutIn Form.Keeps old new)
    ok_keeps_by_truth faultless old new put =
        where_ok (keeps_by_truth question ranges are ends is_moment place truth faultless old new) r put

    pub ok_denies_by_truth : IsFaultless ranges place → (old middle new : Draft) → GrowsBy old middle (SqlNode.Not ∷ []) [] [] → OnOk r (PutIn Form.Truth middle new) → OnOk r (PutIn Form.Denies old new)
    ok_denies_by_truth faultless old middle new grows put =
        where_ok (denies_by_truth question ranges are ends is_moment place truth faultless old middle new (by_node old middle SqlNode.Not refl grows)) r put

    pub ok_has_code : (form : Form) → IsAskedCode form → (old middle next new : Draft) → GrowsBy old middle (SqlNode.Compare ComparisonOperator.Eq SqlType.Whole ∷ []) [] []
        → PutIn Form.Code middle next → OnOk r (GrowsBy next new (SqlNode.Number (asked_digit form) ∷ []) [] []) → OnOk r (PutIn form old new)
    ok_has_code form asked old middle next new grows code put =
        where_ok (λ (g : GrowsBy next new (SqlNode.Number (asked_digit form) ∷ []) [] []). code_condition question form asked (OfPlace question.filter place) old middle next new (by_node old middle (SqlNode.Compare ComparisonOperator.Eq SqlType.Whole) refl grows) code
        (by_node next new (SqlNode.Number (asked_digit form)) refl g) (λ world o is has. code_there question ranges are ends is_moment place truth world o is.seen has)) r put
