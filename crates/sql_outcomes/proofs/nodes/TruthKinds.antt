-- Nodes that are truth values, by their kinds.
use Rattle.sql_outcomes.proofs.Common.{◌≡◌, ◌≢◌, ◌∙◌, ℕ, List, true, false, Some, refl, sym, ap, subst, slice_get, PrimitiveType, primitive, single, structured, SchemaModel, slots_of, type_name_at, Filter, IsFilter, Stands, CheckedNode, NodeKind, there_found, HasKind, Scope, Typed, negation_numeric, operator_numeric, Range, IsNumeric, row_of, expr_type, EdmType, ValueType, Function, Tree, BinaryOperator, LogicalOperator, LiteralKind, Quantifier, SqlType, Kind, ComparesNothing, kind_of_type, IsQuietKind, AreRanges, IsCarriedKind, IsOtherKind, IsTruthKind, Question, tree_found, by_kind, IsSomeAnd, IsTruthAt, some_there, found_there}
use Rattle.filter_context.proofs.Spines.{only_now}
use Rattle.sql_outcomes.proofs.nodes.BinaryPlaces.{top_node}

-- ---- types that are not Boolean

abbrev IsBooleanKind : EdmType → Type 0
IsBooleanKind type = kind_of_type type ≡ Kind.Value SqlType.Truth

no_number : (type : EdmType) → IsNumeric type → IsBooleanKind type → ⊥
no_number (EdmType.Single (ValueType.Prim PrimitiveType.Byte)) is boolean = absurd (cc)
no_number (EdmType.Single (ValueType.Prim PrimitiveType.SByte)) is boolean = absurd (cc)
no_number (EdmType.Single (ValueType.Prim PrimitiveType.Int16)) is boolean = absurd (cc)
no_number (EdmType.Single (ValueType.Prim PrimitiveType.Int32)) is boolean = absurd (cc)
no_number (EdmType.Single (ValueType.Prim PrimitiveType.Int64)) is boolean = absurd (cc)
no_number EdmType.Null is boolean = absurd (cc)
no_number _ is boolean = absurd is

-- a type that stands for another one than Boolean
boolean_prim : (schema : SchemaModel) (type : EdmType) → IsBooleanKind type → expr_type schema type ≡ single (primitive PrimitiveType.Bool)
boolean_prim schema (EdmType.Single (ValueType.Prim PrimitiveType.Bool)) boolean = refl
boolean_prim schema _ boolean = absurd (cc)

no_int64 : single (primitive PrimitiveType.Bool) ≡ single (primitive PrimitiveType.Int64) → ⊥
no_int64 is = cc

no_structure : (name : List ℕ) → single (primitive PrimitiveType.Bool) ≡ single (structured name) → ⊥
no_structure name is = cc

no_moment : single (primitive PrimitiveType.Bool) ≡ single (primitive PrimitiveType.DateTimeOffset) → ⊥
no_moment is = cc

-- ---- kinds of nodes that are never Boolean

module _ (filter : Filter) (right : IsFilter filter) (place : ℕ) (found : CheckedNode) (at : slice_get filter.list.nodes place ≡ Some found) (boolean : IsBooleanKind found.edm_type) where
  here : (kind : NodeKind) → found.kind ≡ kind → HasKind filter.list place kind
  here kind is = there_found (λ (n : CheckedNode). n.kind ≡ kind) (slice_get filter.list.nodes place) found at is

  -- the type of what stands there is Boolean
  is_boolean : (scope : Scope) (stop : ℕ) (tree : Tree) → Stands filter.schema filter.filtered scope filter.list place stop tree
      → Typed (slots_of filter.schema) (type_name_at filter.schema filter.filtered) scope tree (single (primitive PrimitiveType.Bool))
  is_boolean scope stop tree stands =
      let top = top_node filter scope place stop tree stands in
      let same : top.found ≡ found = (let e : Some top.found ≡ Some found = sym top.at ∙ at in cc) in
      subst (Typed (slots_of filter.schema) (type_name_at filter.schema filter.filtered) scope tree)
      (ap (λ (n : CheckedNode). expr_type filter.schema n.edm_type) same ∙ boolean_prim filter.schema found.edm_type boolean) top.typed

  no_neg : found.kind ≡ NodeKind.Neg → ⊥
  no_neg is = no_number found.edm_type (negation_numeric filter right place found at is) boolean

  no_arithmetic : (operator : BinaryOperator) → found.kind ≡ NodeKind.Binary operator → IsNumeric found.edm_type → ⊥
  no_arithmetic operator is numeric = no_number found.edm_type numeric boolean

  no_count : found.kind ≡ NodeKind.Count → ⊥
  no_count is =
      let s = tree_found filter right place found at NodeKind.Count tt is in
      by_kind filter.schema filter.filtered s.scope filter.list place NodeKind.Count (here NodeKind.Count is)
      (λ stop tree. Typed (slots_of filter.schema) (type_name_at filter.schema filter.filtered) s.scope tree (single (primitive PrimitiveType.Bool)) → ⊥)
      (λ base stop from to stands typed. no_int64 typed.makes.1) s.stop s.part s.stands (is_boolean s.scope s.stop s.part s.stands)

  no_it : found.kind ≡ NodeKind.It → ⊥
  no_it is =
      let s = tree_found filter right place found at NodeKind.It tt is in
      by_kind filter.schema filter.filtered s.scope filter.list place NodeKind.It (here NodeKind.It is)
      (λ stop tree. Typed (slots_of filter.schema) (type_name_at filter.schema filter.filtered) s.scope tree (single (primitive PrimitiveType.Bool)) → ⊥)
      (λ stop from to stands typed. no_structure (type_name_at filter.schema filter.filtered) typed) s.stop s.part s.stands (is_boolean s.scope s.stop s.part s.stands)

  no_now : found.kind ≡ NodeKind.Now → ⊥
  no_now is =
      let s = tree_found filter right place found at NodeKind.Now tt is in
      by_kind filter.schema filter.filtered s.scope filter.list place NodeKind.Now (here NodeKind.Now is)
      (λ stop tree. Typed (slots_of filter.schema) (type_name_at filter.schema filter.filtered) s.scope tree (single (primitive PrimitiveType.Bool)) → ⊥)
      (λ asked arguments named stop from to stands typed.
      let same : typed.call_typed.function ≡ Function.Now = only_now typed.call_typed.function (typed.call_typed.named ∙ sym named) in
      no_moment (subst (λ (f : Function). single (primitive PrimitiveType.Bool) ≡ single (primitive (row_of f).gives)) same typed.call_typed.typed.gives))
      s.stop s.part s.stands (is_boolean s.scope s.stop s.part s.stands)

  -- no connective
  abbrev pub ConnectsNothing : NodeKind → Type 0
  ConnectsNothing kind = (c : LogicalOperator) → kind ≢ NodeKind.Binary (BinaryOperator.Logical c)

  pub other_kind : (kind : NodeKind) → found.kind ≡ kind → ComparesNothing kind → ConnectsNothing kind → ((k : LiteralKind) (value : ℕ) → kind ≢ NodeKind.Literal k value) → kind ≢ NodeKind.Not
      → ((f : Function) → kind ≢ NodeKind.Call f) → IsOtherKind kind
  other_kind (NodeKind.Literal k value) is compares connects no_literal no_not no_call = absurd (no_literal k value refl)
  other_kind NodeKind.It is compares connects no_literal no_not no_call = absurd (no_it is)
  other_kind NodeKind.Now is compares connects no_literal no_not no_call = absurd (no_now is)
  other_kind NodeKind.Count is compares connects no_literal no_not no_call = absurd (no_count is)
  other_kind NodeKind.Neg is compares connects no_literal no_not no_call = absurd (no_neg is)
  other_kind NodeKind.Not is compares connects no_literal no_not no_call = absurd (no_not refl)
  other_kind (NodeKind.Call f) is compares connects no_literal no_not no_call = absurd (no_call f refl)
  other_kind (NodeKind.Binary (BinaryOperator.Logical c)) is compares connects no_literal no_not no_call = absurd (connects c refl)
  other_kind (NodeKind.Binary (BinaryOperator.Comparison c)) is compares connects no_literal no_not no_call = absurd compares
  other_kind (NodeKind.Binary (BinaryOperator.Arithmetic a)) is compares connects no_literal no_not no_call =
      absurd (no_arithmetic (BinaryOperator.Arithmetic a) is (operator_numeric filter right place found at (BinaryOperator.Arithmetic a) is))
  other_kind kind is compares connects no_literal no_not no_call = tt

  -- a node that may be a fault is one of these
  pub no_other_fault : (kind : NodeKind) → found.kind ≡ kind → ¬ IsQuietKind kind → ComparesNothing kind → ConnectsNothing kind → kind ≢ NodeKind.Not → kind ≢ NodeKind.InList
      → kind ≢ NodeKind.InPath → ((quantifier : Quantifier) → kind ≢ NodeKind.Lambda quantifier) → ((f : Function) → kind ≢ NodeKind.Call f) → ⊥
  no_other_fault NodeKind.Neg is faulting compares connects no_not no_list no_path no_lambda no_call = no_neg is
  no_other_fault NodeKind.Not is faulting compares connects no_not no_list no_path no_lambda no_call = no_not refl
  no_other_fault NodeKind.InList is faulting compares connects no_not no_list no_path no_lambda no_call = no_list refl
  no_other_fault NodeKind.InPath is faulting compares connects no_not no_list no_path no_lambda no_call = no_path refl
  no_other_fault (NodeKind.Lambda quantifier) is faulting compares connects no_not no_list no_path no_lambda no_call = no_lambda quantifier refl
  no_other_fault (NodeKind.Call f) is faulting compares connects no_not no_list no_path no_lambda no_call = no_call f refl
  no_other_fault (NodeKind.Binary (BinaryOperator.Logical c)) is faulting compares connects no_not no_list no_path no_lambda no_call = connects c refl
  no_other_fault (NodeKind.Binary (BinaryOperator.Comparison c)) is faulting compares connects no_not no_list no_path no_lambda no_call = compares
  no_other_fault (NodeKind.Binary (BinaryOperator.Arithmetic a)) is faulting compares connects no_not no_list no_path no_lambda no_call =
      no_arithmetic (BinaryOperator.Arithmetic a) is (operator_numeric filter right place found at (BinaryOperator.Arithmetic a) is)
  no_other_fault kind is faulting compares connects no_not no_list no_path no_lambda no_call = faulting tt

-- ---- by ranges

-- a node of type Null evaluates to no fault, so one that may be a fault is Boolean
pub faulting_boolean : (question : Question) (ranges : List Range) → AreRanges question ranges → (place : ℕ) (found : CheckedNode) (range : Range) → slice_get question.filter.list.nodes place ≡ Some found
    → slice_get ranges place ≡ Some range → range.may_fault ≡ true → IsTruthKind (kind_of_type found.edm_type) → IsBooleanKind found.edm_type
faulting_boolean question ranges are place found range at range_at faults truth = by (kind_of_type found.edm_type) truth (are.carries place found range at range_at faults)
  where
    by : (kind : Kind) → IsTruthKind kind → IsCarriedKind kind → kind ≡ Kind.Value SqlType.Truth
    by (Kind.Value SqlType.Truth) is carried = refl
    by Kind.Null is carried = absurd carried
    by kind is carried = absurd is

pub faulting_kind : (question : Question) (ranges : List Range) → AreRanges question ranges → (place : ℕ) (found : CheckedNode) (range : Range) → slice_get question.filter.list.nodes place ≡ Some found
    → slice_get ranges place ≡ Some range → range.may_fault ≡ true → ¬ IsQuietKind found.kind
faulting_kind question ranges are place found range at range_at faults =
    λ plain. (let e : true ≡ false = sym faults ∙ are.plain place found range at range_at plain in absurd (cc))

-- so no other kind of truth value may be a fault
pub no_other_truth : (question : Question) (ranges : List Range) → AreRanges question ranges → IsFilter question.filter → (place : ℕ) (found : CheckedNode) → slice_get question.filter.list.nodes place ≡ Some found
    → IsSomeAnd (slice_get ranges place) (λ range. range.may_fault ≡ true) → IsTruthAt question.filter place → IsSomeAnd (slice_get question.filter.list.nodes place) (λ node. ComparesNothing node.kind)
    → ((c : LogicalOperator) → found.kind ≢ NodeKind.Binary (BinaryOperator.Logical c)) → found.kind ≢ NodeKind.Not → found.kind ≢ NodeKind.InList → found.kind ≢ NodeKind.InPath → ((quantifier : Quantifier) → found.kind ≢ NodeKind.Lambda quantifier)
    → ((f : Function) → found.kind ≢ NodeKind.Call f) → ⊥
no_other_truth question ranges are right place found at faults truth compares connects no_not no_list no_path no_lambda no_call =
    let range = some_there (λ (r : Range). r.may_fault ≡ true) (slice_get ranges place) faults in
    let kind = found_there (λ (n : CheckedNode). IsTruthKind (kind_of_type n.edm_type)) (slice_get question.filter.list.nodes place) found at truth in
    no_other_fault question.filter right place found at (faulting_boolean question ranges are place found range.0 at range.1.0 range.1.1 kind) found.kind refl (faulting_kind question ranges are place found range.0 at range.1.0 range.1.1)
    (found_there (λ (n : CheckedNode). ComparesNothing n.kind) (slice_get question.filter.list.nodes place) found at compares) connects no_not no_list no_path no_lambda no_call
