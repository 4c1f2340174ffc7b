-- The nodes that are put as values: what computes numbers, and what is a path.
use Rattle.sql_outcomes.proofs.Common.{◌≡◌, ◌≢◌, ◌∙◌, inl, inr, ℕ, ◌+◌, List, Some, slice_get, refl, sym, ap, subst, IsNumberType, PrimitiveType, ExprType, single, collection, structured, PropertyModel, SchemaModel, Slots, slots_of, type_name_at, Shape, Tree, any_item, binary, call, count, in_list, it, lambda, literal, name, negation, node, ArithmeticOperator, BinaryOperator, ComparisonOperator, LogicalOperator, LiteralKind, IsCollection, boolean_type, expr_type, EdmType, ValueType, Function, Scope, Filter, IsFilter, IsCallNode, IsLiteralNode, IsMemberNode, IsNameNode, variable_names, Lies, CheckedNode, NodeKind, numbered, one_there, found_there, some_there, there_found, IsNumeric, StandsIn, TypedIn, lies, type_there, IsPathType, negation_numeric, operator_numeric, SqlType, Kind, IsComputedIn, kind_of_type, IsPathAt, IsStep, IsOnWay, tree_on_way}
use Rattle.odata_syntax.specs.Tree.{member}
use Rattle.odata_checked_filter.proofs.flat.Places.{same_found}
use Rattle.odata_ranges.proofs.Forms.{by_kind}
use Rattle.sql_outcomes.proofs.nodes.StructuredNodes.{step_on_way}
use Rattle.sql_outcomes.proofs.nodes.ByNode.{by_node}

-- ---- types

-- a number type
numeric_type : (type : EdmType) → IsNumeric type → kind_of_type type ≢ Kind.Null → (p : PrimitiveType) × (IsNumberType p × (type ≡ EdmType.Single (ValueType.Prim p)))
numeric_type EdmType.Null is other = absurd (other refl)
numeric_type (EdmType.Single (ValueType.Prim p)) is other = (p, (is, refl))
numeric_type _ is other = absurd is

boolean_kind : (schema : SchemaModel) (type : EdmType) → expr_type schema type ≡ boolean_type → kind_of_type type ≡ Kind.Value SqlType.Truth
boolean_kind schema (EdmType.Single (ValueType.Prim p)) is =
    let same : p ≡ PrimitiveType.Bool = cc in
    subst (λ (q : PrimitiveType). kind_of_type (EdmType.Single (ValueType.Prim q)) ≡ Kind.Value SqlType.Truth) (sym same) refl
boolean_kind schema _ is = absurd (cc)

structured_kind : (schema : SchemaModel) (type : EdmType) (owner : List ℕ) → expr_type schema type ≡ single (structured owner) → kind_of_type type ≡ Kind.Structured
structured_kind schema (EdmType.Single (ValueType.Structured id)) owner is = refl
structured_kind schema _ owner is = absurd (cc)

no_truth_type : (type : EdmType) (p : PrimitiveType) → IsNumberType p → type ≡ EdmType.Single (ValueType.Prim p) → kind_of_type type ≡ Kind.Value SqlType.Truth → ⊥
no_truth_type type PrimitiveType.Byte is same truth = let e : kind_of_type type ≡ Kind.Value SqlType.Whole = ap kind_of_type same in cc
no_truth_type type PrimitiveType.SByte is same truth = let e : kind_of_type type ≡ Kind.Value SqlType.Whole = ap kind_of_type same in cc
no_truth_type type PrimitiveType.Int16 is same truth = let e : kind_of_type type ≡ Kind.Value SqlType.Whole = ap kind_of_type same in cc
no_truth_type type PrimitiveType.Int32 is same truth = let e : kind_of_type type ≡ Kind.Value SqlType.Whole = ap kind_of_type same in cc
no_truth_type type PrimitiveType.Int64 is same truth = let e : kind_of_type type ≡ Kind.Value SqlType.Whole = ap kind_of_type same in cc
no_truth_type type _ is same truth = absurd is

-- ---- kinds

-- no kind of these is put otherwise
pub record IsOtherwise (kind : NodeKind) : Type 0 where
  pub no_literal : (k : LiteralKind) (value : ℕ) → kind ≢ NodeKind.Literal k value
  pub no_now : kind ≢ NodeKind.Now
  pub no_count : kind ≢ NodeKind.Count
  pub no_neg : kind ≢ NodeKind.Neg
  pub no_binary : (operator : BinaryOperator) → kind ≢ NodeKind.Binary operator
  pub no_call : (function : Function) → kind ≢ NodeKind.Call function

literal_otherwise : (k : LiteralKind) (kind : NodeKind) → IsLiteralNode k kind → IsOtherwise kind → ⊥
literal_otherwise k (NodeKind.Literal own value) is other = other.no_literal own value refl
literal_otherwise k _ is other = absurd is

call_otherwise : (asked : List ℕ) (kind : NodeKind) → IsCallNode asked kind → IsOtherwise kind → ⊥
call_otherwise asked NodeKind.Now is other = other.no_now refl
call_otherwise asked (NodeKind.Call function) is other = other.no_call function refl
call_otherwise asked _ is other = absurd is

name_step : (properties : List PropertyModel) (variables : List (List ℕ)) (asked : List ℕ) (kind : NodeKind) → IsNameNode properties variables asked kind → IsStep kind
name_step properties variables asked (NodeKind.Variable level) is = tt
name_step properties variables asked (NodeKind.Property slot) is = tt
name_step properties variables asked _ is = absurd is

member_step : (slots : Slots) (Base : ExprType → Type 0) (asked : List ℕ) (kind : NodeKind) → IsMemberNode slots Base asked kind → IsStep kind
member_step slots Base asked (NodeKind.Member slot) is = tt
member_step slots Base asked _ is = absurd is

many_path : (type : ExprType) → IsCollection type → IsPathType type
many_path (collection kept) is = tt
many_path _ is = absurd is

module _ (filter : Filter) (right : IsFilter filter) (place : ℕ) (found : CheckedNode) (at : slice_get filter.list.nodes place ≡ Some found) where
  computed_in : IsNumeric found.edm_type → kind_of_type found.edm_type ≢ Kind.Null → (type : PrimitiveType) × IsComputedIn filter place type
  computed_in numeric other =
      let is = numeric_type found.edm_type numeric other in
      (is.0, (is.1.0, there_found (λ (n : CheckedNode). n.edm_type ≡ EdmType.Single (ValueType.Prim is.0)) (slice_get filter.list.nodes place) found at is.1.1))

  pub negation_computed : found.kind ≡ NodeKind.Neg → kind_of_type found.edm_type ≢ Kind.Null → (type : PrimitiveType) × IsComputedIn filter place type
  negation_computed is other = computed_in (negation_numeric filter right place found at is) other

  -- comparisons and connectives are Boolean
  operator_boolean : (operator : BinaryOperator) → ((type : ExprType) (scope : Scope) (a b : Tree) (from to : ℕ) → TypedIn filter scope (node from to (binary operator a b)) type → type ≡ boolean_type)
      → found.kind ≡ NodeKind.Binary operator → kind_of_type found.edm_type ≡ Kind.Value SqlType.Truth
  operator_boolean operator boolean is =
      by_node filter right place found at (NodeKind.Binary operator) tt is (kind_of_type found.edm_type ≡ Kind.Value SqlType.Truth)
      (λ scope a b s from to stands.
      boolean_kind filter.schema found.edm_type (boolean (expr_type filter.schema found.edm_type) scope a b from to (type_there filter scope place found at s (node from to (binary operator a b)) stands)))

  logical_boolean : (logical : LogicalOperator) → found.kind ≡ NodeKind.Binary (BinaryOperator.Logical logical) → kind_of_type found.edm_type ≡ Kind.Value SqlType.Truth
  logical_boolean logical = operator_boolean (BinaryOperator.Logical logical) (λ type scope a b from to typed. elim typed.makes [ inl by ↦ by.2 | inr one ↦ one.1 ])

  comparison_boolean : (comparison : ComparisonOperator) → found.kind ≡ NodeKind.Binary (BinaryOperator.Comparison comparison) → kind_of_type found.edm_type ≡ Kind.Value SqlType.Truth
  comparison_boolean comparison = operator_boolean (BinaryOperator.Comparison comparison) (λ type scope a b from to typed. elim typed.makes [ inl by ↦ by.1 | inr one ↦ one.1 ])

  pub operator_computed : (operator : BinaryOperator) → found.kind ≡ NodeKind.Binary operator → kind_of_type found.edm_type ≢ Kind.Null → kind_of_type found.edm_type ≢ Kind.Value SqlType.Truth
      → (type : PrimitiveType) × IsComputedIn filter place type
  operator_computed (BinaryOperator.Logical logical) is other no_truth = absurd (no_truth (logical_boolean logical is))
  operator_computed (BinaryOperator.Comparison comparison) is other no_truth = absurd (no_truth (comparison_boolean comparison is))
  operator_computed (BinaryOperator.Arithmetic arithmetic) is other no_truth = computed_in (operator_numeric filter right place found at (BinaryOperator.Arithmetic arithmetic) is) other

  -- what computes numbers is arithmetic
  pub computed_by : (operator : BinaryOperator) (type : PrimitiveType) → found.kind ≡ NodeKind.Binary operator → IsComputedIn filter place type
      → ((arithmetic : ArithmeticOperator) → operator ≢ BinaryOperator.Arithmetic arithmetic) → ⊥
  computed_by (BinaryOperator.Arithmetic arithmetic) type is computed other = other arithmetic refl
  computed_by (BinaryOperator.Logical logical) type is computed other =
      no_truth_type found.edm_type type computed.0 (found_there (λ (n : CheckedNode). n.edm_type ≡ EdmType.Single (ValueType.Prim type)) (slice_get filter.list.nodes place) found at computed.1) (logical_boolean logical is)
  computed_by (BinaryOperator.Comparison comparison) type is computed other =
      no_truth_type found.edm_type type computed.0 (found_there (λ (n : CheckedNode). n.edm_type ≡ EdmType.Single (ValueType.Prim type)) (slice_get filter.list.nodes place) found at computed.1) (comparison_boolean comparison is)

  -- ---- paths

  module _ (no_truth : kind_of_type found.edm_type ≢ Kind.Value SqlType.Truth) (valued : kind_of_type found.edm_type ≢ Kind.Structured) (other : IsOtherwise found.kind) where
    abbrev LiesIn : Scope → ℕ → Tree → Type 0
    LiesIn scope stop tree = Lies filter.schema filter.filtered scope filter.list place stop tree

    of_boolean : expr_type filter.schema found.edm_type ≡ boolean_type → IsStep found.kind
    of_boolean is = absurd (no_truth (boolean_kind filter.schema found.edm_type is))

    same_top : (scope : Scope) (stop s e : ℕ) (shape : Shape) → (there : LiesIn scope stop (node s e shape)) → there.top.found ≡ found
    same_top scope stop s e shape there = same_found (slice_get filter.list.nodes place) there.top.found found there.top.stands_at at

    step_in : (scope : Scope) (stop : ℕ) (tree : Tree) → LiesIn scope stop tree → TypedIn filter scope tree (expr_type filter.schema found.edm_type) → IsStep found.kind
    step_in scope stop (node s e (literal k spelling)) below typed =
        absurd (literal_otherwise k below.top.found.kind below.top.kind (subst (λ (n : CheckedNode). IsOtherwise n.kind) (sym (same_top scope stop s e (literal k spelling) below)) other))
    step_in scope stop (node s e it) below typed = absurd (valued (structured_kind filter.schema found.edm_type (type_name_at filter.schema filter.filtered) typed))
    step_in scope stop (node s e (name asked)) below typed =
        subst (λ (n : CheckedNode). IsStep n.kind) (same_top scope stop s e (name asked) below)
        (name_step ((slots_of filter.schema).properties (type_name_at filter.schema filter.filtered)) (variable_names scope) asked below.top.found.kind below.top.kind)
    step_in scope stop (node s e (member base asked)) below typed =
        subst (λ (n : CheckedNode). IsStep n.kind) (same_top scope stop s e (member base asked) below) (member_step (slots_of filter.schema) (TypedIn filter scope base) asked below.top.found.kind below.top.kind)
    step_in scope stop (node s e (count base)) below typed =
        absurd (other.no_count (ap (λ (n : CheckedNode). n.kind) (sym (same_top scope stop s e (count base) below)) ∙ below.top.kind))
    step_in scope stop (node s e (negation operand)) below typed =
        absurd (other.no_neg (ap (λ (n : CheckedNode). n.kind) (sym (same_top scope stop s e (negation operand) below)) ∙ below.top.kind))
    step_in scope stop (node s e (binary operator a b)) below typed =
        absurd (other.no_binary operator (ap (λ (n : CheckedNode). n.kind) (sym (same_top scope stop s e (binary operator a b) below)) ∙ below.top.kind))
    step_in scope stop (node s e (in_list a items)) below typed = of_boolean typed.makes.2
    step_in scope stop (node s e (lambda quantifier base variable body)) below typed = of_boolean typed.makes
    step_in scope stop (node s e (call asked arguments)) below typed =
        absurd (call_otherwise asked below.top.found.kind below.top.kind (subst (λ (n : CheckedNode). IsOtherwise n.kind) (sym (same_top scope stop s e (call asked arguments) below)) other))
    step_in scope stop (node s e _) below typed = of_boolean typed.makes.1

    pub path_here : IsPathAt filter place
    path_here =
        let there = numbered filter place found right at in
        there_found (λ (n : CheckedNode). IsStep n.kind) (slice_get filter.list.nodes place) found at (step_in there.scope there.stop there.part there.stands there.says.typed)

  -- what is counted, and asked for members, is a path
  pub collection_path : (scope : Scope) (stop : ℕ) (base : Tree) (type : ExprType) → StandsIn filter scope (place + 1) stop base → TypedIn filter scope base type → IsCollection type
      → IsPathAt filter (place + 1)
  collection_path scope stop base type stands typed of_many =
      let on = some_there (λ (n : CheckedNode). IsOnWay n.kind) (slice_get filter.list.nodes (place + 1)) (tree_on_way filter scope (place + 1) stop base type (many_path type of_many) (lies filter scope (place + 1) stop base stands) typed) in
      there_found (λ (n : CheckedNode). IsStep n.kind) (slice_get filter.list.nodes (place + 1)) on.0 on.1.0 (step_on_way on.0.kind on.1.1
      (λ is_it. by_kind filter scope (place + 1) on.0 on.1.0 NodeKind.It is_it (λ s t. TypedIn filter scope t type → ⊥) (λ s from to there given. subst IsCollection given of_many) stop base stands typed))

  pub counted_path : found.kind ≡ NodeKind.Count → IsPathAt filter (place + 1)
  counted_path is =
      by_node filter right place found at NodeKind.Count tt is (IsPathAt filter (place + 1))
      (λ scope base s from to stands.
      let typed = type_there filter scope place found at s (node from to (count base)) stands in
      collection_path scope s base typed.operand (one_there filter.schema filter.filtered scope filter.list (place + 1) s base stands.children) typed.operand_typed typed.makes.0)

  pub asked_path : found.kind ≡ NodeKind.AnyItem → IsPathAt filter (place + 1)
  asked_path is =
      by_node filter right place found at NodeKind.AnyItem tt is (IsPathAt filter (place + 1))
      (λ scope base s from to stands.
      let typed = type_there filter scope place found at s (node from to (any_item base)) stands in
      collection_path scope s base typed.operand (one_there filter.schema filter.filtered scope filter.list (place + 1) s base stands.children) typed.operand_typed typed.makes.0)
