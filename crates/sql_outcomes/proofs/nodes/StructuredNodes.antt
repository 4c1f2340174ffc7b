-- Nodes of entities, complex values and collections are paths.
use Rattle.sql_outcomes.proofs.Common.{◌≡◌, ◌≢◌, ℕ, List, Some, true, false, slice_get, refl, subst, SchemaModel, expr_type, EdmType, ValueType, Filter, IsFilter, CheckedNode, NodeKind, numbered, found_there, there_found, IsPathType, Range, Operand, Source, Kind, kind_of_type, IsNodeOperand, IsTestable, IsTested, AreRanges, IsPathAt, IsStep, Question, IsOnWay, tree_on_way}

structured_type : (schema : SchemaModel) (type : EdmType) → kind_of_type type ≡ Kind.Structured → IsPathType (expr_type schema type)
structured_type schema (EdmType.Collection kept) is = tt
structured_type schema (EdmType.Single (ValueType.Structured id)) is = tt
structured_type schema _ is = absurd (cc)

pub step_on_way : (kind : NodeKind) → IsOnWay kind → kind ≢ NodeKind.It → IsStep kind
step_on_way NodeKind.It on other = absurd (other refl)
step_on_way (NodeKind.Property slot) on other = tt
step_on_way (NodeKind.Variable level) on other = tt
step_on_way (NodeKind.Member slot) on other = tt
step_on_way _ on other = absurd on

-- a node of a structured type or of a collection is a step of a path, but for `$it`
pub structured_path : (filter : Filter) → IsFilter filter → (place : ℕ) (found : CheckedNode) → slice_get filter.list.nodes place ≡ Some found
    → kind_of_type found.edm_type ≡ Kind.Structured → found.kind ≢ NodeKind.It → IsPathAt filter place
structured_path filter right place found at structured other =
    let there = numbered filter place found right at in
    let typed = there.says.typed in
    let on = tree_on_way filter there.scope place there.stop there.part (expr_type filter.schema found.edm_type) (structured_type filter.schema found.edm_type structured) there.stands typed in
    there_found (λ (n : CheckedNode). IsStep n.kind) (slice_get filter.list.nodes place) found at
    (step_on_way found.kind (found_there (λ (n : CheckedNode). IsOnWay n.kind) (slice_get filter.list.nodes place) found at on) other)

-- of which `$it` is never null
pub nullable_path : (question : Question) (ranges : List Range) → AreRanges question ranges → IsFilter question.filter → (place : ℕ) (found : CheckedNode) (range : Range)
    → slice_get question.filter.list.nodes place ≡ Some found → slice_get ranges place ≡ Some range → kind_of_type found.edm_type ≡ Kind.Structured → range.may_be_null ≡ true
    → IsPathAt question.filter place
nullable_path question ranges are right place found range at range_at structured null =
    structured_path question.filter right place found at structured (λ it.
    let never : range.may_be_null ≡ false = are.entity place found range at range_at it in
    let clash : true ≡ false = subst (λ b. b ≡ false) null never in cc)

-- a node of a structured type that is tested
pub node_tested : (filter : Filter) (ranges : List Range) (operand : Operand) (place : ℕ) → operand.kind ≡ Kind.Structured → operand.source ≡ Source.Node place
    → IsTested filter ranges operand → IsNodeOperand filter ranges operand place
node_tested filter ranges operand place kind source tested =
    let by_source : IsTestable filter ranges operand (Source.Node place) operand.kind = subst (λ (s : Source). IsTestable filter ranges operand s operand.kind) source tested in
    let both : IsTestable filter ranges operand (Source.Node place) Kind.Structured = subst (IsTestable filter ranges operand (Source.Node place)) kind by_source in
    both.0

-- an operand of such a kind that is tested is a node or a position in JSON
pub not_testable : (filter : Filter) (ranges : List Range) (operand : Operand) → operand.kind ≡ Kind.Structured → IsTested filter ranges operand
    → ((path : ℕ) → operand.source ≢ Source.Place path) → ((place : ℕ) → operand.source ≢ Source.Node place) → ⊥
not_testable filter ranges operand kind tested no_place no_node =
    by operand.source (subst (IsTestable filter ranges operand operand.source) kind tested) no_place no_node
  where
    by : (source : Source) → IsTestable filter ranges operand source Kind.Structured → ((path : ℕ) → source ≢ Source.Place path) → ((place : ℕ) → source ≢ Source.Node place) → ⊥
    by (Source.Place path) is no_position no_other = no_position path refl
    by (Source.Node place) is no_position no_other = no_other place refl
    by source is no_position no_other = is.1
