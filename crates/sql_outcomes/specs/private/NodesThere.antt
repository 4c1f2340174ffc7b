-- What a translation goes by.
use Rattle.std.specs.Prelude.{◌≡◌, ◌≢◌, ℕ, List, Some, IsSomeAnd, false, slice_get}
use Rattle.edm_values.specs.declared.value.Value.{Value}
use Rattle.odata_checked_filter.specs.Filter.{Filter}
use Rattle.odata_checked_filter.specs.declared.checked_node.CheckedNode.{CheckedNode}
use Rattle.odata_checked_filter.specs.declared.checked_node.NodeKind.{NodeKind}
use Rattle.odata_ranges.specs.declared.range.Range.{Range}
use Rattle.sql_meaning.specs.SqlTypeHolds.{type_of_field}
use Rattle.sql_tree.specs.declared.sql_node.FieldType.{FieldType}
use Rattle.sql_tree.specs.declared.sql_node.SqlType.{SqlType}
use Rattle.sql_draft.specs.declared.sql_context.Kind.{Kind}
use Rattle.sql_draft.specs.Kinds.{kind_of_type}

-- a truth value there evaluates to no fault
abbrev pub IsPlainAt : Filter → List Range → ℕ → Type 0
IsPlainAt filter ranges place =
    (node : CheckedNode) (range : Range) → slice_get filter.list.nodes place ≡ Some node
    → slice_get ranges place ≡ Some range → kind_of_type node.edm_type ≡ Kind.Value SqlType.Truth
    → range.may_fault ≡ false

-- a node of type Boolean
abbrev pub IsBooleanAt : Filter → ℕ → Type 0
IsBooleanAt filter place =
    IsSomeAnd (slice_get filter.list.nodes place) (λ node. kind_of_type node.edm_type ≡ Kind.Value SqlType.Truth)

-- what asks a collection, flags or a list, and a path
abbrev pub IsOtherKind : NodeKind → Type 0
IsOtherKind NodeKind.AnyItem = Unit {0}
IsOtherKind NodeKind.Has = Unit {0}
IsOtherKind NodeKind.InList = Unit {0}
IsOtherKind NodeKind.InPath = Unit {0}
IsOtherKind (NodeKind.Lambda quantifier) = Unit {0}
IsOtherKind (NodeKind.Property slot) = Unit {0}
IsOtherKind (NodeKind.Variable level) = Unit {0}
IsOtherKind (NodeKind.Member slot) = Unit {0}
IsOtherKind kind = ⊥

abbrev pub IsFaultless : List Range → ℕ → Type 0
IsFaultless ranges place = IsSomeAnd (slice_get ranges place) (λ range. range.may_fault ≡ false)

-- a node that is no entity and no complex value
abbrev pub IsValuedAt : Filter → ℕ → Type 0
IsValuedAt filter place =
    IsSomeAnd (slice_get filter.list.nodes place) (λ node. kind_of_type node.edm_type ≢ Kind.Structured)

-- a node of the kind of values that have that type in JSON
abbrev pub HasFieldType : Filter → ℕ → FieldType → Type 0
HasFieldType filter place type =
    IsSomeAnd (slice_get filter.list.nodes place)
    (λ node. kind_of_type node.edm_type ≡ Kind.Value (type_of_field type))
