-- Which nodes evaluate to no fault, by the ranges of a filter's nodes.
use Rattle.std.specs.Prelude.{◌≡◌, ◌<◌, ◌≤◌, ℕ, ◌+◌, List, Some, false, slice_get}
use Rattle.edm_values.specs.declared.primitive.PrimitiveType.{PrimitiveType}
use Rattle.odata_checked_filter.specs.Filter.{Filter}
use Rattle.odata_checked_filter.specs.declared.checked_node.CheckedNode.{CheckedNode}
use Rattle.odata_checked_filter.specs.declared.checked_node.NodeKind.{NodeKind}
use Rattle.odata_ranges.specs.declared.range.Range.{Range}
use Rattle.odata_signatures.specs.declared.edm_type.EdmType.{EdmType}
use Rattle.odata_signatures.specs.declared.edm_type.ValueType.{ValueType}
use Rattle.odata_signatures.specs.declared.function.Function.{Function}
use Rattle.odata_syntax.specs.declared.binary_operator.BinaryOperator.{BinaryOperator}

-- none of the nodes between two indices evaluates to a fault
abbrev pub AreQuiet : List Range → ℕ → ℕ → Type 0
AreQuiet ranges from stop =
    (place : ℕ) (range : Range) → from ≤ place → place < stop → slice_get ranges place ≡ Some range
    → range.may_fault ≡ false

-- a node of that kind and type makes no fault of values: arithmetic does in a number type, and so do functions that
-- count characters
abbrev pub MakesNone : NodeKind → EdmType → Type 0
MakesNone NodeKind.Neg type = type ≡ EdmType.Null
MakesNone (NodeKind.Binary (BinaryOperator.Arithmetic operator)) type = type ≡ EdmType.Null
MakesNone (NodeKind.Call Function.Length) type = ⊥
MakesNone (NodeKind.Call Function.IndexOf) type = ⊥
MakesNone kind type = Unit {0}

-- the range of a node has faults where one below it has them, and beyond these its own alone; `$it` is not null
pub record ReportsFaults (ranges : List Range) (place : ℕ) (node : CheckedNode) (range : Range) : Type 0 where
  pub inherits : range.may_fault ≡ false → AreQuiet ranges (place + 1) node.stop
  pub owns :
      MakesNone node.kind node.edm_type → AreQuiet ranges (place + 1) node.stop → range.may_fault ≡ false
  pub entity : node.kind ≡ NodeKind.It → range.may_be_null ≡ false

-- each range from an index on does
abbrev pub AreReportedFrom : Filter → ℕ → List Range → Type 0
AreReportedFrom filter first ranges =
    (place : ℕ) (node : CheckedNode) (range : Range) → first ≤ place → slice_get filter.list.nodes place ≡ Some node
    → slice_get ranges place ≡ Some range → ReportsFaults ranges place node range

-- no numbers, no texts and no truth values
abbrev pub IsQuietType : EdmType → Type 0
IsQuietType (EdmType.Single (ValueType.Prim PrimitiveType.Date)) = Unit {0}
IsQuietType (EdmType.Single (ValueType.Prim PrimitiveType.DateTimeOffset)) = Unit {0}
IsQuietType (EdmType.Single (ValueType.Prim PrimitiveType.Guid)) = Unit {0}
IsQuietType (EdmType.Single (ValueType.Prim p)) = ⊥
IsQuietType type = Unit {0}

-- literals, names, steps and `now`, and what asks a collection or flags
abbrev pub IsQuietKind : NodeKind → Type 0
IsQuietKind (NodeKind.Literal kind value) = Unit {0}
IsQuietKind NodeKind.It = Unit {0}
IsQuietKind (NodeKind.Property slot) = Unit {0}
IsQuietKind (NodeKind.Variable level) = Unit {0}
IsQuietKind (NodeKind.Member slot) = Unit {0}
IsQuietKind NodeKind.Now = Unit {0}
IsQuietKind NodeKind.Count = Unit {0}
IsQuietKind NodeKind.AnyItem = Unit {0}
IsQuietKind NodeKind.Has = Unit {0}
IsQuietKind kind = ⊥

-- a node of such a type or kind evaluates to no fault
abbrev pub AreQuietThere : Filter → List Range → Type 0
AreQuietThere filter ranges =
    (place : ℕ) (node : CheckedNode) (range : Range) → slice_get filter.list.nodes place ≡ Some node
    → slice_get ranges place ≡ Some range
    → (IsQuietType node.edm_type → range.may_fault ≡ false) × (IsQuietKind node.kind → range.may_fault ≡ false)
