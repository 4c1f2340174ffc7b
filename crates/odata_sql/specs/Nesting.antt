-- How many operators, functions and lists of a filter stand in one another (OData URL Conventions 4.01, section 5.1.1).
use Rattle.std.specs.Prelude.{◌<◌, ◌++◌, ℕ, zero, suc, List, [], ◌∷◌, Bool, true, false, Option, Some, None, filter, length, nat_lt, slice_get, if◌then◌else◌}
use Rattle.odata_checked_filter.specs.declared.checked_node.CheckedNode.{CheckedNode}
use Rattle.odata_checked_filter.specs.declared.checked_node.NodeKind.{NodeKind}
use Rattle.odata_syntax.specs.declared.binary_operator.BinaryOperator.{BinaryOperator}
use Rattle.odata_syntax.specs.declared.binary_operator.LogicalOperator.{LogicalOperator}

-- an operator, a list, a function of arguments and a lambda operator do; a literal, a path and `now()` do not
abbrev pub nests : NodeKind → Bool
nests (NodeKind.Literal kind value) = false
nests NodeKind.It = false
nests (NodeKind.Property slot) = false
nests (NodeKind.Variable level) = false
nests (NodeKind.Member slot) = false
nests NodeKind.Count = false
nests NodeKind.AnyItem = false
nests NodeKind.Now = false
nests kind = true

-- whether a node is the first operand of the node before it, in a chain of `not`, of `and` or of `or`
abbrev pub goes_on : NodeKind → NodeKind → Bool
goes_on NodeKind.Not NodeKind.Not = true
goes_on (NodeKind.Binary (BinaryOperator.Logical LogicalOperator.And)) (NodeKind.Binary (BinaryOperator.Logical LogicalOperator.And)) = true
goes_on (NodeKind.Binary (BinaryOperator.Logical LogicalOperator.Or)) (NodeKind.Binary (BinaryOperator.Logical LogicalOperator.Or)) = true
goes_on before kind = false

abbrev pub kind_of_any : Option CheckedNode → NodeKind
kind_of_any None = NodeKind.It
kind_of_any (Some node) = node.kind

-- the kind of the node before an index; before the first one that of `$it`, with which no chain goes on
abbrev pub kind_before : List CheckedNode → ℕ → NodeKind
kind_before nodes zero = NodeKind.It
kind_before nodes (suc at) = kind_of_any (slice_get nodes at)

-- where a node stops that is a level: it nests, and of a chain it is the first
abbrev pub level_stop : NodeKind → Option CheckedNode → List ℕ
level_stop before None = []
level_stop before (Some node) =
    if nests node.kind then (if goes_on before node.kind then [] else node.stop ∷ []) else []

-- where the levels among the first so many nodes stop
abbrev pub level_stops : List CheckedNode → ℕ → List ℕ
level_stops nodes zero = []
level_stops nodes (suc count) = level_stops nodes count ++ level_stop (kind_before nodes count) (slice_get nodes count)

-- in how many levels the node at an index stands: those before it that stop after it
abbrev pub levels_around : List CheckedNode → ℕ → ℕ
levels_around nodes at = length (filter (λ stop. nat_lt at stop) (level_stops nodes at))

abbrev pub most_levels : ℕ
most_levels = 100

-- some node stands in more levels than that
abbrev pub ExceedsLevels : List CheckedNode → Type 0
ExceedsLevels nodes = (at : ℕ) × (at < length nodes) × (most_levels < levels_around nodes at)
