-- For private clauses: the steps of a path in a list.
use Rattle.std.specs.Prelude.{◌≡◌, ℕ, Bool, true, false, IsSomeAnd, slice_get}
use Rattle.odata_checked_filter.specs.FlatTree.{FlatTree}
use Rattle.odata_checked_filter.specs.declared.checked_node.NodeKind.{NodeKind}

-- whether a node of that kind is a step of a path
abbrev pub is_step : NodeKind → Bool
is_step (NodeKind.Member slot) = true
is_step _ = false

-- a step of a path stands there
abbrev pub IsStepAt : FlatTree → ℕ → Type 0
IsStepAt list k = IsSomeAnd (slice_get list.nodes k) (λ found. is_step found.kind ≡ true)
