use Rattle.std.proofs.Common.{◌≡◌, drop}
use Rattle.edm_values.specs.Sparse.{beside}
use Rattle.edm_values.specs.declared.value.Value.{Null}
use Rattle.odata_filter_operations.proofs.stored_values.datum_beside.Given as goal

-- none of the first stands beside the slot
abbrev pub invariant-loop-place : goal.invariant-loop-place
invariant-loop-place l = beside Null l.held l.slot ≡ beside Null (drop l.place l.held) l.slot
