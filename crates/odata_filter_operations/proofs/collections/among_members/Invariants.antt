use Rattle.odata_filter_operations.specs.Collections.{DiffersBefore}
use Rattle.odata_filter_operations.proofs.collections.among_members.Given as goal

-- none so far is equal
abbrev pub invariant-loop-at : goal.invariant-loop-at
invariant-loop-at l = DiffersBefore l.left l.members l.at
