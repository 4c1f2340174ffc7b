use Rattle.std.proofs.Common.{◌≤◌}
use Rattle.edm_values.proofs.sparse.few_values.Given as goal

-- no more than were looked at
abbrev pub invariant-loop-slot : goal.invariant-loop-slot
invariant-loop-slot l = l.few ≤ l.slot
