use Rattle.std.proofs.Common.{◌≡◌}
use Rattle.edm_rows.proofs.members.named_member.Given as goal

-- the depth is as it was
abbrev pub invariant-loop-slot : goal.invariant-loop-slot
invariant-loop-slot l = l.cache.depth ≡ l.initial.cache.depth
