use Rattle.std.proofs.Common.{false, ◌≡◌, ◌-◌, ◌<◌, ◌≤◌, length}
use Rattle.edm_rows.specs.private.KeptRows.{RowConforms, root_properties, root_slots}
use Rattle.edm_rows.specs.private.KeptSoFar.{KeptUpTo}
use Rattle.edm_rows.proofs.kept_value.take_members.Given as goal

-- the members before the offset were put into their slots
abbrev pub invariant-members : goal.invariant-members
invariant-members g l =
    (l.so_far.place ≤ length l.context.line) × (l.so_far.order < 1024) × (l.cache.depth ≡ l.context.depth)
    × KeptUpTo l.context l.plan.slots.items l.from l.so_far.place (g.M.SeenSlots.bits l.so_far.seen) false l.values
    × RowConforms (root_slots l.context) (root_properties l.context) l.values

abbrev pub decreases-members : goal.decreases-members
decreases-members g l = length l.context.line - l.so_far.place
