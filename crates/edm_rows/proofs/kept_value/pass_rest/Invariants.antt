use Rattle.std.proofs.Common.{true, ℕ, ◌≡◌, ◌-◌, ◌<◌, ◌≤◌, length}
use Rattle.edm_rows.specs.private.KeptRows.{RowConforms, root_properties, root_slots}
use Rattle.edm_rows.specs.private.KeptSoFar.{KeptRead}
use Rattle.edm_rows.proofs.kept_value.pass_rest.Given as goal

-- one of the members before the offset is rejected, and the others were passed
abbrev pub invariant-members : goal.invariant-members
invariant-members g l =
    (l.so_far.place ≤ length l.context.line) × (l.so_far.order < 1024) × (l.cache.depth ≡ l.context.depth)
    × ((from : ℕ) → KeptRead l.context l.plan.slots.items from l.initial.so_far.place (g.M.SeenSlots.bits l.initial.so_far.seen) true l.initial.values
    → KeptRead l.context l.plan.slots.items from l.so_far.place (g.M.SeenSlots.bits l.so_far.seen) true l.values)
    × RowConforms (root_slots l.context) (root_properties l.context) l.values

abbrev pub decreases-members : goal.decreases-members
decreases-members g l = length l.context.line - l.so_far.place
