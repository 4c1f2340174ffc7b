use Rattle.std.proofs.Common.{◌≡◌, ℕ, length, slice_get, IfSome}
use Rattle.edm_row_plans.specs.Plans.{IsSlotPlan}
use Rattle.edm_row_plans.proofs.type_plan.slot_plans.Given as goal

-- the slots so far are planned
abbrev pub invariant-loop-slot : goal.invariant-loop-slot
invariant-loop-slot l =
    (length l.slots.items ≡ l.slot)
    × ((slot : ℕ) → IfSome (slice_get l.slots.items slot) (IsSlotPlan l.context.schema.now l.context.expansion.now l.type_id l.node slot))
