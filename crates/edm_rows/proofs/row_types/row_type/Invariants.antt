use Rattle.std.proofs.Common.{◌≡◌, ◌<◌, ℕ, IfSome, Some, length, map, slice_get}
use Rattle.std.specs.Int.{bit_at}
use Rattle.csdl_schema.specs.SchemaModel.{properties_at}
use Rattle.edm_row_plans.specs.Expanded.{slots_at}
use Rattle.edm_rows.specs.private.Passed.{MayBeAbsent}
use Rattle.edm_rows.specs.private.RowSlots.{IsFresh, IsRowSlot}
use Rattle.seen_slots.specs.SlotBits.{bits_of}
use Rattle.edm_rows.proofs.row_types.row_type.Given as goal

-- the slots so far are made of the plan's and have its names, and nothing is kept; those that may be absent have their
-- bits, as all have
abbrev pub invariant-loop-index : goal.invariant-loop-index
invariant-loop-index l =
    (length l.slots.items ≡ l.index)
    × ((k : ℕ) → IfSome (slice_get l.slots.items k) (λ slot. IfSome (slice_get l.of.slots.items k) (λ p. IsRowSlot l.schema l.plan.expansion l.plan.plans.items k p slot)))
    × ((k : ℕ) → bit_at (bits_of l.optional.words) k ≡ 1 → IfSome (slice_get (properties_at l.schema l.of.type_id) k) (MayBeAbsent (slots_at l.schema l.plan.expansion l.of.node)))
    × ((k : ℕ) → IfSome (slice_get l.slots.items k) IsFresh)
    × ((k : ℕ) → IfSome (slice_get l.slots.items k) (λ slot. slice_get (map (λ p. p.name) (properties_at l.schema l.of.type_id)) k ≡ Some slot.key))
    × ((k : ℕ) → k < l.index → bit_at (bits_of l.all.words) k ≡ 1)
