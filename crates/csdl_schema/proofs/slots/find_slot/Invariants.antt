use Rattle.std.proofs.Common.{◌≡◌}
use Rattle.csdl_schema.specs.SchemaModel.{properties_at, slot_named}
use Rattle.csdl_schema.specs.private.PlacedView.{placed_of}
use Rattle.csdl_schema.specs.private.SchemaView.{inherited_properties, model_of}
use Rattle.csdl_schema.proofs.SlotSteps.{bases_left}
use Rattle.csdl_schema.proofs.slots.find_slot.Given as goal

-- the slot is the one among those further up
abbrev pub invariant-loop-next : goal.invariant-loop-next
invariant-loop-next l =
    slot_named (inherited_properties (model_of (placed_of l.types)) l.next) l.name
    ≡ slot_named (properties_at (model_of (placed_of l.types)) l.index) l.name

abbrev pub decreases-loop-next : goal.decreases-loop-next
decreases-loop-next l = bases_left l.chains l.next
