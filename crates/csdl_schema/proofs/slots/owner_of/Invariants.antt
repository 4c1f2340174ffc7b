use Rattle.std.proofs.Common.{◌<◌, length}
use Rattle.csdl_schema.specs.SchemaModel.{properties_at}
use Rattle.csdl_schema.specs.private.PlacedView.{placed_of}
use Rattle.csdl_schema.specs.private.SchemaView.{chain_in, model_of}
use Rattle.csdl_schema.specs.private.Slots.{BeginsWith}
use Rattle.csdl_schema.proofs.slots.owner_of.Given as goal

-- the slot is one of the type so far, whose properties are the first
abbrev pub invariant-loop-owner : goal.invariant-loop-owner
invariant-loop-owner l =
    BeginsWith (properties_at (model_of (placed_of l.types)) l.index) (properties_at (model_of (placed_of l.types)) l.owner)
    × (l.slot < length (properties_at (model_of (placed_of l.types)) l.owner))

abbrev pub decreases-loop-owner : goal.decreases-loop-owner
decreases-loop-owner l = (chain_in l.chains l.owner).bases
