use Rattle.std.proofs.Common.{subst}
use Rattle.csdl_schema.specs.SchemaModel.{AreSlotsInOrder}
use Rattle.csdl_schema.specs.private.PlacedView.{placed_of}
use Rattle.csdl_schema.proofs.LookUps.{slots_in_order}
use Rattle.csdl_schema.proofs.schema.Schema.slots.Goals as goal

pub returns-clause-ordered : goal.returns-clause-ordered
returns-clause-ordered c =
    subst (λ s. AreSlotsInOrder s c.args.id) c.self.view_is (slots_in_order (placed_of c.self.inside.types.items) c.self.inside.chains.items c.self.invariant.chains c.args.id)
