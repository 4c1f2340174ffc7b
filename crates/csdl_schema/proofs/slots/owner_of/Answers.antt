use Rattle.std.proofs.Common.{◌≡◌, ◌<◌, ◌∙◌, Some, sym, arith}
use Rattle.csdl_schema.specs.SchemaModel.{properties_at}
use Rattle.csdl_schema.specs.private.Placed.{base_at}
use Rattle.csdl_schema.specs.private.PlacedView.{placed_of}
use Rattle.csdl_schema.specs.private.SchemaView.{chain_in, model_of}
use Rattle.csdl_schema.proofs.Pieces.{begins_further}
use Rattle.csdl_schema.proofs.SlotSteps.{of_base}
use Rattle.csdl_schema.proofs.slots.owner_of.Goals as goal

pub loop-owner-preserved : goal.loop-owner-preserved
loop-owner-preserved c =
    let ps = placed_of c.args.types.now in
    let owner = c.loop-owner.owner in
    let above : base_at ps owner ≡ Some c.in-Some.base = sym c.base_at.ensures ∙ c.in-Some.is in
    let inherits : c.args.slot < (chain_in c.args.chains.now owner).inherited = omega (arith, c.loop-owner-test.true, c.inherited_at.ensures) in
    let up = of_base ps c.args.chains.now c.requires.chained owner c.args.slot c.in-Some.base above inherits in
    (begins_further (properties_at (model_of ps) c.args.index) (properties_at (model_of ps) owner) (properties_at (model_of ps) c.in-Some.base) c.loop-owner.invariant.0 up.front, up.within)
