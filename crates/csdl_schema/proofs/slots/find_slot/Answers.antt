use Rattle.std.proofs.Common.{◌≡◌, ◌∙◌, sym, ap}
use Rattle.csdl_schema.specs.SchemaModel.{properties_at, slot_named}
use Rattle.csdl_schema.specs.private.PlacedView.{placed_of}
use Rattle.csdl_schema.specs.private.SchemaView.{inherited_properties, model_of}
use Rattle.csdl_schema.proofs.SlotSteps.{base_slot, own_slot_alone}
use Rattle.csdl_schema.proofs.slots.find_slot.Goals as goal

pub returns-in-Some-own_slot : goal.returns-in-Some-own_slot
returns-in-Some-own_slot c =
    let ps = placed_of c.args.types.now in
    let name = c.args.name.now in
    let here : slot_named (properties_at (model_of ps) c.in-Some.below) name ≡ slot_named (properties_at (model_of ps) c.args.index) name =
    ap (λ o. slot_named (inherited_properties (model_of ps) o) name) (sym c.in-Some.is) ∙ c.loop-next.invariant in
    sym (own_slot_alone ps c.args.chains.now c.requires c.in-Some.below c.in-Some-own_slot.slot name (sym c.own_slot.ensures ∙ c.in-Some-own_slot.is)) ∙ here

pub loop-next-preserved : goal.loop-next-preserved
loop-next-preserved c =
    let ps = placed_of c.args.types.now in
    let name = c.args.name.now in
    let below = c.in-Some.below in
    let here : slot_named (properties_at (model_of ps) below) name ≡ slot_named (properties_at (model_of ps) c.args.index) name =
    ap (λ o. slot_named (inherited_properties (model_of ps) o) name) (sym c.in-Some.is) ∙ c.loop-next.invariant in
    ap (λ o. slot_named (inherited_properties (model_of ps) o) name) c.base_at-next.ensures
    ∙ base_slot ps c.args.chains.now c.requires below name (sym c.own_slot.ensures ∙ c.in-None.is)
    ∙ here
