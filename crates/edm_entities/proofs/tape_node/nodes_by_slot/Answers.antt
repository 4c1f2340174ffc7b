use Rattle.std.proofs.Common.{◌≡◌, ◌<◌, ◌∙◌, Some, length, ap, arith}
use Rattle.serde_json.specs.Data.{object, put}
use Rattle.csdl_schema.specs.SchemaModel.{properties_at}
use Rattle.edm_entities.specs.private.TapeNodes.{HasNodes, data_on}
use Rattle.edm_entities.proofs.TapeLemmas.Members.{no_slot_put, slot_put, slot_within}
use Rattle.edm_entities.proofs.tape_node.nodes_by_slot.Goals as goal

pub members-preserved-in-Some-slot : goal.members-preserved-in-Some-slot
members-preserved-in-Some-slot c =
    let properties = properties_at c.args.schema.now c.args.type_id in
    let name = c.in-Some-next.name.now in
    let tokens = c.in-Some-next.member in
    let found = c.members.invariant.0 in
    let so_far : HasNodes properties (object found) 0 c.members.nodes.items = c.members.invariant.2 in
    let within : c.in-Some-slot.slot < length c.members.nodes.items = omega (arith, so_far.0, slot_within properties name c.in-Some-slot.slot c.in-Some-slot.ensures) in (
      put name (data_on tokens) found,
      c.members.invariant.1 ∙ ap Some (c.in-Some-next.ensures.next found),
      slot_put properties found c.members.nodes.items so_far name tokens c.in-Some-slot.slot c.in-Some-slot.ensures within c.slots.ensures.distinct,
    )

pub members-preserved : goal.members-preserved
members-preserved c =
    let properties = properties_at c.args.schema.now c.args.type_id in
    let name = c.in-Some-next.name.now in
    let tokens = c.in-Some-next.member in
    let found = c.members.invariant.0 in
    let so_far : HasNodes properties (object found) 0 c.members.nodes.items = c.members.invariant.2 in (
      put name (data_on tokens) found,
      c.members.invariant.1 ∙ ap Some (c.in-Some-next.ensures.next found),
      no_slot_put properties found c.members.nodes.items so_far name tokens c.in_default-slot.ensures,
    )
