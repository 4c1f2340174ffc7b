use Rattle.std.proofs.Common.{◌≡◌, Some, length}
use Rattle.serde_json.specs.Data.{Members, object}
use Rattle.serde_json.specs.Find.{as_object}
use Rattle.csdl_schema.specs.SchemaModel.{properties_at}
use Rattle.edm_entities.specs.private.TapeNodes.{HasNodes, data_on, members_on}
use Rattle.edm_entities.proofs.tape_node.nodes_by_slot.Given as goal

-- those that were taken stand at their slots, and with those that are left they are the object's
abbrev pub invariant-members : goal.invariant-members
invariant-members l =
    (found : Members) × (as_object (data_on l.node) ≡ Some (members_on found l.members))
    × HasNodes (properties_at l.schema l.type_id) (object found) 0 l.nodes.items

abbrev pub decreases-members : goal.decreases-members
decreases-members l = length l.members
