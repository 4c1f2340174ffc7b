-- For private clauses: JSON values as the walk goes over them, in a tree or on a tape.
use Rattle.std.specs.Prelude.{◌≡◌, ℕ, List, Option, Some, None}
use Rattle.json.specs.Token.{Token}
use Rattle.serde_json.specs.Data.{Data, Items, item, no_items}
use Rattle.serde_json.specs.View.{items_view, view}
use Rattle.csdl_schema.specs.SchemaModel.{PropertyModel}
use Rattle.edm_entities.specs.declared.json_node.JsonNode.{JsonNode}
use Rattle.edm_entities.specs.declared.json_node.JsonNode.TheVariants as node
use Rattle.edm_entities.specs.declared.json_node.NodeItems.{NodeItems}
use Rattle.edm_entities.specs.declared.json_node.NodeItems.TheVariants as items
use Rattle.edm_entities.specs.declared.json_node.NodeMembers.{NodeMembers}
use Rattle.edm_entities.specs.declared.json_node.NodeMembers.TheVariants as members
use Rattle.edm_entities.specs.private.MemberWalk.{IsWalkOf}
use Rattle.edm_entities.specs.private.TapeNodes.{HasNodes, data_on, items_on}

-- the value that it is
abbrev pub data_of : JsonNode → Data
data_of (node.Tree json) = view json.now
data_of (node.Tape tokens) = data_on tokens

-- the items that were not taken yet
abbrev pub items_left : NodeItems → Items
items_left (items.Tree left) = items_view left.now
items_left (items.Tape tokens) = items_on tokens

-- the next item is that one, and those are left after it; or there is none
abbrev pub IsNextItem : Items → Option Data → Items → Type 0
IsNextItem no_items found left = (found ≡ None) × (left ≡ no_items)
IsNextItem (item json more) found left = (found ≡ Some json) × (left ≡ more)

-- by the slots of a type from one on, the object's members of their names
abbrev pub HasMembersOf : List PropertyModel → Data → ℕ → NodeMembers → Type 0
HasMembersOf properties whole from (members.Tree held) = (view held.json.now ≡ whole) × IsWalkOf whole held.walk
HasMembersOf properties whole from (members.Tape nodes) = HasNodes properties whole from nodes.items
