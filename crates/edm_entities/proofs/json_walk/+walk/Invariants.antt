use Rattle.std.proofs.Common.{◌≡◌, option_map, take}
use Rattle.serde_json.specs.Data.{Items, depth, items_depth}
use Rattle.csdl_schema.specs.SchemaModel.{properties_at}
use Rattle.edm_entities.specs.private.PropertyCursor.{IsCursor}
use Rattle.edm_entities.specs.private.Walk.{slots_in}
use Rattle.edm_entities.specs.private.JsonNodes.{HasMembersOf, data_of, items_left}
use Rattle.json_room.specs.private.ItemTokens.{append_items}
use Rattle.edm_entities.specs.private.Walk.{FitSlots, FitList, HoldInItems, wanted_single}
use Rattle.edm_entities.proofs.SlotLemmas.Depth.{found_measure, measure_of, rank_found, rank_single, rank_slots, rank_value}
use Rattle.edm_entities.proofs.SlotLemmas.ItemWalk.{items_count}
use Rattle.edm_entities.proofs.json_walk.+walk.Given as goal

-- how deep the JSON nests counts first, and at one depth the order of the calls
abbrev pub decreases-read_slots : goal.decreases-read_slots
decreases-read_slots l = measure_of (depth (data_of l.json.now)) rank_slots

abbrev pub decreases-read_property : goal.decreases-read_property
decreases-read_property l = found_measure (option_map data_of l.found)

abbrev pub decreases-read_single : goal.decreases-read_single
decreases-read_single l = measure_of (depth (data_of l.json.now)) rank_single

abbrev pub decreases-read_value : goal.decreases-read_value
decreases-read_value l = measure_of (depth (data_of l.json.now)) rank_value

abbrev pub decreases-read_items : goal.decreases-read_items
decreases-read_items l = measure_of (depth (data_of l.json.now)) rank_single

abbrev pub decreases-read_list : goal.decreases-read_list
decreases-read_list l = measure_of (items_depth (items_left l.items)) rank_found

-- the values so far fit the slots so far, the current piece is one of the type, and the members are the object's
abbrev pub invariant-read_slots-loop-slot : goal.invariant-read_slots-loop-slot
invariant-read_slots-loop-slot l =
    FitSlots (slots_in l.context l.node) (data_of l.json) (take l.slot (properties_at l.context.schema.now l.type_id)) l.values.items
    × IsCursor l.context.schema.now l.type_id l.cursor
    × HasMembersOf (properties_at l.context.schema.now l.type_id) (data_of l.json) l.slot l.members

-- the values so far fit the items that were taken, and hold one value for each slot
abbrev pub invariant-read_list-items : goal.invariant-read_list-items
invariant-read_list-items l =
    (taken : Items) × (items_left l.fn.items ≡ append_items taken (items_left l.left))
    × FitList (slots_in l.context l.node) l.nullable (wanted_single l.context.schema.now l.wanted) taken l.values.items
    × HoldInItems (slots_in l.context l.node) (wanted_single l.context.schema.now l.wanted) l.values.items

-- how many items are left
abbrev pub decreases-read_list-items : goal.decreases-read_list-items
decreases-read_list-items l = items_count (items_left l.left)
