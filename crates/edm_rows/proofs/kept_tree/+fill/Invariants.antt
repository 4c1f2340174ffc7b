use Rattle.std.proofs.Common.{◌≡◌, ◌+◌, ◌*◌, ◌-◌, ◌<◌, ◌≤◌, length, take}
use Rattle.edm_rows.specs.private.Filled.{FilledUpTo}
use Rattle.edm_rows.proofs.FilledValues.{ItemsAlone, ListUpTo}
use Rattle.edm_rows.proofs.kept_tree.+fill.Given as goal

-- how deep values may nest counts first, and at one depth the order of the calls
abbrev pub decreases-fill_members : goal.decreases-fill_members
decreases-fill_members g l = 8 * l.cache.now.depth + 7

abbrev pub decreases-fill_items : goal.decreases-fill_items
decreases-fill_items g l = 8 * l.cache.now.depth + 6

abbrev pub decreases-fill_found : goal.decreases-fill_found
decreases-fill_found g l = 8 * l.cache.now.depth + 6

abbrev pub decreases-fill_slot : goal.decreases-fill_slot
decreases-fill_slot g l = 8 * l.cache.now.depth + 5

abbrev pub decreases-fill_value : goal.decreases-fill_value
decreases-fill_value g l = 8 * l.cache.now.depth + 4

abbrev pub decreases-fill_other : goal.decreases-fill_other
decreases-fill_other g l = 8 * l.cache.now.depth + 3

abbrev pub decreases-fill_sure : goal.decreases-fill_sure
decreases-fill_sure g l = 8 * l.cache.now.depth + 2

abbrev pub decreases-fill_record : goal.decreases-fill_record
decreases-fill_record g l = 8 * l.cache.now.depth + 1

abbrev pub decreases-fill_list : goal.decreases-fill_list
decreases-fill_list g l = 8 * l.cache.now.depth + 1

-- the first items are those before the offset
abbrev pub invariant-fill_items-items : goal.invariant-fill_items-items
invariant-fill_items-items g l =
    (l.cache.depth ≡ l.initial.cache.depth) × ListUpTo l.context l.slot l.initial.cache.depth l.from l.place (take l.count l.items.items) × (l.count ≤ length l.items.items)
    × ItemsAlone l.context l.slot (take l.count l.items.items)

abbrev pub decreases-fill_items-items : goal.decreases-fill_items-items
decreases-fill_items-items g l = length l.context.line - l.place

-- the members before the offset fill the slots of their names
abbrev pub invariant-fill_members-members : goal.invariant-fill_members-members
invariant-fill_members-members g l =
    (l.cache.depth ≡ l.initial.cache.depth) × (l.so_far.order < 1024) × FilledUpTo l.context l.plan l.initial.cache.depth l.from l.so_far.place (g.M.SeenSlots.bits l.so_far.seen) l.values.items × (length l.values.items ≡ length l.plan.slots.items)

abbrev pub decreases-fill_members-members : goal.decreases-fill_members-members
decreases-fill_members-members g l = length l.context.line - l.so_far.place
