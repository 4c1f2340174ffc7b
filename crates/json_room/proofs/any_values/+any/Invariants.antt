use Rattle.std.proofs.Common.{◌+◌, ◌*◌, ◌-◌, length}
use Rattle.serde_json.specs.Data.{Items, Members}
use Rattle.json_room.specs.private.ValuesStand.{MembersUpTo}
use Rattle.json_room.proofs.Places.{ItemsUpTo}
use Rattle.json_room.proofs.any_values.+any.Given as goal

-- how deep values may nest counts first, and at one depth a list before its members before their values
abbrev pub decreases-any_value_end : goal.decreases-any_value_end
decreases-any_value_end l = 3 * l.depth

abbrev pub decreases-member_end : goal.decreases-member_end
decreases-member_end l = 3 * l.depth + 1

abbrev pub decreases-items_end : goal.decreases-items_end
decreases-items_end l = 3 * l.depth + 2

abbrev pub decreases-members_end : goal.decreases-members_end
decreases-members_end l = 3 * l.depth + 2

abbrev pub any_items : Items → Type 0
any_items jsons = Unit {0}

abbrev pub any_members : Members → Type 0
any_members found = Unit {0}

-- the items before the offset were read
abbrev pub invariant-items_end-items : goal.invariant-items_end-items
invariant-items_end-items l = ItemsUpTo l.depth l.line l.from l.place any_items

abbrev pub decreases-items_end-items : goal.decreases-items_end-items
decreases-items_end-items l = length l.line - l.place

-- the members before the offset were read
abbrev pub invariant-members_end-members : goal.invariant-members_end-members
invariant-members_end-members l = MembersUpTo l.depth l.line l.from l.place any_members

abbrev pub decreases-members_end-members : goal.decreases-members_end-members
decreases-members_end-members l = length l.line - l.place
