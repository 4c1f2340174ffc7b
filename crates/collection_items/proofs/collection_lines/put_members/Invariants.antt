use Rattle.std.proofs.Common.{◌-◌, length}
use Rattle.json_room.specs.private.ValuesStand.{MembersUpTo}
use Rattle.collection_items.specs.private.DocumentWalk.{HasLines}
use Rattle.collection_items.proofs.collection_lines.put_members.Given as goal

-- the members before the offset were passed, with their lines
abbrev pub invariant-members : goal.invariant-members
invariant-members l = MembersUpTo 126 l.document l.from l.place (HasLines l.document l.has_array l.lines.items)

abbrev pub decreases-members : goal.decreases-members
decreases-members l = length l.document - l.place
