use Rattle.std.proofs.Common.{◌-◌, length}
use Rattle.json_room.specs.private.ValuesStand.{MembersUpTo}
use Rattle.collection_items.proofs.document_walk.array_after.Given as goal

-- the members before the offset were passed
abbrev pub invariant-members : goal.invariant-members
invariant-members l = MembersUpTo 126 l.document l.from l.place (λ found. Unit {0})

abbrev pub decreases-members : goal.decreases-members
decreases-members l = length l.document - l.place
