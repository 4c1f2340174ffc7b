use Rattle.std.proofs.Common.{◌↔◌, ◌+◌, ◌*◌, length}
use Rattle.json.specs.Find.{InItems, InMembers}
use Rattle.json.specs.Json as json
use Rattle.edm_entities.specs.private.TapeNodes.{AreMembersReadWithin, AreReadWithin}
use Rattle.edm_entities.proofs.tape_node.+read.Given as goal

-- how deep values may nest
abbrev pub decreases-is_read : goal.decreases-is_read
decreases-is_read l = 2 * l.depth

abbrev pub decreases-are_read : goal.decreases-are_read
decreases-are_read l = 2 * l.depth + 1

abbrev pub decreases-are_members_read : goal.decreases-are_members_read
decreases-are_members_read l = 2 * l.depth + 1

-- all are read where those that are left are
abbrev pub invariant-are_read-items : goal.invariant-are_read-items
invariant-are_read-items l =
    (values : json.Items) → InItems l.fn.items values → (rest : json.Items) × InItems l.left rest × (AreReadWithin l.depth values ↔ AreReadWithin l.depth rest)

abbrev pub decreases-are_read-items : goal.decreases-are_read-items
decreases-are_read-items l = length l.left

abbrev pub invariant-are_members_read-members : goal.invariant-are_members_read-members
invariant-are_members_read-members l =
    (members : json.Members) → InMembers l.fn.members members → (rest : json.Members) × InMembers l.left rest × (AreMembersReadWithin l.depth members ↔ AreMembersReadWithin l.depth rest)

abbrev pub decreases-are_members_read-members : goal.decreases-are_members_read-members
decreases-are_members_read-members l = length l.left
