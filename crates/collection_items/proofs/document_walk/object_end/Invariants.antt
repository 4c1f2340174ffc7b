use Rattle.std.proofs.Common.{ℕ, ◌-◌, ◌≤◌, length}
use Rattle.serde_json.specs.Data.{Data}
use Rattle.json_room.specs.private.ValuesStand.{MembersRead}
use Rattle.collection_items.specs.JudgedItems.{HasValue}
use Rattle.collection_items.proofs.document_walk.object_end.Given as goal

-- a value that was read stays that of its name
abbrev pub invariant-members : goal.invariant-members
invariant-members l =
    (l.end ≤ length l.document)
    × ((begin : ℕ) (json : Data) → MembersRead 126 l.document begin l.from (HasValue json) → MembersRead 126 l.document begin l.end (HasValue json))

abbrev pub decreases-members : goal.decreases-members
decreases-members l = length l.document - l.end
