use Rattle.std.proofs.Common.{◌≡◌}
use Rattle.std.specs.List.{flat_map}
use Rattle.serde_json.specs.View.{members_view}
use Rattle.csdl_declarations.specs.EnumerationDeclaration.{member_faults}
use Rattle.csdl_declarations.specs.Members.{declared_among}
use Rattle.csdl_declarations.proofs.EnumerationNumbers.{IsReadSoFar}
use Rattle.csdl_declarations.proofs.read_enumeration.read_members.Given as goal

-- the faults are those of the rest, the members those so far and those of the rest
abbrev pub invariant-loop-key : goal.invariant-loop-key
invariant-loop-key l =
    (flat_map (member_faults l.owner l.underlying) (declared_among (members_view l.key-iterator))
    ≡ flat_map (member_faults l.owner l.underlying) (declared_among (members_view l.members.entries)))
    × IsReadSoFar l.enumeration l.underlying l.is_flags (declared_among (members_view l.key-iterator)) (declared_among (members_view l.members.entries))
