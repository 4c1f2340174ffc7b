use Rattle.std.proofs.Common.{◌≡◌, ◌++◌, map, drop}
use Rattle.std.specs.List.{flat_map}
use Rattle.csdl_declarations.specs.DeclaredType.{declared_property}
use Rattle.csdl_declarations.specs.DeclaredTypeView.{property_view}
use Rattle.csdl_declarations.specs.Faults.{property_faults}
use Rattle.csdl_declarations.specs.private.DocumentView.{members_of}
use Rattle.csdl_declarations.proofs.read_properties.read_properties.Given as goal

-- the faults are those of the rest, the properties those so far and those of the rest
abbrev pub invariant-loop-member : goal.invariant-loop-member
invariant-loop-member l =
    (flat_map (property_faults l.owner) (members_of (drop l.member-index l.members)) ≡ flat_map (property_faults l.owner) (members_of l.members))
    × (map property_view l.properties.items ++ map declared_property (members_of (drop l.member-index l.members)) ≡ map declared_property (members_of l.members))
