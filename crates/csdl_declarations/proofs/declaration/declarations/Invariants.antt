use Rattle.std.proofs.Common.{◌≡◌, ◌++◌, drop}
use Rattle.std.specs.List.{flat_map}
use Rattle.csdl_declarations.specs.Declarations.{types_in}
use Rattle.csdl_declarations.specs.private.DocumentView.{members_of, declarations_of}
use Rattle.csdl_declarations.proofs.declaration.declarations.Given as goal

-- the types so far and those of the rest
abbrev pub invariant-loop-schema : goal.invariant-loop-schema
invariant-loop-schema l =
    declarations_of l.types.items ++ flat_map types_in (members_of (drop l.schema-index l.schemas)) ≡ flat_map types_in (members_of l.schemas)
