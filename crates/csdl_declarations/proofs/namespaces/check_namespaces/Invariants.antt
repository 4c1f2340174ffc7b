use Rattle.std.proofs.Common.{◌≡◌, drop}
use Rattle.std.specs.List.{flat_map}
use Rattle.serde_json.specs.View.{view}
use Rattle.csdl_declarations.specs.Members.{declared_in}
use Rattle.csdl_declarations.specs.Faults.{namespace_faults}
use Rattle.csdl_declarations.specs.private.DocumentView.{members_of}
use Rattle.csdl_declarations.proofs.namespaces.check_namespaces.Given as goal

-- the faults are those of the rest
abbrev pub invariant-loop-schema : goal.invariant-loop-schema
invariant-loop-schema l =
    flat_map (namespace_faults (declared_in (view l.document))) (members_of (drop l.schema-index l.schemas))
    ≡ flat_map (namespace_faults (declared_in (view l.document))) (declared_in (view l.document))
