use Rattle.std.proofs.Common.{◌≡◌, ◌++◌, drop}
use Rattle.csdl_declarations.specs.DeclaredTypeView.{types_view}
use Rattle.csdl_schema.specs.private.Placed.{kinds_from}
use Rattle.csdl_schema.proofs.resolve.place_kinds.Given as goal

-- the kinds so far and those of the rest
abbrev pub invariant-loop-index : goal.invariant-loop-index
invariant-loop-index l =
    l.kinds.items ++ kinds_from l.index (types_view (drop l.index l.types)) ≡ kinds_from 0 (types_view l.types)
