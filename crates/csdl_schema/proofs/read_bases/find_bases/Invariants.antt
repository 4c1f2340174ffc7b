use Rattle.std.proofs.Common.{◌≡◌, ◌++◌, map, drop}
use Rattle.indexmap.specs.IndexMap.{get_by_text}
use Rattle.csdl_declarations.specs.DeclaredTypeView.{types_view}
use Rattle.csdl_schema.specs.private.Placed.{found_base}
use Rattle.csdl_schema.proofs.read_bases.find_bases.Given as goal

-- the bases so far and those of the rest
abbrev pub invariant-loop-declared : goal.invariant-loop-declared
invariant-loop-declared l =
    l.bases.items ++ map (λ t. found_base (types_view l.types) (get_by_text l.index_by_name) t.body) (types_view (drop l.declared-index l.types))
    ≡ map (λ t. found_base (types_view l.types) (get_by_text l.index_by_name) t.body) (types_view l.types)
