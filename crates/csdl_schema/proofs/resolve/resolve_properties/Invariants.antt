use Rattle.std.proofs.Common.{◌≡◌, ◌++◌, map, drop}
use Rattle.indexmap.specs.IndexMap.{get_by_text}
use Rattle.csdl_declarations.specs.DeclaredTypeView.{property_view}
use Rattle.csdl_schema.specs.private.Placed.{entry_view, placed_property}
use Rattle.csdl_schema.proofs.resolve.resolve_properties.Given as goal

-- the properties so far and those of the rest
abbrev pub invariant-loop-property : goal.invariant-loop-property
invariant-loop-property l =
    map entry_view l.properties.entries ++ map (placed_property l.kinds (get_by_text l.index_by_name)) (map property_view (drop l.property-index l.declared))
    ≡ map (placed_property l.kinds (get_by_text l.index_by_name)) (map property_view l.declared)
