use Rattle.std.proofs.Common.{◌≡◌, ◌≤◌, ◌+◌, ◌++◌, drop, length}
use Rattle.std.specs.List.{AllByRecursion}
use Rattle.std.specs.Vec.Iter.{into_iter_items}
use Rattle.indexmap.specs.IndexMap.{get_by_text}
use Rattle.csdl_declarations.specs.DeclaredType.{IsBodyInOrder}
use Rattle.csdl_declarations.specs.DeclaredTypeView.{types_view}
use Rattle.csdl_schema.specs.private.Placed.{types_with}
use Rattle.csdl_schema.specs.private.PlacedView.{placed_of}
use Rattle.csdl_schema.proofs.place_types.place_types.Given as goal

-- the types so far and those of the rest
abbrev pub invariant-loop-declared : goal.invariant-loop-declared
invariant-loop-declared l = record {
  based : l.index + length (into_iter_items l.declared-iterator) ≤ length l.bases;
  ordered : AllByRecursion (λ t. IsBodyInOrder t.body) (types_view (into_iter_items l.declared-iterator));
  types : placed_of l.placed.items ++ types_with l.kinds (get_by_text l.index_by_name) (drop l.index l.bases) (types_view (into_iter_items l.declared-iterator))
      ≡ types_with l.kinds (get_by_text l.index_by_name) l.bases (types_view l.fn.types.items);
}
