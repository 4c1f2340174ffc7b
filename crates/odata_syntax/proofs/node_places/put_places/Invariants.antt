use Rattle.std.proofs.Common.{◌≡◌}
use Rattle.odata_syntax.specs.private.PlaceGrowth.{IsGrowing, places_before, unplaced_nodes}
use Rattle.odata_syntax.proofs.node_places.put_places.Given as goal

abbrev pub invariant-loop-index : goal.invariant-loop-index
invariant-loop-index l = record {
  growing : IsGrowing (unplaced_nodes l.fn.nodes.items) (places_before l.nodes.items l.index);
  same : unplaced_nodes l.nodes.items ≡ unplaced_nodes l.fn.nodes.items;
}
