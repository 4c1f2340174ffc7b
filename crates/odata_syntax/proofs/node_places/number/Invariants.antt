use Rattle.std.proofs.Common.{◌≡◌}
use Rattle.odata_syntax.specs.Places.{places_of}
use Rattle.odata_syntax.specs.private.PlaceGrowth.{begun_before, unplaced_nodes}
use Rattle.odata_syntax.proofs.numbering.Numbers.{IsNumberedUntil}
use Rattle.odata_syntax.proofs.node_places.number.Given as goal

abbrev pub invariant-loop-index : goal.invariant-loop-index
invariant-loop-index l = record {
  numbered : IsNumberedUntil (places_of l.fn.nodes.items) (places_of l.nodes.items) l.index;
  next : l.stop ≡ begun_before (places_of l.fn.nodes.items) l.index;
  same : unplaced_nodes l.nodes.items ≡ unplaced_nodes l.fn.nodes.items;
}
