use Rattle.std.proofs.Common.{◌≡◌, ℕ, List, ◌≤◌, length, take}
use Rattle.odata_syntax.specs.Places.{first_over}
use Rattle.odata_syntax.specs.private.PlaceGrowth.{AreTiles, places_before}
use Rattle.odata_syntax.proofs.node_places.first_of.Given as goal

abbrev pub invariant-loop : goal.invariant-loop
invariant-loop l =
    (roots : List ℕ) → AreTiles (places_before l.nodes.items l.index) l.index roots → l.count ≤ length roots
    → l.first ≡ first_over (places_before l.nodes.items l.index) l.index (take l.counter roots)
