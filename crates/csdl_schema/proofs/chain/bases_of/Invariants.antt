use Rattle.std.proofs.Common.{◌≡◌, ◌++◌}
use Rattle.csdl_schema.specs.private.Placed.{places_within}
use Rattle.csdl_schema.specs.private.PlacedView.{placed_of}
use Rattle.csdl_schema.proofs.chain.bases_of.Given as goal

-- the indexes so far and those further up
abbrev pub invariant-loop-left : goal.invariant-loop-left
invariant-loop-left l =
    l.places.items ++ places_within l.left (placed_of l.types) l.below ≡ places_within l.limit (placed_of l.types) l.index

abbrev pub decreases-loop-left : goal.decreases-loop-left
decreases-loop-left l = l.left
