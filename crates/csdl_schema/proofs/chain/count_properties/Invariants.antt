use Rattle.std.proofs.Common.{◌≡◌, ◌≤◌, ◌+◌, drop}
use Rattle.csdl_schema.specs.private.Placed.{count_at}
use Rattle.csdl_schema.specs.private.PlacedView.{placed_of}
use Rattle.csdl_schema.proofs.chain.count_properties.Given as goal

-- those so far and those of the rest are all
abbrev pub invariant-loop-place : goal.invariant-loop-place
invariant-loop-place l =
    (l.count ≤ 1024) × (l.count + count_at (placed_of l.types) (drop l.place-index l.places) ≡ count_at (placed_of l.types) l.places)
