use Rattle.std.proofs.Common.{◌≡◌, drop}
use Rattle.std.specs.List.{list_any}
use Rattle.csdl_schema.specs.private.Placed.{owns_at}
use Rattle.csdl_schema.specs.private.PlacedView.{placed_of}
use Rattle.csdl_schema.proofs.chain.is_owned.Given as goal

-- the rest decides
abbrev pub invariant-loop-place : goal.invariant-loop-place
invariant-loop-place l =
    list_any (owns_at (placed_of l.types) l.name) (drop l.place-index l.places) ≡ list_any (owns_at (placed_of l.types) l.name) l.places
