use Rattle.std.proofs.Common.{◌≡◌, ◌++◌, map, drop, option_map}
use Rattle.csdl_schema.specs.private.Placed.{firsts_from}
use Rattle.csdl_schema.specs.private.PlacedView.{placed_of}
use Rattle.csdl_schema.proofs.property_names.first_names_again.Given as goal

-- those so far and those of the rest
abbrev pub invariant-loop-index : goal.invariant-loop-index
invariant-loop-index l =
    map (option_map (λ s. s.now)) l.firsts.items ++ firsts_from (placed_of l.types) l.index (placed_of (drop l.index l.types))
    ≡ firsts_from (placed_of l.types) 0 (placed_of l.types)
