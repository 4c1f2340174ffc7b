use Rattle.std.proofs.Common.{◌≡◌, ◌≤◌, map, drop, length, option_map}
use Rattle.csdl_schema.specs.BaseFaults.{first_name}
use Rattle.csdl_schema.specs.private.Placed.{entry_view, names_owned}
use Rattle.csdl_schema.specs.private.PlacedView.{placed_of}
use Rattle.csdl_schema.proofs.property_names.first_owned.Given as goal

-- the first of those from the slot on
abbrev pub invariant-loop-slot : goal.invariant-loop-slot
invariant-loop-slot l =
    (l.slot ≤ length l.properties.entries)
    × (option_map (λ s. s.now) l.first ≡ first_name (names_owned (placed_of l.types) l.places (map (λ e. e.0) (map entry_view (drop l.slot l.properties.entries)))))

abbrev pub decreases-loop-slot : goal.decreases-loop-slot
decreases-loop-slot l = l.slot
