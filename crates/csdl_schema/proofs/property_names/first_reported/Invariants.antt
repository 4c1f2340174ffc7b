use Rattle.std.proofs.Common.{◌≡◌, map, drop, option_map}
use Rattle.csdl_schema.specs.private.Placed.{first_reported, lesser_of}
use Rattle.csdl_schema.proofs.property_names.first_reported.Given as goal

-- the first so far, and that of the rest
abbrev pub invariant-loop-place : goal.invariant-loop-place
invariant-loop-place l =
    lesser_of (option_map (λ s. s.now) l.first) (first_reported (map (option_map (λ s. s.now)) l.firsts) (drop l.place-index l.places))
    ≡ first_reported (map (option_map (λ s. s.now)) l.firsts) l.places
