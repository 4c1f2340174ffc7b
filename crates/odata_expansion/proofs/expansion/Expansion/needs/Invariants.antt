use Rattle.std.proofs.Common.{◌≡◌, Some, map, drop}
use Rattle.odata_expansion.specs.ExpansionView.{paths_at, paths_in}
use Rattle.odata_expansion.proofs.expansion.Expansion.needs.Given as goal

-- the rest of the path is in the set after the node if the whole is in the set
abbrev pub invariant-loop-name : goal.invariant-loop-name
invariant-loop-name l =
    paths_at l.self (Some l.node) (map (λ name. name.now) (drop l.name-index l.path)) ≡ paths_in l.self (map (λ name. name.now) l.path)
