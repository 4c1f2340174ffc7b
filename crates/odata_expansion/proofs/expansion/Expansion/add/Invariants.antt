use Rattle.std.proofs.Common.{◌≡◌, map, take}
use Rattle.odata_expansion.specs.PathSet.{PropertyPath}
use Rattle.odata_expansion.specs.ExpansionView.{LeadsTo, paths_in}
use Rattle.odata_expansion.proofs.expansion.Expansion.add.Given as goal

-- the set is the same, and the names so far lead to the node
abbrev pub invariant-loop-name : goal.invariant-loop-name
invariant-loop-name l = record {
  same : (asked : PropertyPath) → paths_in l.self asked ≡ paths_in l.fn.self asked;
  leads : LeadsTo l.self (map (λ name. name.now) (take l.name-index l.path)) l.node;
}
