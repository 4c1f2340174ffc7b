use Rattle.std.proofs.Common.{◌≡◌, ◌++◌, drop}
use Rattle.csdl_schema.specs.private.Placed.{chains_from, faults_from}
use Rattle.csdl_schema.specs.private.PlacedView.{placed_of}
use Rattle.csdl_schema.proofs.check_bases.check_types.Given as goal

-- the faults are those of the rest, the chains those so far and those of the rest
abbrev pub invariant-loop-index : goal.invariant-loop-index
invariant-loop-index l = record {
  faults : faults_from (placed_of l.types) l.index (drop l.index l.bases) (placed_of (drop l.index l.types))
      ≡ faults_from (placed_of l.types) 0 l.bases (placed_of l.types);
  chains : l.chains.items ++ chains_from (placed_of l.types) l.index (placed_of (drop l.index l.types))
      ≡ chains_from (placed_of l.types) 0 (placed_of l.types);
}
