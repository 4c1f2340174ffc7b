use Rattle.std.proofs.Common.{◌-◌, length}
use Rattle.filter_context.specs.private.Place.{TruthStands}
use Rattle.odata_eval.proofs.walking.AndChains.{AndsBefore}
use Rattle.odata_eval.proofs.and_chain.ands_end.Given as goal

abbrev pub invariant-loop-place : goal.invariant-loop-place
invariant-loop-place l = record {
  stands : TruthStands l.context l.place;
  ands : AndsBefore l.context.list l.place;
}

abbrev pub decreases-loop-place : goal.decreases-loop-place
decreases-loop-place l = length l.context.list.nodes - l.place
