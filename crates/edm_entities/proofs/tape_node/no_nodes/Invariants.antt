use Rattle.std.proofs.Common.{◌≡◌, None, replicate}
use Rattle.edm_entities.proofs.tape_node.no_nodes.Given as goal

-- none in each slot so far
abbrev pub invariant-loop : goal.invariant-loop
invariant-loop g l = l.nodes.items ≡ replicate l.counter None
