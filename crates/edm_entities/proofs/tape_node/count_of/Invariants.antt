use Rattle.std.proofs.Common.{length}
use Rattle.edm_entities.proofs.tape_node.count_of.Given as goal

abbrev pub decreases-items : goal.decreases-items
decreases-items l = length l.items
