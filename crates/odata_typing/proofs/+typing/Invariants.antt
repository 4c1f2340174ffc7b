use Rattle.std.proofs.Common.{ℕ, ◌+◌, ◌-◌, ◌*◌}
use Rattle.odata_typing.proofs.stacks.Walking.{IsWalking}
use Rattle.odata_typing.proofs.+typing.Given as goal

-- the nodes from an index to another count first, and of the same ones a lambda operator comes before its run
abbrev pub run_between : ℕ → ℕ → ℕ
run_between from stop = 2 * (stop - from)

abbrev pub lambda_between : ℕ → ℕ → ℕ
lambda_between from stop = run_between from stop + 1

abbrev pub decreases-node_walk::checked_nodes : goal.decreases-node_walk::checked_nodes
decreases-node_walk::checked_nodes l = run_between l.from l.stop

abbrev pub decreases-lambda_node::checked_lambda : goal.decreases-lambda_node::checked_lambda
decreases-lambda_node::checked_lambda l = lambda_between l.from l.index

-- the trees of the run so far have been judged
abbrev pub invariant-node_walk::checked_nodes-loop-index : goal.invariant-node_walk::checked_nodes-loop-index
invariant-node_walk::checked_nodes-loop-index l = IsWalking l.context l.from l.stop l.index l.initial.walk l.walk

abbrev pub decreases-node_walk::checked_nodes-loop-index : goal.decreases-node_walk::checked_nodes-loop-index
decreases-node_walk::checked_nodes-loop-index l = l.stop - l.index
