use Rattle.std.proofs.Common.{ℕ, ◌≤◌}
use Rattle.odata_syntax.proofs.node.Node.TheLaws.{the_size}
use Rattle.odata_syntax.proofs.node.Node.+drop.Given as goal

-- the node that is left is a part of the one at the start
abbrev pub invariant-loop-self : goal.invariant-loop-self
invariant-loop-self l = the_size l.self ≤ the_size l.initial.self
