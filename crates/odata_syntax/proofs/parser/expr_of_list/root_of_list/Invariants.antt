use Rattle.std.proofs.Common.{◌≡◌, take}
use Rattle.odata_syntax.specs.PostOrder.{trees_in}
use Rattle.odata_syntax.specs.private.Forests.{forest_trees, token_texts}
use Rattle.odata_syntax.proofs.parser.expr_of_list.root_of_list.Given as goal

-- the trees of the nodes so far
abbrev pub invariant-loop-node : goal.invariant-loop-node
invariant-loop-node l = forest_trees l.forest ≡ trees_in (token_texts l.fn.tokens) (take l.node-index l.nodes)
