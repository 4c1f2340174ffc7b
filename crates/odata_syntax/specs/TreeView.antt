-- The tree that a node of the code stands for.
use Rattle.std.specs.Borrow.{Bor}
use Rattle.std.specs.Prelude.{List, None, Some, map, string_bytes}
use Rattle.odata_syntax.specs.declared.node.Node.{Node, fold-Node}
use Rattle.odata_syntax.specs.declared.node.Node.TheOpen.{Node-F}
use Rattle.odata_syntax.specs.declared.node.Quantifier.{Quantifier}
use Rattle.odata_syntax.specs.PrintedTree.{PrintedTrees}
use Rattle.odata_syntax.specs.Tree.{Tree, Trees, any_item, binary, call, count, has, in_list, in_path, it, lambda, literal, logical_not, member, name, negation, node, trees_of_list}

-- one level, with each child already seen as its tree
abbrev pub tree_step : Node-F Tree → Tree
tree_step (Node-F.Lit span kind text) = node span.start span.stop (literal kind (string_bytes text))
tree_step (Node-F.It span) = node span.start span.stop it
tree_step (Node-F.Name span text) = node span.start span.stop (name (string_bytes text))
tree_step (Node-F.Member span base text) = node span.start span.stop (member base.value (string_bytes text))
tree_step (Node-F.Count span base) = node span.start span.stop (count base.value)
tree_step (Node-F.Neg span operand) = node span.start span.stop (negation operand.value)
tree_step (Node-F.Not span operand) = node span.start span.stop (logical_not operand.value)
tree_step (Node-F.Binary span operator left right) = node span.start span.stop (binary operator left.value right.value)
tree_step (Node-F.Has span left right) = node span.start span.stop (has left.value right.value)
tree_step (Node-F.InList span left items) = node span.start span.stop (in_list left.value (trees_of_list items.items))
tree_step (Node-F.InPath span left path) = node span.start span.stop (in_path left.value path.value)
tree_step (Node-F.Call span text arguments) =
    node span.start span.stop (call (string_bytes text) (trees_of_list arguments.items))
tree_step (Node-F.Any span base None) = node span.start span.stop (any_item base.value)
tree_step (Node-F.Any span base (Some l)) =
    node span.start span.stop (lambda Quantifier.Any base.value (string_bytes l.0) l.1.value)
tree_step (Node-F.All span base variable body) =
    node span.start span.stop (lambda Quantifier.All base.value (string_bytes variable) body.value)

-- the tree that a node of the code stands for
abbrev pub tree_of : Node → Tree
tree_of = fold-Node Tree tree_step

-- nodes one after another
abbrev pub trees_of : List Node → Trees
trees_of nodes = trees_of_list (map tree_of nodes)

-- the same, as the printer asks for them
abbrev pub trees_of_nodes : PrintedTrees (Bor Node) (Bor (List Node))
trees_of_nodes =
    record {
      tree_of = λ there. tree_of there.now;
      trees_of = λ those. trees_of those.now;
      HasTree = λ there. Unit {0};
      HaveTrees = λ those. Unit {0};
    }
