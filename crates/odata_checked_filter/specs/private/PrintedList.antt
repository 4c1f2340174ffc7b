-- For private clauses: the trees of a list, as the printer asks for them.
use Rattle.std.specs.Prelude.{ℕ, drop}
use Rattle.odata_syntax.specs.PrintedTree.{PrintedTrees}
use Rattle.odata_syntax.specs.Tree.{Tree, Trees, trees_of_list}
use Rattle.odata_checked_filter.specs.FlatTree.{FlatTree, first_tree, forest, trees_before}
use Rattle.odata_checked_filter.specs.private.LambdaLines.{IsLine, StandsBetween}

-- the tree of the i-th node
abbrev pub tree_there : FlatTree → ℕ → Tree
tree_there list i = first_tree (forest list.texts i (drop i list.nodes))

-- the trees of the nodes from the i-th up to the j-th
abbrev pub trees_there : FlatTree → ℕ → ℕ → Trees
trees_there list i j = trees_of_list (trees_before j (forest list.texts i (drop i list.nodes)))

-- the nodes from the i-th on lie as some tree does
abbrev pub HasTreeAt : FlatTree → ℕ → Type 0
HasTreeAt list i = (j : ℕ) × (tree : Tree) × StandsBetween list i j tree

-- a node is its index; items are the index of the first one, and the one after the last
abbrev pub trees_in : FlatTree → PrintedTrees ℕ (ℕ × ℕ)
trees_in list =
    record {
      tree_of = tree_there list;
      trees_of = λ items. trees_there list items.0 items.1;
      HasTree = HasTreeAt list;
      HaveTrees = λ items. IsLine list items.0 items.1;
    }
