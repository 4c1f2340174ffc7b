-- The trees that nodes stand for which the printer asks for one after another.
use Rattle.std.specs.Prelude.{◌≡◌, Option, None, Some}
use Rattle.odata_syntax.specs.Tree.{Shape, Tree, Trees, any_item, binary, call, count, has, in_list, in_path, it, lambda, literal, logical_not, member, more_trees, name, negation, no_trees, shape_of}
use Rattle.odata_syntax.specs.declared.printer.printed_tree.AfterFirst.{AfterFirst}
use Rattle.odata_syntax.specs.declared.printer.printed_tree.NodeShape.{NodeShape}

-- the tree of a node, and those of items, where they have any
pub record PrintedTrees (N I : Type 0) : Type 1 where
  pub tree_of : N → Tree
  pub trees_of : I → Trees
  pub HasTree : N → Type 0
  pub HaveTrees : I → Type 0

-- what stands after the first operand, with trees for nodes
abbrev pub printed_rest : {N I : Type 0} → PrintedTrees N I → AfterFirst N I → AfterFirst Tree Trees
printed_rest trees (AfterFirst.Member asked) = AfterFirst.Member asked
printed_rest trees AfterFirst.Count = AfterFirst.Count
printed_rest trees AfterFirst.AnyItem = AfterFirst.AnyItem
printed_rest trees (AfterFirst.Lambda quantifier variable body) =
    AfterFirst.Lambda quantifier variable (trees.tree_of body)
printed_rest trees (AfterFirst.Binary operator right) = AfterFirst.Binary operator (trees.tree_of right)
printed_rest trees (AfterFirst.Has right) = AfterFirst.Has (trees.tree_of right)
printed_rest trees (AfterFirst.InList items) = AfterFirst.InList (trees.trees_of items)
printed_rest trees (AfterFirst.InPath path) = AfterFirst.InPath (trees.tree_of path)

-- a first operand, and what stands after that
abbrev pub joined : Tree → AfterFirst Tree Trees → Shape
joined first (AfterFirst.Member asked) = member first asked.now
joined first AfterFirst.Count = count first
joined first AfterFirst.AnyItem = any_item first
joined first (AfterFirst.Lambda quantifier variable body) = lambda quantifier first variable.now body
joined first (AfterFirst.Binary operator right) = binary operator first right
joined first (AfterFirst.Has right) = has first right
joined first (AfterFirst.InList items) = in_list first items
joined first (AfterFirst.InPath path) = in_path first path

-- a shape of the code, with trees for nodes
abbrev pub printed_shape : {N I : Type 0} → PrintedTrees N I → NodeShape N I → Shape
printed_shape trees (NodeShape.Literal kind spelling) = literal kind spelling.now
printed_shape trees NodeShape.It = it
printed_shape trees (NodeShape.Name text) = name text.now
printed_shape trees (NodeShape.Neg operand) = negation (trees.tree_of operand)
printed_shape trees (NodeShape.Not operand) = logical_not (trees.tree_of operand)
printed_shape trees (NodeShape.Call text arguments) = call text.now (trees.trees_of arguments)
printed_shape trees (NodeShape.Joined first rest) = joined (trees.tree_of first) (printed_rest trees rest)

-- what stands after the first operand has trees
abbrev pub HasFurther : {N I : Type 0} → PrintedTrees N I → AfterFirst N I → Type 0
HasFurther trees (AfterFirst.Lambda quantifier variable body) = trees.HasTree body
HasFurther trees (AfterFirst.Binary operator right) = trees.HasTree right
HasFurther trees (AfterFirst.Has right) = trees.HasTree right
HasFurther trees (AfterFirst.InList items) = trees.HaveTrees items
HasFurther trees (AfterFirst.InPath path) = trees.HasTree path
HasFurther trees _ = Unit {0}

-- the operands and items of a shape have trees
abbrev pub HasOperands : {N I : Type 0} → PrintedTrees N I → NodeShape N I → Type 0
HasOperands trees (NodeShape.Neg operand) = trees.HasTree operand
HasOperands trees (NodeShape.Not operand) = trees.HasTree operand
HasOperands trees (NodeShape.Call text arguments) = trees.HaveTrees arguments
HasOperands trees (NodeShape.Joined first rest) = trees.HasTree first × HasFurther trees rest
HasOperands trees _ = Unit {0}

-- the shape of a node, whose operands have trees
pub record IsShapeOf {N I : Type 0} (trees : PrintedTrees N I) (there : N) (shape : NodeShape N I) : Type 0 where
  pub same : printed_shape trees shape ≡ shape_of (trees.tree_of there)
  pub operands : HasOperands trees shape

-- the first of some items, and the others
pub record AreSplit {N I : Type 0} (trees : PrintedTrees N I) (items : I) (first : N) (rest : I) : Type 0 where
  pub whole : trees.trees_of items ≡ more_trees (trees.tree_of first) (trees.trees_of rest)
  pub has_first : trees.HasTree first
  pub have_rest : trees.HaveTrees rest

-- what the first of some items is, if there is one
abbrev pub IsSplit : {N I : Type 0} → PrintedTrees N I → I → Option (N × I) → Type 0
IsSplit trees items None = trees.trees_of items ≡ no_trees
IsSplit trees items (Some split) = AreSplit trees items split.0 split.1
