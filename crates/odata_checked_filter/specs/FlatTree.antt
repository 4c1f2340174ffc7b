-- A tree as one list of its nodes in pre-order.
use Rattle.std.specs.Prelude.{ℕ, ◌+◌, List, [], ◌∷◌, slice_get, nat_lt, unwrap_or, if◌then◌else◌, codes}
use Rattle.edm_values.specs.declared.value.Value.{Value}
use Rattle.odata_syntax.specs.Tree.{Tree, node, Shape, literal, it, name, member, negation, logical_not, binary, has, in_list, in_path, count, call, any_item, lambda, trees_of_list}
use Rattle.odata_signatures.specs.Functions.{row_of}
use Rattle.odata_checked_filter.specs.declared.checked_node.CheckedNode.{CheckedNode}
use Rattle.odata_checked_filter.specs.declared.checked_node.NodeKind.{NodeKind}

-- the nodes, the values of their literals, and the text of each node: a literal's spelling, a name (of a lambda
-- operator that of its variable), else nothing; and the text of the filter, of which these are parts
pub record FlatTree : Type 0 where
  pub nodes : List CheckedNode
  pub values : List Value
  pub texts : List (List ℕ)
  pub source : List ℕ

-- what a node is, by its kind, its text and its children; what is of no form counts as a name
abbrev pub shape_of_kind : NodeKind → List ℕ → List Tree → Shape
shape_of_kind (NodeKind.Literal kind value) text [] = literal kind text
shape_of_kind NodeKind.It text [] = it
shape_of_kind (NodeKind.Member slot) text (base ∷ []) = member base text
shape_of_kind NodeKind.Count text (base ∷ []) = count base
shape_of_kind NodeKind.AnyItem text (base ∷ []) = any_item base
shape_of_kind NodeKind.Neg text (operand ∷ []) = negation operand
shape_of_kind NodeKind.Not text (operand ∷ []) = logical_not operand
shape_of_kind (NodeKind.Binary operator) text (left ∷ right ∷ []) = binary operator left right
shape_of_kind NodeKind.Has text (left ∷ right ∷ []) = has left right
shape_of_kind NodeKind.InList text (left ∷ items) = in_list left (trees_of_list items)
shape_of_kind NodeKind.InPath text (left ∷ path ∷ []) = in_path left path
shape_of_kind (NodeKind.Lambda quantifier) text (base ∷ body ∷ []) = lambda quantifier base text body
shape_of_kind NodeKind.Now text children = call (codes "now") (trees_of_list children)
shape_of_kind (NodeKind.Call function) text children = call (row_of function).name (trees_of_list children)
shape_of_kind kind text children = name text

-- a tree, and the number of its first node
pub record PlacedTree : Type 0 where
  pub place : ℕ
  pub tree : Tree

-- of trees one after another, those that start before an index
abbrev pub trees_before : ℕ → List PlacedTree → List Tree
trees_before stop [] = []
trees_before stop (t ∷ ts) = if nat_lt t.place stop then t.tree ∷ trees_before stop ts else []

-- and the others
abbrev pub trees_from : ℕ → List PlacedTree → List PlacedTree
trees_from stop [] = []
trees_from stop (t ∷ ts) = if nat_lt t.place stop then trees_from stop ts else t ∷ ts

-- a node's tree: its children are the trees after it that start before it stops
abbrev pub tree_at : List (List ℕ) → ℕ → CheckedNode → List PlacedTree → Tree
tree_at texts i found behind =
    node found.span.start found.span.stop
    (shape_of_kind found.kind (unwrap_or (slice_get texts i) []) (trees_before found.stop behind))

-- the trees of the nodes from the i-th on, one after another
abbrev pub forest : List (List ℕ) → ℕ → List CheckedNode → List PlacedTree
forest texts i [] = []
forest texts i (found ∷ rest) =
    record { place = i; tree = tree_at texts i found (forest texts (i + 1) rest) }
    ∷ trees_from found.stop (forest texts (i + 1) rest)

-- the first tree; where there is none, a name without letters
abbrev pub first_tree : List PlacedTree → Tree
first_tree [] = node 0 0 (name [])
first_tree (t ∷ ts) = t.tree

-- the tree that the list stands for
abbrev pub tree_of_nodes : FlatTree → Tree
tree_of_nodes list = first_tree (forest list.texts 0 list.nodes)
