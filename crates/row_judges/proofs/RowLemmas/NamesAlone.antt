-- Names that occur in no node of a tree.
use Rattle.std.proofs.Common.{◌≡◌, ℕ, zero, suc, ◌+◌, List, [], ◌∷◌, Bool, true, false, slice_get, refl}
use Rattle.std.specs.Prelude.{nat_lt, unwrap_or}
use Rattle.odata_syntax.specs.Tree.{Shape, Tree, Trees, any_item, binary, call, count, has, in_list, in_path, it, lambda, literal, logical_not, member, more_trees, name, negation, no_trees, node, trees_of_list}
use Rattle.odata_checked_filter.specs.FlatTree.{FlatTree, PlacedTree, first_tree, forest, shape_of_kind, tree_of_nodes, trees_before, trees_from}
use Rattle.odata_checked_filter.specs.declared.checked_node.CheckedNode.{CheckedNode}
use Rattle.odata_checked_filter.specs.declared.checked_node.NodeKind.{NodeKind}

-- no name in the tree is one of these
abbrev mutual
  pub NamesNone : (List ℕ → Type 0) → Tree → Type 0
  NamesNone Passed (node start stop shape) = ShapeNamesNone Passed shape

  pub ShapeNamesNone : (List ℕ → Type 0) → Shape → Type 0
  ShapeNamesNone Passed (literal kind spelling) = Unit {0}
  ShapeNamesNone Passed it = Unit {0}
  ShapeNamesNone Passed (name word) = ¬ Passed word
  ShapeNamesNone Passed (member base word) = (¬ Passed word) × NamesNone Passed base
  ShapeNamesNone Passed (count base) = NamesNone Passed base
  ShapeNamesNone Passed (negation operand) = NamesNone Passed operand
  ShapeNamesNone Passed (logical_not operand) = NamesNone Passed operand
  ShapeNamesNone Passed (binary operator left right) = NamesNone Passed left × NamesNone Passed right
  ShapeNamesNone Passed (has left right) = NamesNone Passed left × NamesNone Passed right
  ShapeNamesNone Passed (in_list left items) = NamesNone Passed left × TreesNameNone Passed items
  ShapeNamesNone Passed (in_path left path) = NamesNone Passed left × NamesNone Passed path
  ShapeNamesNone Passed (call asked arguments) = TreesNameNone Passed arguments
  ShapeNamesNone Passed (any_item base) = NamesNone Passed base
  ShapeNamesNone Passed (lambda quantifier base variable body) = NamesNone Passed base × NamesNone Passed body

  pub TreesNameNone : (List ℕ → Type 0) → Trees → Type 0
  TreesNameNone Passed no_trees = Unit {0}
  TreesNameNone Passed (more_trees tree more) = NamesNone Passed tree × TreesNameNone Passed more

-- ---- names in a list's tree

abbrev EachNamesNone : (List ℕ → Type 0) → List Tree → Type 0
EachNamesNone Passed [] = Unit {0}
EachNamesNone Passed (tree ∷ more) = NamesNone Passed tree × EachNamesNone Passed more

list_but : (Passed : List ℕ → Type 0) (trees : List Tree) → EachNamesNone Passed trees → TreesNameNone Passed (trees_of_list trees)
list_but Passed [] each = tt
list_but Passed (tree ∷ more) each = (each.0, list_but Passed more each.1)

shape_but : (Passed : List ℕ → Type 0) (kind : NodeKind) (text : List ℕ) (children : List Tree) → ¬ Passed text → EachNamesNone Passed children
    → ShapeNamesNone Passed (shape_of_kind kind text children)
shape_but Passed (NodeKind.Literal kind value) text [] unnamed each = tt
shape_but Passed (NodeKind.Literal kind value) text (t ∷ ts) unnamed each = unnamed
shape_but Passed NodeKind.It text [] unnamed each = tt
shape_but Passed NodeKind.It text (t ∷ ts) unnamed each = unnamed
shape_but Passed (NodeKind.Member slot) text [] unnamed each = unnamed
shape_but Passed (NodeKind.Member slot) text (base ∷ []) unnamed each = (unnamed, each.0)
shape_but Passed (NodeKind.Member slot) text (base ∷ t ∷ ts) unnamed each = unnamed
shape_but Passed NodeKind.Count text [] unnamed each = unnamed
shape_but Passed NodeKind.Count text (base ∷ []) unnamed each = each.0
shape_but Passed NodeKind.Count text (base ∷ t ∷ ts) unnamed each = unnamed
shape_but Passed NodeKind.AnyItem text [] unnamed each = unnamed
shape_but Passed NodeKind.AnyItem text (base ∷ []) unnamed each = each.0
shape_but Passed NodeKind.AnyItem text (base ∷ t ∷ ts) unnamed each = unnamed
shape_but Passed NodeKind.Neg text [] unnamed each = unnamed
shape_but Passed NodeKind.Neg text (base ∷ []) unnamed each = each.0
shape_but Passed NodeKind.Neg text (base ∷ t ∷ ts) unnamed each = unnamed
shape_but Passed NodeKind.Not text [] unnamed each = unnamed
shape_but Passed NodeKind.Not text (base ∷ []) unnamed each = each.0
shape_but Passed NodeKind.Not text (base ∷ t ∷ ts) unnamed each = unnamed
shape_but Passed (NodeKind.Binary operator) text [] unnamed each = unnamed
shape_but Passed (NodeKind.Binary operator) text (left ∷ []) unnamed each = unnamed
shape_but Passed (NodeKind.Binary operator) text (left ∷ right ∷ []) unnamed each = (each.0, each.1.0)
shape_but Passed (NodeKind.Binary operator) text (left ∷ right ∷ t ∷ ts) unnamed each = unnamed
shape_but Passed NodeKind.Has text [] unnamed each = unnamed
shape_but Passed NodeKind.Has text (left ∷ []) unnamed each = unnamed
shape_but Passed NodeKind.Has text (left ∷ right ∷ []) unnamed each = (each.0, each.1.0)
shape_but Passed NodeKind.Has text (left ∷ right ∷ t ∷ ts) unnamed each = unnamed
shape_but Passed NodeKind.InPath text [] unnamed each = unnamed
shape_but Passed NodeKind.InPath text (left ∷ []) unnamed each = unnamed
shape_but Passed NodeKind.InPath text (left ∷ right ∷ []) unnamed each = (each.0, each.1.0)
shape_but Passed NodeKind.InPath text (left ∷ right ∷ t ∷ ts) unnamed each = unnamed
shape_but Passed (NodeKind.Lambda quantifier) text [] unnamed each = unnamed
shape_but Passed (NodeKind.Lambda quantifier) text (left ∷ []) unnamed each = unnamed
shape_but Passed (NodeKind.Lambda quantifier) text (left ∷ right ∷ []) unnamed each = (each.0, each.1.0)
shape_but Passed (NodeKind.Lambda quantifier) text (left ∷ right ∷ t ∷ ts) unnamed each = unnamed
shape_but Passed NodeKind.InList text [] unnamed each = unnamed
shape_but Passed NodeKind.InList text (left ∷ items) unnamed each = (each.0, list_but Passed items each.1)
shape_but Passed NodeKind.Now text children unnamed each = list_but Passed children each
shape_but Passed (NodeKind.Call function) text children unnamed each = list_but Passed children each
shape_but Passed (NodeKind.Property slot) text children unnamed each = unnamed
shape_but Passed (NodeKind.Variable level) text children unnamed each = unnamed

abbrev PlacedNameNone : (List ℕ → Type 0) → List PlacedTree → Type 0
PlacedNameNone Passed [] = Unit {0}
PlacedNameNone Passed (t ∷ ts) = NamesNone Passed t.tree × PlacedNameNone Passed ts

before_none : (Passed : List ℕ → Type 0) (stop : ℕ) (ts : List PlacedTree) → PlacedNameNone Passed ts → EachNamesNone Passed (trees_before stop ts)
before_none Passed stop [] none = tt
before_none Passed stop (t ∷ ts) none = by (nat_lt t.place stop) refl (before_none Passed stop ts none.1)
  where
    by : (b : Bool) → nat_lt t.place stop ≡ b → EachNamesNone Passed (trees_before stop ts) → EachNamesNone Passed (trees_before stop (t ∷ ts))
    by true is more = rw is (none.0, more)
    by false is more = rw is tt

from_none : (Passed : List ℕ → Type 0) (stop : ℕ) (ts : List PlacedTree) → PlacedNameNone Passed ts → PlacedNameNone Passed (trees_from stop ts)
from_none Passed stop [] none = tt
from_none Passed stop (t ∷ ts) none = by (nat_lt t.place stop) refl (from_none Passed stop ts none.1)
  where
    by : (b : Bool) → nat_lt t.place stop ≡ b → PlacedNameNone Passed (trees_from stop ts) → PlacedNameNone Passed (trees_from stop (t ∷ ts))
    by true is more = rw is more
    by false is more = rw is none

-- each node has a text that is none of these names
abbrev pub NodesNameNone : (List ℕ → Type 0) → List (List ℕ) → ℕ → List CheckedNode → Type 0
NodesNameNone Passed texts i [] = Unit {0}
NodesNameNone Passed texts i (found ∷ rest) = (¬ Passed (unwrap_or (slice_get texts i) [])) × NodesNameNone Passed texts (i + 1) rest

forest_none : (Passed : List ℕ → Type 0) (texts : List (List ℕ)) (i : ℕ) (nodes : List CheckedNode) → NodesNameNone Passed texts i nodes → PlacedNameNone Passed (forest texts i nodes)
forest_none Passed texts i [] none = tt
forest_none Passed texts i (found ∷ rest) none =
    let behind = forest texts (i + 1) rest in
    let more = forest_none Passed texts (i + 1) rest none.1 in
    (shape_but Passed found.kind (unwrap_or (slice_get texts i) []) (trees_before found.stop behind) none.0 (before_none Passed found.stop behind more), from_none Passed found.stop behind more)

first_none : (Passed : List ℕ → Type 0) (ts : List PlacedTree) → ¬ Passed [] → PlacedNameNone Passed ts → NamesNone Passed (first_tree ts)
first_none Passed [] unnamed none = unnamed
first_none Passed (t ∷ ts) unnamed none = none.0

pub list_none : (Passed : List ℕ → Type 0) (list : FlatTree) → ¬ Passed [] → NodesNameNone Passed list.texts 0 list.nodes → NamesNone Passed (tree_of_nodes list)
list_none Passed list unnamed none = first_none Passed (forest list.texts 0 list.nodes) unnamed (forest_none Passed list.texts 0 list.nodes none)
