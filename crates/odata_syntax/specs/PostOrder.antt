-- The trees that a list of nodes stands for, each node after its children.
use Rattle.std.specs.Prelude.{◌≡◌, ℕ, ◌+◌, ◌-◌, ◌≤◌, List, [], ◌∷◌, reverse, take, drop}
use Rattle.std.specs.Str.{str_to_ascii_lowercase}
use Rattle.odata_text.specs.declared.span.Span.{Span}
use Rattle.odata_syntax.specs.declared.syntax_list.SyntaxKind.{SyntaxKind}
use Rattle.odata_syntax.specs.declared.syntax_list.SyntaxNode.{SyntaxNode}
use Rattle.odata_syntax.specs.Tree.{Shape, Tree, any_item, binary, call, count, has, in_list, in_path, it, lambda, literal, logical_not, member, name, negation, node, trees_of_list}

-- the text that the caller finds where a node says
abbrev pub Texts : Type 0
Texts = Span → List ℕ

-- the last of some trees, of which the last comes first; where there is none, `$it` at the start
abbrev pub last_tree : List Tree → Tree
last_tree [] = node 0 0 it
last_tree (tree ∷ trees) = tree

-- and those before it
abbrev pub trees_before : List Tree → List Tree
trees_before [] = []
trees_before (tree ∷ trees) = trees

-- the last so many trees, in the order of the text
abbrev pub last_trees : ℕ → List Tree → List Tree
last_trees wanted trees = reverse (take wanted trees)

-- what a node is, by its kind, its text, the number of its items and the trees before it
abbrev pub shape_over : SyntaxKind → List ℕ → ℕ → List Tree → Shape
shape_over (SyntaxKind.Lit kind) text items trees = literal kind text
shape_over SyntaxKind.It text items trees = it
shape_over SyntaxKind.Name text items trees = name text
shape_over SyntaxKind.Member text items trees = member (last_tree trees) text
shape_over SyntaxKind.Count text items trees = count (last_tree trees)
shape_over SyntaxKind.Neg text items trees = negation (last_tree trees)
shape_over SyntaxKind.Not text items trees = logical_not (last_tree trees)
shape_over (SyntaxKind.Binary operator) text items trees =
    binary operator (last_tree (trees_before trees)) (last_tree trees)
shape_over SyntaxKind.Has text items trees = has (last_tree (trees_before trees)) (last_tree trees)
shape_over SyntaxKind.InList text items trees =
    in_list (last_tree (drop items trees)) (trees_of_list (last_trees items trees))
shape_over SyntaxKind.InPath text items trees = in_path (last_tree (trees_before trees)) (last_tree trees)
shape_over SyntaxKind.Call text items trees =
    call (str_to_ascii_lowercase text) (trees_of_list (last_trees items trees))
shape_over SyntaxKind.AnyItem text items trees = any_item (last_tree trees)
shape_over (SyntaxKind.Lambda quantifier) text items trees =
    lambda quantifier (last_tree (trees_before trees)) text (last_tree trees)

-- the trees before it that are not its children
abbrev pub trees_left : SyntaxKind → ℕ → List Tree → List Tree
trees_left (SyntaxKind.Lit kind) items trees = trees
trees_left SyntaxKind.It items trees = trees
trees_left SyntaxKind.Name items trees = trees
trees_left SyntaxKind.Member items trees = trees_before trees
trees_left SyntaxKind.Count items trees = trees_before trees
trees_left SyntaxKind.Neg items trees = trees_before trees
trees_left SyntaxKind.Not items trees = trees_before trees
trees_left (SyntaxKind.Binary operator) items trees = trees_before (trees_before trees)
trees_left SyntaxKind.Has items trees = trees_before (trees_before trees)
trees_left SyntaxKind.InList items trees = trees_before (drop items trees)
trees_left SyntaxKind.InPath items trees = trees_before (trees_before trees)
trees_left SyntaxKind.Call items trees = drop items trees
trees_left SyntaxKind.AnyItem items trees = trees_before trees
trees_left (SyntaxKind.Lambda quantifier) items trees = trees_before (trees_before trees)

-- the trees with one more node
abbrev pub trees_with : Texts → SyntaxNode → List Tree → List Tree
trees_with texts n trees =
    node n.span.start n.span.stop (shape_over n.kind (texts n.text) n.count trees) ∷ trees_left n.kind n.count trees

-- the trees of nodes, of which the last comes first
abbrev pub trees_back : Texts → List SyntaxNode → List Tree
trees_back texts [] = []
trees_back texts (n ∷ earlier) = trees_with texts n (trees_back texts earlier)

-- the trees of a list that are no children in it, the last one first
abbrev pub trees_in : Texts → List SyntaxNode → List Tree
trees_in texts nodes = trees_back texts (reverse nodes)

-- how many children a node has
abbrev pub child_count : SyntaxKind → ℕ → ℕ
child_count (SyntaxKind.Lit kind) items = 0
child_count SyntaxKind.It items = 0
child_count SyntaxKind.Name items = 0
child_count SyntaxKind.Member items = 1
child_count SyntaxKind.Count items = 1
child_count SyntaxKind.Neg items = 1
child_count SyntaxKind.Not items = 1
child_count (SyntaxKind.Binary operator) items = 2
child_count SyntaxKind.Has items = 2
child_count SyntaxKind.InList items = items + 1
child_count SyntaxKind.InPath items = 2
child_count SyntaxKind.Call items = items
child_count SyntaxKind.AnyItem items = 1
child_count (SyntaxKind.Lambda quantifier) items = 2

-- how many trees of nodes are no children, of which the last node comes first
abbrev pub tree_count_back : List SyntaxNode → ℕ
tree_count_back [] = 0
tree_count_back (n ∷ earlier) = tree_count_back earlier - child_count n.kind n.count + 1

-- each node has its children before it, of which the last comes first
abbrev pub AreFedBack : List SyntaxNode → Type 0
AreFedBack [] = Unit {0}
AreFedBack (n ∷ earlier) = (child_count n.kind n.count ≤ tree_count_back earlier) × AreFedBack earlier

-- likewise of nodes in their order
abbrev pub tree_count : List SyntaxNode → ℕ
tree_count nodes = tree_count_back (reverse nodes)

abbrev pub AreFed : List SyntaxNode → Type 0
AreFed nodes = AreFedBack (reverse nodes)

-- each node has its children before it, and the last node alone is no child: the list is one tree
pub record IsWholeTree (nodes : List SyntaxNode) : Type 0 where
  pub fed : AreFed nodes
  pub one : tree_count nodes ≡ 1
