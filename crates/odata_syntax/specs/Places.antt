-- Where the nodes of a list stand in its tree: their numbers in pre-order, in which each node stands before its
-- children.
use Rattle.std.specs.Prelude.{◌≡◌, ◌≢◌, ℕ, ◌+◌, ◌-◌, ◌≤◌, ◌<◌, List, [], ◌∷◌, Option, None, Some, drop, length, map, reverse, slice_get, take}
use Rattle.odata_syntax.specs.declared.node.Quantifier.{Quantifier}
use Rattle.odata_syntax.specs.declared.node_places.Place.{Place}
use Rattle.odata_syntax.specs.declared.syntax_list.SyntaxKind.{SyntaxKind}
use Rattle.odata_syntax.specs.declared.syntax_list.SyntaxNode.{SyntaxNode}
use Rattle.odata_syntax.specs.PostOrder.{child_count}

-- the nodes of a tree, each after its children, and the place of each
pub record PlacedNodes : Type 0 where
  pub nodes : List SyntaxNode
  pub places : List Place

-- the places that nodes hold
abbrev pub places_of : List SyntaxNode → List Place
places_of = map (λ n. n.place)

-- what is said of a node by its index: its number in pre-order
abbrev pub number_of : Option Place → ℕ
number_of None = 0
number_of (Some place) = place.number

-- that of the node at an index
abbrev pub number_at : List Place → ℕ → ℕ
number_at places index = number_of (slice_get places index)

-- the index of the first node of its tree
abbrev pub first_of : Option Place → ℕ
first_of None = 0
first_of (Some place) = place.first

-- that of the node at an index
abbrev pub first_at : List Place → ℕ → ℕ
first_at places index = first_of (slice_get places index)

-- the index of the lambda expression whose body begins with it, or 0
abbrev pub lambda_of : Option Place → ℕ
lambda_of None = 0
lambda_of (Some place) = place.lambda

-- that of the node at an index
abbrev pub lambda_at : List Place → ℕ → ℕ
lambda_at places index = lambda_of (slice_get places index)

-- the number after those of its tree
abbrev pub stop_at : List Place → ℕ → ℕ
stop_at places index = number_at places index + (index + 1 - first_at places index)

-- the indices of the roots of the trees that are no children; of nodes and of roots the last one comes first
abbrev pub roots_back : List SyntaxNode → List ℕ
roots_back [] = []
roots_back (n ∷ earlier) = length earlier ∷ drop (child_count n.kind n.count) (roots_back earlier)

-- the nodes before an index, the last one first
abbrev pub nodes_before : List SyntaxNode → ℕ → List SyntaxNode
nodes_before nodes index = reverse (take index nodes)

-- the roots of a node's children
abbrev pub child_roots : SyntaxNode → List SyntaxNode → List ℕ
child_roots n earlier = take (child_count n.kind n.count) (roots_back earlier)

-- the roots of the trees before a node that are not its children's
abbrev pub older_roots : SyntaxNode → List SyntaxNode → List ℕ
older_roots n earlier = drop (child_count n.kind n.count) (roots_back earlier)

-- where the tree over these children begins: where the first child's does, or at the node itself
abbrev pub first_over : List Place → ℕ → List ℕ → ℕ
first_over places index [] = index
first_over places index (root ∷ roots) = first_over places (first_at places root) roots

-- the trees of these roots stand side by side in pre-order, from one number up to another
abbrev pub AreSideBySide : List Place → ℕ → ℕ → List ℕ → Type 0
AreSideBySide places from to [] = from ≡ to
AreSideBySide places from to (root ∷ roots) =
    (stop_at places root ≡ to) × AreSideBySide places from (number_at places root) roots

-- they stand one before another, and all before a number
abbrev pub AreBefore : List Place → ℕ → List ℕ → Type 0
AreBefore places to [] = Unit {0}
AreBefore places to (root ∷ roots) =
    (stop_at places root ≤ to) × AreBefore places (number_at places root) roots

-- a node is placed, that which comes after these: its tree is a run of the list that ends with itself, and a run of
-- pre-order that begins with itself; the trees of its children fill what is left of both
pub record IsPlaced (places : List Place) (n : SyntaxNode) (earlier : List SyntaxNode) : Type 0 where
  -- its tree begins in the list where its first child's does, and that of a leaf at itself
  pub begins : first_at places (length earlier) ≡ first_over places (length earlier) (child_roots n earlier)
  -- its tree begins at itself or before
  pub order : first_at places (length earlier) ≤ length earlier
  -- in pre-order its children's trees come right after itself, one after another, and end where its own tree does
  pub children :
      AreSideBySide places (number_at places (length earlier) + 1) (stop_at places (length earlier))
      (child_roots n earlier)
  -- in pre-order the trees before its own that are no children of its own come before it
  pub older : AreBefore places (number_at places (length earlier)) (older_roots n earlier)
  -- its tree ends within pre-order
  pub within : stop_at places (length earlier) ≤ length places

-- the node at an index is a lambda expression, and its body begins with another
pub record BeginsBody (nodes : List SyntaxNode) (places : List Place) (begin index : ℕ) : Type 0 where
  pub lambda : SyntaxNode
  pub at : slice_get nodes index ≡ Some lambda
  pub quantifier : Quantifier
  pub is_lambda : lambda.kind ≡ SyntaxKind.Lambda quantifier
  -- the body is the lambda expression's last child: its root stands right before it in the list
  pub begins : first_at places (index - 1) ≡ begin

-- the places of all nodes of one tree: each node is placed among those before it, the last one is the root of all,
-- and a lambda expression is found from the node with which its body begins
pub record ArePlaces (nodes : List SyntaxNode) (places : List Place) : Type 0 where
  -- each node has one place
  pub beside : length places ≡ length nodes
  pub placed :
      (index : ℕ) (n : SyntaxNode) → slice_get nodes index ≡ Some n
      → IsPlaced places n (nodes_before nodes index)
  -- the last node is the first in pre-order
  pub root : number_at places (length nodes - 1) ≡ 0
  -- and its tree has all of them
  pub whole : stop_at places (length nodes - 1) ≡ length nodes
  -- a tree that has a node of another lies within that one
  pub nested :
      (index inner : ℕ) → index < length nodes → inner ≤ index → first_at places index ≤ inner
      → first_at places index ≤ first_at places inner
  -- a node that is marked with a lambda expression begins its body
  pub marked :
      (begin : ℕ) → lambda_at places begin ≢ 0 → BeginsBody nodes places begin (lambda_at places begin)
  -- and each node that begins a body is marked with its lambda expression
  pub marks : (begin index : ℕ) → BeginsBody nodes places begin index → lambda_at places begin ≡ index
