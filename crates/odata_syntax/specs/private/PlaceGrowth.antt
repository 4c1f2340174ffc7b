-- How the places of nodes grow: until all nodes have one, a place's number is how many trees begin with its node.
use Rattle.std.specs.Prelude.{◌≡◌, ◌≢◌, ℕ, zero, suc, ◌+◌, ◌≤◌, ◌<◌, List, [], ◌∷◌, Some, length, map, slice_get, take}
use Rattle.odata_syntax.specs.declared.node_places.Place.{Place}
use Rattle.odata_syntax.specs.declared.syntax_list.SyntaxNode.{SyntaxNode}
use Rattle.odata_syntax.specs.Places.{BeginsBody, child_roots, first_at, first_over, lambda_at, nodes_before, places_of, roots_back, stop_at}
use Rattle.odata_syntax.specs.PostOrder.{child_count}

-- the place of a node whose tree has no end yet
abbrev pub no_place : Place
no_place = record { number = 0; first = 0; lambda = 0 }

-- a node without its place, and all nodes without theirs
abbrev pub unplaced : SyntaxNode → SyntaxNode
unplaced n = record n { place = no_place }

abbrev pub unplaced_nodes : List SyntaxNode → List SyntaxNode
unplaced_nodes = map unplaced

-- the places of the nodes before an index
abbrev pub places_before : List SyntaxNode → ℕ → List Place
places_before nodes index = take index (places_of nodes)

-- how many trees begin before an index
abbrev pub begun_before : List Place → ℕ → ℕ
begun_before [] index = 0
begun_before (place ∷ places) zero = 0
begun_before (place ∷ places) (suc index) = place.number + begun_before places index

-- the trees of these roots lie side by side in the list, from its start up to an index
abbrev pub AreTiles : List Place → ℕ → List ℕ → Type 0
AreTiles places to [] = to ≡ 0
AreTiles places to (root ∷ roots) =
    (root + 1 ≡ to) × (first_at places root ≤ root) × AreTiles places (first_at places root) roots

-- at least so many trees lie so up to the end
pub record HasTiles (places : List Place) (count : ℕ) : Type 0 where
  pub roots : List ℕ
  pub tiles : AreTiles places (length places) roots
  pub enough : count ≤ length roots

-- no tree lies across an index, and as many trees begin before it as nodes stand there
pub record IsSeam (places : List Place) (at : ℕ) : Type 0 where
  pub begun : begun_before places at ≡ at
  pub apart : (index : ℕ) → index < length places → at ≤ index → at ≤ first_at places index

-- such seams are where each of some trees stops and where the first of them begins
abbrev pub AreSeams : List Place → ℕ → List ℕ → Type 0
AreSeams places to [] = IsSeam places to
AreSeams places to (root ∷ roots) = IsSeam places to × AreSeams places (first_at places root) roots

-- as many trees begin between the children of a node as nodes stand there
abbrev pub AreEven : List Place → ℕ → List ℕ → Type 0
AreEven places index [] = Unit {0}
AreEven places index (root ∷ roots) =
    (begun_before places (root + 1) + index ≡ begun_before places index + (root + 1))
    × (first_at places index ≤ root) × (root < index) × AreEven places index roots

-- at least as many trees begin within a tree as it has nodes
pub record HasRoom (places : List Place) (index : ℕ) : Type 0 where
  pub order : first_at places index ≤ index
  pub room : begun_before places (first_at places index) + (index + 1) ≤ begun_before places
      (index + 1) + first_at places index

-- the tree of a node
pub record IsGrown (places : List Place) (n : SyntaxNode) (earlier : List SyntaxNode) : Type 0 where
  pub begins : first_at places (length earlier) ≡ first_over places (length earlier) (child_roots n earlier)
  pub room : HasRoom places (length earlier)
  pub tiles : AreTiles places (length earlier) (roots_back earlier)
  pub enough : child_count n.kind n.count ≤ length (roots_back earlier)
  pub nested :
      (inner : ℕ) → inner ≤ length earlier → first_at places (length earlier) ≤ inner
      → first_at places (length earlier) ≤ first_at places inner
  pub even : AreEven places (length earlier) (child_roots n earlier)
  -- none begins with a node that has children
  pub none :
      0 < child_count n.kind n.count
      → (first_at places (length earlier) < length earlier)
      × (begun_before places (length earlier + 1) ≡ begun_before places (length earlier))

-- the places of the first nodes of a list
pub record IsGrowing (nodes : List SyntaxNode) (places : List Place) : Type 0 where
  pub tiles : AreTiles places (length places) (roots_back (nodes_before nodes (length places)))
  pub seams : AreSeams places (length places) (roots_back (nodes_before nodes (length places)))
  pub grown :
      (index : ℕ) (n : SyntaxNode) → slice_get nodes index ≡ Some n → index < length places
      → IsGrown places n (nodes_before nodes index)
  pub marked :
      (begin : ℕ) → lambda_at places begin ≢ 0
      → (lambda_at places begin < length places) × BeginsBody nodes places begin (lambda_at places begin)
  pub marks :
      (begin index : ℕ) → index < length places → BeginsBody nodes places begin index
      → lambda_at places begin ≡ index

-- one more tree begins with the node at `first`
pub record IsBegun (old new : List Place) (first : ℕ) : Type 0 where
  pub size : length new ≡ length old + 1
  pub firsts : (k : ℕ) → k < length old → first_at new k ≡ first_at old k
  pub own : first_at new (length old) ≡ first
  pub lower : (k : ℕ) → k ≤ first → begun_before new k ≡ begun_before old k
  pub upper : (k : ℕ) → first < k → begun_before new k ≡ begun_before old k + 1
  pub lambdas : (k : ℕ) → lambda_at new k ≡ lambda_at old k

-- a lambda expression is marked where its body begins
pub record IsMarked (old new : List Place) (begin index : ℕ) : Type 0 where
  pub size : length new ≡ length old
  pub firsts : (k : ℕ) → first_at new k ≡ first_at old k
  pub begun : (k : ℕ) → begun_before new k ≡ begun_before old k
  pub own : lambda_at new begin ≡ index
  pub others : (k : ℕ) → k ≢ begin → lambda_at new k ≡ lambda_at old k

-- each tree stops at the number of trees that begin no later than with its root
pub record IsNumbered (old new : List Place) : Type 0 where
  pub size : length new ≡ length old
  pub firsts : (k : ℕ) → first_at new k ≡ first_at old k
  pub lambdas : (k : ℕ) → lambda_at new k ≡ lambda_at old k
  pub stops : (k : ℕ) → k < length old → stop_at new k ≡ begun_before old (k + 1)
