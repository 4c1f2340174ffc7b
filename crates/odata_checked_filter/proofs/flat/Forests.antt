-- The tree of a list is the tree that the list stands for.
use Rattle.std.proofs.Common.{◌≡◌, refl, ap, ◌∙◌, ℕ, ◌<◌, ◌≤◌, ◌+◌, List, [], ◌∷◌, Some, slice_get, drop, arith}
use Rattle.std.specs.List.{AllByRecursion}
use Rattle.odata_syntax.specs.Tree.{Tree, Trees, node, Shape, in_list, call, more_trees, no_trees, trees_of_list}
use Rattle.odata_syntax.specs.Spans.{children_of, list_of_trees}
use Rattle.csdl_schema.specs.SchemaModel.{SchemaModel, Slots, slots_of, type_name_at}
use Rattle.odata_checked_filter.specs.declared.checked_node.CheckedNode.{CheckedNode}
use Rattle.odata_checked_filter.specs.declared.checked_node.NodeKind.{NodeKind}
use Rattle.odata_checked_filter.specs.FlatTree.{FlatTree, PlacedTree, forest, shape_of_kind, tree_at, trees_before, trees_from, tree_of_nodes, first_tree}
use Rattle.odata_checked_filter.specs.private.LambdaLines.{AreInLine, StandsBetween}
use Rattle.odata_checked_filter.specs.private.Layout.{OfAnyValue}
use Rattle.odata_checked_filter.specs.Stands.{IsTop, Stands, text_of_shape}
use Rattle.std.specs.Prelude.{codes}
use Rattle.odata_signatures.specs.Functions.{row_of}
use Rattle.odata_signatures.specs.Typed.{Scope}
use Rattle.odata_checked_filter.proofs.flat.Below.{by_children, children_line}
use Rattle.odata_checked_filter.proofs.flat.KindForms.{HasForm, call_form, form_of, list_form, now_form}
use Rattle.odata_checked_filter.proofs.flat.Places.{above, below, drop_at}
use Rattle.odata_checked_filter.proofs.flat.Lying.{stands_lie}
use Rattle.odata_checked_filter.proofs.flat.Standing.{between_onward, line_onward}

-- no tree of those from an index on starts before it
none_before : (texts : List (List ℕ)) (j : ℕ) (rest : List CheckedNode) → trees_before j (forest texts j rest) ≡ []
none_before texts j [] = refl
none_before texts j (found ∷ rest) = rw (below j j (omega arith)) refl

all_from : (texts : List (List ℕ)) (j : ℕ) (rest : List CheckedNode) → trees_from j (forest texts j rest) ≡ forest texts j rest
all_from texts j [] = refl
all_from texts j (found ∷ rest) = rw (below j j (omega arith)) refl

one_before : (j : ℕ) (t : PlacedTree) (ts : List PlacedTree) → t.place < j → trees_before j (t ∷ ts) ≡ t.tree ∷ trees_before j ts
one_before j t ts earlier = rw (above t.place j earlier) refl

one_passed : (j : ℕ) (t : PlacedTree) (ts : List PlacedTree) → t.place < j → trees_from j (t ∷ ts) ≡ trees_from j ts
one_passed j t ts earlier = rw (above t.place j earlier) refl

-- trees, as a list and again as trees
pub trees_again : (trees : Trees) → trees_of_list (list_of_trees trees) ≡ trees
trees_again no_trees = refl
trees_again (more_trees tree trees) = ap (λ (ts : Trees). more_trees tree ts) (trees_again trees)

-- the shape of a node of its kind
kind_shape :
    (slots : Slots) (root : List ℕ) (scope : Scope) (shape : Shape) (kind : NodeKind)
    → HasForm slots root scope shape kind → shape_of_kind kind (text_of_shape shape) (children_of shape) ≡ shape
kind_shape slots root scope shape kind (list_form {left = left} {items = items}) = ap (λ (ts : Trees). in_list left ts) (trees_again items)
kind_shape slots root scope shape kind (now_form {arguments = arguments} named) =
    ap (λ (ts : Trees). call (codes "now") ts) (trees_again arguments) ∙ ap (λ (called : List ℕ). call called arguments) named
kind_shape slots root scope shape kind (call_form {arguments = arguments} {function = function} named other) =
    ap (λ (ts : Trees). call (row_of function).name ts) (trees_again arguments) ∙ ap (λ (called : List ℕ). call called arguments) named
kind_shape slots root scope shape kind _ = refl

-- a node's tree, and what is left after it
abbrev planted : List (List ℕ) → ℕ → CheckedNode → List PlacedTree → List PlacedTree
planted texts i found behind = record { place = i; tree = tree_at texts i found behind } ∷ trees_from found.stop behind

planted_same :
    (texts : List (List ℕ)) (i j start stop : ℕ) (found : CheckedNode) (behind : List PlacedTree) (children : List Tree) (rest : List PlacedTree) (shape : Shape) (text : List ℕ)
    → slice_get texts i ≡ Some text → found.span.start ≡ start → found.span.stop ≡ stop → found.stop ≡ j
    → trees_before j behind ≡ children → trees_from j behind ≡ rest → shape_of_kind found.kind text children ≡ shape
    → planted texts i found behind ≡ record { place = i; tree = node start stop shape } ∷ rest
planted_same texts i j start stop found behind children rest shape text at starts stops last before from shaped =
    rw (at, starts, stops, last, before, from, shaped) refl

-- a node at its index, from the forest after it
top_planted :
    (schema : SchemaModel) (n : ℕ) (scope : Scope) (list : FlatTree) (i j start stop : ℕ) (shape : Shape) (children : List Tree) (behind rest : List PlacedTree)
    → (top : IsTop schema n scope list i j start stop shape OfAnyValue)
    → shape_of_kind top.found.kind (text_of_shape shape) children ≡ shape
    → forest list.texts (i + 1) (drop (i + 1) list.nodes) ≡ behind → trees_before j behind ≡ children
    → trees_from j behind ≡ rest
    → forest list.texts i (drop i list.nodes) ≡ record { place = i; tree = node start stop shape } ∷ rest
top_planted schema n scope list i j start stop shape children behind rest top shaped is_behind before from =
    ap (forest list.texts i) (drop_at list.nodes i top.found top.stands_at)
    ∙ ap (planted list.texts i top.found) is_behind
    ∙ planted_same list.texts i j start stop top.found behind children rest shape (text_of_shape shape) top.text_at top.starts top.stops top.last before from shaped

-- the forest from i on is the trees, one after another, and what stands after them
record ArePlanted (texts : List (List ℕ)) (nodes : List CheckedNode) (i j : ℕ) (trees : List Tree) : Type 0 where
  before : trees_before j (forest texts i (drop i nodes)) ≡ trees
  from : trees_from j (forest texts i (drop i nodes)) ≡ forest texts j (drop j nodes)

-- no trees
none_planted : (list : FlatTree) (i j : ℕ) → i ≡ j → ArePlanted list.texts list.nodes i j []
none_planted list i j same = record {
  before = ap (λ (k : ℕ). trees_before j (forest list.texts k (drop k list.nodes))) same ∙ none_before list.texts j (drop j list.nodes);
  from = ap (λ (k : ℕ). trees_from j (forest list.texts k (drop k list.nodes))) same ∙ all_from list.texts j (drop j list.nodes);
}

-- one tree in front of others
first_planted :
    (list : FlatTree) (i m j : ℕ) (tree : Tree) (trees : List Tree)
    → i < m → m ≤ j
    → forest list.texts i (drop i list.nodes) ≡ record { place = i; tree = tree } ∷ forest list.texts m (drop m list.nodes)
    → ArePlanted list.texts list.nodes m j trees → ArePlanted list.texts list.nodes i j (tree ∷ trees)
first_planted list i m j tree trees first onward here rest =
    let behind : List PlacedTree = forest list.texts m (drop m list.nodes) in
    let t : PlacedTree = record { place = i; tree = tree } in
    let below : i < j = omega arith in
    record {
      before = ap (trees_before j) here ∙ one_before j t behind below ∙ ap (λ (ts : List Tree). tree ∷ ts) rest.before;
      from = ap (trees_from j) here ∙ one_passed j t behind below ∙ rest.from;
    }

-- from where a tree stands on, the forest is the tree and the forest from where it stops
abbrev pub IsPlanted : Tree → Type 0
IsPlanted tree =
    (list : FlatTree) (i j : ℕ) → StandsBetween list i j tree
    → forest list.texts i (drop i list.nodes) ≡ record { place = i; tree = tree } ∷ forest list.texts j (drop j list.nodes)

line_planted :
    (trees : List Tree) → AllByRecursion IsPlanted trees
    → (list : FlatTree) (i j : ℕ) → AreInLine list i j trees → ArePlanted list.texts list.nodes i j trees
line_planted [] planted list i j line = none_planted list i j line
line_planted (tree ∷ trees) planted list i j line =
    first_planted list i line.middle j tree trees (between_onward list i line.middle tree line.left) (line_onward list line.middle j trees line.right)
    (planted.0 list i line.middle line.left) (line_planted trees planted.1 list line.middle j line.right)

node_planted : (start stop : ℕ) (shape : Shape) → AllByRecursion IsPlanted (children_of shape) → IsPlanted (node start stop shape)
node_planted start stop shape planted list i j between =
    let schema = between.schema in
    let top = between.stands.top in
    let below = line_planted (children_of shape) planted list (i + 1) j (children_line schema between.filtered list between.scope (i + 1) j shape between.stands.children) in
    top_planted schema between.filtered between.scope list i j start stop shape (children_of shape)
    (forest list.texts (i + 1) (drop (i + 1) list.nodes)) (forest list.texts j (drop j list.nodes)) top
    (kind_shape (slots_of schema) (type_name_at schema between.filtered) between.scope shape top.found.kind
    (form_of (slots_of schema) (type_name_at schema between.filtered) between.scope shape top.found.kind top.kind))
    refl below.before below.from

pub is_planted : (tree : Tree) → IsPlanted tree
is_planted = by_children IsPlanted node_planted

all_planted : (trees : List Tree) → AllByRecursion IsPlanted trees
all_planted [] = tt
all_planted (tree ∷ trees) = (is_planted tree, all_planted trees)

-- trees that lie one after another are those before where they stop
pub line_before : (list : FlatTree) (i j : ℕ) (trees : List Tree) → AreInLine list i j trees → trees_before j (forest list.texts i (drop i list.nodes)) ≡ trees
line_before list i j trees line = (line_planted trees (all_planted trees) list i j line).before

-- the whole list stands for one tree
pub whole_tree :
    (schema : SchemaModel) (n : ℕ) (scope : Scope) (list : FlatTree) (j : ℕ) (tree : Tree) → Stands schema n scope list 0 j tree → tree_of_nodes list ≡ tree
whole_tree schema n scope list j tree stands =
    ap first_tree (is_planted tree list 0 j
    (record { schema = schema; filtered = n; scope = scope; stands = stands_lie schema n scope list 0 j tree stands }))
