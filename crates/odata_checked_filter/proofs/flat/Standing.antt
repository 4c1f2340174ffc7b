-- How many nodes lie as a tree does.
use Rattle.std.proofs.Common.{◌≡◌, ◌∙◌, ℕ, ◌<◌, ◌≤◌, ◌+◌, List, [], ◌∷◌, ◌++◌, Some, length, length-append, slice_get, sym, subst, ap, arith}
use Rattle.std.specs.List.{AllByRecursion, flat_map}
use Rattle.odata_syntax.specs.Spans.{children_of, list_of_trees}
use Rattle.odata_syntax.specs.Tree.{Shape, Tree, Trees, node}
use Rattle.csdl_schema.specs.SchemaModel.{SchemaModel}
use Rattle.odata_checked_filter.specs.FlatTree.{FlatTree}
use Rattle.odata_checked_filter.specs.declared.checked_node.CheckedNode.{CheckedNode}
use Rattle.odata_signatures.specs.PreOrder.{nodes_below, pre_order}
use Rattle.odata_checked_filter.specs.private.LambdaLines.{AreInLine, StandsBetween}
use Rattle.odata_checked_filter.specs.private.Layout.{AllLie, Lies}
use Rattle.odata_signatures.specs.Typed.{Scope}
use Rattle.odata_checked_filter.proofs.flat.Below.{all_line, below_flat, by_children, children_line}
use Rattle.odata_checked_filter.proofs.flat.Places.{found_before, same_found}

-- ---- as many nodes as the tree has

abbrev HasSize : Tree → Type 0
HasSize tree = (list : FlatTree) (i j : ℕ) → StandsBetween list i j tree → j ≡ i + length (pre_order tree)

both_sizes : (i m j : ℕ) (first second : List Tree) → m ≡ i + length first → j ≡ m + length second → j ≡ i + length (first ++ second)
both_sizes i m j first second a b = omega (arith, length-append first second)

line_size : (trees : List Tree) → AllByRecursion HasSize trees → (list : FlatTree) (i j : ℕ) → AreInLine list i j trees → j ≡ i + length (flat_map pre_order trees)
line_size [] sizes list i j line = let e : i ≡ j = line in omega arith
line_size (tree ∷ trees) sizes list i j line =
    both_sizes i line.middle j (pre_order tree) (flat_map pre_order trees)
    (sizes.0 list i line.middle line.left) (line_size trees sizes.1 list line.middle j line.right)

node_size : (start stop : ℕ) (shape : Shape) → AllByRecursion HasSize (children_of shape) → HasSize (node start stop shape)
node_size start stop shape sizes list i j between =
    let line = children_line between.schema between.filtered list between.scope (i + 1) j shape between.stands.children in
    let below : j ≡ i + 1 + length (nodes_below shape) =
    line_size (children_of shape) sizes list (i + 1) j line ∙ ap (λ (ts : List Tree). i + 1 + length ts) (sym (below_flat shape)) in
    omega arith

pub lies_size :
    (schema : SchemaModel) (n : ℕ) (scope : Scope) (list : FlatTree) (i j : ℕ) (tree : Tree)
    → Lies schema n scope list i j tree → j ≡ i + length (pre_order tree)
lies_size schema n scope list i j tree stands =
    by_children HasSize node_size tree list i j (record { schema = schema; filtered = n; scope = scope; stands = stands })

pub lies_nonempty :
    (schema : SchemaModel) (n : ℕ) (scope : Scope) (list : FlatTree) (i j : ℕ) (tree : Tree)
    → Lies schema n scope list i j tree → i < j
lies_nonempty schema n scope list i j (node start stop shape) stands =
    let all : j ≡ i + length (pre_order (node start stop shape)) = lies_size schema n scope list i j (node start stop shape) stands in omega arith

pub between_onward : (list : FlatTree) (i j : ℕ) (tree : Tree) → StandsBetween list i j tree → i < j
between_onward list i j tree between = lies_nonempty between.schema between.filtered between.scope list i j tree between.stands

pub line_onward : (list : FlatTree) (i j : ℕ) (trees : List Tree) → AreInLine list i j trees → i ≤ j
line_onward list i j [] line = omega (arith, line)
line_onward list i j (tree ∷ trees) line =
    let first : i < line.middle = between_onward list i line.middle tree line.left in
    let behind : line.middle ≤ j = line_onward list line.middle j trees line.right in
    omega (arith, first, behind)

pub lie_onward :
    (schema : SchemaModel) (n : ℕ) (scope : Scope) (list : FlatTree) (i j : ℕ) (trees : Trees)
    → AllLie schema n scope list i j trees → i ≤ j
lie_onward schema n scope list i j trees stand = line_onward list i j (list_of_trees trees) (all_line schema n list scope i j trees stand)

-- ---- the first node of a tree

-- it is there
pub lies_within : (schema : SchemaModel) (n : ℕ) (scope : Scope) (list : FlatTree) (i j : ℕ) (tree : Tree) → Lies schema n scope list i j tree → i < length list.nodes
lies_within schema n scope list i j (node start stop shape) stands = found_before list.nodes i stands.top.found stands.top.stands_at

pub between_within : (list : FlatTree) (i j : ℕ) (tree : Tree) → StandsBetween list i j tree → i < length list.nodes
between_within list i j tree between = lies_within between.schema between.filtered between.scope list i j tree between.stands

pub line_within : (list : FlatTree) (i j : ℕ) (trees : List Tree) → AreInLine list i j trees → i < j → i < length list.nodes
line_within list i j [] line before = absurd (omega (arith, line, before))
line_within list i j (tree ∷ trees) line before = between_within list i line.middle tree line.left

-- it says where the tree stops
pub lies_last : (schema : SchemaModel) (n : ℕ) (scope : Scope) (list : FlatTree) (i j : ℕ) (tree : Tree) (found : CheckedNode) → Lies schema n scope list i j tree
    → slice_get list.nodes i ≡ Some found → found.stop ≡ j
lies_last schema n scope list i j (node start stop shape) found stands at =
    subst (λ (f : CheckedNode). f.stop ≡ j) (same_found (slice_get list.nodes i) stands.top.found found stands.top.stands_at at) stands.top.last

pub between_last : (list : FlatTree) (i j : ℕ) (tree : Tree) (found : CheckedNode) → StandsBetween list i j tree → slice_get list.nodes i ≡ Some found → found.stop ≡ j
between_last list i j tree found between = lies_last between.schema between.filtered between.scope list i j tree found between.stands
