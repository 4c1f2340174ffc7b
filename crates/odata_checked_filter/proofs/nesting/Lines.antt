-- How deep lambda operators stand in trees one after another, from their first node on.
use Rattle.std.proofs.Common.{◌≡◌, refl, sym, ap, ◌∙◌, subst, ℕ, ◌<◌, ◌≤◌, ◌+◌, max, List, [], ◌∷◌, ◌++◌, Bool, true, false, cond, length, inl, inr, Some, slice_get, nat_eq, lt-ltb, le-ltb, arith}
use Rattle.std.specs.Ordering.{is_lt, nat_cmp, ord_max}
use Rattle.std.specs.declared.cmp.Ordering.TheVariants.{Equal, Greater, Less}
use Rattle.std.proofs.lemmas.Bool.{cases_lt}
use Rattle.odata_syntax.specs.Tree.{Shape, Tree, Trees, any_item, binary, call, count, has, in_list, in_path, lambda, logical_not, member, more_trees, negation, no_trees, node}
use Rattle.odata_syntax.specs.Spans.{children_of, list_of_trees}
use Rattle.csdl_schema.specs.SchemaModel.{Slots, slots_of, type_name_at}
use Rattle.odata_signatures.specs.Typed.{Scope}
use Rattle.odata_checked_filter.specs.declared.checked_node.CheckedNode.{CheckedNode}
use Rattle.odata_checked_filter.specs.declared.checked_node.NodeKind.{NodeKind}
use Rattle.odata_checked_filter.specs.Filter.{Filter, IsFilter, tree_of_filter}
use Rattle.odata_checked_filter.specs.FlatTree.{FlatTree}
use Rattle.odata_checked_filter.specs.LambdaDepth.{lambda_depth, lambda_depth_among, lambda_depth_in}
use Rattle.odata_checked_filter.specs.private.LambdaLines.{AreInLine, StandsBetween, deepest_of, kind_is_lambda}
use Rattle.odata_checked_filter.proofs.flat.Below.{children_line, line_behind, one_line}
use Rattle.odata_checked_filter.proofs.flat.KindForms.{HasForm, form_there, lambda_form}
use Rattle.odata_checked_filter.proofs.flat.Lying.{filter_lies}
use Rattle.odata_checked_filter.proofs.flat.Places.{same_found}
use Rattle.odata_checked_filter.proofs.flat.Standing.{between_onward, line_onward}

deepest_behind : (trees more : List Tree) → deepest_of (trees ++ more) ≡ max (deepest_of trees) (deepest_of more)
deepest_behind [] more = omega arith
deepest_behind (tree ∷ trees) more =
    let rest : deepest_of (trees ++ more) ≡ max (deepest_of trees) (deepest_of more) = deepest_behind trees more in
    omega (arith, rest)

-- ---- a node's depth, from those of its children

abbrev pub is_lambda : Shape → Bool
is_lambda (lambda quantifier base variable body) = true
is_lambda _ = false

pub lambda_kind : (slots : Slots) (root : List ℕ) (scope : Scope) (shape : Shape) (kind : NodeKind) → HasForm slots root scope shape kind → is_lambda shape ≡ kind_is_lambda kind
lambda_kind slots root scope shape kind lambda_form = refl
lambda_kind slots root scope shape kind _ = refl

deepest_among : (trees : Trees) → lambda_depth_among trees ≡ deepest_of (list_of_trees trees)
deepest_among no_trees = refl
deepest_among (more_trees tree trees) = ap (λ (n : ℕ). max (lambda_depth tree) n) (deepest_among trees)

pub one_deepest : (tree : Tree) → lambda_depth tree ≡ deepest_of (tree ∷ [])
one_deepest tree = omega arith

two_deepest : (left right : Tree) → max (lambda_depth left) (lambda_depth right) ≡ deepest_of (left ∷ right ∷ [])
two_deepest left right = omega arith

depth_of_children : (shape : Shape) → lambda_depth_in shape ≡ cond (is_lambda shape) (deepest_of (children_of shape) + 1) (deepest_of (children_of shape))
depth_of_children (member base asked) = one_deepest base
depth_of_children (count base) = one_deepest base
depth_of_children (negation operand) = one_deepest operand
depth_of_children (logical_not operand) = one_deepest operand
depth_of_children (binary operator left right) = two_deepest left right
depth_of_children (has left right) = two_deepest left right
depth_of_children (in_list left items) = ap (λ (n : ℕ). max (lambda_depth left) n) (deepest_among items)
depth_of_children (in_path left path) = two_deepest left path
depth_of_children (call asked arguments) = deepest_among arguments
depth_of_children (any_item base) = one_deepest base
depth_of_children (lambda quantifier base variable body) = ap (λ (n : ℕ). n + 1) (two_deepest base body)
depth_of_children _ = refl

-- ---- the first node of a line

-- a node, the trees below it, and those after it
pub record IsFirstOf (list : FlatTree) (i j : ℕ) (found : CheckedNode) (trees : List Tree) : Type 0 where
  pub below : List Tree
  pub behind : List Tree
  pub line_below : AreInLine list (i + 1) found.stop below
  pub line_behind : AreInLine list found.stop j behind
  pub depth : deepest_of trees ≡ max (cond (kind_is_lambda found.kind) (deepest_of below + 1) (deepest_of below)) (deepest_of behind)

first_tree :
    (list : FlatTree) (i m j : ℕ) (found : CheckedNode) (tree : Tree) (trees : List Tree)
    → StandsBetween list i m tree → AreInLine list m j trees → slice_get list.nodes i ≡ Some found
    → IsFirstOf list i j found (tree ∷ trees)
first_tree list i m j found (node start stop shape) trees first behind at =
    let top = first.stands.top in
    let same : top.found ≡ found = same_found (slice_get list.nodes i) top.found found top.stands_at at in
    let stops : m ≡ found.stop = sym top.last ∙ ap (λ (f : CheckedNode). f.stop) same in
    let kind : is_lambda shape ≡ kind_is_lambda found.kind =
    lambda_kind (slots_of first.schema) (type_name_at first.schema first.filtered) first.scope shape found.kind
    (form_there first.schema first.filtered first.scope list i m start stop shape found first.stands at) in
    let children = children_of shape in
    record {
      below = children;
      behind = trees;
      line_below =
          subst (λ (k : ℕ). AreInLine list (i + 1) k children) stops
          (children_line first.schema first.filtered list first.scope (i + 1) m shape first.stands.children);
      line_behind = subst (λ (k : ℕ). AreInLine list k j trees) stops behind;
      depth =
          ap (λ (n : ℕ). max n (deepest_of trees))
          (depth_of_children shape ∙ ap (λ (b : Bool). cond b (deepest_of children + 1) (deepest_of children)) kind);
    }

pub first_of :
    (list : FlatTree) (i j : ℕ) (found : CheckedNode) (trees : List Tree)
    → AreInLine list i j trees → i < j → slice_get list.nodes i ≡ Some found → IsFirstOf list i j found trees
first_of list i j found [] line before at = absurd (omega (arith, line, before))
first_of list i j found (tree ∷ trees) line before at = first_tree list i line.middle j found tree trees line.left line.right at

-- ---- the greater of two numbers

not_less : (t : Bool) → is_lt (cond t Equal Greater) ≡ false
not_less true = refl
not_less false = refl

pub is_max : (a b : ℕ) → ord_max nat_cmp a b ≡ max a b
is_max a b =
    elim (cases_lt b a) [
      | inl below ↦
          ap (λ (t : Bool). cond (is_lt (cond t Less (cond (nat_eq b a) Equal Greater))) a b) (lt-ltb b a below) ∙ omega (arith, below)
      | inr above ↦
          ap (λ (t : Bool). cond (is_lt (cond t Less (cond (nat_eq b a) Equal Greater))) a b) (le-ltb b a above)
          ∙ ap (λ (t : Bool). cond t a b) (not_less (nat_eq b a))
          ∙ omega (arith, above)
    ]

-- ---- what is left of a line on the way

-- trees from an index on, with which a depth so far makes that of the whole
pub record IsRemaining (list : FlatTree) (place stop so_far whole : ℕ) : Type 0 where
  pub trees : List Tree
  pub line : AreInLine list place stop trees
  pub deep : max so_far (deepest_of trees) ≡ whole

-- past a node that is no lambda operator
pub rest_below :
    (list : FlatTree) (place stop depth whole : ℕ) (found : CheckedNode)
    → IsRemaining list place stop depth whole → place < stop → slice_get list.nodes place ≡ Some found
    → kind_is_lambda found.kind ≡ false → IsRemaining list (place + 1) stop depth whole
rest_below list place stop depth whole found rest before at plain =
    let first = first_of list place stop found rest.trees rest.line before at in
    let deep : deepest_of rest.trees ≡ max (deepest_of first.below) (deepest_of first.behind) =
    first.depth ∙ ap (λ (b : Bool). max (cond b (deepest_of first.below + 1) (deepest_of first.below)) (deepest_of first.behind)) plain in
    let both : deepest_of (first.below ++ first.behind) ≡ max (deepest_of first.below) (deepest_of first.behind) =
    deepest_behind first.below first.behind in
    let is : max depth (deepest_of rest.trees) ≡ whole = rest.deep in
    record {
      trees = first.below ++ first.behind;
      line = line_behind list (place + 1) found.stop stop first.below first.behind first.line_below first.line_behind;
      deep = omega (arith, deep, both, is);
    }

-- past a lambda operator, with what stands in it
pub rest_behind :
    (list : FlatTree) (place stop depth whole inside : ℕ) (found : CheckedNode)
    → IsRemaining list place stop depth whole → place < stop → slice_get list.nodes place ≡ Some found
    → kind_is_lambda found.kind ≡ true
    → ((trees : List Tree) → AreInLine list (place + 1) found.stop trees → inside ≡ deepest_of trees)
    → IsRemaining list found.stop stop (max depth (inside + 1)) whole
rest_behind list place stop depth whole inside found rest before at operator reported =
    let first = first_of list place stop found rest.trees rest.line before at in
    let deep : deepest_of rest.trees ≡ max (deepest_of first.below + 1) (deepest_of first.behind) =
    first.depth ∙ ap (λ (b : Bool). max (cond b (deepest_of first.below + 1) (deepest_of first.below)) (deepest_of first.behind)) operator in
    let below : inside ≡ deepest_of first.below = reported first.below first.line_below in
    let is : max depth (deepest_of rest.trees) ≡ whole = rest.deep in
    record { trees = first.behind; line = first.line_behind; deep = omega (arith, deep, below, is) }

no_trees_left : (list : FlatTree) (i j : ℕ) (trees : List Tree) → AreInLine list i j trees → j ≤ i → deepest_of trees ≡ 0
no_trees_left list i j [] line past = refl
no_trees_left list i j (tree ∷ trees) line past =
    let before : i < line.middle = between_onward list i line.middle tree line.left in
    let behind : line.middle ≤ j = line_onward list line.middle j trees line.right in
    absurd (omega (arith, before, behind, past))

-- at the end
pub rest_none : (list : FlatTree) (place stop depth whole : ℕ) → IsRemaining list place stop depth whole → stop ≤ place → depth ≡ whole
rest_none list place stop depth whole rest past =
    let none : deepest_of rest.trees ≡ 0 = no_trees_left list place stop rest.trees rest.line past in
    let is : max depth (deepest_of rest.trees) ≡ whole = rest.deep in
    omega (arith, none, is)

-- ---- the whole list

pub whole_line :
    (filter : Filter) (list : FlatTree) (nodes : List CheckedNode)
    → IsFilter filter → list ≡ filter.list → nodes ≡ list.nodes
    → AreInLine list 0 (length nodes) (tree_of_filter filter ∷ [])
whole_line filter list nodes is same beside =
    let trees = tree_of_filter filter ∷ [] in
    subst (λ (ns : List CheckedNode). AreInLine list 0 (length ns) trees) (sym beside)
    (subst (λ (l : FlatTree). AreInLine l 0 (length l.nodes) trees) (sym same)
    (one_line filter.schema filter.filtered filter.list [] 0 (length filter.list.nodes) (tree_of_filter filter) (filter_lies filter is)))
