-- The children of a node, one after another.
use Rattle.std.proofs.Common.{◌≡◌, ℕ, ◌+◌, List, [], ◌∷◌, ◌++◌, append-nil, refl, sym, subst, ap}
use Rattle.std.specs.List.{AllByRecursion, flat_map}
use Rattle.odata_syntax.specs.Spans.{children_of, list_of_trees}
use Rattle.odata_syntax.specs.Tree.{Shape, Tree, Trees, any_item, binary, call, count, has, in_list, in_path, lambda, logical_not, member, more_trees, negation, no_trees, node}
use Rattle.csdl_schema.specs.SchemaModel.{SchemaModel}
use Rattle.odata_signatures.specs.PreOrder.{nodes_among, nodes_below, pre_order}
use Rattle.odata_signatures.specs.Typed.{Scope}
use Rattle.odata_checked_filter.specs.FlatTree.{FlatTree}
use Rattle.odata_checked_filter.specs.private.LambdaLines.{AreInLine}
use Rattle.odata_checked_filter.specs.private.Layout.{AllLie, ChildrenLie, Lies}
use Rattle.odata_checked_filter.proofs.flat.Children.{body_there, one_there, two_there}

-- what holds of a tree wherever it holds of its children holds of each tree
module _ (P : Tree → Type 0) (step : (start stop : ℕ) (shape : Shape) → AllByRecursion P (children_of shape) → P (node start stop shape)) where
  mutual
    pub by_children : (tree : Tree) → P tree
    by_children (node start stop shape) = step start stop shape (each_child shape)

    each_child : (shape : Shape) → AllByRecursion P (children_of shape)
    each_child (member base asked) = (by_children base, tt)
    each_child (count base) = (by_children base, tt)
    each_child (negation operand) = (by_children operand, tt)
    each_child (logical_not operand) = (by_children operand, tt)
    each_child (any_item base) = (by_children base, tt)
    each_child (binary operator left right) = (by_children left, (by_children right, tt))
    each_child (has left right) = (by_children left, (by_children right, tt))
    each_child (in_path left path) = (by_children left, (by_children path, tt))
    each_child (lambda quantifier base variable body) = (by_children base, (by_children body, tt))
    each_child (in_list left items) = (by_children left, each_of items)
    each_child (call asked arguments) = each_of arguments
    each_child _ = tt

    each_of : (trees : Trees) → AllByRecursion P (list_of_trees trees)
    each_of no_trees = tt
    each_of (more_trees tree trees) = (by_children tree, each_of trees)

-- ---- the nodes below

among_flat : (trees : Trees) → nodes_among trees ≡ flat_map pre_order (list_of_trees trees)
among_flat no_trees = refl
among_flat (more_trees tree trees) = ap (λ (ts : List Tree). pre_order tree ++ ts) (among_flat trees)

pub alone_flat : {X : Type 0} (f : Tree → List X) (tree : Tree) → f tree ≡ flat_map f (tree ∷ [])
alone_flat f tree = sym (append-nil (f tree))

pub both_flat : {X : Type 0} (f : Tree → List X) (left right : Tree) → f left ++ f right ≡ flat_map f (left ∷ right ∷ [])
both_flat {X} f left right = ap (λ (xs : List X). f left ++ xs) (alone_flat f right)

pub below_flat : (shape : Shape) → nodes_below shape ≡ flat_map pre_order (children_of shape)
below_flat (member base asked) = alone_flat pre_order base
below_flat (count base) = alone_flat pre_order base
below_flat (negation operand) = alone_flat pre_order operand
below_flat (logical_not operand) = alone_flat pre_order operand
below_flat (any_item base) = alone_flat pre_order base
below_flat (binary operator left right) = both_flat pre_order left right
below_flat (has left right) = both_flat pre_order left right
below_flat (in_path left path) = both_flat pre_order left path
below_flat (lambda quantifier base variable body) = both_flat pre_order base body
below_flat (in_list left items) = ap (λ (ts : List Tree). pre_order left ++ ts) (among_flat items)
below_flat (call asked arguments) = among_flat arguments
below_flat _ = refl

-- ---- in a list

module _ (schema : SchemaModel) (n : ℕ) (list : FlatTree) where
  pub one_line : (scope : Scope) (i j : ℕ) (tree : Tree) → Lies schema n scope list i j tree → AreInLine list i j (tree ∷ [])
  one_line scope i j tree stands = record { middle = j; left = record { schema = schema; filtered = n; scope = scope; stands = stands }; right = refl }

  two_line :
      (scope at : Scope) (i m j : ℕ) (left right : Tree)
      → Lies schema n scope list i m left → Lies schema n at list m j right → AreInLine list i j (left ∷ right ∷ [])
  two_line scope at i m j left right first second =
      record { middle = m; left = record { schema = schema; filtered = n; scope = scope; stands = first }; right = one_line at m j right second }

  module _ (scope : Scope) where
    pub all_line : (i j : ℕ) (trees : Trees) → AllLie schema n scope list i j trees → AreInLine list i j (list_of_trees trees)
    all_line i j no_trees stand = stand
    all_line i j (more_trees tree trees) stand = record {
      middle = stand.middle;
      left = record { schema = schema; filtered = n; scope = scope; stands = stand.left };
      right = all_line stand.middle j trees stand.right;
    }

    one_child : (i j : ℕ) (tree : Tree) → ChildrenLie schema n scope list i j (count tree) → AreInLine list i j (tree ∷ [])
    one_child i j tree stand = one_line scope i j tree (one_there schema n scope list i j tree stand)

    two_children : (i j : ℕ) (left right : Tree) → ChildrenLie schema n scope list i j (has left right) → AreInLine list i j (left ∷ right ∷ [])
    two_children i j left right stands =
        let stand = two_there schema n scope list i j left right stands in
        two_line scope scope i stand.middle j left right stand.left stand.right

    pub children_line : (i j : ℕ) (shape : Shape) → ChildrenLie schema n scope list i j shape → AreInLine list i j (children_of shape)
    children_line i j (member base asked) stand = one_child i j base stand
    children_line i j (count base) stand = one_child i j base stand
    children_line i j (negation operand) stand = one_child i j operand stand
    children_line i j (logical_not operand) stand = one_child i j operand stand
    children_line i j (any_item base) stand = one_child i j base stand
    children_line i j (binary operator left right) stand = two_children i j left right stand
    children_line i j (has left right) stand = two_children i j left right stand
    children_line i j (in_path left path) stand = two_children i j left path stand
    children_line i j (in_list left items) stand = all_line i j (more_trees left items) stand
    children_line i j (call asked arguments) stand = all_line i j arguments stand
    children_line i j (lambda quantifier base variable body) stands =
        let stand = body_there schema n scope list i j base variable body stands in
        two_line scope _ i stand.middle j base body stand.left stand.right.body
    children_line i j _ stand = stand

pub line_behind :
    (list : FlatTree) (i m j : ℕ) (trees more : List Tree)
    → AreInLine list i m trees → AreInLine list m j more → AreInLine list i j (trees ++ more)
line_behind list i m j [] more line behind = subst (λ (k : ℕ). AreInLine list k j more) (sym line) behind
line_behind list i m j (tree ∷ trees) more line behind =
    record { middle = line.middle; left = line.left; right = line_behind list line.middle m j trees more line.right behind }
