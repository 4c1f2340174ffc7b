-- How much there is to do for a tree. For private clauses.
use Rattle.std.specs.Prelude.{ℕ, ◌+◌}
use Rattle.odata_syntax.specs.Tree.{Shape, Tree, Trees, any_item, binary, call, count, has, in_list, in_path, it, lambda, literal, logical_not, member, more_trees, name, negation, no_trees, node}

-- of a tree, of a form, and of items
abbrev mutual
  pub tree_weight : Tree → ℕ
  tree_weight (node start stop shape) = shape_weight shape

  pub shape_weight : Shape → ℕ
  shape_weight (literal kind text) = 1
  shape_weight it = 1
  shape_weight (name text) = 1
  shape_weight (member base text) = tree_weight base + 4
  shape_weight (count base) = tree_weight base + 4
  shape_weight (negation tree) = tree_weight tree + 3
  shape_weight (logical_not tree) = tree_weight tree + 3
  shape_weight (binary operator left right) = tree_weight left + (tree_weight right + 6)
  shape_weight (has left right) = tree_weight left + (tree_weight right + 6)
  shape_weight (in_list left items) = tree_weight left + (trees_weight items + 6)
  shape_weight (in_path left path) = tree_weight left + (tree_weight path + 6)
  shape_weight (call text arguments) = trees_weight arguments + 3
  shape_weight (any_item base) = tree_weight base + 4
  shape_weight (lambda quantifier base variable body) = tree_weight base + (tree_weight body + 6)

  pub trees_weight : Trees → ℕ
  trees_weight no_trees = 1
  trees_weight (more_trees tree trees) = tree_weight tree + (trees_weight trees + 1)
