-- How many lambda operators stand in one another (OData URL Conventions 4.01, section 5.1.1.13).
use Rattle.std.specs.Prelude.{ℕ, ◌+◌, max}
use Rattle.odata_syntax.specs.Tree.{Shape, Tree, Trees, any_item, binary, call, count, has, in_list, in_path, it, lambda, literal, logical_not, member, more_trees, name, negation, no_trees, node}

-- the greatest number of lambda operators with a body that stand in one another in a tree: one stands in another where
-- it is a node below that
abbrev mutual
  pub lambda_depth : Tree → ℕ
  lambda_depth (node start stop shape) = lambda_depth_in shape

  pub lambda_depth_in : Shape → ℕ
  lambda_depth_in (literal kind spelling) = 0
  lambda_depth_in it = 0
  lambda_depth_in (name asked) = 0
  lambda_depth_in (member base asked) = lambda_depth base
  lambda_depth_in (count base) = lambda_depth base
  lambda_depth_in (negation operand) = lambda_depth operand
  lambda_depth_in (logical_not operand) = lambda_depth operand
  lambda_depth_in (binary operator left right) = max (lambda_depth left) (lambda_depth right)
  lambda_depth_in (has left right) = max (lambda_depth left) (lambda_depth right)
  lambda_depth_in (in_list left items) = max (lambda_depth left) (lambda_depth_among items)
  lambda_depth_in (in_path left path) = max (lambda_depth left) (lambda_depth path)
  lambda_depth_in (call asked arguments) = lambda_depth_among arguments
  lambda_depth_in (any_item base) = lambda_depth base
  lambda_depth_in (lambda quantifier base variable body) = max (lambda_depth base) (lambda_depth body) + 1

  pub lambda_depth_among : Trees → ℕ
  lambda_depth_among no_trees = 0
  lambda_depth_among (more_trees tree trees) = max (lambda_depth tree) (lambda_depth_among trees)
