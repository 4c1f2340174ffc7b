-- How deep the nodes of a tree lie (OData URL Conventions 4.01, section 5.1.1).
use Rattle.std.specs.Prelude.{ℕ, ◌+◌, List, [], ◌∷◌, ◌++◌}
use Rattle.odata_syntax.specs.Tree.{Shape, Tree, Trees, any_item, binary, call, count, has, in_list, in_path, it, lambda, literal, logical_not, member, more_trees, name, negation, no_trees, node}

-- the depths of a tree's nodes in pre-order, where that many nodes stand around the tree: a child lies one deeper than
-- its parent
abbrev mutual
  pub depths : ℕ → Tree → List ℕ
  depths around (node start stop shape) = around ∷ depths_below (around + 1) shape

  pub depths_below : ℕ → Shape → List ℕ
  depths_below around (literal kind spelling) = []
  depths_below around it = []
  depths_below around (name asked) = []
  depths_below around (member base asked) = depths around base
  depths_below around (count base) = depths around base
  depths_below around (negation operand) = depths around operand
  depths_below around (logical_not operand) = depths around operand
  depths_below around (binary operator left right) = depths around left ++ depths around right
  depths_below around (has left right) = depths around left ++ depths around right
  depths_below around (in_list left items) = depths around left ++ depths_among around items
  depths_below around (in_path left path) = depths around left ++ depths around path
  depths_below around (call asked arguments) = depths_among around arguments
  depths_below around (any_item base) = depths around base
  depths_below around (lambda quantifier base variable body) = depths around base ++ depths around body

  pub depths_among : ℕ → Trees → List ℕ
  depths_among around no_trees = []
  depths_among around (more_trees tree trees) = depths around tree ++ depths_among around trees
