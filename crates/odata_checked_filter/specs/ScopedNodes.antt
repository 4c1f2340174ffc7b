-- The nodes of a tree with the range variables in scope there (OData URL Conventions 4.01, section 5.1.1.13).
use Rattle.std.specs.Prelude.{ℕ, List, [], ◌∷◌, ◌++◌}
use Rattle.odata_syntax.specs.Tree.{Shape, Tree, Trees, any_item, binary, call, count, has, in_list, in_path, it, lambda, literal, logical_not, member, more_trees, name, negation, no_trees, node}

-- a node, and the names of the range variables in scope there, the innermost first
pub record ScopedNode : Type 0 where
  pub variables : List (List ℕ)
  pub part : Tree

-- the nodes of a tree in pre-order, each with the variables in scope there; a lambda operator binds its variable in its
-- body
abbrev mutual
  pub scoped_nodes : List (List ℕ) → Tree → List ScopedNode
  scoped_nodes variables (node start stop shape) =
      record { variables = variables; part = node start stop shape } ∷ scoped_below variables shape

  pub scoped_below : List (List ℕ) → Shape → List ScopedNode
  scoped_below variables (literal kind spelling) = []
  scoped_below variables it = []
  scoped_below variables (name asked) = []
  scoped_below variables (member base asked) = scoped_nodes variables base
  scoped_below variables (count base) = scoped_nodes variables base
  scoped_below variables (negation operand) = scoped_nodes variables operand
  scoped_below variables (logical_not operand) = scoped_nodes variables operand
  scoped_below variables (binary operator left right) = scoped_nodes variables left ++ scoped_nodes variables right
  scoped_below variables (has left right) = scoped_nodes variables left ++ scoped_nodes variables right
  scoped_below variables (in_list left items) = scoped_nodes variables left ++ scoped_among variables items
  scoped_below variables (in_path left path) = scoped_nodes variables left ++ scoped_nodes variables path
  scoped_below variables (call asked arguments) = scoped_among variables arguments
  scoped_below variables (any_item base) = scoped_nodes variables base
  scoped_below variables (lambda quantifier base variable body) =
      scoped_nodes variables base ++ scoped_nodes (variable ∷ variables) body

  pub scoped_among : List (List ℕ) → Trees → List ScopedNode
  scoped_among variables no_trees = []
  scoped_among variables (more_trees tree trees) = scoped_nodes variables tree ++ scoped_among variables trees
