-- The nodes of a tree, in the order in which they are numbered from 0.
use Rattle.std.specs.Prelude.{List, [], ◌∷◌, ◌++◌}
use Rattle.odata_syntax.specs.Tree.{Shape, Tree, Trees, any_item, binary, call, count, has, in_list, in_path, it, lambda, literal, logical_not, member, more_trees, name, negation, no_trees, node, start_of, stop_of}
use Rattle.odata_text.specs.declared.span.Span.{Span}

-- each node before its children, these from left to right
abbrev mutual
  pub pre_order : Tree → List Tree
  pre_order (node start stop shape) = node start stop shape ∷ nodes_below shape

  -- the nodes below a node of that shape
  pub nodes_below : Shape → List Tree
  nodes_below (literal kind spelling) = []
  nodes_below it = []
  nodes_below (name asked) = []
  nodes_below (member base asked) = pre_order base
  nodes_below (count base) = pre_order base
  nodes_below (negation operand) = pre_order operand
  nodes_below (logical_not operand) = pre_order operand
  nodes_below (binary operator left right) = pre_order left ++ pre_order right
  nodes_below (has left right) = pre_order left ++ pre_order right
  nodes_below (in_list left items) = pre_order left ++ nodes_among items
  nodes_below (in_path left path) = pre_order left ++ pre_order path
  nodes_below (call asked arguments) = nodes_among arguments
  nodes_below (any_item base) = pre_order base
  nodes_below (lambda quantifier base variable body) = pre_order base ++ pre_order body

  -- the nodes of trees one after another
  pub nodes_among : Trees → List Tree
  nodes_among no_trees = []
  nodes_among (more_trees tree trees) = pre_order tree ++ nodes_among trees

-- where a tree starts and stops
abbrev pub span_of_tree : Tree → Span
span_of_tree tree = record { start = start_of tree; stop = stop_of tree }
