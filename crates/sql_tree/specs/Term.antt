-- A tree of SQL, and the list of its nodes in pre-order.
use Rattle.std.specs.Prelude.{List, [], ◌∷◌, ◌++◌}
use Rattle.sql_tree.specs.declared.sql_node.SqlNode.{SqlNode}

mutual
  -- a node with its children
  pub data Term : Type 0 where
    term : SqlNode → Terms → Term

  pub data Terms : Type 0 where
    no_terms : Terms
    more_terms : Term → Terms → Terms

abbrev mutual
  -- the nodes of a term, each before its children
  pub nodes_of : Term → List SqlNode
  nodes_of (term node children) = node ∷ nodes_of_all children

  pub nodes_of_all : Terms → List SqlNode
  nodes_of_all no_terms = []
  nodes_of_all (more_terms first rest) = nodes_of first ++ nodes_of_all rest
