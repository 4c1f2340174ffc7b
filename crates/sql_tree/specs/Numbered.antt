-- The numbers of the parameters that the nodes of a tree name.
use Rattle.std.specs.Prelude.{◌≡◌, ℕ, ◌+◌, List, [], ◌∷◌, ◌++◌}
use Rattle.sql_tree.specs.declared.sql_node.SqlNode.{SqlNode}

-- the parameter that a node names, if it is one
abbrev pub named_by : SqlNode → List ℕ
named_by (SqlNode.Parameter place type) = place ∷ []
named_by node = []

-- those of nodes, in their order
abbrev pub parameters_of : List SqlNode → List ℕ
parameters_of [] = []
parameters_of (node ∷ nodes) = named_by node ++ parameters_of nodes

-- one number after another, from the first on; the next one has not come
abbrev pub AreNumbered : ℕ → List ℕ → ℕ → Type 0
AreNumbered first [] next = next ≡ first
AreNumbered first (place ∷ places) next = (place ≡ first) × AreNumbered (first + 1) places next
