-- For private clauses: why a tree has no text, and a filter no statement.
use Rattle.std.specs.Prelude.{◌≡◌, ◌≤◌, ℕ, length}
use Rattle.edm_values.specs.MomentParts.{MomentParts}
use Rattle.odata_checked_filter.specs.Filter.{Filter, tree_of_filter}
use Rattle.odata_filter_operations.specs.Outcome.{Outcome}
use Rattle.odata_signatures.specs.PreOrder.{pre_order}
use Rattle.sql_tree.specs.Shapes.{IsShaped}
use Rattle.sql_tree.specs.Term.{Term, nodes_of}
use Rattle.sql_tree.specs.declared.dialect.Dialect.{Dialect}
use Rattle.sql_tree.specs.declared.tree.SqlTree.{SqlTree}
use Rattle.odata_sql.specs.Refusals.{NestsTooDeeply, TreeWith, fewest_nodes}
use Rattle.odata_sql.specs.declared.sql_fault.SqlFault.{SqlFault}

-- a tree of the code with as many children as its nodes take is such a one, of a filter of so many nodes
abbrev pub IsRefusedTree : Dialect → SqlTree → ℕ → SqlFault → Type 0
IsRefusedTree dialect tree size SqlFault.Nul = ⊥
IsRefusedTree dialect tree size SqlFault.NoColumn = ⊥
IsRefusedTree dialect tree size SqlFault.TooDeep =
    (fewest_nodes dialect ≤ size)
    × ((t : Term) → tree.nodes.items ≡ nodes_of t → IsShaped t → NestsTooDeeply dialect tree.paths.items t)
IsRefusedTree dialect tree size SqlFault.Memory = Unit {0}

-- a tree that says so of each row is such a one
abbrev pub IsRefused : Filter → MomentParts → Dialect → (Outcome → Outcome → Type 0) → SqlFault → Type 0
IsRefused filter now dialect Holds SqlFault.Nul = ⊥
IsRefused filter now dialect Holds SqlFault.NoColumn = ⊥
IsRefused filter now dialect Holds SqlFault.TooDeep =
    (fewest_nodes dialect ≤ length (pre_order (tree_of_filter filter)))
    × TreeWith filter now Holds (NestsTooDeeply dialect)
IsRefused filter now dialect Holds SqlFault.Memory = Unit {0}
