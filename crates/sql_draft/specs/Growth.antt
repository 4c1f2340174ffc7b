-- What is added to a draft.
use Rattle.std.specs.Prelude.{◌≡◌, ◌<◌, ◌++◌, ℕ, ◌+◌, List, length}
use Rattle.sql_draft.specs.declared.draft.Draft.{Draft}
use Rattle.sql_tree.specs.declared.sql_node.SqlNode.{SqlNode}
use Rattle.sql_tree.specs.declared.parameter.Parameter.{Parameter}
use Rattle.sql_tree.specs.Numbered.{AreNumbered, parameters_of}
use Rattle.sql_tree.specs.declared.json_path.Path.{Path}

-- a list is the front of another
abbrev pub IsFront : {A : Type 0} → List A → List A → Type 0
IsFront {A} xs ys = (more : List A) × (ys ≡ xs ++ more)

-- these nodes, paths and parameters stand after those of the draft, and what the next node may name is as before
pub record GrowsBy
    (old new : Draft) (nodes : List SqlNode) (paths : List Path) (parameters : List Parameter) : Type 0 where
  pub nodes_are : new.tree.nodes.items ≡ old.tree.nodes.items ++ nodes
  pub paths_are : new.tree.paths.items ≡ old.tree.paths.items ++ paths
  pub parameters_are : new.tree.parameters.items ≡ old.tree.parameters.items ++ parameters
  pub members : new.members.items ≡ old.members.items
  pub depth : new.depth ≡ old.depth

-- so many values or members more are bound, not many in all
pub record IsDeeper (old new : Draft) (count : ℕ) : Type 0 where
  pub tree : new.tree ≡ old.tree
  pub members : new.members.items ≡ old.members.items
  pub depth : new.depth ≡ old.depth + count
  pub few : old.depth < 1_000_000_000_000
  pub counted : count < 1_000_000_000_000

-- these nodes stand after those of the draft, and name the parameters that were added, one after another and each once;
-- there may be further paths, and what the next node may name is as before
pub record Grows (old new : Draft) (nodes : List SqlNode) : Type 0 where
  pub nodes_are : new.tree.nodes.items ≡ old.tree.nodes.items ++ nodes
  pub paths : IsFront old.tree.paths.items new.tree.paths.items
  pub parameters : IsFront old.tree.parameters.items new.tree.parameters.items
  pub numbered :
      AreNumbered (length old.tree.parameters.items) (parameters_of nodes) (length new.tree.parameters.items)
  pub members : new.members.items ≡ old.members.items
  pub depth : new.depth ≡ old.depth
