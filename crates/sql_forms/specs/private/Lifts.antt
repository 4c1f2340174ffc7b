-- For private clauses: a `Let` that binds some of its operands.
use Rattle.std.specs.Prelude.{◌≡◌, ◌<◌, ◌+◌, ◌++◌, ℕ, zero, suc, List, [], ◌∷◌, Bool, Option, Some, None, length}
use Rattle.sql_tree.specs.declared.sql_node.Carrier.{Carrier}
use Rattle.sql_tree.specs.declared.sql_node.SqlNode.{SqlNode}
use Rattle.sql_draft.specs.declared.draft.Draft.{Draft}
use Rattle.sql_forms.specs.declared.lift.Lifted.{Lifted}
use Rattle.sql_draft.specs.declared.sql_operand.Operand.{Operand}
use Rattle.sql_outcomes.specs.private.BoundOperands.{chosen, within_let, AreChosen, AreValued, faults_front}

-- a choice of the operands is bound, and the others are as they were
pub record IsLifted (operands : List Operand) (level : ℕ) (lifted : Lifted) : Type 0 where
  pub choices : List Bool
  pub are : AreChosen choices operands
  pub valued : AreValued choices operands
  pub inner : lifted.inner.items ≡ within_let level choices operands
  pub bound : lifted.bound.items ≡ chosen choices operands
  pub level_is : lifted.level ≡ level
  pub few : lifted.level < 1_000_000_000_000

-- a `Let` begins, unless nothing is bound
abbrev pub let_nodes : ℕ → ℕ → List SqlNode
let_nodes level zero = []
let_nodes level (suc count) = SqlNode.Let level (suc count) ∷ []

pub record IsOpened (lifted : Lifted) (old new : Draft) : Type 0 where
  pub nodes_are :
      new.tree.nodes.items ≡ old.tree.nodes.items ++ let_nodes lifted.level (length lifted.bound.items)
  pub paths_are : new.tree.paths.items ≡ old.tree.paths.items
  pub parameters_are : new.tree.parameters.items ≡ old.tree.parameters.items
  pub members : new.members.items ≡ old.members.items
  pub depth : new.depth ≡ old.depth + length lifted.bound.items

-- likewise for a carrier; nothing where there is none
abbrev pub carried_front : Option Carrier → ℕ → List Operand → List SqlNode
carried_front None level operands = []
carried_front (Some carrier) level operands = faults_front (Some carrier) level operands
