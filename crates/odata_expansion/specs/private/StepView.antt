-- For private clauses: the steps of an expansion of the code, and the nodes to which they lead.
use Rattle.std.specs.Prelude.{◌≡◌, ◌≤◌, ℕ, zero, suc, List, [], ◌∷◌, true, Some, map, length, slice_get, string_bytes}
use Rattle.odata_expansion.specs.PathSet.{PropertyPath}
use Rattle.odata_expansion.specs.ExpansionView.{StepModel, next_node}
use Rattle.odata_expansion.specs.declared.steps.Step.{Step}
use Rattle.odata_expansion.specs.declared.expansion.Expansion.TheInside.{Inside}

abbrev pub step_model : Step → StepModel
step_model step = record { before = step.before; name = string_bytes step.name; needed = step.needed }

abbrev pub steps_model : Inside → List StepModel
steps_model expansion = map step_model expansion.steps.items

-- each step starts from a node before its own, and is the one that is found there by its name
pub record AreSteps (steps : List StepModel) : Type 0 where
  pub starts : (k : ℕ) (step : StepModel) → slice_get steps k ≡ Some step → step.before ≤ k
  pub found : (k : ℕ) (step : StepModel) → slice_get steps k ≡ Some step
      → next_node steps step.before step.name ≡ Some (suc k)

abbrev pub AreKeptSteps : Inside → Type 0
AreKeptSteps expansion = AreSteps (steps_model expansion)

-- a step of that name leads from one node to the other
pub record IsStep (steps : List StepModel) (node : ℕ) (name : List ℕ) (next : ℕ) : Type 0 where
  pub leads : next_node steps node name ≡ Some next
  pub within : next ≤ length steps

-- these steps, the one at the index marked as needed
abbrev pub mark_step : ℕ → List StepModel → List StepModel
mark_step i [] = []
mark_step zero (step ∷ steps) = record { before = step.before; name = step.name; needed = true } ∷ steps
mark_step (suc i) (step ∷ steps) = step ∷ mark_step i steps

-- the path to a node put into the set; that to the start is in none
abbrev pub marked : ℕ → List StepModel → List StepModel
marked zero steps = steps
marked (suc k) steps = mark_step k steps

-- the names of a path with the last one first, before the names of others
abbrev pub onto : PropertyPath → PropertyPath → PropertyPath
onto [] path = path
onto (name ∷ names) path = onto names (name ∷ path)

-- a step of that name leads to the node, and of the node that it starts from P holds
pub record EndsWith (steps : List StepModel) (name : List ℕ) (node : ℕ) (P : ℕ → Type 0) : Type 0 where
  pub k : ℕ
  pub step : StepModel
  pub stands_at : slice_get steps k ≡ Some step
  pub leads : node ≡ suc k
  pub named : step.name ≡ name
  pub before : P step.before

-- these names, the last one first, lead back from the node to the start
abbrev pub LeadsBack : List StepModel → PropertyPath → ℕ → Type 0
LeadsBack steps [] node = node ≡ 0
LeadsBack steps (name ∷ names) node = EndsWith steps name node (LeadsBack steps names)
