-- What an expansion stands for: a set of property paths, whose steps lead from node to node.
use Rattle.std.specs.Prelude.{◌≡◌, ℕ, zero, suc, List, [], ◌∷◌, ◌&&◌, Bool, false, Option, Some, None, if◌then◌else◌, nat_eq, slice_get}
use Rattle.std.specs.Cmp.Lexicographic.{pointwise}
use Rattle.odata_expansion.specs.PathSet.{PathSet, PropertyPath}

-- a step to a property from a node; `needed`, if the path that ends with it is in the set. Node 0 is the start, and the
-- step at an index leads to the node with the next number
pub record StepModel : Type 0 where
  pub before : ℕ
  pub name : List ℕ
  pub needed : Bool

-- whether a step starts from that node and has that name
abbrev pub goes_on : StepModel → ℕ → List ℕ → Bool
goes_on step node name = nat_eq step.before node && pointwise nat_eq step.name name

-- the node to which the first of these steps leads that does so, the steps counted from k
abbrev pub next_from : ℕ → List StepModel → ℕ → List ℕ → Option ℕ
next_from k [] node name = None
next_from k (step ∷ steps) node name = if goes_on step node name then Some (suc k) else next_from
    (suc k) steps node name

abbrev pub next_node : List StepModel → ℕ → List ℕ → Option ℕ
next_node steps node name = next_from 0 steps node name

abbrev pub is_needed_step : Option StepModel → Bool
is_needed_step None = false
is_needed_step (Some step) = step.needed

-- whether the path to a node is in the set
abbrev pub is_needed_at : List StepModel → ℕ → Bool
is_needed_at steps zero = false
is_needed_at steps (suc k) = is_needed_step (slice_get steps k)

-- the paths of the set that begin with the path to a node, without it; there are none where there is no node
abbrev pub paths_at : List StepModel → Option ℕ → PathSet
paths_at steps None path = false
paths_at steps (Some node) [] = is_needed_at steps node
paths_at steps (Some node) (name ∷ path) = paths_at steps (next_node steps node name) path

-- the paths of the set
abbrev pub paths_in : List StepModel → PathSet
paths_in steps = paths_at steps (Some 0)

-- the node to which a path leads from a node
abbrev pub node_at : List StepModel → Option ℕ → PropertyPath → Option ℕ
node_at steps None path = None
node_at steps (Some node) [] = Some node
node_at steps (Some node) (name ∷ path) = node_at steps (next_node steps node name) path

-- the path leads to the node
abbrev pub LeadsTo : List StepModel → PropertyPath → ℕ → Type 0
LeadsTo steps path node = node_at steps (Some 0) path ≡ Some node

-- it is the node to which some path leads
abbrev pub IsReached : List StepModel → ℕ → Type 0
IsReached steps node = (path : PropertyPath) × LeadsTo steps path node

-- the set of paths is the same, and what led to a node leads there still
pub record KeepsPaths (old new : List StepModel) : Type 0 where
  pub same : (path : PropertyPath) → paths_in new path ≡ paths_in old path
  pub leads : (path : PropertyPath) (node : ℕ) → LeadsTo old path node → LeadsTo new path node
