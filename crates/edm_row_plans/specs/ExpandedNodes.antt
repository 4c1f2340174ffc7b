-- What is expanded of a property, by the nodes of an expansion (OData URL Conventions 4.01, section 5.1.3).
use Rattle.std.specs.Prelude.{ℕ, List, Bool, Option, Some, None, if◌then◌else◌}
use Rattle.csdl_schema.specs.ExpansionView.{StepModel, next_node}

-- the node after a node, by a step
abbrev pub node_behind : List StepModel → Option ℕ → List ℕ → Option ℕ
node_behind steps None name = None
node_behind steps (Some node) name = next_node steps node name

-- the target of a navigation property, if it is looked at
abbrev pub target_if : Bool → Option ℕ → Option ℕ
target_if needed target = if needed then target else None
