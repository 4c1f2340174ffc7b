-- What a name in a tree names: a range variable around it, else a property (OData URL Conventions 4.01, 5.1.1.13).
use Rattle.std.specs.Prelude.{◌≡◌, ℕ, List, [], Option, Some, None, slice_get, option_and_then}
use Rattle.odata_syntax.specs.Tree.{Tree, node, name, member}
use Rattle.csdl_schema.specs.ExprType.{single, structured}
use Rattle.csdl_schema.specs.SchemaModel.{Slots, slots_of, type_name_at, slot_named}
use Rattle.odata_checked_filter.specs.Filter.{Filter, tree_of_filter}
use Rattle.odata_checked_filter.specs.Levels.{level_named}
use Rattle.odata_checked_filter.specs.NodeScopes.{IsNode}
use Rattle.odata_checked_filter.specs.ScopedNodes.{scoped_nodes}
use Rattle.odata_checked_filter.specs.Stands.{variable_names}
use Rattle.odata_signatures.specs.Typed.{Scope, Typed}

-- the node names the property in the slot: a name that no variable in scope has names one of the filtered type, a step
-- one of the type of what stands before its slash
abbrev pub NamesSlot : Slots → List ℕ → Scope → Tree → ℕ → Type 0
NamesSlot slots root scope (node start stop (name asked)) slot =
    (level_named (variable_names scope) asked ≡ None) × (slot_named (slots.properties root) asked ≡ Some slot)
NamesSlot slots root scope (node start stop (member base asked)) slot =
    (owner : List ℕ) × Typed slots root scope base (single (structured owner))
    × (slot_named (slots.properties owner) asked ≡ Some slot)
NamesSlot slots root scope (node start stop shape) slot = ⊥

-- the level of the variable that the node names
abbrev pub level_of_node : List (List ℕ) → Tree → Option ℕ
level_of_node variables (node start stop (name asked)) = level_named variables asked
level_of_node variables (node start stop shape) = None

-- the filter's k-th node, in the scope that it is judged in, names the property in the slot
pub record IsSlotAt (filter : Filter) (k slot : ℕ) : Type 0 where
  pub at : Scope
  pub part : Tree
  pub numbered :
      IsNode (slots_of filter.schema) (type_name_at filter.schema filter.filtered) [] (tree_of_filter filter) k at part
  pub names : NamesSlot (slots_of filter.schema) (type_name_at filter.schema filter.filtered) at part slot

-- the level of the variable that the filter's k-th node names
abbrev pub level_at : Filter → ℕ → Option ℕ
level_at filter k =
    option_and_then (λ at. level_of_node at.variables at.part)
    (slice_get (scoped_nodes [] (tree_of_filter filter)) k)
