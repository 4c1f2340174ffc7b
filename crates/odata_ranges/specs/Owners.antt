-- The types whose properties the nodes of a filter name (OData URL Conventions 4.01, section 5.1.1.15).
use Rattle.std.specs.Prelude.{◌≡◌, ◌<◌, ◌⊎◌, ℕ, List, Some, length, slice_get}
use Rattle.odata_syntax.specs.Tree.{Tree, member, node}
use Rattle.csdl_schema.specs.ExprType.{single, structured}
use Rattle.csdl_schema.specs.SchemaModel.{Slots, properties_at, slots_of, type_name_at}
use Rattle.odata_checked_filter.specs.Filter.{Filter}
use Rattle.odata_checked_filter.specs.declared.checked_node.CheckedNode.{CheckedNode}
use Rattle.odata_checked_filter.specs.declared.checked_node.NodeKind.{NodeKind}
use Rattle.odata_checked_filter.specs.Stands.{Stands}
use Rattle.odata_signatures.specs.Typed.{Scope, Typed}

-- the kind of a node that names the property in the slot
abbrev pub NamesSlotOf : NodeKind → ℕ → Type 0
NamesSlotOf kind slot = (kind ≡ NodeKind.Property slot) ⊎ (kind ≡ NodeKind.Member slot)

-- a node at the index names a property
pub record NamesProperty (filter : Filter) (place : ℕ) : Type 0 where
  pub found : CheckedNode
  pub at : slice_get filter.list.nodes place ≡ Some found
  pub slot : ℕ
  pub names : NamesSlotOf found.kind slot

-- a name belongs to the filtered type, a step to the type of what stands before its slash
abbrev pub BelongsTo : Slots → List ℕ → Scope → Tree → List ℕ → Type 0
BelongsTo slots root scope (node start stop (member base asked)) owner = Typed slots root scope base
    (single (structured owner))
BelongsTo slots root scope tree owner = owner ≡ root

-- the property that the node at the index names is one of this type, and has its slot there
pub record IsOwnerAt (filter : Filter) (place owner : ℕ) : Type 0 where
  pub of_tree :
      (scope : Scope) (stop : ℕ) (tree : Tree) → Stands filter.schema filter.filtered scope filter.list place stop tree
      → BelongsTo (slots_of filter.schema) (type_name_at filter.schema filter.filtered) scope tree
      (type_name_at filter.schema owner)
  pub slot_in :
      (found : CheckedNode) (slot : ℕ) → slice_get filter.list.nodes place ≡ Some found → NamesSlotOf found.kind slot
      → slot < length (properties_at filter.schema owner)
