-- What an expression is and evaluates to where a filter is evaluated.
use Rattle.std.specs.Prelude.{◌≡◌, ◌⊎◌, ℕ, ℤ, Some, slice_get, Vec}
use Rattle.std.specs.declared.alloc.Global.{Global}
use Rattle.edm_values.specs.declared.value.Value.{Value, Record}
use Rattle.odata_syntax.specs.Tree.{Tree}
use Rattle.csdl_schema.specs.ExprType.{ExprType}
use Rattle.csdl_schema.specs.SchemaModel.{slots_of, type_name_at}
use Rattle.edm_entities.specs.Row.{Row, value_of}
use Rattle.odata_checked_filter.specs.Stands.{NumberStands, Stands}
use Rattle.odata_signatures.specs.Typed.{Typed}
use Rattle.odata_meaning.specs.EndsOnce.{EndsOnce}
use Rattle.odata_meaning.specs.Environment.{scope_of}
use Rattle.odata_meaning.specs.Means.{Means}
use Rattle.odata_filter_operations.specs.Outcome.{Outcome}
use Rattle.filter_context.specs.private.ContextModel.{ContextModel, environment_of}

-- the nodes of the list from the index up to the stop stand for the tree
abbrev pub StandsHere : ContextModel → ℕ → ℕ → Tree → Type 0
StandsHere context = Stands context.row.schema context.row.type_id (scope_of (environment_of context)) context.list

-- the node at the index is that of a String literal, with the number as its value
abbrev pub NumberHere : ContextModel → ℤ → ℕ → ℕ → Tree → Type 0
NumberHere context = NumberStands context.row.schema context.row.type_id
    (scope_of (environment_of context)) context.list

-- either of them
abbrev pub OperandHere : ContextModel → ℕ → ℕ → Tree → Type 0
OperandHere context place stop tree =
    StandsHere context place stop tree ⊎ ((number : ℤ) × NumberHere context number place stop tree)

-- the tree has the type
abbrev pub TypedHere : ContextModel → Tree → ExprType → Type 0
TypedHere context =
    Typed (slots_of context.row.schema) (type_name_at context.row.schema context.row.type_id)
    (scope_of (environment_of context))

-- the tree evaluates to the outcome
abbrev pub MeansHere : ContextModel → Tree → Outcome → Type 0
MeansHere context =
    Means (slots_of context.row.schema) (type_name_at context.row.schema context.row.type_id) context.moment
    (value_of context.row)
    (environment_of context)

-- a tree that has a type evaluates to one outcome, and to no other
abbrev pub EndsOnceHere : ContextModel → Type 0
EndsOnceHere context =
    (tree : Tree) (type : ExprType) → TypedHere context tree type
    → EndsOnce (slots_of context.row.schema) (type_name_at context.row.schema context.row.type_id) context.moment
    (value_of context.row) (environment_of context) tree type

-- the entity has this value in the slot
abbrev pub HoldsAt : Row → ℕ → Value → Type 0
HoldsAt row slot value =
    (slots : Vec Value Global) × ((row.value ≡ Record slots) × (slice_get slots.items slot ≡ Some value))
