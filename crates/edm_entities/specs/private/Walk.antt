-- For private clauses: what the walk over an object's slots and an array's items has read so far.
use Rattle.csdl_schema.specs.ExpansionView.{StepModel}
use Rattle.edm_entities.specs.RowFaults.{IsFaultUnder, IsValueFault, Path}
use Rattle.edm_entities.specs.FitsPrimitive.{Flaw}
use Rattle.edm_row_plans.specs.Expanded.{slots_at, wanted_with}
use Rattle.edm_row_plans.specs.declared.expansion_node.WalkContext.{WalkContext}
use Rattle.edm_row_plans.specs.ExpandedNodes.{target_if}
use Rattle.csdl_schema.specs.declared.property.PropertyKind.{PropertyKind}
use Rattle.edm_values.specs.Sparse.{AreBeside}
use Rattle.std.specs.declared.alloc.Global.{Global}
use Rattle.std.specs.Prelude.{◌≡◌, List, Bool, true, map, ◌⊎◌, ℕ, Vec, Option}
use Rattle.serde_json.specs.Data.{Items, Data}
use Rattle.edm_values.specs.declared.value.Value.{Value, Record, Sparse}
use Rattle.csdl_schema.specs.ExprType.{SingleType, primitive, enumeration, structured}
use Rattle.csdl_schema.specs.SchemaModel.{SchemaModel, Slots, type_name_at, PropertyType}
use Rattle.edm_entities.specs.Fits.{FitItems}
use Rattle.edm_entities.specs.HoldsEachSlot.{holding_of, items_hold}
use Rattle.edm_entities.specs.Row.{items_of, val_of, Row}
use Rattle.edm_row_plans.specs.declared.wanted.Wanted.{Wanted}
use Rattle.edm_row_plans.specs.declared.wanted.Wanted.TheVariants.{Prim, Enum, Complex}
pub use Rattle.edm_entities.specs.ValuesRead.{FitSlots, FitsSlot, HoldEach, HoldsInSlot}

-- the type that is expected of one value
abbrev pub wanted_single : SchemaModel → Wanted → SingleType
wanted_single schema (Prim p) = primitive p
wanted_single schema (Enum e) = enumeration (type_name_at schema e)
wanted_single schema (Complex t) = structured (type_name_at schema t)

-- each of these values, as an item of that type, holds one value for each slot
abbrev pub HoldInItems : Slots → SingleType → List Value → Type 0
HoldInItems slots type values = items_hold slots type (map holding_of values) ≡ true

-- these values fit the items of an array
abbrev pub FitList : Slots → Bool → SingleType → Items → List Value → Type 0
FitList slots nullable type jsons values =
    FitItems slots nullable type jsons (items_of slots.properties type (map val_of values))

-- a record of these values, by slot or beside their slots
abbrev pub IsRecordOf : Vec Value Global → Value → Type 0
IsRecordOf values value =
    (value ≡ Record values)
    ⊎ ((held : Vec (ℕ × Value) Global) × (value ≡ Sparse held) × AreBeside held.items values.items)

abbrev pub slots_in : WalkContext → Option ℕ → Slots
slots_in context node = slots_at context.schema.now context.expansion.now node

-- the same, if a navigation property is looked at only where it is expanded
abbrev pub wanted_of : PropertyKind → Bool → Option ℕ → Option Wanted
wanted_of of needed target = wanted_with of (target_if needed target)

-- the first fault in what an object has under a property's name
abbrev pub IsPropertyFault : Slots → Bool → PropertyType → Option Data → Path → Flaw → Type 0
IsPropertyFault slots nullable type found path flaw =
    IsFaultUnder slots nullable type found path flaw
    (λ nullable type json. IsValueFault slots nullable path type json flaw)

-- the row of a type with these values by slot
abbrev pub row_of : SchemaModel → ℕ → List StepModel → Vec Value Global → Row
row_of schema id expansion values =
    record { schema = schema; type_id = id; expansion = expansion; value = Record values }
