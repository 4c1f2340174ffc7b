-- One value for each slot, at every depth, and null in the slots that are not looked at (CSDL JSON 4.01, section 7).
use Rattle.std.specs.Prelude.{◌≡◌, ◌&&◌, ℕ, List, length, [], ◌∷◌, Bool, true, false, Some, None, if◌then◌else◌}
use Rattle.edm_values.specs.Sparse.{by_slot}
use Rattle.edm_values.specs.declared.value.Value.{Value, fold-Value}
use Rattle.edm_values.specs.declared.value.Value.TheOpen.{Value-F}
use Rattle.csdl_schema.specs.ExprType.{ExprType, single, collection, SingleType, structured}
use Rattle.csdl_schema.specs.SchemaModel.{Slots, PropertyModel, PropertyType, declared, opaque, navigation, slots_behind}

-- a value, by whether it is null, and whether it holds one value for each slot where a type is expected
pub record Holding : Type 0 where
  pub is_null : Bool
  pub holds : Slots → ExprType → Bool

-- the slot of a property that is not looked at holds null
abbrev pub slot_holds : Slots → PropertyType → Holding → Bool
slot_holds slots (declared type) held = held.holds slots type
slot_holds slots opaque held = held.is_null
slot_holds slots (navigation None) held = held.is_null
slot_holds slots (navigation (Some type)) held = if slots.needed [] then held.holds slots type else held.is_null

-- there are as many values as slots
abbrev pub slots_hold : Slots → List PropertyModel → List Holding → Bool
slots_hold slots [] [] = true
slots_hold slots (p ∷ ps) (held ∷ more) =
    slot_holds (slots_behind slots p.name) p.type_of held && slots_hold slots ps more
slots_hold slots _ _ = false

-- only a type with properties has a record
abbrev pub record_holds : Slots → ExprType → List Holding → Bool
record_holds slots (single (structured name)) held = slots_hold slots (slots.properties name) held
record_holds slots type held = false

-- how many slots a record of that type has, by the properties of types
abbrev pub slot_count : (List ℕ → List PropertyModel) → ExprType → ℕ
slot_count properties (single (structured name)) = length (properties name)
slot_count properties type = 0

abbrev pub items_hold : Slots → SingleType → List Holding → Bool
items_hold slots type [] = true
items_hold slots type (held ∷ more) = held.holds slots (single type) && items_hold slots type more

-- only a collection has a list
abbrev pub list_holds : Slots → ExprType → List Holding → Bool
list_holds slots (collection type) held = items_hold slots type held
list_holds slots type held = false

abbrev pub null_holding : Holding
null_holding = record { is_null = true; holds = λ slots type. true }

-- one level, with each value inside already seen
abbrev pub holding_step : Value-F Holding → Holding
holding_step Value-F.Null = null_holding
holding_step (Value-F.Record v) = record { is_null = false; holds = λ slots type. record_holds slots type v.items }
holding_step (Value-F.Sparse v) = record {
  is_null = false;
  holds = λ slots type. record_holds slots type (by_slot null_holding v.items 0 (slot_count slots.properties type));
}
holding_step (Value-F.List v) = record { is_null = false; holds = λ slots type. list_holds slots type v.items }
holding_step _ = record { is_null = false; holds = λ slots type. true }

abbrev pub holding_of : Value → Holding
holding_of = fold-Value Holding holding_step

-- each record in the value has one value for each slot of its type, null where the slot is not looked at
abbrev pub HoldsEachSlot : Value → Slots → ExprType → Type 0
HoldsEachSlot value slots type = (holding_of value).holds slots type ≡ true
