-- The value of a row, as it is read apart from an entity (OData JSON Format 4.01, sections 4.5 and 7).
use Rattle.std.specs.Prelude.{◌≡◌, ℕ, List, [], ◌∷◌, true, Option, Vec}
use Rattle.std.specs.declared.alloc.Global.{Global}
use Rattle.serde_json.specs.Data.{Data, Members, object}
use Rattle.serde_json.specs.Find.{get}
use Rattle.edm_values.specs.declared.value.Value.{Value, Record}
use Rattle.csdl_schema.specs.SchemaModel.{PropertyModel, PropertyType, Slots, slots_behind}
use Rattle.edm_entities.specs.Fits.{FitsProperty}
use Rattle.edm_entities.specs.HoldsEachSlot.{holding_of, slot_holds}
use Rattle.edm_entities.specs.Row.{field_of, val_of}

-- what stands in the slot of a property of that type: null of one that is not looked at
abbrev pub HoldsInSlot : Slots → PropertyType → Value → Type 0
HoldsInSlot slots type value = slot_holds slots type (holding_of value) ≡ true

-- slots hold values, one each, and of each the relation holds
abbrev pub HoldEach : (PropertyModel → Value → Type 0) → List PropertyModel → List Value → Type 0
HoldEach Q [] [] = Unit {0}
HoldEach Q (p ∷ ps) (value ∷ values) = Q p value × HoldEach Q ps values
HoldEach Q _ _ = ⊥

-- a slot's value is what fits what was found under the property's name, and null where the property is not looked at
abbrev pub FitsSlot : Slots → (List ℕ → Option Data) → PropertyModel → Value → Type 0
FitsSlot slots found p value =
    FitsProperty (slots_behind slots p.name) p.nullable p.type_of (found p.name)
    (field_of slots.properties p.type_of (val_of value))
    × HoldsInSlot (slots_behind slots p.name) p.type_of value

-- these slots hold values that fit the members of an object
abbrev pub FitSlots : Slots → Data → List PropertyModel → List Value → Type 0
FitSlots slots json properties values = HoldEach (FitsSlot slots (λ name. get name json)) properties values

-- the value is a row's, which fits the members of some object whole
abbrev pub IsRowValue : Slots → List PropertyModel → Value → Type 0
IsRowValue slots properties value =
    (values : Vec Value Global) × (value ≡ Record values)
    × ((kept : Members) × FitSlots slots (object kept) properties values.items)
