-- For private clauses: values that are held to their types, of which not all are stored.
use Rattle.std.specs.Prelude.{◌≡◌, ◌⊎◌, ℕ, List, Bool, true, false, Option, Some, None}
use Rattle.serde_json.specs.Data.{Data, Items, Members}
use Rattle.serde_json.specs.Find.{get, get_member}
use Rattle.edm_values.specs.Val.{Val, Vals}
use Rattle.edm_values.specs.declared.value.Value.{Value, Null}
use Rattle.csdl_schema.specs.ExprType.{ExprType, SingleType}
use Rattle.csdl_schema.specs.SchemaModel.{PropertyModel, PropertyType, Slots, slots_behind}
use Rattle.edm_entities.specs.Fits.{FitItems, FitsFound, FitsProperty, FitsType}
use Rattle.edm_entities.specs.Row.{ValAtType, field_of, val_of}
use Rattle.edm_rows.specs.Alike.{FieldsAlike, Names}
use Rattle.edm_rows.specs.private.SlotsSoFar.{HoldEachSoFar}
use Rattle.edm_entities.specs.private.Walk.{HoldEach}
pub use Rattle.edm_entities.specs.ValuesRead.{IsRowValue}

-- what is found for one value, which may be null, fits it
abbrev pub FitsNullable : Slots → Bool → Bool → ExprType → Value → Data → Type 0
FitsNullable slots takes nullable type v json =
    FitsFound (Some json) takes (val_of v slots.properties type)
    (λ found. FitsType slots nullable type found (val_of v slots.properties type))

-- the same, however nullable
abbrev pub FitsHoweverNullable : Slots → ExprType → Value → Data → Type 0
FitsHoweverNullable slots type v json = (nullable : Bool) → FitsNullable slots nullable nullable type v json

-- some value fits what is found for one, which may be null
abbrev pub FitsSome : Slots → Bool → Bool → ExprType → Data → Type 0
FitsSome slots takes nullable type json =
    (value : Val) × FitsFound (Some json) takes value (λ found. FitsType slots nullable type found value)

-- the same, however nullable
abbrev pub FitsSomeHowever : Slots → ExprType → Data → Type 0
FitsSomeHowever slots type json = (nullable : Bool) → FitsSome slots nullable nullable type json

-- some values fit the items of an array
abbrev pub FitSomeItems : Slots → Bool → SingleType → Items → Type 0
FitSomeItems slots nullable type jsons = (values : Vals) × FitItems slots nullable type jsons values

-- a value that is seen as that fits what was found under a property's name
abbrev pub FitsSeen : Slots → Bool → PropertyType → Option Data → ValAtType → Type 0
FitsSeen slots nullable type found seen = FitsProperty slots nullable type found (field_of slots.properties type seen)

-- some value fits it
abbrev pub FitsSomeProperty : Slots → Bool → PropertyType → Option Data → Type 0
FitsSomeProperty slots nullable type found = (seen : ValAtType) × FitsSeen slots nullable type found seen

abbrev pub every_name : Names
every_name name = Unit {0}

-- a property's value as it is stored and as it is seen are alike
abbrev pub SeenAlike : Slots → Names → PropertyType → ValAtType → ValAtType → Type 0
SeenAlike slots Passed type stored seen =
    FieldsAlike Passed (field_of slots.properties type stored) (field_of slots.properties type seen)

-- some value fits what was found, to which the one that is stored is alike unless the property is passed
abbrev pub FitsSlotBut : Slots → Names → (List ℕ → Option Data) → PropertyModel → Value → Type 0
FitsSlotBut slots Passed found p value =
    (seen : ValAtType) × FitsSeen (slots_behind slots p.name) p.nullable p.type_of (found p.name) seen
    × (Passed p.name ⊎ SeenAlike slots Passed p.type_of (val_of value) seen)

-- the same of a slot that was filled; for another nothing was found
abbrev pub FitsSoFarBut : Slots → Names → (List ℕ → Option Data) → PropertyModel → Bool → Value → Type 0
FitsSoFarBut slots Passed found p true value = FitsSlotBut slots Passed found p value
FitsSoFarBut slots Passed found p false value = found p.name ≡ None

-- the same of each slot of these properties, with what was found among an object's members
abbrev pub SlotsSoFarBut : Slots → Names → List PropertyModel → Members → List Bool → List Value → Type 0
SlotsSoFarBut slots Passed properties found filled values =
    HoldEachSoFar (FitsSoFarBut slots Passed (λ name. get_member name found)) properties filled values

-- these slots hold values that fit the members of an object, but for those that are passed
abbrev pub FitSlotsBut : Slots → Names → Data → List PropertyModel → List Value → Type 0
FitSlotsBut slots Passed json properties values =
    HoldEach (FitsSlotBut slots Passed (λ name. get name json)) properties values

-- null stands for its absence
abbrev pub MayBeAbsent : Slots → PropertyModel → Type 0
MayBeAbsent slots p = FitsSeen (slots_behind slots p.name) p.nullable p.type_of None (val_of Null)

-- ---- an object of which nothing is stored

abbrev pub PassedSoFar : Slots → List PropertyModel → Members → List Bool → Type 0
PassedSoFar slots properties found filled =
    (values : List Value) × SlotsSoFarBut slots every_name properties found filled values

abbrev pub FitSomeSlots : Slots → List PropertyModel → Data → Type 0
FitSomeSlots slots properties json = (values : List Value) × FitSlotsBut slots every_name json properties values

-- ---- a row, of which all is stored but what is passed
