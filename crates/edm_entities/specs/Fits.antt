-- Which values a JSON tree stands for (OData JSON Format 4.01, sections 4.5 and 7).
use Rattle.std.specs.Prelude.{◌≡◌, ◌≢◌, ℕ, List, [], Bool, true, false, Option, Some, None, IsSome}
use Rattle.std.specs.List.{AllByRecursion}
use Rattle.serde_json.specs.Data.{Data, null as json_null, Items, no_items as no_json, item as json_item}
use Rattle.serde_json.specs.Find.{get, as_object, as_array}
use Rattle.edm_values.specs.Val.{Val, null, fields, items, FieldVal, absent, present, Vals, no_items, item}
use Rattle.csdl_schema.specs.ExprType.{ExprType, null_type, single, collection, SingleType, primitive, enumeration, structured}
use Rattle.csdl_schema.specs.SchemaModel.{Slots, PropertyModel, PropertyType, declared, opaque, navigation, slots_behind}
use Rattle.edm_entities.specs.FitsPrimitive.{FitsPrimitive, FitsText, IsMemberText}

-- whether null and absence stand for null, where a property of that type is as nullable: a single one is itself, of a
-- collection the items are (CSDL JSON 4.01, section 7.2)
abbrev pub takes_null : ExprType → Bool → Bool
takes_null (single type) nullable = nullable
takes_null (collection type) nullable = false
takes_null null_type nullable = false

-- what was found for a value, which may be null if `takes`: nothing, or JSON null, stands for null; other JSON for what
-- P says
abbrev pub FitsFound : Option Data → Bool → Val → (Data → Type 0) → Type 0
FitsFound None takes value P = (takes ≡ true) × (value ≡ null)
FitsFound (Some json_null) takes value P = (takes ≡ true) × (value ≡ null)
FitsFound (Some json) takes value P = P json

-- the same of a navigation property. Where it is expanded, nothing stands for no value; where it is not, what was found
-- is not looked at, and the value is null
abbrev pub FitsNavigation : Bool → Option Data → Bool → Val → (Data → Type 0) → Type 0
FitsNavigation true None takes value P = ⊥
FitsNavigation true (Some json) takes value P = FitsFound (Some json) takes value P
FitsNavigation false found takes value P = value ≡ null

-- an object, and a record that has of each of these properties what P says, and holds no other name
pub record FitsRecord
    (properties : List PropertyModel) (json : Data) (f : List ℕ → FieldVal) (P : PropertyModel → Type 0) : Type 0 where
  pub is_object : IsSome (as_object json)
  pub each_fits : AllByRecursion P properties
  pub others_absent : (name : List ℕ) → AllByRecursion (λ p. p.name ≢ name) properties → f name ≡ absent

abbrev mutual
  -- JSON where a type is expected, the items of a collection being as nullable
  pub FitsType : Slots → Bool → ExprType → Data → Val → Type 0
  FitsType slots nullable (single (primitive type)) json value = FitsPrimitive type json value
  FitsType slots nullable (single (enumeration name)) json value =
      FitsText (IsMemberText (slots.enumerations name)) json value
  FitsType slots nullable (single (structured name)) json (fields f) =
      FitsRecord (slots.properties name) json f
      (λ p. FitsProperty (slots_behind slots p.name) p.nullable p.type_of (get p.name json) (f p.name))
  FitsType slots nullable (collection type) json (items values) =
      (jsons : Items) × (as_array json ≡ Some jsons) × FitItems slots nullable type jsons values
  FitsType slots nullable type json value = ⊥

  -- what an object has under a property's name, and what the record has there: a property that is never looked at is
  -- absent from the record, whatever the object has. A navigation property that leads to a target is looked at where it
  -- is expanded: it is an entity, or null if it may be, or a collection of entities
  pub FitsProperty : Slots → Bool → PropertyType → Option Data → FieldVal → Type 0
  FitsProperty slots nullable (declared type) found (present value) =
      FitsFound found (takes_null type nullable) value (λ json. FitsType slots nullable type json value)
  FitsProperty slots nullable opaque found absent = Unit {0}
  FitsProperty slots nullable (navigation None) found absent = Unit {0}
  FitsProperty slots nullable (navigation (Some type)) found (present value) =
      FitsNavigation (slots.needed []) found (takes_null type nullable) value
      (λ json. FitsType slots false type json value)
  FitsProperty slots nullable type found held = ⊥

  -- each item by the type, in order
  pub FitItems : Slots → Bool → SingleType → Items → Vals → Type 0
  FitItems slots nullable type no_json no_items = Unit {0}
  FitItems slots nullable type (json_item json jsons) (item value values) =
      FitsFound (Some json) nullable value (λ found. FitsType slots nullable (single type) found value)
      × FitItems slots nullable type jsons values
  FitItems slots nullable type jsons values = ⊥

-- a JSON object that is read as an entity of the type of that name, and its value
abbrev pub Fits : Slots → List ℕ → Data → Val → Type 0
Fits slots type_name json value = FitsType slots false (single (structured type_name)) json value
