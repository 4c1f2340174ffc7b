-- What an entity stands for: the values that the code holds by slot, as a record by names.
use Rattle.std.specs.Prelude.{◌≡◌, ℕ, List, [], ◌∷◌, Some, None, length, if◌then◌else◌, nat_eq, string_bytes, Vec}
use Rattle.std.specs.declared.alloc.Global.{Global}
use Rattle.std.specs.Cmp.Lexicographic.{pointwise}
use Rattle.serde_json.specs.Data.{Data}
use Rattle.edm_values.specs.Val.{Val, null, boolean, whole, text, date, moment, guid, member, fields, items, FieldVal, absent, present, Vals, no_items, item}
use Rattle.edm_values.specs.Sparse.{by_slot}
use Rattle.edm_values.specs.declared.value.Value.{Value, Record, fold-Value}
use Rattle.edm_values.specs.declared.value.Value.TheOpen.{Value-F}
use Rattle.csdl_schema.specs.ExpansionView.{StepModel, paths_in}
use Rattle.csdl_schema.specs.ExprType.{ExprType, single, collection, SingleType, structured}
use Rattle.csdl_schema.specs.SchemaModel.{Slots, SchemaModel, PropertyModel, PropertyType, declared, opaque, navigation, expanded, slots_of, type_name_at, properties_at, HasDistinctNames, HoldsType}
use Rattle.edm_entities.specs.Fits.{Fits}
use Rattle.edm_entities.specs.HoldsEachSlot.{HoldsEachSlot, slot_count}

-- the properties of types, by the types' names
abbrev pub PropertiesByType : Type 0
PropertiesByType = List ℕ → List PropertyModel

-- what a value stands for once its type is known: a record's names are those of its type's properties
abbrev pub ValAtType : Type 0
ValAtType = PropertiesByType → ExprType → Val

-- a property that is never looked at is absent, whatever its slot holds. A navigation property that leads to a target
-- is there, looked at or not
abbrev pub field_of : PropertiesByType → PropertyType → ValAtType → FieldVal
field_of properties (declared type) seen = present (seen properties type)
field_of properties opaque seen = absent
field_of properties (navigation None) seen = absent
field_of properties (navigation (Some type)) seen = present (seen properties type)

-- what slots hold for properties, by the properties' names
abbrev pub field_by_name : PropertiesByType → List PropertyModel → List ValAtType → List ℕ → FieldVal
field_by_name properties [] held name = absent
field_by_name properties (p ∷ ps) [] name = absent
field_by_name properties (p ∷ ps) (seen ∷ more) name =
    if pointwise nat_eq p.name name then field_of properties p.type_of seen else field_by_name properties ps more name

-- at a type without properties, a record of nothing
abbrev pub record_of : PropertiesByType → ExprType → List ValAtType → Val
record_of properties (single (structured name)) held = fields (field_by_name properties (properties name) held)
record_of properties type held = fields (λ name. absent)

abbrev pub items_of : PropertiesByType → SingleType → List ValAtType → Vals
items_of properties type [] = no_items
items_of properties type (seen ∷ more) = item (seen properties (single type)) (items_of properties type more)

-- at a type without items, a list of nothing
abbrev pub list_of : PropertiesByType → ExprType → List ValAtType → Val
list_of properties (collection type) held = items (items_of properties type held)
list_of properties type held = items no_items

abbrev pub null_seen : ValAtType
null_seen properties type = null

-- one level, with each value inside already seen
abbrev pub val_step : Value-F ValAtType → ValAtType
val_step Value-F.Null properties type = null
val_step (Value-F.Bool b) properties type = boolean b
val_step (Value-F.Int n) properties type = whole n
val_step (Value-F.Text s) properties type = text (string_bytes s)
val_step (Value-F.Date d) properties type = date d
val_step (Value-F.Moment m) properties type = moment m
val_step (Value-F.Guid g) properties type = guid g
val_step (Value-F.Enum n) properties type = member n
val_step (Value-F.Record v) properties type = record_of properties type v.items
val_step (Value-F.Sparse v) properties type =
    record_of properties type (by_slot null_seen v.items 0 (slot_count properties type))
val_step (Value-F.List v) properties type = list_of properties type v.items

-- what a value of that type stands for
abbrev pub val_of : Value → ValAtType
val_of = fold-Value ValAtType val_step

-- an entity as contracts see it: the schema, the index of its type in that, what is expanded, and the values by slot
pub record Row : Type 0 where
  pub schema : SchemaModel
  pub type_id : ℕ
  pub expansion : List StepModel
  pub value : Value

-- the row of a type with that value, where that is expanded
abbrev pub row_with : SchemaModel → ℕ → List StepModel → Value → Row
row_with schema id steps value = record { schema = schema; type_id = id; expansion = steps; value = value }

-- the types of a schema, where this is expanded
abbrev pub expanded_by : SchemaModel → List StepModel → Slots
expanded_by schema expansion = expanded (slots_of schema) (paths_in expansion)

-- those of the row's schema, where that is expanded which the row expands
abbrev pub slots_for : Row → Slots
slots_for row = expanded_by row.schema row.expansion

-- an entity's value, as a record by the names of its type's properties
abbrev pub value_of : Row → Val
value_of row =
    val_of row.value (slots_of row.schema).properties (single (structured (type_name_at row.schema row.type_id)))

-- an entity conforms to its type, expanded: its value fits some JSON object
abbrev pub Conforms : Row → Type 0
Conforms row = (json : Data) × Fits (slots_for row) (type_name_at row.schema row.type_id) json (value_of row)

-- its value is a record with a value for each slot of its type
pub record HoldsSlots (row : Row) : Type 0 where
  pub slots : Vec Value Global
  pub value_is : row.value ≡ Record slots
  pub as_many : length slots.items ≡ length (properties_at row.schema row.type_id)

-- what is true of every entity
pub record IsEntity (row : Row) : Type 0 where
  pub held : HoldsType row.schema row.type_id
  pub holds_slots : HoldsSlots row
  pub each_slot :
      HoldsEachSlot row.value (slots_for row) (single (structured (type_name_at row.schema row.type_id)))
  pub distinct : HasDistinctNames (properties_at row.schema row.type_id)
  pub conforms : Conforms row
