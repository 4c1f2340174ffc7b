-- What an entity holds at the slot of a property that expressions see.
use Rattle.std.specs.Prelude.{◌≡◌, ℕ, List, Some, None, slice_get}
use Rattle.edm_values.specs.Val.{FieldVal, fields, present}
use Rattle.edm_values.specs.declared.value.Value.{Value}
use Rattle.csdl_schema.specs.ExprType.{ExprType}
use Rattle.csdl_schema.specs.SchemaModel.{PropertyType, declared, opaque, navigation, slots_of}
use Rattle.edm_entities.specs.HasType.{HasType}
use Rattle.edm_entities.specs.Row.{Row, val_of, value_of}

-- a property of that kind has values of the type: a navigation property those of its target
abbrev pub IsSeenAs : PropertyType → ExprType → Type 0
IsSeenAs (declared t) type = t ≡ type
IsSeenAs opaque type = ⊥
IsSeenAs (navigation None) type = ⊥
IsSeenAs (navigation (Some t)) type = t ≡ type

-- at that slot there is a value, it has the property's type, and the entity's record has it under the property's name
pub record IsSlotValue (row : Row) (items : List Value) (slot : ℕ) (name : List ℕ) (type : ExprType) : Type 0 where
  pub value : Value
  pub at_slot : slice_get items slot ≡ Some value
  pub has_type : HasType (slots_of row.schema) type (val_of value (slots_of row.schema).properties type)
  pub by_name : List ℕ → FieldVal
  pub is_record : value_of row ≡ fields by_name
  pub under_name : by_name name ≡ present (val_of value (slots_of row.schema).properties type)
