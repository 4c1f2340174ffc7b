-- Values as a row keeps them: null only where the schema lets it be, and no longer than the engines take (CSDL JSON
-- 4.01, section 7.2.2; PostgreSQL 15, section 8.14).
use Rattle.std.specs.Prelude.{◌≡◌, ◌≤◌, length, Bool, true, Some}
use Rattle.std.specs.List.{AllByRecursion}
use Rattle.std.specs.Str.{chars}
use Rattle.edm_values.specs.Val.{Val, null, text, fields, items, FieldVal, present, Vals, no_items, item}
use Rattle.csdl_schema.specs.ExprType.{ExprType, single, collection, SingleType, structured}
use Rattle.csdl_schema.specs.SchemaModel.{Slots, PropertyType, declared, opaque, navigation}
use Rattle.edm_entities.specs.Fits.{takes_null}
use Rattle.odata_meaning.specs.Environment.{Environment}
use Rattle.odata_filter_operations.specs.CollectionGives.{members_of}

-- whether a property may be null: one that navigates is null where it is not expanded
abbrev pub property_takes_null : PropertyType → Bool → Bool
property_takes_null (declared type) nullable = takes_null type nullable
property_takes_null opaque nullable = true
property_takes_null (navigation target) nullable = true

abbrev pub IsNullOnlyIf : Bool → Val → Type 0
IsNullOnlyIf takes null = takes ≡ true
IsNullOnlyIf takes v = Unit {0}

abbrev mutual
  -- no text of more than 268,435,456 characters, no collection of more than 4,294,967,296 members; in a record each
  -- property is null only where it may be
  pub IsKept : Slots → ExprType → Val → Type 0
  IsKept slots type (text s) = length (chars s) ≤ 268_435_456
  IsKept slots (single (structured name)) (fields f) =
      AllByRecursion (λ p. IsKeptProperty slots p.type_of (property_takes_null p.type_of p.nullable) (f p.name))
      (slots.properties name)
  IsKept slots (collection type) (items values) =
      (length (members_of values) ≤ 4_294_967_296) × AreKept slots type values
  IsKept slots type v = Unit {0}

  -- what a record has under the name of a property of that type
  pub IsKeptProperty : Slots → PropertyType → Bool → FieldVal → Type 0
  IsKeptProperty slots (declared type) takes (present v) = IsNullOnlyIf takes v × IsKept slots type v
  IsKeptProperty slots (navigation (Some type)) takes (present v) = IsNullOnlyIf takes v × IsKept slots type v
  IsKeptProperty slots type takes held = Unit {0}

  pub AreKept : Slots → SingleType → Vals → Type 0
  AreKept slots type no_items = Unit {0}
  AreKept slots type (item v values) = IsKept slots (single type) v × AreKept slots type values

-- the value of each variable is kept so
abbrev pub AreKeptVariables : Slots → Environment → Type 0
AreKeptVariables slots environment =
    AllByRecursion (λ bound. IsKept slots bound.variable.type_of bound.value) environment
