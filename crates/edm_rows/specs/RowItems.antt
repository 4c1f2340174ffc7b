-- A row that is an item of a document, where it stands (RFC 8259; OData JSON Format 4.01, section 13).
use Rattle.std.specs.Prelude.{◌≡◌, ℕ, List, map, slice_get, Some}
use Rattle.json.specs.Json.{value}
use Rattle.serde_json.specs.Data.{Data}
use Rattle.csdl_schema.specs.SchemaModel.{properties_at, type_name_at}
use Rattle.edm_values.specs.SieveMeaning.{Rejects}
use Rattle.edm_values.specs.Val.{FieldVal, Val, fields, present}
use Rattle.edm_values.specs.declared.sieve.Sieve.{Sieve}
use Rattle.edm_rows.specs.Alike.{AreAlike, Names}
use Rattle.edm_entities.specs.Fits.{Fits}
use Rattle.edm_entities.specs.Row.{Row, slots_for, value_of}
use Rattle.edm_rows.specs.RowsOfType.{RowsOfType, names_unkept, row_held}
use Rattle.edm_rows.specs.declared.type_rows.ItemReading.{ItemReading}
use Rattle.edm_rows.specs.declared.type_rows.ItemReading.TheVariants.{LeftOut, Row as IsRow, Unread}
use Rattle.json_room.specs.ValueStands.{ValueStands}

-- the JSON fits some value, to which the row's is alike but for what is passed over
pub record IsJsonBut (json : Data) (Passed : Names) (row : Row) : Type 0 where
  pub whole : Val
  pub fits : Fits (slots_for row) (type_name_at row.schema row.type_id) json whole
  pub alike : AreAlike Passed (value_of row) whole

-- the JSON fits some record, of which a value is rejected by its slot's sieve
pub record IsJsonLeftOut (json : Data) (rows : RowsOfType) : Type 0 where
  pub whole : List ℕ → FieldVal
  pub fits : Fits (slots_for (row_held rows)) (type_name_at rows.schema rows.type_id) json (fields whole)
  pub slot : ℕ
  pub name : List ℕ
  pub named : slice_get (map (λ p. p.name) (properties_at rows.schema rows.type_id)) slot ≡ Some name
  pub sieve : Sieve
  pub is_sieve : slice_get rows.sieves slot ≡ Some sieve
  pub value : Val
  pub held : whole name ≡ present value
  pub rejected : Rejects sieve value

-- what was read of an item that begins at an offset: it stands two deep, as an item of an array in an object
abbrev pub ReadsItem : List ℕ → ℕ → RowsOfType → ItemReading → Type 0
ReadsItem text place rows Unread = Unit {0}
ReadsItem text place rows (IsRow to) =
    ValueStands 125 text place to (λ json. IsJsonBut json (names_unkept rows) (row_held rows))
ReadsItem text place rows (LeftOut to) = ValueStands 125 text place to (λ json. IsJsonLeftOut json rows)
