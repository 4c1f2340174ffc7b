-- What a reader of rows of one type stands for, and what it reports of a line.
use Rattle.std.specs.Prelude.{◌≡◌, ℕ, zero, suc, List, [], ◌∷◌, length, Bool, false, map, slice_get, Some}
use Rattle.serde_json.specs.Data.{Data}
use Rattle.csdl_schema.specs.ExpansionView.{StepModel}
use Rattle.csdl_schema.specs.JsonText.{IsJsonOf}
use Rattle.csdl_schema.specs.SchemaModel.{SchemaModel, properties_at, type_name_at}
use Rattle.edm_values.specs.SieveMeaning.{Rejects}
use Rattle.edm_values.specs.Val.{FieldVal, Val, fields, present}
use Rattle.edm_values.specs.declared.sieve.Sieve.{Sieve}
use Rattle.edm_values.specs.declared.sieve.Sieve.TheVariants.{All}
use Rattle.edm_values.specs.declared.value.Value.{Value}
use Rattle.edm_rows.specs.RowReading.{Names}
use Rattle.edm_entities.specs.Fits.{Fits}
use Rattle.edm_entities.specs.Row.{Row, slots_for}

-- by slot of a type, whether a value is kept
pub record TypeMarks : Type 0 where
  pub type_id : ℕ
  pub kept : List Bool

-- the type, what is expanded in its rows and whether that is all that the plan was made for, the marks of each type in
-- it, its sieves by slot, and the row that is filled
pub record RowsOfType : Type 0 where
  pub schema : SchemaModel
  pub type_id : ℕ
  pub expansion : List StepModel
  pub is_whole : Bool
  pub kept : List TypeMarks
  pub sieves : List Sieve
  pub is_ready : Bool
  pub value : Value

-- the row that is held
abbrev pub row_held : RowsOfType → Row
row_held rows = record { schema = rows.schema; type_id = rows.type_id; expansion = rows.expansion; value = rows.value }

-- the names of a type's properties whose values are not kept
abbrev pub names_unmarked : SchemaModel → TypeMarks → Names
names_unmarked schema marks name =
    (slot : ℕ) × (slice_get marks.kept slot ≡ Some false)
    × (slice_get (map (λ p. p.name) (properties_at schema marks.type_id)) slot ≡ Some name)

-- the same of these types
abbrev pub names_unkept_by : SchemaModel → List TypeMarks → Names
names_unkept_by schema types name =
    (place : ℕ) × (marks : TypeMarks) × (slice_get types place ≡ Some marks) × names_unmarked schema marks name

-- those of all types of the rows
abbrev pub names_unkept : RowsOfType → Names
names_unkept rows = names_unkept_by rows.schema rows.kept

-- a sieve is put where all values pass
abbrev pub sieve_put : Sieve → Sieve → Sieve
sieve_put All sieve = sieve
sieve_put old sieve = old

-- the same at a slot
abbrev pub sifted : List Sieve → ℕ → Sieve → List Sieve
sifted [] slot sieve = []
sifted (old ∷ sieves) zero sieve = sieve_put old sieve ∷ sieves
sifted (old ∷ sieves) (suc slot) sieve = old ∷ sifted sieves slot sieve

-- only what is kept has changed
pub record IsSameButKept (old new : RowsOfType) : Type 0 where
  pub schema : new.schema ≡ old.schema
  pub type_id : new.type_id ≡ old.type_id
  pub expansion : new.expansion ≡ old.expansion
  pub is_whole : new.is_whole ≡ old.is_whole
  pub slots : length new.kept ≡ length old.kept
  pub sieves : new.sieves ≡ old.sieves
  pub is_ready : new.is_ready ≡ old.is_ready
  pub value : new.value ≡ old.value

-- only the row that is held has changed
pub record IsSameReader (old new : RowsOfType) : Type 0 where
  pub schema : new.schema ≡ old.schema
  pub type_id : new.type_id ≡ old.type_id
  pub expansion : new.expansion ≡ old.expansion
  pub is_whole : new.is_whole ≡ old.is_whole
  pub kept : new.kept ≡ old.kept
  pub sieves : new.sieves ≡ old.sieves

-- the line is the text of a JSON value that fits some record, of which a value is rejected by its slot's sieve
pub record IsLeftOut (line : List ℕ) (rows : RowsOfType) : Type 0 where
  pub json : Data
  pub is_json : IsJsonOf line json
  pub whole : List ℕ → FieldVal
  pub fits : Fits (slots_for (row_held rows)) (type_name_at rows.schema rows.type_id) json (fields whole)
  pub slot : ℕ
  pub name : List ℕ
  pub named : slice_get (map (λ p. p.name) (properties_at rows.schema rows.type_id)) slot ≡ Some name
  pub sieve : Sieve
  pub is_sieve : slice_get rows.sieves slot ≡ Some sieve
  pub value : Val
  pub held : whole name ≡ present value
  pub rejected : Rejects sieve value
