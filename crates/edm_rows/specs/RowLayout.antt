-- What rows are read by, and what is read of a line by that (OData JSON Format 4.01, sections 4.5 and 7; RFC 8259).
use Rattle.std.specs.Prelude.{ℕ, List, Bool}
use Rattle.serde_json.specs.Data.{Data}
use Rattle.csdl_schema.specs.ExpansionView.{StepModel}
use Rattle.csdl_schema.specs.JsonText.{IsJsonOf}
use Rattle.csdl_schema.specs.SchemaModel.{SchemaModel, type_name_at}
use Rattle.edm_entities.specs.Fits.{Fits}
use Rattle.edm_entities.specs.Row.{Row, slots_for, value_of}

-- the type of the rows, what is expanded in them, and whether that is all that their plan was made for
pub record LayoutOfRows : Type 0 where
  pub schema : SchemaModel
  pub type_id : ℕ
  pub expansion : List StepModel
  pub is_whole : Bool

-- the line is the text of a JSON value that fits the row
pub record IsRowOfLine (line : List ℕ) (row : Row) : Type 0 where
  pub json : Data
  pub is_json : IsJsonOf line json
  pub fits : Fits (slots_for row) (type_name_at row.schema row.type_id) json (value_of row)
