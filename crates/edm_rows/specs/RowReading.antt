-- Which rows a line of JSON is for, read without a tree (OData JSON Format 4.01, sections 4.5 and 7; RFC 8259).
use Rattle.std.specs.Prelude.{ℕ, List}
use Rattle.serde_json.specs.Data.{Data}
use Rattle.csdl_schema.specs.JsonText.{IsJsonOf}
use Rattle.csdl_schema.specs.SchemaModel.{type_name_at}
use Rattle.edm_values.specs.Val.{Val}
use Rattle.edm_entities.specs.Fits.{Fits}
use Rattle.edm_entities.specs.Row.{Row, slots_for, value_of}
pub use Rattle.edm_rows.specs.Alike.{AreAlike, Names}

-- the line is the text of a JSON value that fits some value, to which the row's is alike but for what is passed over
pub record IsLineBut (line : List ℕ) (Passed : Names) (row : Row) : Type 0 where
  pub json : Data
  pub is_json : IsJsonOf line json
  pub whole : Val
  pub fits : Fits (slots_for row) (type_name_at row.schema row.type_id) json whole
  pub alike : AreAlike Passed (value_of row) whole
