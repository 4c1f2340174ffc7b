-- For private clauses: the current piece of a type's properties.
use Rattle.std.specs.Prelude.{ℕ, drop}
use Rattle.csdl_schema.specs.PropertyView.{AreFirstOf}
use Rattle.csdl_schema.specs.SchemaModel.{SchemaModel, properties_at}
use Rattle.edm_entities.specs.declared.property_cursor.PropertyCursor.{PropertyCursor}

-- the piece has properties of the type from its first slot on
abbrev pub IsCursor : SchemaModel → ℕ → PropertyCursor → Type 0
IsCursor schema id cursor = AreFirstOf schema (drop cursor.first (properties_at schema id)) cursor.piece
