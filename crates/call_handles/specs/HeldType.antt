-- What the handle of a type owns.
use Rattle.std.specs.Prelude.{ℕ}
use Rattle.csdl_schema.specs.SchemaModel.{SchemaModel}

-- the type at an index of a schema
pub record EntityType : Type 0 where
  pub schema : SchemaModel
  pub id : ℕ
