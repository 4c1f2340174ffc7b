-- What the handle of a type owns.
use Rattle.std.specs.Prelude.{◌≡◌}
use Rattle.csdl_schema.specs.SchemaModel.{HoldsType, IsEntityAt}
use Rattle.edm_rows.specs.RowLayout.{LayoutOfRows}
use Rattle.call_handles.specs.HeldType.{EntityType}

-- an entity type of its schema, and a layout of its rows
pub record IsHeldType (type : EntityType) (layout : LayoutOfRows) : Type 0 where
  pub held : HoldsType type.schema type.id
  pub entity : IsEntityAt type.schema type.id
  pub of_schema : layout.schema ≡ type.schema
  pub of_type : layout.type_id ≡ type.id
