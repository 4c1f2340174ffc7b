-- The schema that a reader of rows borrows or shares.
use Rattle.csdl_schema.specs.SchemaModel.{SchemaModel}
use Rattle.edm_rows.specs.declared.held_schema.HeldSchema.{HeldSchema}
use Rattle.edm_rows.specs.declared.held_schema.HeldSchema.TheVariants.{Borrowed, Shared}

-- that schema, wherever it is
abbrev pub schema_in : HeldSchema → SchemaModel
schema_in (Borrowed schema) = schema.now
schema_in (Shared schema) = schema.value
