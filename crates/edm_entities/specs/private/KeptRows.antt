-- For private clauses: where an entity has its value, and what is expanded in it.
use Rattle.std.specs.Prelude.{ℕ, List}
use Rattle.csdl_schema.specs.ExpansionView.{StepModel}
use Rattle.csdl_schema.specs.SchemaModel.{SchemaModel}
use Rattle.edm_values.specs.declared.value.Value.{Value}
use Rattle.edm_entities.specs.Row.{Row}
use Rattle.edm_entities.specs.declared.kept_row.KeptRow.{KeptRow}
use Rattle.edm_entities.specs.declared.kept_row.KeptRow.TheVariants.{Own, Borrowed}

-- what is expanded in it, its own or borrowed
abbrev pub expansion_in : KeptRow → List StepModel
expansion_in (Own expansion value) = expansion
expansion_in (Borrowed expansion value) = expansion.now

-- its value, its own or borrowed
abbrev pub value_in : KeptRow → Value
value_in (Own expansion value) = value
value_in (Borrowed expansion value) = value.now

-- the row of a type that it is
abbrev pub row_kept : SchemaModel → ℕ → KeptRow → Row
row_kept schema id kept = record { schema = schema; type_id = id; expansion = expansion_in kept; value = value_in kept }
