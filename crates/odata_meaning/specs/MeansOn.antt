-- What a tree evaluates to on an entity, with no variables around it.
use Rattle.std.specs.Prelude.{[], ◌≡◌}
use Rattle.edm_values.specs.MomentParts.{MomentParts}
use Rattle.odata_syntax.specs.Tree.{Tree}
use Rattle.csdl_schema.specs.SchemaModel.{slots_of, type_name_at}
use Rattle.edm_entities.specs.Row.{Row, value_of}
use Rattle.odata_meaning.specs.Means.{Means}
use Rattle.odata_filter_operations.specs.Outcome.{Outcome}

abbrev pub MeansOn : Row → MomentParts → Tree → Outcome → Type 0
MeansOn row now = Means (slots_of row.schema) (type_name_at row.schema row.type_id) now (value_of row) []

-- the outcome, of which there is no other
pub record IsTheOutcome (row : Row) (now : MomentParts) (tree : Tree) (outcome : Outcome) : Type 0 where
  pub related : MeansOn row now tree outcome
  pub only : (other : Outcome) → MeansOn row now tree other → other ≡ outcome
