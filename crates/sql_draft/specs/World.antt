-- A row that is asked, with what is around an expression of the filter and of SQL there.
use Rattle.std.specs.Prelude.{◌≡◌, ℕ, Some, IsSomeAnd, length, reverse, slice_get}
use Rattle.edm_values.specs.MomentParts.{MomentParts}
use Rattle.csdl_schema.specs.SchemaModel.{slots_of, type_name_at}
use Rattle.edm_entities.specs.Row.{Row, value_of}
use Rattle.odata_syntax.specs.Tree.{Tree}
use Rattle.odata_checked_filter.specs.Filter.{Filter}
use Rattle.odata_checked_filter.specs.Stands.{Stands}
use Rattle.odata_meaning.specs.Environment.{Bound as Variable, Environment, IsFitting, scope_of}
use Rattle.odata_meaning.specs.Means.{Means}
use Rattle.odata_filter_operations.specs.Outcome.{Outcome, gives}
use Rattle.odata_ranges.specs.Kept.{AreKeptVariables}
use Rattle.sql_meaning.specs.SqlMeans.{SqlMeans}
use Rattle.sql_meaning.specs.Table.{Asked, Bound}
use Rattle.sql_tree.specs.Shapes.{IsShaped}
use Rattle.sql_tree.specs.Term.{Term, nodes_of}
use Rattle.sql_draft.specs.Rows.{IsRowOf}
use Rattle.sql_draft.specs.declared.draft.Draft.{Draft}
use Rattle.sql_draft.specs.Growth.{Grows, IsFront}

-- the row and its moment, the range variables, and a statement over the row, with what is bound around an expression
pub record World : Type 0 where
  pub row : Row
  pub now : MomentParts
  pub environment : Environment
  pub asked : Asked
  pub bound : Bound

-- a range variable stands where the draft says
abbrev pub StandsAt : Bound → ℕ → Variable → Type 0
StandsAt bound level variable = IsSomeAnd (slice_get bound level) (λ b. b.value ≡ gives variable.value)

-- what is translated: a filter, and the moment that `now()` stands for
pub record Question : Type 0 where
  pub filter : Filter
  pub now : MomentParts

-- a row of which the filter is asked at that moment, with range variables that have values of their types, as rows keep
-- them
pub record IsAskedOf (question : Question) (world : World) : Type 0 where
  pub row_is : IsRowOf question.filter world.row
  pub moment_is : world.now ≡ question.now
  pub fitting : IsFitting (slots_of world.row.schema) world.environment
  pub kept : AreKeptVariables (slots_of world.row.schema) world.environment

-- the statement is asked of the row, and has the draft's paths and parameters; the range variables stand at the levels
-- that the draft says, the outermost first
pub record IsWorldOf (question : Question) (draft : Draft) (world : World) : Type 0 where
  pub seen : IsAskedOf question world
  pub schema_is : world.asked.schema ≡ world.row.schema
  pub type_is : world.asked.row_type ≡ world.row.type_id
  pub entity_is : world.asked.entity ≡ value_of world.row
  pub now_is : world.asked.now ≡ world.now
  pub paths : IsFront draft.tree.paths.items world.asked.paths
  pub parameters : IsFront draft.tree.parameters.items world.asked.parameters
  pub depth : length world.bound ≡ draft.depth
  pub as_many : length draft.members.items ≡ length world.environment
  pub members :
      (k level : ℕ) (variable : Variable) → slice_get draft.members.items k ≡ Some level
      → slice_get (reverse world.environment) k ≡ Some variable → StandsAt world.bound level variable

-- what an expression of the filter has in a world
abbrev pub Has : Type 1
Has = World → Outcome → Type 0

-- of such an outcome the term evaluates to that form
abbrev pub Says : Question → Draft → Has → (Outcome → Outcome → Type 0) → Term → Type 0
Says question draft Outcomes Form t =
    (world : World) (o : Outcome) → IsWorldOf question draft world → Outcomes world o
    → (x : Outcome) × SqlMeans world.asked world.bound t x × Form o x

-- a term is added that says so, each of its nodes with as many children as it takes
pub record Puts (question : Question) (old new : Draft) (Outcomes : Has)
    (Form : Outcome → Outcome → Type 0) : Type 0 where
  pub t : Term
  pub shaped : IsShaped t
  pub grows : Grows old new (nodes_of t)
  pub says : Says question new Outcomes Form t

-- the tree at an index of the filter's list, and what it evaluates to
pub record StandsThere (filter : Filter) (place : ℕ) (world : World) (tree : Tree) : Type 0 where
  pub stop : ℕ
  pub stands : Stands filter.schema filter.filtered (scope_of world.environment) filter.list place stop tree

abbrev pub OfPlace : Filter → ℕ → Has
OfPlace filter place world o =
    (tree : Tree) × StandsThere filter place world tree
    × Means (slots_of world.row.schema) (type_name_at world.row.schema world.row.type_id) world.now (value_of world.row)
    world.environment tree o
