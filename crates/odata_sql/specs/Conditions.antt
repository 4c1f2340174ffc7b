-- What conditions of SQL say of the rows of a table that keeps the entities of a filter's type.
use Rattle.std.specs.Prelude.{◌≡◌, pos, List, [], true}
use Rattle.edm_values.specs.MomentParts.{MomentParts}
use Rattle.edm_values.specs.Val.{boolean, whole}
use Rattle.edm_entities.specs.Row.{Row, value_of}
use Rattle.odata_checked_filter.specs.Filter.{Filter, tree_of_filter}
use Rattle.odata_meaning.specs.MeansOn.{MeansOn}
use Rattle.odata_filter_operations.specs.Outcome.{Outcome, gives}
use Rattle.sql_meaning.specs.Codes.{code_of}
use Rattle.sql_meaning.specs.SqlMeans.{SqlMeans}
use Rattle.sql_meaning.specs.Table.{Asked}
use Rattle.sql_tree.specs.Term.{Term}
use Rattle.sql_tree.specs.declared.parameter.Parameter.{Parameter}
use Rattle.sql_tree.specs.declared.json_path.Path.{Path}
use Rattle.sql_outcomes.specs.TrueWhere.{IsTrueWhere}
use Rattle.sql_draft.specs.Rows.{IsFault, IsRowOf}

-- a statement with these paths and parameters, asked of a row
abbrev pub asked_of : Row → MomentParts → List Path → List Parameter → Asked
asked_of row now paths parameters = record {
  schema = row.schema;
  row_type = row.type_id;
  entity = value_of row;
  paths = paths;
  parameters = parameters;
  now = now;
}

-- the term evaluates to one thing on the row, of which this holds
pub record ComesTo (asked : Asked) (t : Term) (Holds : Outcome → Type 0) : Type 0 where
  pub outcome : Outcome
  pub related : SqlMeans asked [] t outcome
  pub holds : Holds outcome
  pub only : (other : Outcome) → SqlMeans asked [] t other → other ≡ outcome

-- on every row of the filter's, for what the filter evaluates to there
abbrev pub SaysOfEach : Filter → MomentParts → List Path → List Parameter → Term → (Outcome → Outcome → Type 0) → Type 0
SaysOfEach filter now paths parameters t Holds =
    (row : Row) (o : Outcome) → IsRowOf filter row → MeansOn row now (tree_of_filter filter) o
    → ComesTo (asked_of row now paths parameters) t (Holds o)

-- the code of the outcome
abbrev pub IsItsCode : Outcome → Outcome → Type 0
IsItsCode o x = x ≡ gives (whole (pos (code_of o)))

abbrev pub KeepsIt : Outcome → Outcome → Type 0
KeepsIt o = IsTrueWhere (o ≡ gives (boolean true))

abbrev pub FaultsIt : Outcome → Outcome → Type 0
FaultsIt o = IsTrueWhere (IsFault o)
