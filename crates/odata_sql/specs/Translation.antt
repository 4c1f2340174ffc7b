-- What the statements of a filter say of the rows of a table.
use Rattle.std.specs.Prelude.{◌≡◌, ◌≢◌, ◌≤◌, ℕ, IsSomeAnd, List, length, slice_get, string_bytes}
use Rattle.edm_values.specs.MomentParts.{MomentParts}
use Rattle.edm_entities.specs.Row.{Row}
use Rattle.odata_checked_filter.specs.Filter.{Filter, tree_of_filter}
use Rattle.odata_checked_filter.specs.declared.checked_node.NodeKind.{NodeKind}
use Rattle.odata_meaning.specs.MeansOn.{MeansOn}
use Rattle.odata_filter_operations.specs.Outcome.{Outcome}
use Rattle.odata_signatures.specs.declared.edm_type.EdmType.{EdmType}
use Rattle.odata_signatures.specs.declared.function.Function.{Function}
use Rattle.odata_syntax.specs.declared.binary_operator.BinaryOperator.{BinaryOperator}
use Rattle.sql_tree.specs.TableModel.{StorageModel, TableModel}
use Rattle.sql_tree.specs.Term.{Term, nodes_of}
use Rattle.sql_tree.specs.TreeText.{IsWhole, text_of}
use Rattle.sql_tree.specs.declared.dialect.Dialect.{Dialect}
use Rattle.sql_tree.specs.declared.json_path.Path.{Path}
use Rattle.odata_sql.specs.Conditions.{SaysOfEach}
use Rattle.odata_sql.specs.Refusals.{most_symbols}
use Rattle.sql_draft.specs.Rows.{IsFault, IsRowOf}
use Rattle.sql_tree.specs.Numbered.{AreNumbered, parameters_of}
use Rattle.sql_tree.specs.ParserDepth.{symbols_of}
use Rattle.odata_sql.specs.declared.translation.Statement.{Statement}

-- the statement's text is that of a whole tree over the table which says so of each row, with the statement's
-- parameters: its nodes name them one after another, and each once; the engine's parser takes it
pub record Says
    (filter : Filter) (now : MomentParts) (dialect : Dialect) (table : TableModel) (statement : Statement)
    (Holds : Outcome → Outcome → Type 0) : Type 0 where
  pub t : Term
  pub paths : List Path
  pub whole : IsWhole dialect table paths t
  pub text_is : string_bytes statement.text ≡ text_of dialect table paths t
  pub fits : symbols_of t ≤ most_symbols dialect
  pub numbered : AreNumbered 0 (parameters_of (nodes_of t)) (length statement.parameters.items)
  pub says : SaysOfEach filter now paths statement.parameters.items t Holds

-- no row has a fault
abbrev pub NeverFaults : Filter → MomentParts → Type 0
NeverFaults filter now =
    (row : Row) (o : Outcome) → IsRowOf filter row → MeansOn row now (tree_of_filter filter) o → ¬ IsFault o

-- arithmetic in a number type can make a fault, and so can functions that count characters
abbrev pub MakesFault : NodeKind → EdmType → Type 0
MakesFault NodeKind.Neg type = type ≢ EdmType.Null
MakesFault (NodeKind.Binary (BinaryOperator.Arithmetic operator)) type = type ≢ EdmType.Null
MakesFault (NodeKind.Call Function.Length) type = Unit {0}
MakesFault (NodeKind.Call Function.IndexOf) type = Unit {0}
MakesFault kind type = ⊥

-- one of the filter's nodes can
abbrev pub CanFault : Filter → Type 0
CanFault filter =
    (place : ℕ) × IsSomeAnd (slice_get filter.list.nodes place) (λ node. MakesFault node.kind node.edm_type)

-- the table of a filter's rows
abbrev pub table_of : Filter → StorageModel → TableModel
table_of filter storage = record { schema = filter.schema; row_type = filter.filtered; storage = storage }
