-- What single nodes of a filter evaluate to on an entity (OData URL Conventions 4.01, section 5.1.1).
use Rattle.std.specs.Prelude.{ℕ, ℤ, ◌+◌, ◌≡◌, ◌<◌, ◌≤◌, ◌⊎◌, [], Option, Some, None, Result, Ok, Err, IsSomeAnd, length, slice_get}
use Rattle.edm_values.specs.MomentParts.{MomentParts}
use Rattle.edm_values.specs.Val.{member}
use Rattle.edm_values.specs.declared.datum.Datum.{Datum}
use Rattle.edm_values.specs.declared.value.Value.{Value, Moment as MomentValue}
use Rattle.odata_syntax.specs.Tree.{Tree}
use Rattle.odata_syntax.specs.declared.node.Quantifier.{Quantifier}
use Rattle.csdl_schema.specs.ExpansionView.{paths_in}
use Rattle.csdl_schema.specs.ExprType.{ExprType}
use Rattle.csdl_schema.specs.PathSet.{Covers}
use Rattle.csdl_schema.specs.SchemaModel.{slots_of, type_name_at}
use Rattle.edm_entities.specs.Row.{Row}
use Rattle.odata_functions.specs.DatumVal.{datum_val}
use Rattle.odata_signatures.specs.Typed.{Typed}
use Rattle.odata_checked_filter.specs.Calls.{TakesMemory}
use Rattle.odata_checked_filter.specs.Filter.{Filter}
use Rattle.odata_checked_filter.specs.FlatTree.{FlatTree}
use Rattle.odata_checked_filter.specs.Stands.{NumberStands, Stands}
use Rattle.odata_checked_filter.specs.declared.checked_node.NodeKind.{NodeKind}
use Rattle.odata_filter_operations.specs.DatumView.{answer_outcome, reading_at}
use Rattle.odata_filter_operations.specs.Outcome.{Outcome, gives}
use Rattle.odata_filter_operations.specs.Reports.{Reports}
use Rattle.odata_filter_operations.specs.declared.eval_fault.EvalFault.{EvalFault}
use Rattle.odata_meaning.specs.MeansOn.{IsTheOutcome}

-- the entity is of the filter's type in its schema, with what the filter needs of navigation; the value is the moment
pub record IsEvaluation (filter : Filter) (row : Row) (moment : MomentParts) (moment_value : Value) : Type 0 where
  pub one_schema : filter.schema ≡ row.schema
  pub one_type : filter.filtered ≡ row.type_id
  pub covers : Covers (paths_in row.expansion) (paths_in filter.expansion)
  pub as_value : moment_value ≡ MomentValue moment

-- of a list over the row's type, the nodes from one index up to another stand for the tree, with no variables around
abbrev pub StandsAlone : Row → FlatTree → ℕ → ℕ → Tree → Type 0
StandsAlone row = Stands row.schema row.type_id []

-- so does one node, of a literal that is read as this number of an enumeration
abbrev pub NumberAlone : Row → FlatTree → ℤ → ℕ → ℕ → Tree → Type 0
NumberAlone row = NumberStands row.schema row.type_id []

-- the outcome that an answer reports, its value read at a type; none when out of memory
abbrev pub outcome_at : Row → ExprType → Result Datum EvalFault → Option Outcome
outcome_at row type answer = answer_outcome (datum_val (reading_at (slots_of row.schema) type)) answer

-- what is answered of the node at an index: the one outcome of its tree, or that memory ran out, which is said only
-- where the tree makes texts; of a literal that is read as a number, that number
pub record IsNodeAnswer
    (row : Row) (moment : MomentParts) (list : FlatTree) (index : ℕ) (answer : Result Datum EvalFault) : Type 0 where
  pub there : (stop : ℕ) × (tree : Tree)
      × (StandsAlone row list index stop tree ⊎ ((number : ℤ) × NumberAlone row list number index stop tree))
  pub of_tree : (stop : ℕ) (tree : Tree) (type : ExprType) → StandsAlone row list index stop tree
      → Typed (slots_of row.schema) (type_name_at row.schema row.type_id) [] tree type
      → Reports (TakesMemory tree) (IsTheOutcome row moment tree) (outcome_at row type answer)
  pub of_number : (number : ℤ) (stop : ℕ) (tree : Tree) (type : ExprType)
      → NumberAlone row list number index stop tree → outcome_at row type answer ≡ Some (gives (member number))

-- the node at an index lies in the body of a lambda operator: after the operator's base, before the operator stops
pub record IsWithinBody (list : FlatTree) (index : ℕ) : Type 0 where
  pub outer : ℕ
  pub quantifier : Quantifier
  pub before_end : IsSomeAnd (slice_get list.nodes outer)
      (λ found. (found.kind ≡ NodeKind.Lambda quantifier) × (index < found.stop))
  pub after_base : IsSomeAnd (slice_get list.nodes (outer + 1)) (λ base. base.stop ≤ index)

-- what is answered of the node at an index, or that it has no answer of its own: it is in a body, or there is none
abbrev pub ReportsNode : Row → MomentParts → FlatTree → ℕ → Result (Option Datum) EvalFault → Type 0
ReportsNode row moment list index (Ok (Some value)) = IsNodeAnswer row moment list index (Ok value)
ReportsNode row moment list index (Ok None) = index < length list.nodes → IsWithinBody list index
ReportsNode row moment list index (Err fault) = IsNodeAnswer row moment list index (Err fault)
