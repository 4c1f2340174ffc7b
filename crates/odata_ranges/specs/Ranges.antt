-- The ranges of a filter's nodes: what stands at an index evaluates to nothing outside the range there.
use Rattle.std.specs.Prelude.{◌≡◌, ◌≤◌, ℕ, List, Some, length, slice_get}
use Rattle.edm_values.specs.MomentParts.{IsMoment, MomentParts}
use Rattle.edm_values.specs.Val.{Val, fields, FieldVal}
use Rattle.odata_syntax.specs.Tree.{Tree}
use Rattle.csdl_schema.specs.ExprType.{single, structured}
use Rattle.csdl_schema.specs.SchemaModel.{slots_of, type_name_at}
use Rattle.edm_entities.specs.HasType.{HasType}
use Rattle.edm_entities.specs.Row.{Row, IsEntity, value_of}
use Rattle.odata_checked_filter.specs.Filter.{Filter}
use Rattle.odata_checked_filter.specs.Stands.{Stands}
use Rattle.odata_meaning.specs.Environment.{Environment, IsFitting, scope_of}
use Rattle.odata_meaning.specs.Means.{Means}
use Rattle.odata_filter_operations.specs.Outcome.{Outcome}
use Rattle.odata_ranges.specs.Faults.{AreQuietThere, AreReportedFrom}
use Rattle.odata_ranges.specs.Kept.{AreKeptVariables, IsKept}
use Rattle.odata_ranges.specs.Reach.{IsBounded}
use Rattle.odata_ranges.specs.Storable.{IsStorable}
use Rattle.odata_ranges.specs.Within.{IsWithin}
use Rattle.odata_ranges.specs.declared.range.Range.{Range}

-- the moment that `now` stands for, the entity and the range variables around an expression
pub record CheckContext : Type 0 where
  pub now : MomentParts
  pub entity : Val
  pub environment : Environment

-- a moment that a literal can spell, an entity of the filter's type and values of the variables' types, as a row keeps
-- them
pub record IsContextOf (filter : Filter) (context : CheckContext) : Type 0 where
  pub moment : IsMoment context.now.civil context.now.offset_minutes
  pub held : List ℕ → FieldVal
  pub is_record : context.entity ≡ fields held
  pub typed :
      HasType (slots_of filter.schema) (single (structured (type_name_at filter.schema filter.filtered))) context.entity
  pub kept :
      IsKept (slots_of filter.schema) (single (structured (type_name_at filter.schema filter.filtered))) context.entity
  pub fitting : IsFitting (slots_of filter.schema) context.environment
  pub variables : AreKeptVariables (slots_of filter.schema) context.environment

-- what an expression of the filter evaluates to in a context
abbrev pub MeansIn : Filter → CheckContext → Tree → Outcome → Type 0
MeansIn filter context =
    Means (slots_of filter.schema) (type_name_at filter.schema filter.filtered) context.now context.entity
    context.environment

-- whatever tree stands at the index evaluates to outcomes within the range alone
abbrev pub HoldsRange : Filter → ℕ → Range → Type 0
HoldsRange filter place range =
    (context : CheckContext) (tree : Tree) (stop : ℕ) (o : Outcome) → IsContextOf filter context
    → Stands filter.schema filter.filtered (scope_of context.environment) filter.list place stop tree
    → MeansIn filter context tree o → IsWithin range o

-- the range has bounds in order, and holds what comes of the node there
pub record IsRangeAt (filter : Filter) (place : ℕ) (range : Range) : Type 0 where
  pub bounded : IsBounded range
  pub holds : HoldsRange filter place range

-- each range from an index on is that of its node
abbrev pub AreRangesFrom : Filter → ℕ → List Range → Type 0
AreRangesFrom filter first ranges =
    (place : ℕ) (range : Range) → first ≤ place → slice_get ranges place ≡ Some range → IsRangeAt filter place range

-- a range for each node, with the faults of the nodes below it; a node of a quiet type or kind evaluates to none
pub record AreRangesOf (filter : Filter) (ranges : List Range) : Type 0 where
  pub as_many : length ranges ≡ length filter.list.nodes
  pub each : AreRangesFrom filter 0 ranges
  pub reported : AreReportedFrom filter 0 ranges
  pub quiet : AreQuietThere filter ranges

-- each entity that the engines can keep is kept as its type says
abbrev pub AreEntitiesKept : Type 0
AreEntitiesKept =
    (row : Row) → IsEntity row → IsStorable (value_of row)
    → IsKept (slots_of row.schema) (single (structured (type_name_at row.schema row.type_id))) (value_of row)
