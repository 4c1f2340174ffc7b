-- What a translation goes by.
use Rattle.std.specs.Prelude.{◌≡◌, ◌<◌, ℕ, List, Some, String, IsSomeAnd, true, false, length, slice_get, string_bytes}
use Rattle.std.specs.declared.alloc.Global.{Global}
use Rattle.edm_values.specs.MomentParts.{IsMoment}
use Rattle.edm_values.specs.declared.value.Value.{Value}
use Rattle.odata_checked_filter.specs.Filter.{Filter, IsFilter}
use Rattle.odata_checked_filter.specs.declared.checked_node.CheckedNode.{CheckedNode}
use Rattle.odata_checked_filter.specs.declared.checked_node.NodeKind.{NodeKind}
use Rattle.odata_ranges.specs.Faults.{IsQuietKind}
use Rattle.odata_ranges.specs.Reach.{IsBounded}
use Rattle.odata_filter_operations.specs.Outcome.{Outcome}
use Rattle.odata_signatures.specs.declared.edm_type.EdmType.{EdmType}
use Rattle.odata_ranges.specs.Within.{IsWithin}
use Rattle.odata_ranges.specs.declared.range.Range.{Range}
use Rattle.sql_meaning.specs.ParameterGives.{HoldsNul}
use Rattle.sql_tree.specs.declared.sql_node.SqlType.{SqlType}
use Rattle.sql_draft.specs.declared.sql_context.Kind.{Kind}
use Rattle.sql_draft.specs.declared.sql_context.SqlContext.{SqlContext}
use Rattle.sql_draft.specs.Kinds.{kind_of_type}
use Rattle.sql_draft.specs.World.{IsAskedOf, OfPlace, Question, World}

abbrev pub question_of : SqlContext → Question
question_of context = record { filter = context.checked.now; now = context.moment.now }

-- numbers, texts and truth values may be faults
abbrev pub IsCarriedKind : Kind → Type 0
IsCarriedKind (Kind.Value SqlType.Truth) = Unit {0}
IsCarriedKind (Kind.Value SqlType.Whole) = Unit {0}
IsCarriedKind (Kind.Value SqlType.Text) = Unit {0}
IsCarriedKind kind = ⊥

-- there is a range for each node, with bounds in order, and what the node evaluates to lies within it; what stands
-- below a node that evaluates to no fault evaluates to none; `$it` is not null
pub record AreRanges (question : Question) (ranges : List Range) : Type 0 where
  pub count : length ranges ≡ length question.filter.list.nodes
  pub bounded : (place : ℕ) (range : Range) → slice_get ranges place ≡ Some range → IsBounded range
  pub within :
      (place : ℕ) (range : Range) (world : World) (o : Outcome) → slice_get ranges place ≡ Some range
      → IsAskedOf question world → OfPlace question.filter place world o → IsWithin range o
  pub inherits :
      (place child : ℕ) (node : CheckedNode) (range inner : Range) → slice_get question.filter.list.nodes place
      ≡ Some node
      → slice_get ranges place ≡ Some range → slice_get ranges child ≡ Some inner → place < child → child < node.stop
      → range.may_fault ≡ false → inner.may_fault ≡ false
  pub carries :
      (place : ℕ) (node : CheckedNode) (range : Range) → slice_get question.filter.list.nodes place ≡ Some node
      → slice_get ranges place ≡ Some range → range.may_fault ≡ true → IsCarriedKind (kind_of_type node.edm_type)
  pub plain :
      (place : ℕ) (node : CheckedNode) (range : Range) → slice_get question.filter.list.nodes place ≡ Some node
      → slice_get ranges place ≡ Some range → IsQuietKind node.kind → range.may_fault ≡ false
  pub entity :
      (place : ℕ) (node : CheckedNode) (range : Range) → slice_get question.filter.list.nodes place ≡ Some node
      → slice_get ranges place ≡ Some range → node.kind ≡ NodeKind.It → range.may_be_null ≡ false

-- a text at an index of the filter's values has no character U+0000
abbrev pub IsNulFreeAt : Filter → ℕ → Type 0
IsNulFreeAt filter place =
    (text : String Global) → slice_get filter.list.values place ≡ Some (Value.Text text) → ¬ HoldsNul (string_bytes text)

pub record IsTranslated (context : SqlContext) : Type 0 where
  pub moment : IsMoment context.moment.now.civil context.moment.now.offset_minutes
  pub right : IsFilter context.checked.now
  pub ranges : AreRanges (question_of context) context.ranges.now
  pub nul_free : (place : ℕ) → IsNulFreeAt context.checked.now place

-- the node there is of that kind
abbrev pub IsKindAt : Filter → ℕ → NodeKind → Type 0
IsKindAt filter place kind = IsSomeAnd (slice_get filter.list.nodes place) (λ node. node.kind ≡ kind)

-- the node there is of that type
abbrev pub IsOfTypeAt : Filter → ℕ → EdmType → Type 0
IsOfTypeAt filter place type = IsSomeAnd (slice_get filter.list.nodes place) (λ node. node.edm_type ≡ type)

-- a property, a member of what stands after it, or a range variable
abbrev pub IsStep : NodeKind → Type 0
IsStep (NodeKind.Property slot) = Unit {0}
IsStep (NodeKind.Variable level) = Unit {0}
IsStep (NodeKind.Member slot) = Unit {0}
IsStep kind = ⊥

abbrev pub IsPathAt : Filter → ℕ → Type 0
IsPathAt filter place = IsSomeAnd (slice_get filter.list.nodes place) (λ node. IsStep node.kind)

-- a node of type Boolean or Null
abbrev pub IsTruthKind : Kind → Type 0
IsTruthKind Kind.Null = Unit {0}
IsTruthKind (Kind.Value SqlType.Truth) = Unit {0}
IsTruthKind kind = ⊥

abbrev pub IsTruthAt : Filter → ℕ → Type 0
IsTruthAt filter place = IsSomeAnd (slice_get filter.list.nodes place)
    (λ node. IsTruthKind (kind_of_type node.edm_type))
