-- What an operand evaluates to in a world.
use Rattle.std.specs.Prelude.{◌≡◌, ◌<◌, ◌⊎◌, ℕ, ℤ, pos, List, Bool, true, false, Option, Some, None, IsSomeAnd, length, slice_get}
use Rattle.edm_values.specs.Val.{Val, member, null, whole}
use Rattle.edm_values.specs.declared.value.Value.{Value}
use Rattle.odata_checked_filter.specs.Filter.{Filter}
use Rattle.odata_checked_filter.specs.declared.checked_node.CheckedNode.{CheckedNode}
use Rattle.odata_checked_filter.specs.declared.checked_node.NodeKind.{NodeKind}
use Rattle.odata_syntax.specs.declared.node.LiteralKind.{LiteralKind}
use Rattle.odata_filter_operations.specs.Outcome.{Outcome, gives}
use Rattle.odata_ranges.specs.declared.range.Range.{Range}
use Rattle.sql_meaning.specs.FaultsGive.{without_fault}
use Rattle.sql_meaning.specs.PlaceGives.{PlaceGives}
use Rattle.sql_meaning.specs.SqlMeans.{FieldGives}
use Rattle.sql_tree.specs.declared.sql_node.Carrier.{Carrier}
use Rattle.sql_tree.specs.declared.sql_node.SqlType.{SqlType}
use Rattle.sql_draft.specs.declared.sql_operand.Operand.{Operand}
use Rattle.sql_draft.specs.declared.sql_operand.Source.{Source}
use Rattle.sql_draft.specs.declared.sql_context.Kind.{Kind}
use Rattle.sql_draft.specs.Kinds.{IsOfKind, kind_of_type}
use Rattle.sql_draft.specs.World.{Has, OfPlace}

-- ---- what an operand is

-- it is the node at the index, of its kind and its range
pub record IsNodeOperand (filter : Filter) (ranges : List Range) (operand : Operand) (place : ℕ) : Type 0 where
  pub node : CheckedNode
  pub at : slice_get filter.list.nodes place ≡ Some node
  pub kind : operand.kind ≡ kind_of_type node.edm_type
  pub range : slice_get ranges place ≡ Some operand.range

-- the number of an enumeration stands at an index of the filter's values
abbrev pub HasNumber : Filter → ℕ → Type 0
HasNumber filter place = (n : ℤ) × (slice_get filter.list.values place ≡ Some (Value.Enum n))

-- the text at the index is read as that number, beside a value of the enumeration
pub record IsReadAt (filter : Filter) (place value : ℕ) : Type 0 where
  pub literal : IsSomeAnd (slice_get filter.list.nodes place)
      (λ node. node.kind ≡ NodeKind.Literal LiteralKind.Str value)
  pub has : HasNumber filter value

-- what stands there is not read
abbrev pub IsUnread : Filter → ℕ → Type 0
IsUnread filter place = (value : ℕ) → ¬ IsReadAt filter place value

-- it is the number that is read at the index
pub record IsNumberOperand (filter : Filter) (operand : Operand) (place : ℕ) : Type 0 where
  pub value : ℕ
  pub source : operand.source ≡ Source.Number value
  pub read : IsReadAt filter place value
  pub kind : operand.kind ≡ Kind.Value SqlType.Member
  pub plain : operand.range.may_fault ≡ false
  pub given : operand.range.may_be_null ≡ false

-- it is the node there, by its source too
pub record IsNodeAt (filter : Filter) (ranges : List Range) (place : ℕ) (operand : Operand) : Type 0 where
  pub source : operand.source ≡ Source.Node place
  pub is : IsNodeOperand filter ranges operand place

-- a side of an operator, or an item of a list, at the index
abbrev pub IsSideAt : Filter → List Range → ℕ → Operand → Type 0
IsSideAt filter ranges place operand =
    IsNumberOperand filter operand place ⊎ (IsUnread filter place × IsNodeAt filter ranges place operand)

abbrev pub IsInside : Filter → Source → Type 0
IsInside filter (Source.Node place) = place < length filter.list.nodes
IsInside filter source = Unit {0}

-- what carries its faults, where it may be one
abbrev pub carrier_of : Bool → Kind → Option Carrier
carrier_of true (Kind.Value SqlType.Whole) = Some Carrier.Number
carrier_of true (Kind.Value SqlType.Text) = Some Carrier.Text
carrier_of may_fault kind = None

-- a value that is bound at the level, as it is, or null instead of a fault
abbrev pub bound_source : Option Carrier → ℕ → Source
bound_source (Some carrier) level = Source.Unfaulted level carrier
bound_source None level = Source.Bound level

-- ---- what it evaluates to

-- the number at that index
abbrev pub IsNumberAt : Filter → ℕ → Outcome → Type 0
IsNumberAt filter place o = (n : ℤ) × (slice_get filter.list.values place ≡ Some (Value.Enum n))
    × (o ≡ gives (member n))

-- of a node what its tree evaluates to, of a bound value that, of a position in JSON the value there
abbrev pub SourceHas : Filter → Source → Has
SourceHas filter (Source.Node place) world o = OfPlace filter place world o
SourceHas filter (Source.Bound level) world o = IsSomeAnd (slice_get world.bound level) (λ b. o ≡ b.value)
SourceHas filter (Source.Unfaulted level carrier) world o =
    IsSomeAnd (slice_get world.bound level) (λ b. o ≡ without_fault b.value)
SourceHas filter (Source.Field path type) world o = FieldGives world.asked world.bound path type o
SourceHas filter (Source.Place path) world o = (v : Val) × PlaceGives world.asked world.bound path v × (o ≡ gives v)
SourceHas filter (Source.Number place) world o = IsNumberAt filter place o
SourceHas filter Source.Zero world o = o ≡ gives (whole (pos 0))

abbrev pub OperandHas : Filter → Operand → Has
OperandHas filter operand = SourceHas filter operand.source

-- a value of the operand's kind, null only where it may be
pub record Fits (operand : Operand) (v : Val) : Type 0 where
  pub kind : IsOfKind operand.kind v
  pub nullable : v ≡ null → operand.range.may_be_null ≡ true
