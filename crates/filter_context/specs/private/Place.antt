-- What stands at an index of a filter's list, seen from where it is evaluated.
use Rattle.std.specs.Prelude.{◌≡◌, ℕ, ◌+◌, Option, IsSomeAnd, slice_get}
use Rattle.edm_values.specs.declared.primitive.PrimitiveType.{PrimitiveType}
use Rattle.odata_syntax.specs.Tree.{Tree}
use Rattle.odata_syntax.specs.declared.binary_operator.BinaryOperator.{BinaryOperator}
use Rattle.csdl_schema.specs.ExprType.{ExprType}
use Rattle.odata_checked_filter.specs.declared.checked_node.NodeKind.{NodeKind}
use Rattle.odata_signatures.specs.declared.function.Function.{Function}
use Rattle.odata_signatures.specs.ExprTypes.{IsBooleanOrNull, IsNumberOrNull}
use Rattle.odata_checked_filter.specs.FlatTree.{FlatTree}
use Rattle.filter_context.specs.declared.walk_class.WalkClass.{WalkClass}
use Rattle.filter_context.specs.private.EvalContext.{OperandHere, StandsHere, TypedHere}
use Rattle.filter_context.specs.private.ContextModel.{ContextModel}
use Rattle.filter_context.specs.WalkClass.{walk_of_kind}

-- something stands there
pub record PartStands (context : ContextModel) (place : ℕ) : Type 0 where
  pub stop : ℕ
  pub tree : Tree
  pub stands : StandsHere context place stop tree

-- that, or a String literal that has a number there
pub record OperandStands (context : ContextModel) (place : ℕ) : Type 0 where
  pub stop : ℕ
  pub tree : Tree
  pub stands : OperandHere context place stop tree

-- a tree has a type that is allowed there
pub record TypedStands (context : ContextModel) (place : ℕ) (Allowed : ExprType → Type 0) : Type 0 where
  pub stop : ℕ
  pub tree : Tree
  pub stands : StandsHere context place stop tree
  pub type_of : ExprType
  pub typed : TypedHere context tree type_of
  pub allowed : Allowed type_of

-- Boolean or Null
abbrev pub TruthStands : ContextModel → ℕ → Type 0
TruthStands context place = TypedStands context place IsBooleanOrNull

-- a number type or Null
abbrev pub IsNumberOperand : ExprType → Type 0
IsNumberOperand type = (number : Option PrimitiveType) × IsNumberOrNull type number

abbrev pub NumberStands : ContextModel → ℕ → Type 0
NumberStands context place = TypedStands context place IsNumberOperand

-- the walk takes the node there so
abbrev pub IsClassAt : FlatTree → WalkClass → ℕ → Type 0
IsClassAt list class place = IsSomeAnd (slice_get list.nodes place) (λ found. walk_of_kind found.kind ≡ class)

-- a node of that kind is there
abbrev pub HasKind : FlatTree → ℕ → NodeKind → Type 0
HasKind list place kind = IsSomeAnd (slice_get list.nodes place) (λ found. found.kind ≡ kind)

-- the node there is that operator
abbrev pub HasOperator : FlatTree → ℕ → BinaryOperator → Type 0
HasOperator list place operator = HasKind list place (NodeKind.Binary operator)

-- the node there calls that function
abbrev pub HasCall : FlatTree → ℕ → Function → Type 0
HasCall list place function = HasKind list place (NodeKind.Call function)

-- the node there stops at that index
abbrev pub IsStopOf : FlatTree → ℕ → ℕ → Type 0
IsStopOf list place stop = IsSomeAnd (slice_get list.nodes place) (λ found. found.stop ≡ stop)

-- the first child of the node there stops where the next one stands
abbrev pub IsRightOf : FlatTree → ℕ → ℕ → Type 0
IsRightOf list place right = IsSomeAnd (slice_get list.nodes (place + 1)) (λ left. left.stop ≡ right)
