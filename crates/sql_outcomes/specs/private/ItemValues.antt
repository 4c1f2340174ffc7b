-- Items and members that are no faults, and what is put over members.
use Rattle.std.specs.Prelude.{◌≡◌, ◌≢◌, ◌∷◌, [], ℕ, List, Bool, IsSomeAnd, slice_get, ◌+◌, ◌++◌, true, false}
use Rattle.std.specs.List.{AllByRecursion}
use Rattle.edm_values.specs.Val.{Val, boolean, null}
use Rattle.odata_syntax.specs.declared.binary_operator.ComparisonOperator.{ComparisonOperator}
use Rattle.odata_checked_filter.specs.Filter.{Filter}
use Rattle.odata_filter_operations.specs.CompareGives.{CompareGives}
use Rattle.odata_filter_operations.specs.Outcome.{Outcome, gives}
use Rattle.odata_signatures.specs.declared.edm_type.EdmType.{EdmType}
use Rattle.odata_signatures.specs.declared.edm_type.ValueType.{ValueType}
use Rattle.odata_ranges.specs.declared.range.Range.{Range}
use Rattle.sql_draft.specs.declared.sql_operand.Operand.{Operand}
use Rattle.sql_draft.specs.declared.sql_context.Kind.{Kind}
use Rattle.sql_draft.specs.Kinds.{AreCompared, kind_of_single}
use Rattle.sql_outcomes.specs.private.OperandValues.{HasValue, IsTested}
use Rattle.sql_draft.specs.World.{World}
use Rattle.sql_outcomes.specs.Items.{some_of}
use Rattle.sql_tree.specs.declared.sql_node.SqlNode.{SqlNode}
use Rattle.sql_tree.specs.declared.sql_node.SqlType.{SqlType}
use Rattle.sql_draft.specs.declared.draft.Draft.{Draft}

-- ---- the draft within

-- the draft within a body over a member of the next level, for which the next range variable stands
pub record IsBodyOf (outer inner : Draft) : Type 0 where
  pub tree : inner.tree ≡ outer.tree
  pub members : inner.members.items ≡ outer.members.items ++ outer.depth ∷ []
  pub depth : inner.depth ≡ outer.depth + 1

-- that what follows is null where there is null at the path, if there may be
abbrev pub missing_front : Bool → ℕ → List SqlNode
missing_front true path = SqlNode.Case ∷ SqlNode.IsMissing path ∷ SqlNode.Null SqlType.Truth ∷ []
missing_front false path = []

-- whether the value is equal to that of each item
abbrev pub EachEquals : Filter → Val → List Operand → World → List Val → List Bool → Type 0
EachEquals filter l [] world values bs = (values ≡ []) × (bs ≡ [])
EachEquals filter l (item ∷ items) world (v ∷ values) (b ∷ bs) =
    HasValue filter item world v × CompareGives ComparisonOperator.Eq l v (gives (boolean b))
    × EachEquals filter l items world values bs
EachEquals filter l items world values bs = ⊥

-- whether the left side is equal to one of the items, where none of them is a fault
pub record EqualsHas (filter : Filter) (left : Operand) (items : List Operand) (world : World)
    (o : Outcome) : Type 0 where
  pub l : Val
  pub has : HasValue filter left world l
  pub values : List Val
  pub bs : List Bool
  pub each : EachEquals filter l items world values bs
  pub is : o ≡ gives (boolean (some_of bs))

-- an item that is null nowhere
abbrev pub IsNeverNull : Filter → Operand → Type 0
IsNeverNull filter item = (world : World) (v : Val) → HasValue filter item world v → v ≢ null

-- both may be compared
pub record AreBeside (filter : Filter) (ranges : List Range) (left : Operand) (items : List Operand) : Type 0 where
  pub left_tested : IsTested filter ranges left
  pub tested : AllByRecursion (IsTested filter ranges) items
  pub compared : AllByRecursion (λ item. AreCompared left.kind item.kind) items

-- the node is a collection
abbrev pub IsCollectionAt : Filter → ℕ → Type 0
IsCollectionAt filter place =
    IsSomeAnd (slice_get filter.list.nodes place)
    (λ node. (type : ValueType) × (node.edm_type ≡ EdmType.Collection type))

-- its members may be compared with values of that kind
abbrev pub AreMembersBeside : Filter → Kind → ℕ → Type 0
AreMembersBeside filter kind place =
    IsSomeAnd (slice_get filter.list.nodes place)
    (λ node. (type : ValueType) × (node.edm_type ≡ EdmType.Collection type)
    × AreCompared kind (kind_of_single type))
