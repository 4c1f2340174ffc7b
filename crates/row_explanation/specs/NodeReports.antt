-- What is said of the nodes of a filter on an entity, and where its evaluation stops (OData URL Conventions 4.01,
-- section 5.1.1).
use Rattle.std.specs.Prelude.{ℕ, ◌+◌, ◌≡◌, ◌≢◌, ◌<◌, ◌≤◌, ◌⊎◌, Bool, true, false, List, [], ◌∷◌, Option, Some, None, Result, Ok, Err, IsSomeAnd, length, not, slice_get}
use Rattle.edm_values.specs.MomentParts.{MomentParts}
use Rattle.edm_values.specs.declared.datum.Datum.{Datum}
use Rattle.edm_values.specs.declared.datum.Datum.TheVariants as datum
use Rattle.odata_syntax.specs.declared.binary_operator.BinaryOperator.{BinaryOperator}
use Rattle.odata_syntax.specs.declared.binary_operator.LogicalOperator.{LogicalOperator}
use Rattle.edm_entities.specs.Row.{Row}
use Rattle.odata_checked_filter.specs.FlatTree.{FlatTree}
use Rattle.odata_checked_filter.specs.declared.checked_node.NodeKind.{NodeKind}
use Rattle.odata_filter_operations.specs.declared.eval_fault.EvalFault.{EvalFault}
use Rattle.odata_eval.specs.NodeOutcome.{IsNodeAnswer, IsWithinBody, ReportsNode}
use Rattle.row_explanation.specs.declared.node_report.NodeReport.{NodeReport}

-- whether a value of its first operand decides a logical operator
abbrev pub decides_by : Datum → LogicalOperator → Bool
decides_by (datum.Bool truth) LogicalOperator.And = not truth
decides_by (datum.Bool truth) LogicalOperator.Or = truth
decides_by value operator = false

-- the operator needs no second operand after this answer of the first one: an arithmetic fault, or a value that decides
abbrev pub IsDeciding : Result Datum EvalFault → LogicalOperator → Type 0
IsDeciding (Err fault) operator = fault ≢ EvalFault.Memory
IsDeciding (Ok value) operator = decides_by value operator ≡ true

-- it needs one after this: a value that does not decide, or no answer of its own
abbrev pub IsUndecided : Result (Option Datum) EvalFault → LogicalOperator → Type 0
IsUndecided (Ok (Some value)) operator = decides_by value operator ≡ false
IsUndecided (Ok None) operator = Unit {0}
IsUndecided (Err fault) operator = ⊥

-- the node at an index has an answer that decides the operator
abbrev pub DecidesHere : Row → MomentParts → FlatTree → ℕ → LogicalOperator → Type 0
DecidesHere row moment list index operator =
    (answer : Result Datum EvalFault) × IsNodeAnswer row moment list index answer × IsDeciding answer operator

-- it has one that does not, or none of its own
abbrev pub UndecidedHere : Row → MomentParts → FlatTree → ℕ → LogicalOperator → Type 0
UndecidedHere row moment list index operator =
    (found : Result (Option Datum) EvalFault) × ReportsNode row moment list index found × IsUndecided found operator

-- the logical operator stands at the first index, and the second one lies in its second operand
pub record IsInSecond (list : FlatTree) (outer index : ℕ) (operator : LogicalOperator) : Type 0 where
  pub after : outer < index
  pub before_end : IsSomeAnd (slice_get list.nodes outer)
      (λ found. (found.kind ≡ NodeKind.Binary (BinaryOperator.Logical operator)) × (index < found.stop))
  pub after_first : IsSomeAnd (slice_get list.nodes (outer + 1)) (λ first. first.stop ≤ index)

-- the second index lies in the second operand of a logical operator at the first one, which does not need it
abbrev pub IsDecidedAround : Row → MomentParts → FlatTree → ℕ → ℕ → Type 0
IsDecidedAround row moment list outer index = (operator : LogicalOperator)
    × IsInSecond list outer index operator × DecidesHere row moment list (outer + 1) operator

-- a logical operator there needs it
abbrev pub IsUndecidedAround : Row → MomentParts → FlatTree → ℕ → ℕ → Type 0
IsUndecidedAround row moment list outer index = (operator : LogicalOperator)
    → IsInSecond list outer index operator → UndecidedHere row moment list (outer + 1) operator

-- the node at the second index is a child of the one at the first: it lies before that stops, and what lies between
-- them stops by then
pub record IsChildOf (list : FlatTree) (index child : ℕ) : Type 0 where
  pub after : index < child
  pub within : child < length list.nodes
  pub before_end : IsSomeAnd (slice_get list.nodes index) (λ found. child < found.stop)
  pub apart : (k : ℕ) → index < k → k < child → IsSomeAnd (slice_get list.nodes k) (λ found. found.stop ≤ child)

-- the node at an index has this arithmetic fault
abbrev pub HasTheFault : Row → MomentParts → FlatTree → ℕ → EvalFault → Type 0
HasTheFault row moment list index fault =
    (fault ≢ EvalFault.Memory) × IsNodeAnswer row moment list index (Err fault)

-- whether the node at an index has an arithmetic fault
abbrev pub HasFault : Row → MomentParts → FlatTree → ℕ → Bool → Type 0
HasFault row moment list index true = (fault : EvalFault) × HasTheFault row moment list index fault
HasFault row moment list index false = (found : Option Datum) × ReportsNode row moment list index (Ok found)

-- of the children of the node at the first index that one at the second is the first that has a fault: it lies after the
-- trees of the earlier ones
pub record IsFirstFault (row : Row) (moment : MomentParts) (list : FlatTree) (index child : ℕ) : Type 0 where
  pub after : index < child
  pub before_end : IsSomeAnd (slice_get list.nodes index) (λ found. child < found.stop)
  pub apart : (k : ℕ) → IsChildOf list index k → k < child
      → IsSomeAnd (slice_get list.nodes k) (λ found. found.stop ≤ child)
  pub faulty : HasFault row moment list child true
  pub earlier : (k : ℕ) → IsChildOf list index k → k < child → HasFault row moment list k false

-- there is such a child, or none has a fault
abbrev pub IsFaultBelow : Row → MomentParts → FlatTree → ℕ → Option ℕ → Type 0
IsFaultBelow row moment list index (Some child) = IsFirstFault row moment list index child
IsFaultBelow row moment list index None = (k : ℕ) → IsChildOf list index k → HasFault row moment list k false

-- the nodes around the one at an index, the innermost first: each is the first child of the next that has a fault, and
-- the last is the filter's first node
abbrev pub AreAround : Row → MomentParts → FlatTree → ℕ → List ℕ → Type 0
AreAround row moment list index [] = index ≡ 0
AreAround row moment list index (outer ∷ more) =
    IsFirstFault row moment list outer index × AreAround row moment list outer more

-- evaluation stops at the node: it is where one comes from the first node by the first faults, and no child has one
pub record StopsAt (row : Row) (moment : MomentParts) (list : FlatTree) (index : ℕ) : Type 0 where
  pub faulty : HasFault row moment list index true
  pub around : List ℕ
  pub are_around : AreAround row moment list index around
  pub none_below : IsFaultBelow row moment list index None

-- there is such a node, or the first one has no fault
abbrev pub IsEvaluationStop : Row → MomentParts → FlatTree → Option ℕ → Type 0
IsEvaluationStop row moment list (Some index) = StopsAt row moment list index
IsEvaluationStop row moment list None = HasFault row moment list 0 false

-- the node stands after the one where evaluation stops
abbrev pub IsAfterStop : FlatTree → Option ℕ → ℕ → Type 0
IsAfterStop list (Some at) index = IsSomeAnd (slice_get list.nodes at) (λ found. found.stop ≤ index)
IsAfterStop list None index = ⊥

-- the node is not evaluated: evaluation has stopped before it, or it lies in an operand that is not needed
abbrev pub IsLeftOut : Row → MomentParts → FlatTree → Option ℕ → ℕ → Type 0
IsLeftOut row moment list stopped index =
    IsAfterStop list stopped index ⊎ ((outer : ℕ) × IsDecidedAround row moment list outer index)

-- evaluation has not stopped before the node, and logical operators need the operands that it lies in
pub record IsReached (row : Row) (moment : MomentParts) (list : FlatTree) (stopped : Option ℕ) (index : ℕ)
    : Type 0 where
  pub before_stop : IsAfterStop list stopped index → ⊥
  pub needed : (outer : ℕ) → IsUndecidedAround row moment list outer index

-- what is said of the node at an index, where evaluation stops there or nowhere
abbrev pub SaysOf : Row → MomentParts → FlatTree → Option ℕ → ℕ → NodeReport → Type 0
SaysOf row moment list stopped index (NodeReport.Value value) =
    IsNodeAnswer row moment list index (Ok value) × IsReached row moment list stopped index
SaysOf row moment list stopped index (NodeReport.Fault fault) =
    HasTheFault row moment list index fault × IsReached row moment list stopped index
SaysOf row moment list stopped index NodeReport.InBody =
    IsWithinBody list index × IsReached row moment list stopped index
SaysOf row moment list stopped index NodeReport.LeftOut = IsLeftOut row moment list stopped index
