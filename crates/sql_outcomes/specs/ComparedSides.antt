-- Comparisons of what two sides evaluate to (OData URL Conventions 4.01, section 5.1.1.1).
use Rattle.std.specs.Prelude.{◌≡◌, ◌≢◌, ◌<◌, ◌⊎◌, ℕ, Bool, false, None, IsSomeAnd, List, pos, slice_get}
use Rattle.edm_values.specs.Val.{Val, null, whole}
use Rattle.odata_checked_filter.specs.Filter.{Filter}
use Rattle.odata_filter_operations.specs.CompareGives.{CompareGives}
use Rattle.odata_filter_operations.specs.LeftFirst.{Then}
use Rattle.odata_filter_operations.specs.Outcome.{Outcome, gives}
use Rattle.odata_functions.specs.Comparable.{AreComparableBy}
use Rattle.odata_functions.specs.Comparison.{ComparesTrue}
use Rattle.odata_syntax.specs.declared.binary_operator.ComparisonOperator.{ComparisonOperator}
use Rattle.odata_ranges.specs.declared.range.Range.{Range}
use Rattle.sql_meaning.specs.Codes.{code_of}
use Rattle.sql_tree.specs.declared.sql_node.SqlType.{SqlType}
use Rattle.sql_draft.specs.declared.sql_operand.Operand.{Operand}
use Rattle.sql_draft.specs.declared.sql_operand.Source.{Source}
use Rattle.sql_draft.specs.declared.sql_context.Kind.{Kind}
use Rattle.sql_outcomes.specs.OperandFaults.{carrier_in}
use Rattle.sql_draft.specs.Kinds.{AreCompared}
use Rattle.sql_draft.specs.OperandHas.{Fits, HasNumber, IsNodeOperand, SourceHas}
use Rattle.sql_draft.specs.World.{Has, IsAskedOf, OfPlace, Question, World}

-- by whether each side may be null: the comparison of SQL is true exactly where that of the filter is
abbrev pub IsEnough : ComparisonOperator → Bool → Bool → Type 0
IsEnough ComparisonOperator.Gt left right = Unit {0}
IsEnough ComparisonOperator.Lt left right = Unit {0}
IsEnough ComparisonOperator.Ne left right = (left ≡ false) × (right ≡ false)
IsEnough operator left right = (left ≡ false) ⊎ (right ≡ false)

-- of two values the one operator is true where the other is false
abbrev pub AreOpposite : ComparisonOperator → ComparisonOperator → Type 0
AreOpposite operator other =
    (l r : Val) → l ≢ null → r ≢ null → AreComparableBy operator l r
    → AreComparableBy other l r × (ComparesTrue operator l r → ¬ ComparesTrue other l r)
    × ((¬ ComparesTrue operator l r) → ComparesTrue other l r)

-- what an operand evaluates to; a truth value that is bound is bound by its code
abbrev pub CodeHas : Filter → Source → Has
CodeHas filter (Source.Bound level) world o =
    IsSomeAnd (slice_get world.bound level) (λ b. b.value ≡ gives (whole (pos (code_of o))))
CodeHas filter source world o = SourceHas filter source world o

abbrev pub HasOrCode : Filter → Kind → Source → Has
HasOrCode filter (Kind.Value SqlType.Truth) source world o = CodeHas filter source world o
HasOrCode filter kind source world o = SourceHas filter source world o

abbrev pub NoTruth : Operand → Type 0
NoTruth operand = operand.kind ≢ Kind.Value SqlType.Truth

-- two operands each of which may be a fault, and what the comparison evaluates to
pub record FaultyHave
    (filter : Filter) (operator : ComparisonOperator) (left right : Operand) (world : World)
    (o : Outcome) : Type 0 where
  pub left_outcome : Outcome
  pub right_outcome : Outcome
  pub left_has : HasOrCode filter left.kind left.source world left_outcome
  pub right_has : HasOrCode filter right.kind right.source world right_outcome
  pub left_fits : (v : Val) → left_outcome ≡ gives v → Fits left v
  pub right_fits : (v : Val) → right_outcome ≡ gives v → Fits right v
  pub left_plain : NoTruth left → carrier_in left ≡ None → (v : Val) × (left_outcome ≡ gives v)
  pub right_plain : NoTruth right → carrier_in right ≡ None → (v : Val) × (right_outcome ≡ gives v)
  pub given : Then left_outcome (λ l. Then right_outcome (CompareGives operator l)) o

-- ---- nodes that compare

-- a node that stands below the one at the index
abbrev pub IsBelow : Filter → ℕ → ℕ → Type 0
IsBelow filter place at = (place < at) × IsSomeAnd (slice_get filter.list.nodes place) (λ node. at < node.stop)

-- a side of the node at the index: a node below it, or the number of an enumeration
abbrev pub IsSideBy : Filter → List Range → ℕ → Operand → Source → Type 0
IsSideBy filter ranges place operand (Source.Node at) = IsNodeOperand filter ranges operand at × IsBelow filter place at
IsSideBy filter ranges place operand (Source.Number number) =
    HasNumber filter number × (operand.kind ≡ Kind.Value SqlType.Member) × (operand.range.may_fault ≡ false)
IsSideBy filter ranges place operand source = ⊥

abbrev pub IsSide : Filter → List Range → ℕ → Operand → Type 0
IsSide filter ranges place operand = IsSideBy filter ranges place operand operand.source

-- what the node at the index evaluates to is what the operator makes of its two sides
pub record IsComparisonOf
    (question : Question) (ranges : List Range) (place : ℕ) (operator : ComparisonOperator)
    (left right : Operand) : Type 0 where
  pub left_is : IsSide question.filter ranges place left
  pub right_is : IsSide question.filter ranges place right
  pub compared : AreCompared left.kind right.kind
  pub says :
      (world : World) (o : Outcome) → IsAskedOf question world → OfPlace question.filter place world o
      → FaultyHave question.filter operator left right world o
