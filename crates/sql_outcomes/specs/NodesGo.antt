-- What a node of a filter evaluates to, by what its operands do (OData URL Conventions 4.01, section 5.1.1).
use Rattle.std.specs.Prelude.{◌≡◌, ◌+◌, ℕ, Bool, List, None, map}
use Rattle.edm_values.specs.MomentParts.{IsMoment}
use Rattle.edm_values.specs.Val.{Val, boolean}
use Rattle.edm_values.specs.declared.primitive.PrimitiveType.{PrimitiveType}
use Rattle.odata_syntax.specs.declared.binary_operator.ArithmeticOperator.{ArithmeticOperator}
use Rattle.odata_syntax.specs.declared.binary_operator.BinaryOperator.{BinaryOperator}
use Rattle.odata_syntax.specs.declared.binary_operator.ComparisonOperator.{ComparisonOperator}
use Rattle.odata_syntax.specs.declared.binary_operator.LogicalOperator.{LogicalOperator}
use Rattle.odata_syntax.specs.declared.node.Quantifier.{Quantifier}
use Rattle.odata_signatures.specs.declared.function.Function.{Function}
use Rattle.odata_checked_filter.specs.Filter.{Filter, IsFilter}
use Rattle.odata_checked_filter.specs.declared.checked_node.NodeKind.{NodeKind}
use Rattle.odata_filter_operations.specs.CallGives.{CallGives}
use Rattle.odata_filter_operations.specs.LeftFirst.{Then}
use Rattle.odata_filter_operations.specs.Outcome.{Outcome, gives}
use Rattle.odata_filter_operations.specs.TruthGives.{LogicalGives, NotGives}
use Rattle.odata_ranges.specs.declared.range.Range.{Range}
use Rattle.sql_meaning.specs.FaultsGive.{without_fault}
use Rattle.sql_draft.specs.declared.sql_operand.Operand.{Operand}
use Rattle.sql_draft.specs.OperandHas.{Fits, IsNodeAt, IsSideAt}
use Rattle.sql_draft.specs.Rows.{IsFault}
use Rattle.sql_draft.specs.Translated.{AreRanges, IsKindAt}
use Rattle.sql_draft.specs.World.{Has, IsAskedOf, OfPlace, Question, World}
use Rattle.sql_outcomes.specs.OperandFaults.{AllHave, ArePlain, carrier_in, faults_of}
use Rattle.sql_outcomes.specs.Calculations.{CalculatedHas, IsComputedIn}
use Rattle.sql_outcomes.specs.Calls.{AreArgumentsOf, FlagsHave}
use Rattle.sql_outcomes.specs.ComparedSides.{HasOrCode, IsComparisonOf, NoTruth}
use Rattle.sql_outcomes.specs.Items.{AreItemsOf, EachMemberEquals, ListHas, MembersAt, some_of}
use Rattle.sql_outcomes.specs.Members.{IsOrNull, IsStopAt, LambdaHas}

-- a filter, a moment that a literal can spell, and the ranges of the filter's nodes
pub record IsRanged (question : Question) (ranges : List Range) : Type 0 where
  pub moment : IsMoment question.now.civil question.now.offset_minutes
  pub right : IsFilter question.filter
  pub are : AreRanges question ranges

-- this holds of what the node at the index evaluates to, on every row of which the filter is asked
abbrev pub EvaluatesSo : Question → ℕ → Has → Type 0
EvaluatesSo question place Outcomes =
    (world : World) (o : Outcome) → IsAskedOf question world → OfPlace question.filter place world o
    → Outcomes world o

-- ---- what the nodes make of their operands

-- what a connective makes of the outcomes of its sides
pub record Connects
    (filter : Filter) (c : LogicalOperator) (place second : ℕ) (world : World) (o : Outcome) : Type 0 where
  pub left_outcome : Outcome
  pub right_outcome : Outcome
  pub left_has : OfPlace filter (place + 1) world left_outcome
  pub right_has : OfPlace filter second world right_outcome
  pub given : Then left_outcome (λ l. LogicalGives c l (λ x. x ≡ right_outcome)) o

-- what `not` makes of the outcome of its operand
pub record Negates (filter : Filter) (place : ℕ) (world : World) (o : Outcome) : Type 0 where
  pub operand : Outcome
  pub has : OfPlace filter (place + 1) world operand
  pub given : Then operand NotGives o

-- what `in` before a path makes of its left side, beside the members of the collection at its base
pub record InPathComes
    (question : Question) (place base : ℕ) (left : Operand) (world : World) (o : Outcome) : Type 0 where
  pub left_outcome : Outcome
  pub left_there : OfPlace question.filter (place + 1) world left_outcome
  pub left_has : HasOrCode question.filter left.kind left.source world left_outcome
  pub left_fits : (v : Val) → left_outcome ≡ gives v → Fits left v
  pub left_plain : NoTruth left → carrier_in left ≡ None → (v : Val) × (left_outcome ≡ gives v)
  pub held : MembersAt question.filter base world
  pub of_value :
      (l : Val) → left_outcome ≡ gives l
      → (bs : List Bool) × EachMemberEquals l held.members bs × IsOrNull held.c o (gives (boolean (some_of bs)))
  pub of_fault : IsFault left_outcome → o ≡ left_outcome

-- what a function makes of its arguments: the first fault among them, or else what it does of their values
pub record CallHas
    (filter : Filter) (function : Function) (operands : List Operand) (world : World) (o : Outcome) : Type 0 where
  pub outcomes : List Outcome
  pub have : AllHave filter operands world outcomes
  pub plain : ArePlain operands outcomes
  pub values : List Val
  pub are : map without_fault outcomes ≡ map gives values
  pub inner : Outcome
  pub given : CallGives world.now function values inner
  pub is : o ≡ faults_of outcomes inner

-- ---- that they do

-- a comparison makes it of its two sides, which may be compared; the second stands where the first stops
abbrev pub ComparisonsGo : Type 0
ComparisonsGo =
    (question : Question) (ranges : List Range) (operator : ComparisonOperator) (place second : ℕ)
    (left right : Operand)
    → IsRanged question ranges
    → IsKindAt question.filter place (NodeKind.Binary (BinaryOperator.Comparison operator))
    → IsStopAt question.filter (place + 1) second → IsSideAt question.filter ranges (place + 1) left
    → IsSideAt question.filter ranges second right → IsComparisonOf question ranges place operator left right

-- so does a connective
abbrev pub ConnectivesGo : Type 0
ConnectivesGo =
    (question : Question) (ranges : List Range) (connective : LogicalOperator) (place second : ℕ)
    → IsRanged question ranges
    → IsKindAt question.filter place (NodeKind.Binary (BinaryOperator.Logical connective))
    → IsStopAt question.filter (place + 1) second
    → EvaluatesSo question place (Connects question.filter connective place second)

-- `not`, of the operand after it
abbrev pub NegationsGo : Type 0
NegationsGo =
    (question : Question) (place : ℕ) → IsKindAt question.filter place NodeKind.Not
    → EvaluatesSo question place (Negates question.filter place)

-- an operator of arithmetic, in the type of its node
abbrev pub CalculationsGo : Type 0
CalculationsGo =
    (question : Question) (ranges : List Range) (operator : ArithmeticOperator) (type : PrimitiveType)
    (place second : ℕ) (left right : Operand)
    → IsRanged question ranges
    → IsKindAt question.filter place (NodeKind.Binary (BinaryOperator.Arithmetic operator))
    → IsComputedIn question.filter place type → IsStopAt question.filter (place + 1) second
    → IsNodeAt question.filter ranges (place + 1) left → IsNodeAt question.filter ranges second right
    → EvaluatesSo question place (CalculatedHas question.filter operator place left right)

-- `has`, of the flags on its left
abbrev pub FlagsGo : Type 0
FlagsGo =
    (question : Question) (ranges : List Range) (place second : ℕ) (left right : Operand)
    → IsRanged question ranges → IsKindAt question.filter place NodeKind.Has
    → IsStopAt question.filter (place + 1) second → IsNodeAt question.filter ranges (place + 1) left
    → IsSideAt question.filter ranges second right
    → EvaluatesSo question place (FlagsHave question.filter left right)

-- `in` before a list, of its items
abbrev pub ListsGo : Type 0
ListsGo =
    (question : Question) (ranges : List Range) (place : ℕ) (left : Operand) (items : List Operand)
    → IsRanged question ranges → IsKindAt question.filter place NodeKind.InList
    → IsNodeAt question.filter ranges (place + 1) left → AreItemsOf question.filter ranges place items
    → EvaluatesSo question place (ListHas question.filter left items)

-- before a path, of the members of its collection
abbrev pub PathsGo : Type 0
PathsGo =
    (question : Question) (ranges : List Range) (place base : ℕ) (left : Operand)
    → IsRanged question ranges → IsKindAt question.filter place NodeKind.InPath
    → IsStopAt question.filter (place + 1) base → IsNodeAt question.filter ranges (place + 1) left
    → EvaluatesSo question place (InPathComes question place base left)

-- `any` and `all`, of what their body evaluates to at each member
abbrev pub LambdasGo : Type 0
LambdasGo =
    (question : Question) (ranges : List Range) (quantifier : Quantifier) (place : ℕ)
    → IsRanged question ranges → IsKindAt question.filter place (NodeKind.Lambda quantifier)
    → EvaluatesSo question place (LambdaHas question.filter quantifier place)

-- a call, of its arguments
abbrev pub CallsGo : Type 0
CallsGo =
    (question : Question) (ranges : List Range) (function : Function) (place : ℕ) (operands : List Operand)
    → IsRanged question ranges → IsKindAt question.filter place (NodeKind.Call function)
    → AreArgumentsOf question.filter ranges place operands
    → EvaluatesSo question place (CallHas question.filter function operands)
