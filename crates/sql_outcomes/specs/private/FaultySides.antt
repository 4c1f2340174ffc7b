-- Sides of comparisons, null instead of a fault or by their codes.
use Rattle.std.specs.Prelude.{◌≡◌, ◌⊎◌, false, List}
use Rattle.odata_checked_filter.specs.Filter.{Filter}
use Rattle.odata_checked_filter.specs.declared.checked_node.NodeKind.{NodeKind}
use Rattle.odata_filter_operations.specs.CompareGives.{CompareGives}
use Rattle.odata_syntax.specs.declared.binary_operator.BinaryOperator.{BinaryOperator}
use Rattle.odata_syntax.specs.declared.binary_operator.ComparisonOperator.{ComparisonOperator}
use Rattle.odata_ranges.specs.declared.range.Range.{Range}
use Rattle.sql_draft.specs.Rows.{IsFault}
use Rattle.sql_tree.specs.declared.sql_node.SqlType.{SqlType}
use Rattle.sql_draft.specs.declared.sql_operand.Operand.{Operand}
use Rattle.sql_draft.specs.declared.sql_operand.Source.{Source}
use Rattle.sql_draft.specs.declared.sql_context.Kind.{Kind}
use Rattle.sql_outcomes.specs.private.OperandValues.{IsTested, SidesHave, SomeNull}
use Rattle.sql_draft.specs.Translated.{IsTruthAt}
use Rattle.sql_draft.specs.World.{Has}

-- the comparison of the filter; where null stands instead of a fault, what comes of it is marked as that fault
abbrev pub ComparisonHas : Filter → ComparisonOperator → Operand → Operand → Has
ComparisonHas filter operator left right world o =
    SidesHave filter left right (CompareGives operator) world o ⊎ (IsFault o × SomeNull filter left right world)

-- a value is not null
abbrev pub IsGiven : Operand → Type 0
IsGiven operand = operand.range.may_be_null ≡ false

-- a truth value by its code: a node, or one that is bound
abbrev pub IsCoded : Filter → Source → Type 0
IsCoded filter (Source.Node place) = IsTruthAt filter place
IsCoded filter (Source.Bound level) = Unit {0}
IsCoded filter source = ⊥

-- a truth value is put by its code, any other operand as it is
abbrev pub IsFaultyKind : Filter → List Range → Operand → Kind → Type 0
IsFaultyKind filter ranges operand (Kind.Value SqlType.Truth) = IsCoded filter operand.source
IsFaultyKind filter ranges operand kind = IsTested filter ranges operand

abbrev pub IsFaulty : Filter → List Range → Operand → Type 0
IsFaulty filter ranges operand = IsFaultyKind filter ranges operand operand.kind

-- ---- the type in which values are compared

-- moments by their instants
abbrev pub compared_in : SqlType → SqlType
compared_in SqlType.Moment = SqlType.Instant
compared_in type = type

-- a node of that kind compares nothing
abbrev pub ComparesNothing : NodeKind → Type 0
ComparesNothing (NodeKind.Binary (BinaryOperator.Comparison comparison)) = ⊥
ComparesNothing kind = Unit {0}
