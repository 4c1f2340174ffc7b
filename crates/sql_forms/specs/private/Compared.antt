-- For private clauses: comparisons of what operands evaluate to.
use Rattle.std.specs.Prelude.{◌≡◌, ◌⊎◌}
use Rattle.edm_values.specs.Val.{Val, null}
use Rattle.odata_checked_filter.specs.Filter.{Filter}
use Rattle.odata_filter_operations.specs.CompareGives.{CompareGives}
use Rattle.odata_syntax.specs.declared.binary_operator.ComparisonOperator.{ComparisonOperator}
use Rattle.sql_meaning.specs.OperatorsGive.{StrictlyGives}
use Rattle.sql_draft.specs.Rows.{IsFault}
use Rattle.sql_tree.specs.declared.sql_node.SqlType.{SqlType}
use Rattle.sql_draft.specs.declared.sql_operand.Operand.{Operand}
use Rattle.sql_draft.specs.declared.sql_context.Kind.{Kind}
use Rattle.sql_outcomes.specs.private.OperandValues.{HasLoosely, HasValue}
use Rattle.sql_draft.specs.World.{Has}
use Rattle.sql_outcomes.specs.private.FaultySides.{compared_in}

-- the comparison of SQL
abbrev pub StrictHas : Filter → ComparisonOperator → Operand → Operand → Has
StrictHas filter operator left right world o =
    (l : Val) × (r : Val) × HasLoosely filter left world l × HasLoosely filter right world r
    × StrictlyGives operator l r o

-- the filter's with null on one side, likewise
abbrev pub BesideNullHas : Filter → ComparisonOperator → Operand → Has
BesideNullHas filter operator operand world o =
    ((v : Val) × HasValue filter operand world v × (CompareGives operator null v o ⊎ CompareGives operator v null o))
    ⊎ (IsFault o × (v : Val) × HasLoosely filter operand world v)

-- values of the kind are compared in that type
abbrev pub IsComparedIn : Kind → SqlType → Type 0
IsComparedIn (Kind.Value t) type = type ≡ compared_in t
IsComparedIn kind type = ⊥
