-- For private clauses: when the left side of a logical operator decides.
use Rattle.std.specs.Prelude.{true, false}
use Rattle.edm_values.specs.Val.{Val, boolean}
use Rattle.odata_syntax.specs.declared.binary_operator.LogicalOperator.{LogicalOperator}

-- the left truth value alone decides
abbrev pub IsDecided : LogicalOperator → Val → Type 0
IsDecided LogicalOperator.And (boolean false) = Unit {0}
IsDecided LogicalOperator.Or (boolean true) = Unit {0}
IsDecided logical _ = ⊥
