-- How the walk takes a node.
use Rattle.odata_checked_filter.specs.declared.checked_node.NodeKind.{NodeKind}
use Rattle.odata_syntax.specs.declared.binary_operator.BinaryOperator.{BinaryOperator}
use Rattle.filter_context.specs.declared.walk_class.WalkClass.{WalkClass}

-- a logical operator takes truth values, arithmetic numbers, a comparison the values of both sides
abbrev pub walk_of_operator : BinaryOperator → WalkClass
walk_of_operator (BinaryOperator.Logical logical) = WalkClass.Logical
walk_of_operator (BinaryOperator.Comparison comparison) = WalkClass.Eager
walk_of_operator (BinaryOperator.Arithmetic arithmetic) = WalkClass.Numeric

-- `not` takes a truth value, `-` a number, a step a record, `$count`, `any()`, `any` and `all` a collection, `has` and
-- `in` the values of both sides, a call those of all arguments; the others have no operand
abbrev pub walk_of_kind : NodeKind → WalkClass
walk_of_kind (NodeKind.Literal kind value) = WalkClass.Leaf
walk_of_kind NodeKind.It = WalkClass.Leaf
walk_of_kind (NodeKind.Property slot) = WalkClass.Leaf
walk_of_kind (NodeKind.Variable level) = WalkClass.Leaf
walk_of_kind (NodeKind.Member slot) = WalkClass.Eager
walk_of_kind NodeKind.Count = WalkClass.Eager
walk_of_kind NodeKind.Neg = WalkClass.Numeric
walk_of_kind NodeKind.Not = WalkClass.Logical
walk_of_kind NodeKind.Has = WalkClass.Eager
walk_of_kind NodeKind.InList = WalkClass.Eager
walk_of_kind NodeKind.InPath = WalkClass.Eager
walk_of_kind (NodeKind.Call function) = WalkClass.Eager
walk_of_kind NodeKind.AnyItem = WalkClass.Eager
walk_of_kind (NodeKind.Lambda quantifier) = WalkClass.Eager
walk_of_kind NodeKind.Now = WalkClass.Leaf
walk_of_kind (NodeKind.Binary operator) = walk_of_operator operator
