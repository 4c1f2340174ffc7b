-- For private clauses: the nodes that join the terms of chains.
use Rattle.odata_syntax.specs.declared.binary_operator.LogicalOperator.{LogicalOperator}
use Rattle.sql_tree.specs.declared.look_up.LookUp.{LookUp}
use Rattle.sql_tree.specs.declared.sql_node.SqlNode.{SqlNode}
use Rattle.sql_forms.specs.declared.terms.Form.{Form}

-- the node joins terms in that form to what the connective makes of them
abbrev pub IsJoin : Form → SqlNode → LogicalOperator → Type 0
IsJoin Form.Truth SqlNode.And LogicalOperator.And = Unit {0}
IsJoin Form.Truth SqlNode.Or LogicalOperator.Or = Unit {0}
IsJoin Form.Code (SqlNode.LookUp LookUp.And) LogicalOperator.And = Unit {0}
IsJoin Form.Code (SqlNode.LookUp LookUp.Or) LogicalOperator.Or = Unit {0}
IsJoin Form.Keeps SqlNode.And LogicalOperator.And = Unit {0}
IsJoin Form.Keeps SqlNode.Or LogicalOperator.Or = Unit {0}
IsJoin Form.Denies SqlNode.And LogicalOperator.Or = Unit {0}
IsJoin Form.Denies SqlNode.Or LogicalOperator.And = Unit {0}
IsJoin form node connective = ⊥

-- of terms all of which evaluate to no fault
abbrev pub IsOfBoth : Form → Type 0
IsOfBoth Form.Truth = Unit {0}
IsOfBoth form = ⊥

-- of terms that evaluate to no fault, but for the last one
abbrev pub IsOfValues : Form → SqlNode → Type 0
IsOfValues Form.Truth node = Unit {0}
IsOfValues form SqlNode.Or = Unit {0}
IsOfValues form node = ⊥
