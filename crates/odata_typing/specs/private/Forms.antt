-- For private clauses: the forms over one operand and between two, each by what the code calls it.
use Rattle.std.specs.Prelude.{◌≡◌, [], ◌∷◌}
use Rattle.odata_syntax.specs.Tree.{Shape, Tree, any_item, count, logical_not, negation}
use Rattle.csdl_schema.specs.ExprType.{ExprType}
use Rattle.csdl_schema.specs.SchemaModel.{Slots}
use Rattle.odata_signatures.specs.CollectionTyped.{AnyItemTyped, CountTyped, InPathTyped, IsComparableWithMembers}
use Rattle.odata_signatures.specs.ExprTypes.{boolean_type}
use Rattle.odata_signatures.specs.HasTyped.{AreFlags, HasTyped}
use Rattle.odata_signatures.specs.OperatorTyped.{OperatorByTypes, NegationTyped, NotTyped, OperatorTyped}
use Rattle.odata_signatures.specs.Side.{Side}
use Rattle.odata_signatures.specs.FirstUntypable.{PathReason}
use Rattle.odata_signatures.specs.declared.refusal.TypeFaultCode.{TypeFaultCode}
use Rattle.odata_checked_filter.specs.FlatTree.{shape_of_kind}
use Rattle.odata_checked_filter.specs.declared.checked_node.NodeKind.{NodeKind}
use Rattle.odata_typing.specs.declared.unary_node.Unary.{Unary}

-- a node over one operand
abbrev pub unary_shape : Unary → Tree → Shape
unary_shape Unary.Negation operand = negation operand
unary_shape Unary.Not operand = logical_not operand
unary_shape Unary.Count operand = count operand
unary_shape Unary.AnyItem operand = any_item operand

abbrev pub unary_kind : Unary → NodeKind
unary_kind Unary.Negation = NodeKind.Neg
unary_kind Unary.Not = NodeKind.Not
unary_kind Unary.Count = NodeKind.Count
unary_kind Unary.AnyItem = NodeKind.AnyItem

-- the type that it makes of that of its operand
abbrev pub UnaryTyped : Unary → ExprType → ExprType → Type 0
UnaryTyped Unary.Negation = NegationTyped
UnaryTyped Unary.Not = NotTyped
UnaryTyped Unary.Count = CountTyped
UnaryTyped Unary.AnyItem = AnyItemTyped

-- why it makes none
abbrev pub unary_code : Unary → TypeFaultCode
unary_code Unary.Negation = TypeFaultCode.OperandTypes
unary_code Unary.Not = TypeFaultCode.OperandTypes
unary_code Unary.Count = TypeFaultCode.NotCollection
unary_code Unary.AnyItem = TypeFaultCode.NotCollection

-- a kind of node between two operands, where no literal is read: an operator, `has`, and `in` before a path
abbrev pub IsInfix : NodeKind → Type 0
IsInfix (NodeKind.Binary operator) = Unit {0}
IsInfix NodeKind.Has = Unit {0}
IsInfix NodeKind.InPath = Unit {0}
IsInfix _ = ⊥

abbrev pub infix_shape : NodeKind → Tree → Tree → Shape
infix_shape kind left right = shape_of_kind kind [] (left ∷ right ∷ [])

-- the type that it makes of the sides
abbrev pub InfixTyped : Slots → NodeKind → Side → Side → ExprType → Type 0
InfixTyped slots (NodeKind.Binary operator) = OperatorTyped slots operator
InfixTyped slots NodeKind.Has = HasTyped slots
InfixTyped slots NodeKind.InPath = InPathTyped
InfixTyped slots _ = λ left right type. ⊥

-- the type that it makes of those of its operands alone
abbrev pub InfixByTypes : NodeKind → ExprType → ExprType → ExprType → Type 0
InfixByTypes (NodeKind.Binary operator) left right type = OperatorByTypes operator left right type
InfixByTypes NodeKind.Has left right type = AreFlags left right × (type ≡ boolean_type)
InfixByTypes NodeKind.InPath left right type = IsComparableWithMembers left right × (type ≡ boolean_type)
InfixByTypes _ left right type = ⊥

-- why it makes none of operands of which the right one has the type
abbrev pub InfixReason : NodeKind → ExprType → TypeFaultCode → Type 0
InfixReason (NodeKind.Binary operator) right code = code ≡ TypeFaultCode.OperandTypes
InfixReason NodeKind.Has right code = code ≡ TypeFaultCode.OperandTypes
InfixReason NodeKind.InPath right code = PathReason right code
InfixReason _ right code = ⊥
