-- For private clauses: which of two operands is a text that is read as one of an enumeration.
use Rattle.std.specs.Prelude.{ℕ, ℤ, List, Option}
use Rattle.std.specs.Option.{option_map}
use Rattle.csdl_schema.specs.ExprType.{ExprType}
use Rattle.csdl_schema.specs.SchemaModel.{SchemaModel, Slots}
use Rattle.odata_signatures.specs.OperatorTyped.{IsEquality, OfOneSide}
use Rattle.odata_signatures.specs.QuotedNumber.{IsResolvedBy, LacksNumber, ResolvedNumber}
use Rattle.odata_signatures.specs.Side.{Side, quoting}
use Rattle.odata_signatures.specs.TypeView.{expr_type}
use Rattle.odata_checked_filter.specs.declared.checked_node.NodeKind.{NodeKind}
use Rattle.odata_typing.specs.declared.binary_node.OperandTypes.{OperandTypes}
use Rattle.odata_typing.specs.declared.operand_text.OperandRead.{OperandRead}

-- the operands of the code, as sides
abbrev pub left_side : SchemaModel → OperandTypes → Side
left_side schema operands =
    quoting (option_map (λ spelling. spelling.now) operands.left_quoted) (expr_type schema operands.left)

abbrev pub right_side : SchemaModel → OperandTypes → Side
right_side schema operands =
    quoting (option_map (λ spelling. spelling.now) operands.right_quoted) (expr_type schema operands.right)

-- this holds of the type of one operand and of what the other one quotes, which may be read there
abbrev pub OneIsRead : (ExprType → Option (List ℕ) → Type 0) → NodeKind → Side → Side → Type 0
OneIsRead Holds (NodeKind.Binary operator) left right = OfOneSide Holds operator left right
OneIsRead Holds NodeKind.Has left right = Holds left.type_of right.quoted
OneIsRead Holds _ left right = ⊥

-- the right operand is read as the number
abbrev pub IsRightRead : Slots → NodeKind → Side → Side → ℤ → Type 0
IsRightRead slots (NodeKind.Binary operator) left right n =
    IsEquality operator × ResolvedNumber slots left.type_of right.quoted n
IsRightRead slots NodeKind.Has left right n = ResolvedNumber slots left.type_of right.quoted n
IsRightRead slots _ left right n = ⊥

-- the left one is, and not the right one
abbrev pub IsLeftRead : Slots → NodeKind → Side → Side → ℤ → Type 0
IsLeftRead slots (NodeKind.Binary operator) left right n =
    IsEquality operator × (¬ IsResolvedBy left.type_of right.quoted) × ResolvedNumber slots right.type_of left.quoted n
IsLeftRead slots _ left right n = ⊥

-- what is reported of the operands
abbrev pub IsOperandRead : Slots → NodeKind → Side → Side → OperandRead → Type 0
IsOperandRead slots form left right OperandRead.Neither = ¬ OneIsRead IsResolvedBy form left right
IsOperandRead slots form left right (OperandRead.Left n) = IsLeftRead slots form left right n
IsOperandRead slots form left right (OperandRead.Right n) = IsRightRead slots form left right n
IsOperandRead slots form left right OperandRead.Unknown = OneIsRead (LacksNumber slots) form left right
