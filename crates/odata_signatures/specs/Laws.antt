-- What follows from the definitions of typing alone, and examples that show that they mean something.
use Rattle.std.specs.Prelude.{◌≡◌, ◌↔◌, ◌≤◌, ℕ, List, [], ◌∷◌, None, Some, false, codes, length}
use Rattle.edm_values.specs.declared.primitive.PrimitiveType.{PrimitiveType}
use Rattle.edm_values.specs.Val.{Val}
use Rattle.odata_text.specs.Tokens.{token_limit}
use Rattle.odata_syntax.specs.FirstRun.{first_run_tree}
use Rattle.odata_syntax.specs.Tree.{Shape, Tree, start_of, node, literal, name, binary}
use Rattle.odata_syntax.specs.declared.binary_operator.BinaryOperator.{BinaryOperator}
use Rattle.odata_syntax.specs.declared.binary_operator.ComparisonOperator.{ComparisonOperator}
use Rattle.odata_syntax.specs.declared.node.LiteralKind.{LiteralKind}
use Rattle.csdl_schema.specs.PathSet.{no_paths}
use Rattle.csdl_schema.specs.ExprType.{ExprType, single, primitive}
use Rattle.csdl_schema.specs.SchemaModel.{PropertyModel, Slots, declared}
use Rattle.odata_signatures.specs.ExprTypes.{boolean_type, string_type}
use Rattle.odata_syntax.specs.Parse.{IsExpression}
use Rattle.odata_signatures.specs.Considered.{ChildrenTyped}
use Rattle.odata_signatures.specs.FirstAmong.{IsFirstBelow}
use Rattle.odata_signatures.specs.OperatorTyped.{OfOneSide}
use Rattle.odata_signatures.specs.QuotedNumber.{IsResolvedBy, LacksNumber}
use Rattle.odata_signatures.specs.Side.{Side}
use Rattle.odata_signatures.specs.FirstUntypable.{IsFirstUntypable, IsReason, IsUntypable, OperandReason}
use Rattle.odata_signatures.specs.HasTyping.{HasNoTyping, HasTree, IsRefusal}
use Rattle.odata_signatures.specs.declared.refusal.Refusal.{Refusal}
use Rattle.odata_signatures.specs.declared.refusal.TypeFault.{TypeFault}
use Rattle.odata_signatures.specs.declared.refusal.TypeFaultCode.{TypeFaultCode}
use Rattle.odata_signatures.specs.LiteralValue.{IsNameAndText, LiteralValue}
use Rattle.odata_signatures.specs.PreOrder.{pre_order}
use Rattle.odata_signatures.specs.Sides.{quoted_text}
use Rattle.odata_signatures.specs.Typed.{Scope, Typed, IsTyped, IsUntyped}

-- a tree has at most one type
abbrev pub OneType : Type 0
OneType =
    (slots : Slots) (root : List ℕ) (scope : Scope) (tree : Tree) (a b : ExprType)
    → Typed slots root scope tree a
    → Typed slots root scope tree b
    → a ≡ b

-- a literal has at most one value
abbrev pub OneLiteralValue : Type 0
OneLiteralValue =
    (slots : Slots) (kind : LiteralKind) (spelling : List ℕ) (a b : Val)
    → LiteralValue slots kind spelling a
    → LiteralValue slots kind spelling b
    → a ≡ b

-- an enumeration literal has one name and one text at most
abbrev pub OneNameAndText : Type 0
OneNameAndText =
    (spelling name name' inner inner' : List ℕ)
    → IsNameAndText spelling name inner
    → IsNameAndText spelling name' inner'
    → (name ≡ name') × (inner ≡ inner')

-- a tree that has a type has no untypable node
abbrev pub TypedIsClear : Type 0
TypedIsClear =
    (slots : Slots) (root : List ℕ) (scope : Scope) (tree : Tree) (at : Scope) (part : Tree)
    → IsTyped slots root scope tree
    → ¬ IsUntypable slots root scope tree at part

-- the first fault among a node's children is the first of its tree
abbrev pub FirstBelow : Type 0
FirstBelow =
    (slots : Slots) (root : List ℕ) (scope : Scope) (tree : Tree) (fault : TypeFault)
    → IsFirstBelow slots root scope tree fault
    → IsFirstUntypable slots root scope tree fault

-- where the children have types and the node has none, it is the first
abbrev pub FirstItself : Type 0
FirstItself =
    (slots : Slots) (root : List ℕ) (scope : Scope) (start stop : ℕ) (shape : Shape) (fault : TypeFault)
    → ChildrenTyped slots root scope (node start stop shape)
    → IsUntyped slots root scope (node start stop shape)
    → IsReason slots root scope (node start stop shape) fault.code
    → fault.span.start ≡ start
    → fault.span.stop ≡ stop
    → IsFirstUntypable slots root scope (node start stop shape) fault

-- of an expression at most one untypable node starts at an offset
abbrev pub OneUntypableStart : Type 0
OneUntypableStart =
    (slots : Slots) (root : List ℕ) (scope : Scope) (tree : Tree) (at at' : Scope) (part part' : Tree)
    → IsExpression tree
    → IsUntypable slots root scope tree at part
    → IsUntypable slots root scope tree at' part'
    → start_of part ≡ start_of part'
    → (at ≡ at') × (part ≡ part')

-- a text is refused for one reason at most, at one span
abbrev pub OneRefusal : Type 0
OneRefusal =
    (slots : Slots) (root text : List ℕ) (a b : Refusal)
    → IsRefusal slots root text a
    → IsRefusal slots root text b
    → a ≡ b

-- a text that is refused is not a filter
abbrev pub RefusedIsUntyped : Type 0
RefusedIsUntyped =
    (slots : Slots) (root text : List ℕ) (refusal : Refusal) → IsRefusal slots root text refusal
    → HasNoTyping slots root text

-- a tree that quotes a text is one
abbrev pub QuotingIsText : Type 0
QuotingIsText =
    (slots : Slots) (root : List ℕ) (scope : Scope) (tree : Tree) (spelling : List ℕ) (type : ExprType)
    → quoted_text tree ≡ Some spelling
    → Typed slots root scope tree type
    → type ≡ string_type

-- where no operand of an operator is read as a literal of an enumeration, its reason is OperandTypes
abbrev pub UnreadReason : Type 0
UnreadReason =
    (slots : Slots) (operator : BinaryOperator) (left right : Side) (code : TypeFaultCode)
    → ¬ OfOneSide IsResolvedBy operator left right
    → OperandReason (OfOneSide (LacksNumber slots) operator left right) code ↔ (code ≡ TypeFaultCode.OperandTypes)

-- the tree of a text has no more nodes than a text may have tokens
abbrev pub FewNodes : Type 0
FewNodes = (text : List ℕ) (tree : Tree) → HasTree text tree → length (pre_order tree) ≤ token_limit

-- one value of a primitive type, never null
abbrev pub plain_property : List ℕ → PrimitiveType → PropertyModel
plain_property asked p =
    record { name = asked; type_of = declared (single (primitive p)); many = false; nullable = false }

-- the three properties of an item
abbrev pub item_properties : List PropertyModel
item_properties =
    plain_property (codes "Active") PrimitiveType.Bool
    ∷ plain_property (codes "ID") PrimitiveType.Int32
    ∷ plain_property (codes "Name") PrimitiveType.String
    ∷ []

-- every type has them
abbrev pub item_slots : Slots
item_slots = record {
  properties = λ _. item_properties;
  enumerations = λ _. None;
  enumeration_names = λ _. None;
  needed = no_paths;
}

-- `ID eq 'a'`
abbrev pub mixed_filter : Tree
mixed_filter =
    node 0 9 (binary (BinaryOperator.Comparison ComparisonOperator.Eq)
    (node 0 2 (name (codes "ID")))
    (node 6 9 (literal LiteralKind.Str (codes "'a'"))))

-- of an item `Active and ID eq 1 and Name eq 'a'` is Boolean, and `ID eq 'a'` has no type
abbrev pub ItemFilterTyped : Type 0
ItemFilterTyped = Typed item_slots [] [] first_run_tree boolean_type

abbrev pub MixedFilterUntyped : Type 0
MixedFilterUntyped = IsUntyped item_slots [] [] mixed_filter
