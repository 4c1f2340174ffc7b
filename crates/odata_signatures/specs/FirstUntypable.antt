-- Where and why a tree is not a filter (OData URL Conventions 4.01, section 5.1.1).
use Rattle.std.specs.Prelude.{◌≡◌, ◌⊎◌, ℕ, ◌≤◌, List, [], None, Some, MatchOption}
use Rattle.odata_syntax.specs.Tree.{Tree, node, literal, it, name, member, count, binary, has, in_list, in_path, call, any_item, lambda, start_of, stop_of}
use Rattle.odata_syntax.specs.declared.node.LiteralKind.{LiteralKind}
use Rattle.csdl_schema.specs.ExprType.{ExprType, single, collection, structured}
use Rattle.csdl_schema.specs.SchemaModel.{PropertyModel, PropertyType, declared, opaque, navigation, Slots}
use Rattle.odata_signatures.specs.declared.refusal.TypeFault.{TypeFault}
use Rattle.odata_signatures.specs.declared.refusal.TypeFaultCode.{TypeFaultCode}
use Rattle.odata_signatures.specs.Considered.{IsConsidered, ChildrenTyped}
use Rattle.odata_signatures.specs.ExprTypes.{IsBooleanOrNull}
use Rattle.odata_signatures.specs.CallTyped.{CallReason}
use Rattle.odata_signatures.specs.declared.call.CallFault.{CallFault}
use Rattle.odata_signatures.specs.OperatorTyped.{OfOneSide}
use Rattle.odata_signatures.specs.QuotedNumber.{LacksNumber}
use Rattle.odata_signatures.specs.Reads.{OneLacksNumber}
use Rattle.odata_signatures.specs.Sides.{quoted_text, side_of}
use Rattle.odata_signatures.specs.Typed.{AreTyped, Scope, Typed, IsUntyped, property_named, variable_type}

-- why a property has no type
abbrev pub PropertyReason : PropertyType → TypeFaultCode → Type 0
PropertyReason (declared type) code = ⊥
PropertyReason opaque code = code ≡ TypeFaultCode.TypeLeftOut
PropertyReason (navigation None) code = code ≡ TypeFaultCode.TypeLeftOut
PropertyReason (navigation (Some type)) code = ⊥

-- why a name has no type
abbrev pub NameReason : List PropertyModel → List ℕ → TypeFaultCode → Type 0
NameReason properties asked code =
    MatchOption (property_named properties asked)
    (code ≡ TypeFaultCode.UnknownProperty)
    (λ p. PropertyReason p.type_of code)

-- why a step from a value of that type has none: only one value of a structured type has properties
abbrev pub StepReason : Slots → List ℕ → ExprType → TypeFaultCode → Type 0
StepReason slots asked (single (structured owner)) code = NameReason (slots.properties owner) asked code
StepReason slots asked _ code = code ≡ TypeFaultCode.UnknownProperty

-- why `in` before a path of that type has none: the path leads to no collection, whatever stands on the left; else the
-- left is not comparable with its members
abbrev pub PathReason : ExprType → TypeFaultCode → Type 0
PathReason (collection members) code = code ≡ TypeFaultCode.OperandTypes
PathReason _ code = code ≡ TypeFaultCode.NotCollection

-- why a lambda operator over a base of that type has none: it is over no collection; else its variable is in scope
-- already; else its body is neither Boolean nor Null
abbrev pub LambdaReason : Scope → List ℕ → ExprType → TypeFaultCode → Type 0
LambdaReason scope variable (collection members) code =
    MatchOption (variable_type scope variable)
    (code ≡ TypeFaultCode.BodyNotBoolean)
    (λ _. code ≡ TypeFaultCode.VariableTaken)
LambdaReason scope variable _ code = code ≡ TypeFaultCode.NotCollection

-- why a literal has no type: it has no value
abbrev pub LiteralReason : LiteralKind → TypeFaultCode → Type 0
LiteralReason LiteralKind.EnumLit code = code ≡ TypeFaultCode.UnknownEnum
LiteralReason _ code = code ≡ TypeFaultCode.LiteralRange

-- why operands do not go together: a String literal among them is resolved and stands for no number of the other's
-- enumeration; else their types do not
abbrev pub OperandReason : Type 0 → TypeFaultCode → Type 0
OperandReason Lacks code =
    (Lacks × (code ≡ TypeFaultCode.UnknownEnum)) ⊎ ((¬ Lacks) × (code ≡ TypeFaultCode.OperandTypes))

-- the same, by the type of the left operand
abbrev pub UnresolvedReason : (ExprType → Type 0) → (ExprType → Type 0) → TypeFaultCode → Type 0
UnresolvedReason Left Lacks code = (type : ExprType) × Left type × OperandReason (Lacks type) code

-- the same, by the types of both operands
abbrev pub SidesReason :
    (ExprType → Type 0) → (ExprType → Type 0) → (ExprType → ExprType → Type 0) → TypeFaultCode → Type 0
SidesReason Left Right Lacks code =
    (left : ExprType) × (right : ExprType) × Left left × Right right × OperandReason (Lacks left right) code

-- a fault of a call
abbrev pub code_of_call : CallFault → TypeFaultCode
code_of_call CallFault.UnknownFunction = TypeFaultCode.UnknownFunction
code_of_call CallFault.ArgumentCount = TypeFaultCode.ArgumentCount
code_of_call CallFault.ArgumentType = TypeFaultCode.ArgumentType

-- the arguments have types, and these are the reason why a call of that name has none
pub record IsCallReason (asked : List ℕ) (Arguments : List ExprType → Type 0) (code : TypeFaultCode) : Type 0 where
  pub types : List ExprType
  pub arguments_typed : Arguments types
  pub fault : CallFault
  pub reason : CallReason asked types fault
  pub same : code ≡ code_of_call fault

-- why a node has no type though its considered children have; `$it` has a type
abbrev pub IsReason : Slots → List ℕ → Scope → Tree → TypeFaultCode → Type 0
IsReason slots root scope (node start stop (literal kind spelling)) code = LiteralReason kind code
IsReason slots root scope (node start stop it) code = ⊥
IsReason slots root scope (node start stop (name asked)) code = NameReason (slots.properties root) asked code
IsReason slots root scope (node start stop (member base asked)) code =
    (type : ExprType) × Typed slots root scope base type × StepReason slots asked type code
IsReason slots root scope (node start stop (count base)) code = code ≡ TypeFaultCode.NotCollection
IsReason slots root scope (node start stop (binary operator left right)) code =
    SidesReason (Typed slots root scope left) (Typed slots root scope right)
    (λ l r. OfOneSide (LacksNumber slots) operator (side_of left l) (side_of right r)) code
IsReason slots root scope (node start stop (has left right)) code =
    UnresolvedReason (Typed slots root scope left) (λ l. LacksNumber slots l (quoted_text right)) code
IsReason slots root scope (node start stop (in_list left items)) code =
    UnresolvedReason (Typed slots root scope left) (λ l. OneLacksNumber slots l items) code
IsReason slots root scope (node start stop (in_path left path)) code =
    (type : ExprType) × Typed slots root scope path type × PathReason type code
IsReason slots root scope (node start stop (call asked arguments)) code =
    IsCallReason asked (AreTyped slots root scope arguments) code
IsReason slots root scope (node start stop (any_item base)) code = code ≡ TypeFaultCode.NotCollection
IsReason slots root scope (node start stop (lambda quantifier base variable body)) code =
    (type : ExprType) × Typed slots root scope base type × LambdaReason scope variable type code
IsReason slots root scope (node start stop shape) code = code ≡ TypeFaultCode.OperandTypes

-- a considered node that has no type, while all its considered children have one
pub record IsUntypable
    (slots : Slots) (root : List ℕ) (scope : Scope) (tree : Tree) (at : Scope) (part : Tree) : Type 0 where
  pub considered : IsConsidered slots root scope tree at part
  pub untyped : IsUntyped slots root at part
  pub children : ChildrenTyped slots root at part

-- of these nodes the one that starts first, with its reason
pub record IsFirstUntypable
    (slots : Slots) (root : List ℕ) (scope : Scope) (tree : Tree) (fault : TypeFault) : Type 0 where
  pub at : Scope
  pub part : Tree
  pub untypable : IsUntypable slots root scope tree at part
  pub first :
      (scope' : Scope) (other : Tree) → IsUntypable slots root scope tree scope' other → start_of part ≤ start_of other
  pub reason : IsReason slots root at part fault.code
  pub starts : fault.span.start ≡ start_of part
  pub stops : fault.span.stop ≡ stop_of part

-- the tree has a type, but neither Boolean nor Null; the span is the whole text
pub record IsNotBoolean (slots : Slots) (root : List ℕ) (tree : Tree) (len : ℕ) (fault : TypeFault) : Type 0 where
  pub type_of : ExprType
  pub typed : Typed slots root [] tree type_of
  pub other : ¬ IsBooleanOrNull type_of
  pub reason : fault.code ≡ TypeFaultCode.NotBoolean
  pub starts : fault.span.start ≡ 0
  pub stops : fault.span.stop ≡ len

-- why the tree of a text of this length is not a filter
abbrev pub IsTypeFault : Slots → List ℕ → Tree → ℕ → TypeFault → Type 0
IsTypeFault slots root tree len fault =
    IsFirstUntypable slots root [] tree fault ⊎ IsNotBoolean slots root tree len fault
