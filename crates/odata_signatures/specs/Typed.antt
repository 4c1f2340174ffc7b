-- Which type an expression has (OData URL Conventions 4.01, sections 4.8, 5.1.1.1, 5.1.1.2, 5.1.1.13 to 5.1.1.15 and
-- 5.1.1.18).
use Rattle.std.specs.Prelude.{◌≡◌, ℕ, List, [], ◌∷◌, Option, None, Some, IsSomeAnd, MatchOption, find, nat_eq}
use Rattle.std.specs.Option.{option_map}
use Rattle.std.specs.Cmp.Lexicographic.{pointwise}
use Rattle.odata_syntax.specs.Tree.{Tree, Trees, node, literal, it, name, member, count, negation, logical_not, binary, has, in_list, in_path, call, any_item, lambda, more_trees, no_trees}
use Rattle.csdl_schema.specs.ExprType.{SingleType, ExprType, single, collection, structured}
use Rattle.csdl_schema.specs.SchemaModel.{PropertyModel, PropertyType, Slots, declared, opaque, navigation}
use Rattle.odata_signatures.specs.LiteralValue.{LiteralTyped}
use Rattle.odata_signatures.specs.Sides.{BeforeList, Between}
use Rattle.odata_signatures.specs.CallTyped.{CallTyped}
use Rattle.odata_signatures.specs.CollectionTyped.{AnyItemTyped, CountTyped, InListTyped, InPathTyped}
use Rattle.odata_signatures.specs.ExprTypes.{boolean_type, IsBooleanOrNull}
use Rattle.odata_signatures.specs.HasTyped.{HasTyped}
use Rattle.odata_signatures.specs.OperatorTyped.{OperatorTyped, NegationTyped, NotTyped}

-- a range variable of a lambda operator (section 5.1.1.13)
pub record Variable : Type 0 where
  pub name : List ℕ
  pub type_of : ExprType

-- the range variables that may be named, the innermost first
abbrev pub Scope : Type 0
Scope = List Variable

-- the scope with a further variable, its innermost
abbrev pub with_variable : Scope → List ℕ → ExprType → Scope
with_variable scope variable type = record { name = variable; type_of = type } ∷ scope

-- the type of the innermost variable of a name
abbrev pub variable_type : Scope → List ℕ → Option ExprType
variable_type scope asked = option_map (λ v. v.type_of) (find (λ v. pointwise nat_eq asked v.name) scope)

-- the property of a name
abbrev pub property_named : List PropertyModel → List ℕ → Option PropertyModel
property_named properties asked = find (λ p. pointwise nat_eq asked p.name) properties

-- the type of a property where an expression names it: its own, or the target's, or the collection of that, to which it
-- navigates (section 5.1.1.15); one that is opaque or navigates to no target has none
abbrev pub named_type : PropertyType → Option ExprType
named_type (declared type) = Some type
named_type opaque = None
named_type (navigation target) = target

-- a property of that name has the type
abbrev pub PropertyTyped : List PropertyModel → List ℕ → ExprType → Type 0
PropertyTyped properties asked type =
    IsSomeAnd (property_named properties asked) (λ p. named_type p.type_of ≡ Some type)

-- a name is a variable in scope, or else a property of the filtered type
abbrev pub NameTyped : Slots → List ℕ → Scope → List ℕ → ExprType → Type 0
NameTyped slots root scope asked type =
    MatchOption (variable_type scope asked) (PropertyTyped (slots.properties root) asked type) (λ t. type ≡ t)

-- a step from one value of a structured type leads to its property of that name
abbrev pub StepTyped : Slots → List ℕ → ExprType → ExprType → Type 0
StepTyped slots asked (single (structured owner)) type = PropertyTyped (slots.properties owner) asked type
StepTyped slots asked _ type = ⊥

-- the one operand has a type, and of this the node makes the type
pub record OperandTyped
    (Operand : ExprType → Type 0) (Makes : ExprType → ExprType → Type 0) (type : ExprType) : Type 0 where
  pub operand : ExprType
  pub operand_typed : Operand operand
  pub makes : Makes operand type

-- both operands have types, and of these the node makes the type
pub record OperandsTyped
    (Left Right : ExprType → Type 0) (Makes : ExprType → ExprType → ExprType → Type 0) (type : ExprType) : Type 0 where
  pub left : ExprType
  pub right : ExprType
  pub left_typed : Left left
  pub right_typed : Right right
  pub makes : Makes left right type

-- the operand on the left and the items of the list have types, and of these the node makes the type
pub record ItemsTyped
    (Left : ExprType → Type 0) (Items : List ExprType → Type 0) (Makes : ExprType → List ExprType → ExprType → Type 0)
    (type : ExprType) : Type 0 where
  pub left : ExprType
  pub items : List ExprType
  pub left_typed : Left left
  pub items_typed : Items items
  pub makes : Makes left items type

-- the arguments have types, and of these the function of that name makes the type
pub record ArgumentsTyped (asked : List ℕ) (Arguments : List ExprType → Type 0) (type : ExprType) : Type 0 where
  pub types : List ExprType
  pub arguments_typed : Arguments types
  pub call_typed : CallTyped asked types type

-- a lambda operator binds its variable: its base is a collection whose members have that type, and the name is new
pub record BindsVariable
    (scope : Scope) (variable : List ℕ) (Base : ExprType → Type 0) (member_type : SingleType) : Type 0 where
  pub over : Base (collection member_type)
  pub fresh : variable_type scope variable ≡ None

-- it does so, and with that variable in scope its body has type Boolean or Null (section 5.1.1.13)
pub record LambdaTyped
    (scope : Scope) (variable : List ℕ) (Base : ExprType → Type 0) (Body : Scope → ExprType → Type 0)
    (type : ExprType) : Type 0 where
  pub member_type : SingleType
  pub body : ExprType
  pub binds : BindsVariable scope variable Base member_type
  pub body_typed : Body (with_variable scope variable (single member_type)) body
  pub truth : IsBooleanOrNull body
  pub makes : type ≡ boolean_type

abbrev mutual
  -- the tree has the type, where the filtered type is root and these variables are in scope
  pub Typed : Slots → List ℕ → Scope → Tree → ExprType → Type 0
  Typed slots root scope (node start stop (literal kind spelling)) type = LiteralTyped slots kind spelling type
  Typed slots root scope (node start stop it) type = type ≡ single (structured root)
  Typed slots root scope (node start stop (name asked)) type = NameTyped slots root scope asked type
  Typed slots root scope (node start stop (member base asked)) type =
      OperandTyped (Typed slots root scope base) (StepTyped slots asked) type
  Typed slots root scope (node start stop (count base)) type =
      OperandTyped (Typed slots root scope base) CountTyped type
  Typed slots root scope (node start stop (negation operand)) type =
      OperandTyped (Typed slots root scope operand) NegationTyped type
  Typed slots root scope (node start stop (logical_not operand)) type =
      OperandTyped (Typed slots root scope operand) NotTyped type
  Typed slots root scope (node start stop (binary operator left right)) type =
      OperandsTyped (Typed slots root scope left) (Typed slots root scope right)
      (Between (OperatorTyped slots operator) left right) type
  Typed slots root scope (node start stop (has left right)) type =
      OperandsTyped (Typed slots root scope left) (Typed slots root scope right) (Between (HasTyped slots) left right)
      type
  Typed slots root scope (node start stop (in_list left items)) type =
      ItemsTyped (Typed slots root scope left) (AreTyped slots root scope items)
      (BeforeList (InListTyped slots) left items) type
  Typed slots root scope (node start stop (in_path left path)) type =
      OperandsTyped (Typed slots root scope left) (Typed slots root scope path) (Between InPathTyped left path) type
  Typed slots root scope (node start stop (call asked arguments)) type =
      ArgumentsTyped asked (AreTyped slots root scope arguments) type
  Typed slots root scope (node start stop (any_item base)) type =
      OperandTyped (Typed slots root scope base) AnyItemTyped type
  Typed slots root scope (node start stop (lambda quantifier base variable body)) type =
      LambdaTyped scope variable (Typed slots root scope base) (λ at. Typed slots root at body) type

  -- trees one after another have these types
  pub AreTyped : Slots → List ℕ → Scope → Trees → List ExprType → Type 0
  AreTyped slots root scope no_trees [] = Unit {0}
  AreTyped slots root scope (more_trees tree trees) (type ∷ types) =
      Typed slots root scope tree type × AreTyped slots root scope trees types
  AreTyped slots root scope _ _ = ⊥

abbrev pub IsTyped : Slots → List ℕ → Scope → Tree → Type 0
IsTyped slots root scope tree = (type : ExprType) × Typed slots root scope tree type

abbrev pub IsUntyped : Slots → List ℕ → Scope → Tree → Type 0
IsUntyped slots root scope tree = (type : ExprType) → ¬ Typed slots root scope tree type
