-- For private clauses: the body of a lambda operator, over the members of its collection.
use Rattle.std.specs.Prelude.{◌+◌, ℕ, List, [], ◌∷◌, Bool, Option, Result, Some, IsSomeAnd, slice_get, ◌≡◌}
use Rattle.edm_values.specs.Val.{Val, Vals, no_items, item}
use Rattle.edm_values.specs.declared.value.Value.{Value}
use Rattle.odata_syntax.specs.Tree.{Tree}
use Rattle.odata_syntax.specs.declared.node.Quantifier.{Quantifier}
use Rattle.csdl_schema.specs.ExprType.{ExprType}
use Rattle.csdl_schema.specs.SchemaModel.{Slots, slots_of, type_name_at}
use Rattle.edm_entities.specs.HasType.{HasType}
use Rattle.edm_entities.specs.Row.{val_of, value_of}
use Rattle.odata_signatures.specs.ExprTypes.{IsBooleanOrNull}
use Rattle.odata_signatures.specs.TypeView.{expr_type}
use Rattle.odata_signatures.specs.declared.edm_type.EdmType.{EdmType}
use Rattle.odata_signatures.specs.declared.edm_type.ValueType.{ValueType}
use Rattle.odata_signatures.specs.Typed.{Scope, Typed, with_variable}
use Rattle.odata_checked_filter.specs.Calls.{TakesMemory}
use Rattle.odata_checked_filter.specs.FlatTree.{FlatTree}
use Rattle.odata_checked_filter.specs.Stands.{Stands}
use Rattle.odata_meaning.specs.Environment.{bound_over, scope_of}
use Rattle.odata_meaning.specs.Means.{Means}
use Rattle.odata_meaning.specs.OneByOne.{MembersGo}
use Rattle.odata_filter_operations.specs.Outcome.{Outcome}
use Rattle.odata_filter_operations.specs.TruthGives.{truth_val}
use Rattle.odata_filter_operations.specs.declared.eval_fault.EvalFault.{EvalFault}
use Rattle.filter_context.specs.declared.frames.RangeVariable.{RangeVariable}
use Rattle.odata_filter_operations.specs.DatumView.{answer_outcome}
use Rattle.filter_context.specs.private.ContextModel.{ContextModel, environment_of}
use Rattle.odata_filter_operations.specs.Reports.{Reports}

-- the base there has members of some type
abbrev pub IsOverMembers : FlatTree → ℕ → Type 0
IsOverMembers list place =
    IsSomeAnd (slice_get list.nodes (place + 1))
    (λ base. (member : ValueType) × (base.edm_type ≡ EdmType.Collection member))

-- it is the variable of the operator there: it has the name at the node, and the type of the base's members
pub record IsVariableOf (list : FlatTree) (place : ℕ) (variable : RangeVariable) : Type 0 where
  pub name_is : slice_get list.texts place ≡ Some variable.name.now
  pub member : ValueType
  pub type_is : variable.edm_type ≡ EdmType.Single member
  pub base_is : IsSomeAnd (slice_get list.nodes (place + 1)) (λ base. base.edm_type ≡ EdmType.Collection member)

-- the type of a variable
abbrev pub type_of_variable : ContextModel → RangeVariable → ExprType
type_of_variable context variable = expr_type context.row.schema variable.edm_type

-- the scope of a body, in which the variable is the innermost
abbrev pub body_scope : ContextModel → RangeVariable → Scope
body_scope context variable =
    with_variable (scope_of (environment_of context)) variable.name.now (type_of_variable context variable)

-- the nodes from the index up to the stop stand for the body
abbrev pub BodyStands : ContextModel → RangeVariable → ℕ → ℕ → Tree → Type 0
BodyStands context variable = Stands context.row.schema context.row.type_id (body_scope context variable) context.list

-- the body has the type
abbrev pub BodyTyped : ContextModel → RangeVariable → Tree → ExprType → Type 0
BodyTyped context variable =
    Typed (slots_of context.row.schema) (type_name_at context.row.schema context.row.type_id)
    (body_scope context variable)

-- a body of type Boolean or Null stands there
pub record BodyIsThere (context : ContextModel) (variable : RangeVariable) (place : ℕ) : Type 0 where
  pub stop : ℕ
  pub body : Tree
  pub stands : BodyStands context variable place stop body
  pub type_of : ExprType
  pub typed : BodyTyped context variable body type_of
  pub truth : IsBooleanOrNull type_of

-- what the body evaluates to where the variable has that value
abbrev pub BodyMeans : ContextModel → RangeVariable → Tree → Val → Outcome → Type 0
BodyMeans context variable body v =
    Means (slots_of context.row.schema) (type_name_at context.row.schema context.row.type_id) context.moment
    (value_of context.row)
    (bound_over (environment_of context) variable.name.now (type_of_variable context variable) v) body

-- the value is of the variable's type
abbrev pub Suits : ContextModel → RangeVariable → Value → Type 0
Suits context variable value =
    HasType (slots_of context.row.schema) (type_of_variable context variable)
    (val_of value (slots_of context.row.schema).properties (type_of_variable context variable))

-- what members are, each of that type
abbrev pub vals_of : Slots → ExprType → List Value → Vals
vals_of slots type [] = no_items
vals_of slots type (value ∷ more) = item (val_of value slots.properties type) (vals_of slots type more)

-- the answer is an outcome of the operator over these members, whatever body stands at the index
pub record AnswersMembers
    (context : ContextModel) (place : ℕ) (quantifier : Quantifier) (variable : RangeVariable) (members : List Value)
    (answer : Result (Option Bool) EvalFault) : Type 0 where
  pub of_body :
      (stop : ℕ) (body : Tree) (type : ExprType) → BodyStands context variable place stop body
      → BodyTyped context variable body type
      → Reports (TakesMemory body)
      (MembersGo quantifier (BodyMeans context variable body)
      (vals_of (slots_of context.row.schema) (type_of_variable context variable) members))
      (answer_outcome truth_val answer)
