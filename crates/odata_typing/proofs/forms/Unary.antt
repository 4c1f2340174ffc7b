-- What holds of each form over one operand.
use Rattle.odata_typing.proofs.Common.{◌≡◌, refl, ℕ, List, [], ◌∷◌, Tree, node, ExprType, SchemaModel, Slots, IsConsideredBody, children_in_scope, IsReason, OperandTyped, Scope, Typed, FlatTree, ChildrenStand, HasOwnValue, IsKindOf, Stands, text_of_shape, UnaryTyped, unary_code, unary_kind, unary_shape, ◌↔◌}
use Rattle.edm_values.specs.declared.value.Value.{Value}
use Rattle.odata_typing.specs.declared.unary_node.Unary.{Unary}

pub unary_types :
    (slots : Slots) (root : List ℕ) (scope : Scope) (start stop : ℕ) (unary : Unary) (operand : Tree) (type : ExprType)
    → Typed slots root scope (node start stop (unary_shape unary operand)) type ↔ OperandTyped (Typed slots root scope operand) (UnaryTyped unary) type
unary_types slots root scope start stop Unary.Negation operand type = (λ typed. typed, λ typed. typed)
unary_types slots root scope start stop _ operand type = (λ typed. typed, λ typed. typed)

pub unary_children : (unary : Unary) (operand : Tree) → children_in_scope (unary_shape unary operand) ≡ operand ∷ []
unary_children Unary.Negation operand = refl
unary_children _ operand = refl

pub unary_bodiless :
    (slots : Slots) (root : List ℕ) (scope : Scope) (unary : Unary) (operand : Tree) (at : Scope) (body : Tree)
    → ¬ IsConsideredBody slots root scope (unary_shape unary operand) at body
unary_bodiless slots root scope Unary.Negation operand at body is = is
unary_bodiless slots root scope _ operand at body is = is

pub unary_reason :
    (slots : Slots) (root : List ℕ) (scope : Scope) (start stop : ℕ) (unary : Unary) (operand : Tree)
    → IsReason slots root scope (node start stop (unary_shape unary operand)) (unary_code unary)
unary_reason slots root scope start stop Unary.Negation operand = refl
unary_reason slots root scope start stop _ operand = refl

pub unary_text : (unary : Unary) (operand : Tree) → text_of_shape (unary_shape unary operand) ≡ []
unary_text Unary.Negation operand = refl
unary_text _ operand = refl

pub unary_of_kind :
    (slots : Slots) (root : List ℕ) (scope : Scope) (unary : Unary) (operand : Tree)
    → IsKindOf slots root scope (unary_shape unary operand) (unary_kind unary)
unary_of_kind slots root scope Unary.Negation operand = refl
unary_of_kind slots root scope _ operand = refl

pub unary_valued : (values : List Value) (slots : Slots) (unary : Unary) (operand : Tree) → HasOwnValue values slots (unary_shape unary operand) (unary_kind unary)
unary_valued values slots Unary.Negation operand = tt
unary_valued values slots _ operand = tt

pub unary_stands :
    (schema : SchemaModel) (n : ℕ) (scope : Scope) (list : FlatTree) (i j : ℕ) (unary : Unary) (operand : Tree)
    → Stands schema n scope list i j operand
    → ChildrenStand schema n scope list i j (unary_shape unary operand)
unary_stands schema n scope list i j Unary.Negation operand stands = record { middle = j; left = stands; right = refl }
unary_stands schema n scope list i j _ operand stands = record { middle = j; left = stands; right = refl }
