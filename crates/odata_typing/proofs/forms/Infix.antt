-- What holds of each form between two operands.
use Rattle.odata_typing.proofs.Common.{◌≡◌, refl, ℕ, List, [], ◌∷◌, Option, Some, None, IfNone, IfSome, Tree, node, ExprType, SchemaModel, Slots, slots_of, type_name_at, IsConsideredBody, children_in_scope, OfEquality, Between, OperandsTyped, Scope, Typed, FlatTree, ResolvedStands, ChildrenStand, HasOwnValue, IsKindOf, Stands, text_of_shape, InfixTyped, IsInfix, infix_shape, ◌↔◌}
use Rattle.edm_values.specs.declared.value.Value.{Value}
use Rattle.odata_checked_filter.specs.declared.checked_node.NodeKind.{NodeKind}
use Rattle.odata_syntax.specs.declared.binary_operator.BinaryOperator.{BinaryOperator}

-- what holds of each of them
by_infix : (P : NodeKind → Type 0) → ((operator : BinaryOperator) → P (NodeKind.Binary operator)) → P NodeKind.Has → P NodeKind.InPath → (form : NodeKind) → IsInfix form → P form
by_infix P binary has path (NodeKind.Binary operator) is = binary operator
by_infix P binary has path NodeKind.Has is = has
by_infix P binary has path NodeKind.InPath is = path
by_infix P binary has path _ is = absurd is

pub infix_types :
    (slots : Slots) (root : List ℕ) (scope : Scope) (start stop : ℕ) (form : NodeKind) (left right : Tree) (type : ExprType)
    → IsInfix form
    → Typed slots root scope (node start stop (infix_shape form left right)) type
    ↔ OperandsTyped (Typed slots root scope left) (Typed slots root scope right) (Between (InfixTyped slots form) left right) type
infix_types slots root scope start stop form left right type =
    by_infix
    (λ f. Typed slots root scope (node start stop (infix_shape f left right)) type
    ↔ OperandsTyped (Typed slots root scope left) (Typed slots root scope right) (Between (InfixTyped slots f) left right) type)
    (λ operator. (λ typed. typed, λ typed. typed)) (λ typed. typed, λ typed. typed) (λ typed. typed, λ typed. typed) form

pub infix_children : (form : NodeKind) (left right : Tree) → IsInfix form → children_in_scope (infix_shape form left right) ≡ left ∷ right ∷ []
infix_children form left right = by_infix (λ f. children_in_scope (infix_shape f left right) ≡ left ∷ right ∷ []) (λ operator. refl) refl refl form

pub infix_bodiless :
    (slots : Slots) (root : List ℕ) (scope : Scope) (form : NodeKind) (left right : Tree) (at : Scope) (body : Tree)
    → IsInfix form
    → ¬ IsConsideredBody slots root scope (infix_shape form left right) at body
infix_bodiless slots root scope form left right at body =
    by_infix (λ f. ¬ IsConsideredBody slots root scope (infix_shape f left right) at body) (λ operator is. is) (λ is. is) (λ is. is) form

pub infix_text : (form : NodeKind) (left right : Tree) → IsInfix form → text_of_shape (infix_shape form left right) ≡ []
infix_text form left right = by_infix (λ f. text_of_shape (infix_shape f left right) ≡ []) (λ operator. refl) refl refl form

pub infix_kind :
    (slots : Slots) (root : List ℕ) (scope : Scope) (form : NodeKind) (left right : Tree)
    → IsInfix form
    → IsKindOf slots root scope (infix_shape form left right) form
infix_kind slots root scope form left right = by_infix (λ f. IsKindOf slots root scope (infix_shape f left right) f) (λ operator. refl) refl refl form

pub infix_valued : (values : List Value) (slots : Slots) (form : NodeKind) (left right : Tree) → IsInfix form → HasOwnValue values slots (infix_shape form left right) form
infix_valued values slots form left right = by_infix (λ f. HasOwnValue values slots (infix_shape f left right) f) (λ operator. tt) tt tt form

module _ (schema : SchemaModel) (n : ℕ) (scope : Scope) (list : FlatTree) where
  abbrev Alone : Tree → ℕ → ℕ → Type 0
  Alone tree i j = Stands schema n scope list i j tree

  abbrev OfType : Tree → ExprType → Type 0
  OfType = Typed (slots_of schema) (type_name_at schema n) scope

  -- what stands for the left operand and for the right one
  abbrev pub LeftStands : NodeKind → Tree → Tree → ℕ → ℕ → Type 0
  LeftStands (NodeKind.Binary operator) left right i j = ResolvedStands schema n scope list (OfEquality operator (OfType right)) left (λ a b. Alone left a b) i j
  LeftStands _ left right i j = Alone left i j

  abbrev pub RightStands : NodeKind → Tree → Tree → ℕ → ℕ → Type 0
  RightStands (NodeKind.Binary operator) left right i j = ResolvedStands schema n scope list (OfEquality operator (OfType left)) right (λ a b. Alone right a b) i j
  RightStands NodeKind.Has left right i j = ResolvedStands schema n scope list (OfType left) right (λ a b. Alone right a b) i j
  RightStands _ left right i j = Alone right i j

  pub infix_stands :
      (i m j : ℕ) (form : NodeKind) (left right : Tree)
      → IsInfix form
      → LeftStands form left right i m
      → RightStands form left right m j
      → ChildrenStand schema n scope list i j (infix_shape form left right)
  infix_stands i m j (NodeKind.Binary operator) left right is first second =
      record { middle = m; left = first; right = record { middle = j; left = second; right = refl } }
  infix_stands i m j NodeKind.Has left right is first second =
      record { middle = m; left = first; right = record { middle = j; left = second; right = refl } }
  infix_stands i m j NodeKind.InPath left right is first second =
      record { middle = m; left = first; right = record { middle = j; left = second; right = refl } }
  infix_stands i m j _ left right is first second = absurd is

-- what is reported of what there is, together
pub both_some : {X : Type 0} (o : Option X) (P Q : X → Type 0) → IfSome o P → IfSome o Q → IfSome o (λ x. P x × Q x)
both_some (Some x) P Q first second = (first, second)
both_some None P Q first second = tt

pub none_both : {X : Type 0} (o : Option X) (P : Type 0) (Q : ExprType → Type 0) → IfNone o (¬ P) → IfNone o ((type : ExprType) → ¬ (P × Q type))
none_both (Some x) P Q none = tt
none_both None P Q none = λ type both. none both.0
