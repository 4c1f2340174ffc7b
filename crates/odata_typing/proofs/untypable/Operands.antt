-- Nodes over operands that have types, of which they make none.
use Rattle.odata_typing.proofs.Common.{refl, sym, subst, ◌≡◌, ℕ, List, AllByRecursion, Tree, node, ExprType, Slots, LawsBelow, InfixTyped, IsInfix, UnaryTyped, infix_shape, unary_code, unary_shape, IsFirstUntypable, IsReason, StepReason, Between, IsTyped, OperandTyped, OperandsTyped, Scope, StepTyped, Typed}
use Rattle.odata_syntax.specs.Tree.{member}
use Rattle.odata_text.specs.declared.span.Span.{Span}
use Rattle.odata_signatures.specs.declared.refusal.TypeFaultCode.{TypeFaultCode}
use Rattle.odata_checked_filter.specs.declared.checked_node.NodeKind.{NodeKind}
use Rattle.odata_typing.specs.declared.unary_node.Unary.{Unary}
use Rattle.odata_typing.proofs.forms.Infix.{infix_bodiless, infix_children, infix_types}
use Rattle.odata_typing.proofs.forms.Unary.{unary_bodiless, unary_children, unary_reason, unary_types}
use Rattle.odata_typing.proofs.untypable.Untypable.{first_itself}

module _ (laws : LawsBelow) (slots : Slots) (root : List ℕ) (scope : Scope) where
  -- a node between two operands, of whose types it makes none
  between_untyped :
      (left right : Tree) (l r : ExprType) (Makes : ExprType → ExprType → ExprType → Type 0)
      → Typed slots root scope left l
      → Typed slots root scope right r
      → ((type : ExprType) → ¬ Makes l r type)
      → (type : ExprType) → ¬ OperandsTyped (Typed slots root scope left) (Typed slots root scope right) Makes type
  between_untyped left right l r Makes left_typed right_typed refused type typed =
      let P : ExprType → Type 0 = λ (t : ExprType). Makes t typed.right type in
      let Q : ExprType → Type 0 = λ (t : ExprType). Makes l t type in
      refused type
      (subst Q (laws.one_type slots root scope right typed.right r typed.right_typed right_typed)
      (subst P (laws.one_type slots root scope left typed.left l typed.left_typed left_typed) typed.makes))

  pub refused_between :
      (span : Span) (form : NodeKind) (l r : Tree) (left right : ExprType) (code : TypeFaultCode)
      → IsInfix form
      → Typed slots root scope l left
      → Typed slots root scope r right
      → ((type : ExprType) → ¬ Between (InfixTyped slots form) l r left right type)
      → IsReason slots root scope (node span.start span.stop (infix_shape form l r)) code
      → IsFirstUntypable slots root scope (node span.start span.stop (infix_shape form l r)) (record { code = code; span = span })
  refused_between span form l r left right code between a b refused reason =
      first_itself laws slots root scope span.start span.stop (infix_shape form l r) (record { code = code; span = span })
      (λ at body. infix_bodiless slots root scope form l r at body between)
      (subst (λ (ts : List Tree). AllByRecursion (IsTyped slots root scope) ts) (sym (infix_children form l r between)) ((left, a), ((right, b), tt)))
      (λ type typed.
      between_untyped l r left right (Between (InfixTyped slots form) l r) a b refused type
      ((infix_types slots root scope span.start span.stop form l r type between).0 typed))
      reason refl refl

  -- a node over one operand, of whose type it makes none
  over_untyped :
      (operand : Tree) (o : ExprType) (Makes : ExprType → ExprType → Type 0)
      → Typed slots root scope operand o
      → ((type : ExprType) → ¬ Makes o type)
      → (type : ExprType) → ¬ OperandTyped (Typed slots root scope operand) Makes type
  over_untyped operand o Makes is refused type typed =
      let P : ExprType → Type 0 = λ (t : ExprType). Makes t type in
      refused type (subst P (laws.one_type slots root scope operand typed.operand o typed.operand_typed is) typed.makes)

  pub refused_over :
      (span : Span) (unary : Unary) (operand : Tree) (type : ExprType) (code : TypeFaultCode)
      → Typed slots root scope operand type
      → ((made : ExprType) → ¬ UnaryTyped unary type made)
      → code ≡ unary_code unary
      → IsFirstUntypable slots root scope (node span.start span.stop (unary_shape unary operand)) (record { code = code; span = span })
  refused_over span unary operand type code typed refused is =
      first_itself laws slots root scope span.start span.stop (unary_shape unary operand) (record { code = code; span = span })
      (unary_bodiless slots root scope unary operand)
      (subst (λ (ts : List Tree). AllByRecursion (IsTyped slots root scope) ts) (sym (unary_children unary operand)) ((type, typed), tt))
      (λ made whole.
      over_untyped operand type (UnaryTyped unary) typed refused made
      ((unary_types slots root scope span.start span.stop unary operand made).0 whole))
      (subst (λ (c : TypeFaultCode). IsReason slots root scope (node span.start span.stop (unary_shape unary operand)) c) (sym is)
      (unary_reason slots root scope span.start span.stop unary operand))
      refl refl

  pub refused_step :
      (span : Span) (base : Tree) (asked : List ℕ) (type : ExprType) (code : TypeFaultCode)
      → Typed slots root scope base type
      → ((made : ExprType) → ¬ StepTyped slots asked type made)
      → StepReason slots asked type code
      → IsFirstUntypable slots root scope (node span.start span.stop (member base asked)) (record { code = code; span = span })
  refused_step span base asked type code typed refused reason =
      first_itself laws slots root scope span.start span.stop (member base asked) (record { code = code; span = span })
      (λ at body is. is)
      ((type, typed), tt)
      (over_untyped base type (StepTyped slots asked) typed refused)
      (type, typed, reason) refl refl
