-- Nodes over one operand.
use Rattle.odata_typing.proofs.Common.{◌≡◌, sym, subst, ℕ, ◌+◌, List, [], ◌∷◌, Bool, true, false, None, Some, Option, IfNone, IfSome, Tree, ExprType, IsTypeThere, expr_type, Judged, CheckContext, Walk, UnaryTyped, unary_code, unary_kind, unary_shape, AreChildren, IsNodeJudged, IsStanding, LawsBelow, IsNodeReady, scope_of, walk_put, walk_refused}
use Rattle.odata_signatures.specs.declared.edm_type.EdmType.{EdmType}
use Rattle.odata_signatures.specs.declared.refusal.TypeFaultCode.{TypeFaultCode}
use Rattle.odata_checked_filter.specs.declared.checked_node.NodeKind.{NodeKind}
use Rattle.odata_typing.specs.declared.unary_node.Unary.{Unary}
use Rattle.odata_typing.proofs.flat.Closing.{IsPutFor, put_changed, refused_tree, root_in, slots_in}
use Rattle.odata_typing.proofs.flat.Idle.{idle_over}
use Rattle.odata_typing.proofs.flat.Kept.{same_more}
use Rattle.odata_typing.proofs.forms.Unary.{unary_of_kind, unary_stands, unary_text, unary_types, unary_valued}
use Rattle.odata_typing.proofs.untypable.Operands.{refused_over}

-- the only child is all the nodes after the node
pub one_child : (context : CheckContext) (walk : Walk) (judged : Judged) (child : Tree) → AreChildren context walk judged (child ∷ [])
    → IsStanding context.schema.now context.filtered_type (scope_of context) walk (judged.number + 1) judged.stop child
one_child context walk judged child over =
    subst (λ (j : ℕ). IsStanding context.schema.now context.filtered_type (scope_of context) walk (judged.number + 1) j child) over.right over.left

module _ (laws : LawsBelow) (context : CheckContext) (judged : Judged) (old new : Walk) (unary : Unary) (operand : Tree) (result : Bool)
    (ready : IsNodeReady context old judged)
    (stands : IsStanding context.schema.now context.filtered_type (scope_of context) old (judged.number + 1) judged.stop operand) where
  put_over :
      (type : EdmType)
      → result ≡ true
      → new ≡ walk_put old judged (unary_kind unary) type []
      → UnaryTyped unary (expr_type context.schema.now stands.found.edm_type) (expr_type context.schema.now type)
      → IsTypeThere context.schema.now type
      → IsNodeJudged context judged (unary_shape unary operand) old new result
  put_over type goes_on is makes there =
      let slots = slots_in context in
      let root = root_in context in
      let scope = scope_of context in
      let span = judged.node.now.span in
      put_changed context judged laws old old new (unary_shape unary operand) (unary_kind unary) type result ready (same_more old judged.number judged.stop) ready.ready.fresh goes_on
      (subst (λ (text : List ℕ). new ≡ walk_put old judged (unary_kind unary) type text) (sym (unary_text unary operand)) is)
      there
      (unary_of_kind slots root scope unary operand) (unary_valued old.list.values slots unary operand)
      ((unary_types slots root scope span.start span.stop unary operand (expr_type context.schema.now type)).1
      (record { operand = expr_type context.schema.now stands.found.edm_type; operand_typed = stands.typed; makes = makes }))
      (unary_stands context.schema.now context.filtered_type scope old.list (judged.number + 1) judged.stop unary operand stands.stands)
      (λ idle. idle_over slots root scope span.start span.stop unary operand (stands.idle idle))

  refuse_over :
      (code : TypeFaultCode)
      → result ≡ false
      → new ≡ walk_refused old judged.node.now.span code
      → ((made : ExprType) → ¬ UnaryTyped unary (expr_type context.schema.now stands.found.edm_type) made)
      → code ≡ unary_code unary
      → IsNodeJudged context judged (unary_shape unary operand) old new result
  refuse_over code stops is none reason =
      refused_tree context judged old old new (unary_shape unary operand) code result stops is
      (refused_over laws (slots_in context) (root_in context) (scope_of context) judged.node.now.span unary operand (expr_type context.schema.now stands.found.edm_type) code stands.typed none reason)

  -- the node over its operand, from what is made of the operand's type
  pub judged_over :
      (made : Option EdmType) (kind : NodeKind) (code : TypeFaultCode) (below : EdmType)
      → below ≡ stands.found.edm_type
      → kind ≡ unary_kind unary
      → code ≡ unary_code unary
      → IfSome made (λ type. UnaryTyped unary (expr_type context.schema.now below) (expr_type context.schema.now type))
      → IfSome made (IsTypeThere context.schema.now)
      → IfNone made ((type : ExprType) → ¬ UnaryTyped unary (expr_type context.schema.now below) type)
      → IsPutFor made result new (λ type. walk_put old judged kind type []) (walk_refused old judged.node.now.span code)
      → IsNodeJudged context judged (unary_shape unary operand) old new result
  judged_over (Some type) kind code below same kind_is code_is typed there none is =
      put_over type is.some (subst (λ (k : NodeKind). new ≡ walk_put old judged k type []) kind_is is.put_is)
      (subst (λ (t : EdmType). UnaryTyped unary (expr_type context.schema.now t) (expr_type context.schema.now type)) same typed) there
  judged_over None kind code below same kind_is code_is typed there none is =
      refuse_over code is.none is.refused_is
      (subst (λ (t : EdmType). (type : ExprType) → ¬ UnaryTyped unary (expr_type context.schema.now t) type) same none) code_is
