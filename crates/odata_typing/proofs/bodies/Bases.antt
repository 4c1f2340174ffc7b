-- Why a lambda operator over its base has no type, and the fault of its body.
use Rattle.odata_typing.proofs.Common.{◌≡◌, refl, sym, subst, ℕ, ◌+◌, List, Bool, false, None, Some, IfSome, Tree, lambda, Quantifier, ExprType, collection, single, expr_type, single_type, IsFirstUntypable, Typed, variable_type, with_variable, Judged, CheckContext, Walk, IsNodeJudged, IsStanding, LawsBelow, name_of, scope_of, walk_refused, ◌∙◌, none-some}
use Rattle.odata_signatures.specs.declared.edm_type.EdmType.{EdmType}
use Rattle.odata_signatures.specs.declared.edm_type.ValueType.{ValueType}
use Rattle.odata_signatures.specs.declared.refusal.TypeFaultCode.{TypeFaultCode}
use Rattle.odata_typing.proofs.bodies.Faults.{base_reason, base_unbound, body_first, unbound_fault}
use Rattle.odata_typing.proofs.flat.Closing.{refused_tree, root_in, slots_in, some_on}

module _ (laws : LawsBelow) (context : CheckContext) (judged : Judged) (old new : Walk) (quantifier : Quantifier) (base body : Tree) (middle : ℕ) (result : Bool)
    (stands : IsStanding context.schema.now context.filtered_type (scope_of context) old (judged.number + 1) middle base) where
  base_typed : (type : EdmType) → type ≡ stands.found.edm_type → Typed (slots_in context) (root_in context) (scope_of context) base (expr_type context.schema.now type)
  base_typed type same = subst (λ (t : EdmType). Typed (slots_in context) (root_in context) (scope_of context) base (expr_type context.schema.now t)) (sym same) stands.typed

  -- the base is not a collection
  pub not_collection :
      (mid : Walk) (type : EdmType)
      → type ≡ stands.found.edm_type
      → ((member : ValueType) → ¬ (type ≡ EdmType.Collection member))
      → result ≡ false
      → new ≡ walk_refused mid judged.node.now.span TypeFaultCode.NotCollection
      → IsNodeJudged context judged (lambda quantifier base (name_of context judged) body) old new result
  not_collection mid type same other stops is =
      let schema = context.schema.now in
      let scope = scope_of context in
      let variable : List ℕ = name_of context judged in
      refused_tree context judged old mid new (lambda quantifier base variable body) TypeFaultCode.NotCollection result stops is
      (unbound_fault laws (slots_in context) (root_in context) scope quantifier variable base body judged.node.now.span (expr_type schema type) TypeFaultCode.NotCollection (base_typed type same)
      (base_reason schema scope variable type other) (base_unbound schema scope variable type other))

  -- the variable is in scope already
  pub variable_taken :
      (mid : Walk) (type : EdmType) (member : ValueType) (taken : ExprType)
      → type ≡ stands.found.edm_type
      → type ≡ EdmType.Collection member
      → variable_type (scope_of context) (name_of context judged) ≡ Some taken
      → result ≡ false
      → new ≡ walk_refused mid judged.node.now.span TypeFaultCode.VariableTaken
      → IsNodeJudged context judged (lambda quantifier base (name_of context judged) body) old new result
  variable_taken mid type member taken same of_member found stops is =
      let schema = context.schema.now in
      let scope = scope_of context in
      let variable : List ℕ = name_of context judged in
      let m = single_type schema member in
      let typed : Typed (slots_in context) (root_in context) scope base (collection m) =
      subst (λ (t : EdmType). Typed (slots_in context) (root_in context) scope base (expr_type schema t)) of_member (base_typed type same) in
      refused_tree context judged old mid new (lambda quantifier base variable body) TypeFaultCode.VariableTaken result stops is
      (unbound_fault laws (slots_in context) (root_in context) scope quantifier variable base body judged.node.now.span (collection m) TypeFaultCode.VariableTaken typed
      (rw found refl) (λ of_type is none. none-some taken (sym none ∙ found)))

  -- the body has no type
  pub body_refused :
      (type : EdmType) (member : ValueType)
      → type ≡ stands.found.edm_type
      → type ≡ EdmType.Collection member
      → variable_type (scope_of context) (name_of context judged) ≡ None
      → result ≡ false
      → IfSome new.fault (IsFirstUntypable (slots_in context) (root_in context) (with_variable (scope_of context) (name_of context judged) (single (single_type context.schema.now member))) body)
      → IsNodeJudged context judged (lambda quantifier base (name_of context judged) body) old new result
  body_refused type member same of_member fresh stops found =
      let schema = context.schema.now in
      let scope = scope_of context in
      let variable : List ℕ = name_of context judged in
      let typed : Typed (slots_in context) (root_in context) scope base (collection (single_type schema member)) =
      subst (λ (t : EdmType). Typed (slots_in context) (root_in context) scope base (expr_type schema t)) of_member (base_typed type same) in
      rw stops (some_on new.fault _ _ (λ fault first.
      body_first laws (slots_in context) (root_in context) scope quantifier variable base body (single_type schema member) typed judged.node.now.span.start judged.node.now.span.stop fault fresh first) found)
