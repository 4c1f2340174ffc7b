-- Why a lambda operator has no type, and where.
use Rattle.odata_typing.proofs.Common.{◌≡◌, refl, sym, ap, ◌∙◌, inl, inr, subst, ℕ, ◌≤◌, List, [], ◌∷◌, None, Bool, true, false, IsTrue, ◌↔◌, arith, Tree, lambda, node, start_of, Quantifier, ExprType, SingleType, collection, single, SchemaModel, Slots, IsBooleanOrNull, expr_type, TypeFault, IsBodyInScope, IsFirstUntypable, LambdaReason, IsTyped, IsUntyped, Scope, Typed, variable_type, with_variable, LawsBelow}
use Rattle.odata_text.specs.declared.span.Span.{Span}
use Rattle.odata_signatures.specs.declared.edm_type.EdmType.{EdmType}
use Rattle.odata_signatures.specs.declared.edm_type.ValueType.{ValueType}
use Rattle.odata_signatures.specs.declared.refusal.TypeFaultCode.{TypeFaultCode}
use Rattle.odata_signatures.specs.FirstAmong.{StartFrom}
use Rattle.odata_typing.proofs.untypable.Untypable.{among_typed, first_itself, typed_start}

-- of a tree with a first untypable node all such nodes start there or later
start_itself : (slots : Slots) (root : List ℕ) (scope : Scope) (tree : Tree) (fault : TypeFault) → IsFirstUntypable slots root scope tree fault → StartFrom slots root scope tree fault.span.start
start_itself slots root scope tree fault found = λ at other is.
    let le : start_of found.part ≤ start_of other = found.first at other is in
    let e : fault.span.start ≡ start_of found.part = found.starts in
    omega arith

module _ (laws : LawsBelow) (slots : Slots) (root : List ℕ) (scope : Scope) (quantifier : Quantifier) (variable : List ℕ) (base body : Tree) where
  -- the operator binds no variable, so it has no type and no body is judged
  unbound_untyped :
      (type : ExprType) (member : SingleType)
      → Typed slots root scope base type
      → ((m : SingleType) → type ≡ collection m → ¬ (variable_type scope variable ≡ None))
      → Typed slots root scope base (collection member)
      → ¬ (variable_type scope variable ≡ None)
  unbound_untyped type member typed unbound over = unbound member (laws.one_type slots root scope base type (collection member) typed over)

  pub unbound_fault :
      (span : Span) (type : ExprType) (code : TypeFaultCode)
      → Typed slots root scope base type
      → LambdaReason scope variable type code
      → ((m : SingleType) → type ≡ collection m → ¬ (variable_type scope variable ≡ None))
      → IsFirstUntypable slots root scope (node span.start span.stop (lambda quantifier base variable body)) (record { code = code; span = span })
  unbound_fault span type code typed reason unbound =
      first_itself laws slots root scope span.start span.stop (lambda quantifier base variable body) (record { code = code; span = span })
      (λ at part b. unbound_untyped type b.member_type typed unbound b.binds.over b.binds.fresh)
      ((type, typed), tt)
      (λ made whole. unbound_untyped type whole.member_type typed unbound whole.binds.over whole.binds.fresh)
      (type, typed, reason) refl refl

  -- over a base of that type the body is judged in one scope
  module _ (member : SingleType) (typed : Typed slots root scope base (collection member)) where
    one_member : (m : SingleType) → Typed slots root scope base (collection m) → m ≡ member
    one_member m over = cc (laws.one_type slots root scope base (collection m) (collection member) over typed)

    one_scope : (at : Scope) (part : Tree) → IsBodyInScope scope variable (Typed slots root scope base) body at part → at ≡ with_variable scope variable (single member)
    one_scope at part is = is.itself.0 ∙ ap (λ (m : SingleType). with_variable scope variable (single m)) (one_member is.member_type is.binds.over)

    -- the first fault of the body is that of the operator
    pub body_first :
        (start stop : ℕ) (fault : TypeFault)
        → variable_type scope variable ≡ None
        → IsFirstUntypable slots root (with_variable scope variable (single member)) body fault
        → IsFirstUntypable slots root scope (node start stop (lambda quantifier base variable body)) fault
    body_first start stop fault fresh found =
        laws.below slots root scope (node start stop (lambda quantifier base variable body)) fault (record {
          at = with_variable scope variable (single member);
          child = body;
          is = inr (record { member_type = member; binds = record { over = typed; fresh = fresh }; itself = (refl, refl) });
          found = found;
          others = λ inner other is. elim is [
            | inl among ↦ typed_start laws.clear slots root scope (base ∷ []) fault.span.start ((collection member, typed), tt) inner other among
            | inr b ↦
                let P : Scope → Type 0 = λ (s : Scope). StartFrom slots root s other fault.span.start in
                let Q : Tree → Type 0 = λ (t : Tree). StartFrom slots root (with_variable scope variable (single member)) t fault.span.start in
                subst P (sym (one_scope inner other b)) (subst Q (sym b.itself.1) (start_itself slots root (with_variable scope variable (single member)) body fault found))
          ];
        })

    -- the body has another type than Boolean or Null
    body_untyped :
        (start stop : ℕ) (type : ExprType)
        → Typed slots root (with_variable scope variable (single member)) body type
        → ¬ IsBooleanOrNull type
        → IsUntyped slots root scope (node start stop (lambda quantifier base variable body))
    body_untyped start stop type body_typed other made is =
        let P : SingleType → Type 0 = λ (m : SingleType). Typed slots root (with_variable scope variable (single m)) body is.body in
        let own = subst P (one_member is.member_type is.binds.over) is.body_typed in
        other (subst IsBooleanOrNull (laws.one_type slots root (with_variable scope variable (single member)) body is.body type own body_typed) is.truth)

    body_in_scope_typed :
        (type : ExprType) (at : Scope) (part : Tree)
        → Typed slots root (with_variable scope variable (single member)) body type
        → IsBodyInScope scope variable (Typed slots root scope base) body at part
        → IsTyped slots root at part
    body_in_scope_typed type at part body_typed is =
        let P : Scope → Type 0 = λ (s : Scope). IsTyped slots root s part in
        let Q : Tree → Type 0 = λ (t : Tree). IsTyped slots root (with_variable scope variable (single member)) t in
        subst P (sym (one_scope at part is)) (subst Q (sym is.itself.1) (type, body_typed))

    pub refused_body :
        (span : Span) (type : ExprType)
        → variable_type scope variable ≡ None
        → Typed slots root (with_variable scope variable (single member)) body type
        → ¬ IsBooleanOrNull type
        → IsFirstUntypable slots root scope (node span.start span.stop (lambda quantifier base variable body)) (record { code = TypeFaultCode.BodyNotBoolean; span = span })
    refused_body span type fresh body_typed other =
        laws.itself slots root scope span.start span.stop (lambda quantifier base variable body) (record { code = TypeFaultCode.BodyNotBoolean; span = span })
        (λ at child is. elim is [
          | inl among ↦ among_typed slots root scope (base ∷ []) at child ((collection member, typed), tt) among
          | inr b ↦ body_in_scope_typed type at child body_typed b
        ])
        (body_untyped span.start span.stop type body_typed other)
        (collection member, typed, rw fresh refl)
        refl refl

-- a base that is not a collection
pub base_reason : (schema : SchemaModel) (scope : Scope) (variable : List ℕ) (type : EdmType) → ((member : ValueType) → ¬ (type ≡ EdmType.Collection member)) → LambdaReason scope variable (expr_type schema type) TypeFaultCode.NotCollection
base_reason schema scope variable (EdmType.Collection member) other = absurd (other member refl)
base_reason schema scope variable _ other = refl

pub base_unbound : (schema : SchemaModel) (scope : Scope) (variable : List ℕ) (type : EdmType) → ((member : ValueType) → ¬ (type ≡ EdmType.Collection member)) → (m : SingleType) → expr_type schema type ≡ collection m → ¬ (variable_type scope variable ≡ None)
base_unbound schema scope variable (EdmType.Collection member) other m is none = other member refl
base_unbound schema scope variable _ other m is none = cc

pub not_truth : (schema : SchemaModel) (type : EdmType) (reported : Bool) → (IsTrue reported ↔ IsBooleanOrNull (expr_type schema type)) → reported ≡ false → ¬ IsBooleanOrNull (expr_type schema type)
not_truth schema type reported is refused truth = let yes : reported ≡ true = is.1 truth in cc
