-- What is known of a property by its name.
use Rattle.odata_typing.proofs.Common.{◌≡◌, refl, sym, ap, subst, ◌∙◌, ℕ, Bool, true, false, List, Option, Some, None, IfSome, IsSomeAnd, MatchOption, slice_get, node, name, ExprType, PropertyModel, PropertyType, SchemaModel, Slots, declared, opaque, navigation, slot_named, type_name_at, IsFirstUntypable, NameReason, PropertyReason, PropertyTyped, Scope, named_type, variable_type, LawsBelow, property_named}
use Rattle.odata_text.specs.declared.span.Span.{Span}
use Rattle.csdl_schema.specs.PropertyView.{IsReadAs, property_type, target_of, type_of_kind}
use Rattle.csdl_schema.specs.declared.property.PropertyKind.{PropertyKind}
use Rattle.csdl_schema.specs.declared.property.Property.{Property}
use Rattle.odata_signatures.specs.declared.refusal.TypeFaultCode.{TypeFaultCode}
use Rattle.odata_signatures.specs.NeededPaths.{Navigates}
use Rattle.odata_typing.proofs.untypable.Untypable.{first_itself}
use Rattle.odata_typing.proofs.untypable.PropertySlots.{slot_below, property_at, property_none}
use Rattle.odata_checked_filter.proofs.flat.Places.{found_within}
use Rattle.odata_typing.proofs.scopes.Scopes.{unbound_types}

-- a name that has no type
pub first_name :
    LawsBelow → (slots : Slots) (root : List ℕ) (scope : Scope) (asked : List ℕ) (span : Span) (code : TypeFaultCode)
    → variable_type scope asked ≡ None
    → ((type : ExprType) → ¬ PropertyTyped (slots.properties root) asked type)
    → NameReason (slots.properties root) asked code
    → IsFirstUntypable slots root scope (node span.start span.stop (name asked)) (record { code = code; span = span })
first_name laws slots root scope asked span code none untyped reason =
    first_itself laws slots root scope span.start span.stop (name asked) (record { code = code; span = span }) (λ at body is. is) tt
    (λ type typed. untyped type ((unbound_types slots root scope asked type none).0 typed)) reason refl refl

-- there is no property of the name
pub unknown_untyped : (properties : List PropertyModel) (asked : List ℕ) (type : ExprType) → slot_named properties asked ≡ None → ¬ PropertyTyped properties asked type
unknown_untyped properties asked type none typed =
    let P : Option PropertyModel → Type 0 = λ (o : Option PropertyModel). IsSomeAnd o (λ p. named_type p.type_of ≡ Some type) in
    subst P (property_none properties asked none) typed

pub unknown_reason : (properties : List PropertyModel) (asked : List ℕ) → slot_named properties asked ≡ None → NameReason properties asked TypeFaultCode.UnknownProperty
unknown_reason properties asked none =
    let code = TypeFaultCode.UnknownProperty in
    let Q : Option PropertyModel → Type 0 = λ (o : Option PropertyModel). MatchOption o (code ≡ TypeFaultCode.UnknownProperty) (λ p. PropertyReason p.type_of code) in
    subst Q (sym (property_none properties asked none)) refl

-- the property of a name, as the code reads it
pub record IsFound (schema : SchemaModel) (properties : List PropertyModel) (asked : List ℕ) (p : Property) : Type 0 where
  pub property : PropertyModel
  pub named : property_named properties asked ≡ Some property
  pub read : IsReadAs schema property p

-- it stands at the slot of the name
pub found_at :
    (schema : SchemaModel) (properties : List PropertyModel) (given asked : List ℕ) (k : ℕ) (p : Property)
    → given ≡ asked
    → slot_named properties given ≡ Some k
    → IfSome (slice_get properties k) (λ declaration. IsReadAs schema declaration p)
    → IsFound schema properties asked p
found_at schema properties given asked k p same found read =
    let at = found_within properties k (slot_below properties given k found) in
    let Read : Option PropertyModel → Type 0 = λ (o : Option PropertyModel). IfSome o (λ declaration. IsReadAs schema declaration p) in
    record { property = at.0; named = ap (property_named properties) (sym same) ∙ property_at properties given k found ∙ at.1; read = subst Read at.1 read }

reason_untyped : (kind : PropertyType) (code : TypeFaultCode) (type : ExprType) → PropertyReason kind code → ¬ (named_type kind ≡ Some type)
reason_untyped (declared t) code type reason same = reason
reason_untyped opaque code type reason same = cc
reason_untyped (navigation None) code type reason same = cc
reason_untyped (navigation (Some t)) code type reason same = reason

targetless : (name_at : ℕ → List ℕ) (kind : PropertyKind) (many : Bool) (target : ExprType) → ¬ (type_of_kind name_at kind None many ≡ navigation (Some target))
targetless name_at PropertyKind.Opaque many target same = cc
targetless name_at _ true target same = cc
targetless name_at _ false target same = cc

module _ (schema : SchemaModel) (properties : List PropertyModel) (asked : List ℕ) (p : Property) (is : IsFound schema properties asked p) where
  -- one that a filter may not name has no type
  pub refused_untyped : (code : TypeFaultCode) (type : ExprType) → PropertyReason (property_type schema p) code → ¬ PropertyTyped properties asked type
  refused_untyped code type reason typed =
      let P : Option PropertyModel → Type 0 = λ (o : Option PropertyModel). IsSomeAnd o (λ q. named_type q.type_of ≡ Some type) in
      reason_untyped (property_type schema p) code type reason (ap named_type is.read.type_of ∙ subst P is.named typed)

  pub refused_reason : (code : TypeFaultCode) → PropertyReason (property_type schema p) code → NameReason properties asked code
  refused_reason code reason =
      let Q : Option PropertyModel → Type 0 = λ (o : Option PropertyModel). MatchOption o (code ≡ TypeFaultCode.UnknownProperty) (λ q. PropertyReason q.type_of code) in
      subst Q (sym is.named) (subst (λ (t : PropertyType). PropertyReason t code) is.read.type_of reason)

  -- another has the type that the code finds
  pub property_typed : (type : ExprType) → named_type (property_type schema p) ≡ Some type → PropertyTyped properties asked type
  property_typed type is_named =
      let P : Option PropertyModel → Type 0 = λ (o : Option PropertyModel). IsSomeAnd o (λ q. named_type q.type_of ≡ Some type) in
      subst P (sym is.named) (ap named_type (sym is.read.type_of) ∙ is_named)

  -- one without a target navigates nowhere
  pub idle_at : target_of p ≡ None → ¬ Navigates properties asked
  idle_at none navigates =
      let N : Option PropertyModel → Type 0 = λ (o : Option PropertyModel). IsSomeAnd o (λ q. (target : ExprType) × (q.type_of ≡ navigation (Some target))) in
      let leads : (target : ExprType) × (is.property.type_of ≡ navigation (Some target)) = subst N is.named navigates in
      let K : Option ℕ → Type 0 = λ (target : Option ℕ). type_of_kind (type_name_at schema) p.kind target p.many ≡ navigation (Some leads.0) in
      targetless (type_name_at schema) p.kind p.many leads.0 (subst K none (is.read.type_of ∙ leads.1))
