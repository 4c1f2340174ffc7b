-- Nodes without children, and steps.
use Rattle.odata_typing.proofs.Common.{◌≡◌, ◌≢◌, ◌∙◌, refl, sym, ap, subst, inr, arith, ℕ, ◌+◌, List, [], Bool, true, false, None, Some, Option, IfSome, IsSomeAnd, length, slice_get, Tree, it, literal, name, ExprType, single, structured, properties_at, slot_named, type_name_at, IsTypeThere, expr_type, IsFirstUntypable, NameReason, StepReason, NameTyped, PropertyTyped, StepTyped, Typed, variable_type, TypeFault, with_value, IsNameNode, variable_names, Judged, CheckContext, Walk, IsIdle, IsNodeJudged, IsStanding, LawsBelow, IsNodeReady, name_of, scope_of, walk_put, walk_refused}
use Rattle.edm_values.specs.declared.value.Value.{Value}
use Rattle.odata_syntax.specs.Tree.{member}
use Rattle.odata_text.specs.declared.span.Span.{Span}
use Rattle.odata_syntax.specs.declared.node.LiteralKind.{LiteralKind}
use Rattle.odata_signatures.specs.declared.edm_type.EdmType.{EdmType}
use Rattle.odata_signatures.specs.declared.edm_type.ValueType.{ValueType}
use Rattle.odata_signatures.specs.NeededPaths.{Navigates}
use Rattle.odata_signatures.specs.declared.refusal.TypeFaultCode.{TypeFaultCode}
use Rattle.odata_checked_filter.specs.declared.checked_node.NodeKind.{NodeKind}
use Rattle.odata_typing.specs.private.Answer.{IsReading}
use Rattle.odata_typing.proofs.flat.Closing.{put_changed, refused_tree, root_in, slots_in, some_at, tree_over, value_put, valued_more}
use Rattle.odata_typing.proofs.flat.Idle.{idle_step}
use Rattle.odata_typing.proofs.flat.Kept.{IsMore, same_more, standing_kept}
use Rattle.odata_typing.proofs.untypable.Names.{first_name}
use Rattle.odata_typing.proofs.untypable.Operands.{refused_step}

module _ (laws : LawsBelow) (context : CheckContext) (judged : Judged) (old new : Walk) (result : Bool)
    (ready : IsNodeReady context old judged) where
  -- a literal's node, after its value
  pub literal_put :
      (mid : Walk) (kind : LiteralKind) (value : Value) (type : EdmType) (place : ℕ) (text : List ℕ)
      → judged.stop ≡ judged.number + 1
      → IsReading context.schema.now kind (name_of context judged) value type
      → IsTypeThere context.schema.now type
      → place ≡ length old.list.values
      → mid ≡ record old { list = with_value old.list value }
      → result ≡ true
      → text ≡ name_of context judged
      → new ≡ walk_put mid judged (NodeKind.Literal kind place) type text
      → IsNodeJudged context judged (literal kind (name_of context judged)) old new result
  literal_put mid kind value type place text leaf reading there at is_valued goes_on same is =
      let spelling : List ℕ = name_of context judged in
      put_changed context judged laws old mid new (literal kind spelling) (NodeKind.Literal kind place) type result ready (valued_more old mid value is_valued judged.number judged.stop)
      (ap (λ (w : Walk). w.fault) is_valued ∙ ready.ready.fresh) goes_on
      (subst (λ (t : List ℕ). new ≡ walk_put mid judged (NodeKind.Literal kind place) type t) same is)
      there
      refl (some_at _ (slice_get mid.list.values place) value (ap (λ (w : Walk). slice_get w.list.values place) is_valued ∙ ap (slice_get (with_value old.list value).values) at ∙ value_put old.list value) reading.value_of)
      reading.typed (sym leaf) (λ idle paths path needed. needed)

  -- `$it`
  pub it_put :
      judged.stop ≡ judged.number + 1
      → result ≡ true
      → new ≡ walk_put old judged NodeKind.It (EdmType.Single (ValueType.Structured context.filtered_type)) []
      → IsNodeJudged context judged it old new result
  it_put leaf goes_on is =
      put_changed context judged laws old old new it NodeKind.It (EdmType.Single (ValueType.Structured context.filtered_type)) result ready (same_more old judged.number judged.stop) ready.ready.fresh goes_on is
      tt refl tt refl (sym leaf) (λ idle paths path needed. needed)

  -- a name, of a variable or of a property
  pub name_put :
      (mid : Walk) (kind : NodeKind) (type : EdmType) (text : List ℕ)
      → judged.stop ≡ judged.number + 1
      → IsMore old mid
      → mid.fault ≡ None
      → IsNameNode ((slots_in context).properties (root_in context)) (variable_names (scope_of context)) (name_of context judged) kind
      → NameTyped (slots_in context) (root_in context) (scope_of context) (name_of context judged) (expr_type context.schema.now type)
      → IsTypeThere context.schema.now type
      → (mid.navigates ≡ false → IsIdle (slots_in context) (root_in context) (scope_of context) (tree_over judged (name (name_of context judged))))
      → result ≡ true
      → text ≡ name_of context judged
      → new ≡ walk_put mid judged kind type text
      → IsNodeJudged context judged (name (name_of context judged)) old new result
  name_put mid kind type text leaf more fresh named typed there idle goes_on same is =
      put_changed context judged laws old mid new (name (name_of context judged)) kind type result ready (more judged.number judged.stop) fresh goes_on
      (subst (λ (t : List ℕ). new ≡ walk_put mid judged kind type t) same is) there named tt typed (sym leaf) idle

-- a fault with that reason and that span is the first of the name
pub name_refused_so :
    (laws : LawsBelow) (context : CheckContext) (judged : Judged) (fault : Option TypeFault)
    → variable_type (scope_of context) (name_of context judged) ≡ None
    → ((type : ExprType) → ¬ PropertyTyped ((slots_in context).properties (root_in context)) (name_of context judged) type)
    → IsSomeAnd fault (λ f. NameReason ((slots_in context).properties (root_in context)) (name_of context judged) f.code)
    → IsSomeAnd fault (λ f. f.span ≡ judged.node.now.span)
    → IfSome fault (IsFirstUntypable (slots_in context) (root_in context) (scope_of context) (tree_over judged (name (name_of context judged))))
name_refused_so laws context judged (Some fault) free untyped reason span =
    subst (λ (s : Span). IsFirstUntypable (slots_in context) (root_in context) (scope_of context) (tree_over judged (name (name_of context judged))) (record { code = fault.code; span = s })) (sym span)
    (first_name laws (slots_in context) (root_in context) (scope_of context) (name_of context judged) judged.node.now.span fault.code free untyped reason)
name_refused_so laws context judged None free untyped reason span = absurd reason

-- steps, from what stands before the slash
module _ (laws : LawsBelow) (context : CheckContext) (judged : Judged) (old new : Walk) (base : Tree) (result : Bool)
    (ready : IsNodeReady context old judged)
    (stands : IsStanding context.schema.now context.filtered_type (scope_of context) old (judged.number + 1) judged.stop base) where
  -- to a property of one value of a structured type
  pub member_put :
      (mid : Walk) (owner slot : ℕ) (type : EdmType) (text : List ℕ)
      → stands.found.edm_type ≡ EdmType.Single (ValueType.Structured owner)
      → IsMore old mid
      → mid.fault ≡ None
      → slot_named (properties_at context.schema.now owner) (name_of context judged) ≡ Some slot
      → PropertyTyped (properties_at context.schema.now owner) (name_of context judged) (expr_type context.schema.now type)
      → IsTypeThere context.schema.now type
      → (mid.navigates ≡ false → ¬ Navigates (properties_at context.schema.now owner) (name_of context judged))
      → result ≡ true
      → text ≡ name_of context judged
      → new ≡ walk_put mid judged (NodeKind.Member slot) type text
      → IsNodeJudged context judged (member base (name_of context judged)) old new result
  member_put mid owner slot type text of_owner more fresh slot_is makes there idle goes_on same is =
      let asked : List ℕ = name_of context judged in
      let schema = context.schema.now in
      let owner_name : List ℕ = type_name_at schema owner in
      let typed : Typed (slots_in context) (root_in context) (scope_of context) base (single (structured owner_name)) =
      subst (λ (t : EdmType). Typed (slots_in context) (root_in context) (scope_of context) base (expr_type schema t)) of_owner stands.typed in
      let now = standing_kept laws schema context.filtered_type (scope_of context) 0 0 old mid (more 0 0) (judged.number + 1) judged.stop base (inr (omega arith)) stands in
      put_changed context judged laws old mid new (member base asked) (NodeKind.Member slot) type result ready (more judged.number judged.stop) fresh goes_on
      (subst (λ (t : List ℕ). new ≡ walk_put mid judged (NodeKind.Member slot) type t) same is) there
      (owner_name, typed, slot_is) tt
      (record { operand = single (structured owner_name); operand_typed = typed; makes = makes })
      (record { middle = judged.stop; left = now.stands; right = refl })
      (λ none. idle_step laws (slots_in context) (root_in context) (scope_of context) judged.node.now.span.start judged.node.now.span.stop base asked owner_name typed (idle none) (now.idle none))

  pub member_refused :
      (mid : Walk) (code : TypeFaultCode)
      → ((made : ExprType) → ¬ StepTyped (slots_in context) (name_of context judged) (expr_type context.schema.now stands.found.edm_type) made)
      → StepReason (slots_in context) (name_of context judged) (expr_type context.schema.now stands.found.edm_type) code
      → result ≡ false
      → new ≡ walk_refused mid judged.node.now.span code
      → IsNodeJudged context judged (member base (name_of context judged)) old new result
  member_refused mid code untyped reason stops is =
      refused_tree context judged old mid new (member base (name_of context judged)) code result stops is
      (refused_step laws (slots_in context) (root_in context) (scope_of context) judged.node.now.span base (name_of context judged) (expr_type context.schema.now stands.found.edm_type) code stands.typed untyped reason)

-- no step leads from another type
pub no_owner :
    (laws : LawsBelow) (context : CheckContext) (asked : List ℕ) (type : EdmType) → ((owner : ℕ) → type ≢ EdmType.Single (ValueType.Structured owner))
    → ((made : ExprType) → ¬ StepTyped (slots_in context) asked (expr_type context.schema.now type) made) × StepReason (slots_in context) asked (expr_type context.schema.now type) TypeFaultCode.UnknownProperty
no_owner laws context asked (EdmType.Single (ValueType.Structured owner)) other = absurd (other owner refl)
no_owner laws context asked _ other = ((λ made typed. typed), refl)

-- a fault with that reason and that span is the first of the step
pub member_refused_so :
    (laws : LawsBelow) (context : CheckContext) (judged : Judged) (base : Tree) (type : ExprType) (fault : Option TypeFault)
    → Typed (slots_in context) (root_in context) (scope_of context) base type
    → ((made : ExprType) → ¬ StepTyped (slots_in context) (name_of context judged) type made)
    → IsSomeAnd fault (λ f. StepReason (slots_in context) (name_of context judged) type f.code)
    → IsSomeAnd fault (λ f. f.span ≡ judged.node.now.span)
    → IfSome fault (IsFirstUntypable (slots_in context) (root_in context) (scope_of context) (tree_over judged (member base (name_of context judged))))
member_refused_so laws context judged base type (Some fault) typed untyped reason span =
    subst (λ (s : Span). IsFirstUntypable (slots_in context) (root_in context) (scope_of context) (tree_over judged (member base (name_of context judged))) (record { code = fault.code; span = s })) (sym span)
    (refused_step laws (slots_in context) (root_in context) (scope_of context) judged.node.now.span base (name_of context judged) type fault.code typed untyped reason)
member_refused_so laws context judged base type None typed untyped reason span = absurd reason
