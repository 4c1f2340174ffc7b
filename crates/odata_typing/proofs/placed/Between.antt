-- Nodes between two operands.
use Rattle.odata_typing.proofs.Common.{◌≡◌, ◌∙◌, refl, sym, ap, subst, inl, inr, ℕ, ℤ, ◌+◌, List, [], ◌∷◌, Bool, true, false, None, Some, Option, IfNone, IfSome, slice_get, arith, Tree, ExprType, SchemaModel, IsResolvedBy, ResolvedNumber, Side, quoting, IsTypeThere, expr_type, IsReason, Between, quoted_text, side_of, Scope, FlatTree, number_put, NumberStands, Stands, Judged, CheckContext, Walk, InfixByTypes, InfixReason, InfixTyped, IsInfix, infix_shape, AreChildren, IsNodeJudged, IsStanding, LawsBelow, quoted_in, IsNodeReady, scope_of, IsReadPut, truth_type, walk_put, walk_refused, CheckedNode, ◌⊎◌, ◌<◌, ◌≤◌, boolean_type}
use Rattle.std.specs.Option.{option_map}
use Rattle.odata_syntax.specs.declared.binary_operator.BinaryOperator.{BinaryOperator}
use Rattle.odata_signatures.specs.declared.edm_type.EdmType.{EdmType}
use Rattle.odata_signatures.specs.declared.refusal.TypeFaultCode.{TypeFaultCode}
use Rattle.odata_checked_filter.specs.declared.checked_node.NodeKind.{NodeKind}
use Rattle.odata_typing.specs.declared.binary_node.OperandTypes.{OperandTypes}
use Rattle.odata_typing.specs.declared.operand_text.OperandRead.{OperandRead}
use Rattle.odata_typing.specs.private.OperandTexts.{IsLeftRead, IsOperandRead, IsRightRead, OneIsRead, left_side, right_side}
use Rattle.odata_typing.proofs.flat.Closing.{IsPutFor, put_changed, refused_tree, root_in, slots_in, tree_over, unjudged}
use Rattle.odata_typing.proofs.flat.Idle.{idle_between}
use Rattle.odata_typing.proofs.flat.Kept.{IsOnward, kept_wider, same_kept, same_more}
use Rattle.odata_typing.proofs.forms.Infix.{LeftStands, RightStands, infix_kind, infix_stands, infix_text, infix_types, infix_valued}
use Rattle.odata_typing.proofs.resolved_operands.Given.{number_changes, number_given}
use Rattle.odata_typing.proofs.resolved_operands.Infixes.{flags_unread, left_alone, left_read_typed, left_unread, right_alone, right_read_typed, right_unread, typed_types, types_typed, unknown_reason, unknown_untyped, unread_reason}
use Rattle.odata_typing.proofs.placed.Quoted.{quoted_standing}
use Rattle.odata_typing.proofs.untypable.Operands.{refused_between}

-- the two children stand side by side
pub record AreTwo (context : CheckContext) (walk : Walk) (judged : Judged) (l r : Tree) : Type 0 where
  pub middle : ℕ
  pub left : IsStanding context.schema.now context.filtered_type (scope_of context) walk (judged.number + 1) middle l
  pub right : IsStanding context.schema.now context.filtered_type (scope_of context) walk middle judged.stop r

pub two_children : (context : CheckContext) (walk : Walk) (judged : Judged) (l r : Tree) → AreChildren context walk judged (l ∷ r ∷ []) → AreTwo context walk judged l r
two_children context walk judged l r over = record {
  middle = over.middle;
  left = over.left;
  right = subst (λ (j : ℕ). IsStanding context.schema.now context.filtered_type (scope_of context) walk over.middle j r) over.right.right over.right.left;
}

-- a node's type and what it quotes, as the side of its tree
pub same_side : (schema : SchemaModel) (n : ℕ) (scope : Scope) (walk : Walk) (i j : ℕ) (tree : Tree) (stands : IsStanding schema n scope walk i j tree) (type : EdmType) (quoted : Option (List ℕ))
    → type ≡ stands.found.edm_type
    → quoted ≡ quoted_in walk.list i stands.found
    → quoting quoted (expr_type schema type) ≡ side_of tree (expr_type schema stands.found.edm_type)
same_side schema n scope walk i j tree stands type quoted same is =
    ap (λ (t : EdmType). quoting quoted (expr_type schema t)) same
    ∙ ap (λ (q : Option (List ℕ)). quoting q (expr_type schema stands.found.edm_type)) (is ∙ quoted_standing schema n scope walk.list i j tree stands.found stands.stands stands.at)

-- what is made of the operands' types
pub record AreMade (schema : SchemaModel) (form : NodeKind) (left right : EdmType) (made : Option EdmType) : Type 0 where
  pub typed : IfSome made (λ type. InfixByTypes form (expr_type schema left) (expr_type schema right) (expr_type schema type))
  pub there : IfSome made (IsTypeThere schema)
  pub none : IfNone made ((type : ExprType) → ¬ InfixByTypes form (expr_type schema left) (expr_type schema right) type)

module _ (laws : LawsBelow) (context : CheckContext) (judged : Judged) (old new : Walk) (form : NodeKind) (l r : Tree) (result : Bool)
    (between : IsInfix form) (ready : IsNodeReady context old judged) (two : AreTwo context old judged l r) where
  abbrev left_type : ExprType
  left_type = expr_type context.schema.now two.left.found.edm_type

  abbrev right_type : ExprType
  right_type = expr_type context.schema.now two.right.found.edm_type

  -- what stands for the operands in a list
  abbrev Stand : NodeKind → FlatTree → Type 0
  Stand kind list =
      LeftStands context.schema.now context.filtered_type (scope_of context) list kind l r (judged.number + 1) two.middle
      × RightStands context.schema.now context.filtered_type (scope_of context) list kind l r two.middle judged.stop

  put_between :
      (mid : Walk) (type : EdmType)
      → IsOnward judged.number judged.stop old mid
      → mid.fault ≡ None
      → result ≡ true
      → new ≡ walk_put mid judged form type []
      → IsTypeThere context.schema.now type
      → Stand form mid.list
      → Between (InfixTyped (slots_in context) form) l r left_type right_type (expr_type context.schema.now type)
      → IsNodeJudged context judged (infix_shape form l r) old new result
  put_between mid type onward fresh goes_on is there stand makes =
      let slots = slots_in context in
      let root = root_in context in
      let scope = scope_of context in
      let schema = context.schema.now in
      let span = judged.node.now.span in
      put_changed context judged laws old mid new (infix_shape form l r) form type result ready onward fresh goes_on
      (subst (λ (text : List ℕ). new ≡ walk_put mid judged form type text) (sym (infix_text form l r between)) is)
      there (infix_kind slots root scope form l r between) (infix_valued mid.list.values slots form l r between)
      ((infix_types slots root scope span.start span.stop form l r (expr_type schema type) between).1
      (record { left = left_type; right = right_type; left_typed = two.left.typed; right_typed = two.right.typed; makes = makes }))
      (infix_stands schema context.filtered_type scope mid.list (judged.number + 1) two.middle judged.stop form l r between stand.0 stand.1)
      (λ idle. idle_between slots root scope span.start span.stop form l r between (two.left.idle (onward.navigates idle)) (two.right.idle (onward.navigates idle)))

  refuse_between :
      (mid : Walk) (code : TypeFaultCode)
      → result ≡ false
      → new ≡ walk_refused mid judged.node.now.span code
      → ((type : ExprType) → ¬ Between (InfixTyped (slots_in context) form) l r left_type right_type type)
      → IsReason (slots_in context) (root_in context) (scope_of context) (tree_over judged (infix_shape form l r)) code
      → IsNodeJudged context judged (infix_shape form l r) old new result
  refuse_between mid code stops is none reason =
      refused_tree context judged old mid new (infix_shape form l r) code result stops is
      (refused_between laws (slots_in context) (root_in context) (scope_of context) judged.node.now.span form l r left_type right_type code between two.left.typed two.right.typed none reason)

  -- the operands where none is read
  unread_stand : (kind : NodeKind) → ¬ OneIsRead IsResolvedBy kind (side_of l left_type) (side_of r right_type) → Stand kind old.list
  unread_stand (NodeKind.Binary operator) unread = (
    inr (left_unread laws (slots_in context) (root_in context) (scope_of context) l r left_type right_type two.left.typed two.right.typed operator unread, two.left.stands),
    inr (right_unread laws (slots_in context) (root_in context) (scope_of context) l r left_type right_type two.left.typed two.right.typed operator unread, two.right.stands),
  )
  unread_stand NodeKind.Has unread = (
    two.left.stands,
    inr (flags_unread laws (slots_in context) (root_in context) (scope_of context) l r left_type right_type two.left.typed two.right.typed unread, two.right.stands),
  )
  unread_stand _ unread = (two.left.stands, two.right.stands)

  -- neither is read, so that the types alone count
  pub judged_between :
      (made : Option EdmType) (code : TypeFaultCode)
      → ¬ OneIsRead IsResolvedBy form (side_of l left_type) (side_of r right_type)
      → InfixReason form right_type code
      → AreMade context.schema.now form two.left.found.edm_type two.right.found.edm_type made
      → IsPutFor made result new (λ type. walk_put old judged form type []) (walk_refused old judged.node.now.span code)
      → IsNodeJudged context judged (infix_shape form l r) old new result
  judged_between (Some type) code unread reason makes is =
      put_between old type (same_more old judged.number judged.stop) ready.ready.fresh is.some is.put_is makes.there
      (unread_stand form unread)
      (types_typed (slots_in context) form l r left_type right_type (expr_type context.schema.now type) makes.typed)
  judged_between None code unread reason makes is =
      refuse_between old code is.none is.refused_is
      (λ type typed. makes.none type (typed_types laws (slots_in context) form l r left_type right_type type unread typed))
      (unread_reason laws (slots_in context) (root_in context) (scope_of context) l r left_type right_type two.left.typed two.right.typed judged.node.now.span.start judged.node.now.span.stop form code unread reason)

  -- an operand that is given a number, and one that stands as it did
  given : (i j : ℕ) (tree : Tree) (stands : IsStanding context.schema.now context.filtered_type (scope_of context) old i j tree) (operand : ExprType) (number : ℤ)
      → ResolvedNumber (slots_in context) operand (quoted_text tree) number
      → NumberStands context.schema.now context.filtered_type (scope_of context) (number_put old.list i stands.found number) number i j tree
  given i j tree stands operand number is =
      number_given context.schema.now context.filtered_type (scope_of context) old.list (number_put old.list i stands.found number) i j j j tree stands.found operand number is stands.at
      (same_kept j j (number_put old.list i stands.found number)) stands.order stands.stands

  stays : (place from to : ℕ) (tree : Tree) (found : CheckedNode) (number : ℤ) → (to ≤ place) ⊎ (place + 1 ≤ from)
      → Stands context.schema.now context.filtered_type (scope_of context) old.list from to tree
      → Stands context.schema.now context.filtered_type (scope_of context) (number_put old.list place found number) from to tree
  stays place from to tree found number =
      laws.kept context.schema.now context.filtered_type (scope_of context) old.list (number_put old.list place found number) place (place + 1) from to tree (number_changes old.list place found number)

  -- what stands for both then
  right_given : (kind : NodeKind) (number : ℤ) → IsRightRead (slots_in context) kind (side_of l left_type) (side_of r right_type) number → Stand kind (number_put old.list two.middle two.right.found number)
  right_given (NodeKind.Binary operator) number is = (
    inr (
      left_alone laws (slots_in context) (root_in context) (scope_of context) l r left_type right_type two.left.typed two.right.typed operator number is.1,
      stays two.middle (judged.number + 1) two.middle l two.right.found number (inl (omega arith)) two.left.stands,
    ),
    inl (number, record { type_of = left_type; beside = (is.0, two.left.typed); number = is.1 }, given two.middle judged.stop r two.right left_type number is.1),
  )
  right_given NodeKind.Has number is = (
    stays two.middle (judged.number + 1) two.middle l two.right.found number (inl (omega arith)) two.left.stands,
    inl (number, record { type_of = left_type; beside = two.left.typed; number = is }, given two.middle judged.stop r two.right left_type number is),
  )
  right_given _ number is = absurd is

  left_given : (kind : NodeKind) (number : ℤ) → IsLeftRead (slots_in context) kind (side_of l left_type) (side_of r right_type) number → Stand kind (number_put old.list (judged.number + 1) two.left.found number)
  left_given (NodeKind.Binary operator) number is = (
    inl (number, record { type_of = right_type; beside = (is.0, two.right.typed); number = is.2 }, given (judged.number + 1) two.middle l two.left right_type number is.2),
    inr (
      right_alone laws (slots_in context) (root_in context) (scope_of context) l r left_type right_type two.left.typed two.right.typed operator is.1,
      stays (judged.number + 1) two.middle judged.stop r two.left.found number (inr (let a = two.left.order in omega arith)) two.right.stands,
    ),
  )
  left_given _ number is = absurd is

  -- as the code puts the number of the operand at an index, or an allocation failed
  read_put :
      (place : ℕ) (found : CheckedNode) (number : ℤ) (done : Bool)
      → slice_get old.list.nodes place ≡ Some found
      → judged.number ≤ place
      → place < judged.stop
      → Stand form (number_put old.list place found number)
      → Between (InfixTyped (slots_in context) form) l r left_type right_type boolean_type
      → result ≡ done
      → IsReadPut old judged form place number new done
      → IsNodeJudged context judged (infix_shape form l r) old new result
  read_put place found number true at below above stand makes goes_on put =
      let is = put.1 found at in
      let onward : IsOnward judged.number judged.stop old put.0 = rw is (record {
        kept = kept_wider place (place + 1) judged.number judged.stop old.list (number_put old.list place found number) below (omega arith) (number_changes old.list place found number);
        navigates = λ idle. idle;
      }) in
      put_between put.0 truth_type onward (ap (λ (w : Walk). w.fault) is ∙ ready.ready.fresh) goes_on put.2 tt (subst (Stand form) (sym (ap (λ (w : Walk). w.list) is)) stand) makes
  read_put place found number false at below above stand makes stops put =
      unjudged context judged old new (infix_shape form l r) result stops (ap (λ (w : Walk). w.fault) put ∙ ready.ready.fresh)

-- the same by the types of the code, and by what the operands quote there
module _ (laws : LawsBelow) (context : CheckContext) (judged : Judged) (old new : Walk) (form : NodeKind) (l r : Tree) (result : Bool)
    (between : IsInfix form) (ready : IsNodeReady context old judged) (two : AreTwo context old judged l r) (types : OperandTypes)
    (same_left : types.left ≡ two.left.found.edm_type) (same_right : types.right ≡ two.right.found.edm_type)
    (quoted_left : option_map (λ spelling. spelling.now) types.left_quoted ≡ quoted_in old.list (judged.number + 1) two.left.found)
    (quoted_right : option_map (λ spelling. spelling.now) types.right_quoted ≡ quoted_in old.list two.middle two.right.found) where
  left_is : left_side context.schema.now types ≡ side_of l (expr_type context.schema.now two.left.found.edm_type)
  left_is = same_side context.schema.now context.filtered_type (scope_of context) old (judged.number + 1) two.middle l two.left types.left _ same_left quoted_left

  right_is : right_side context.schema.now types ≡ side_of r (expr_type context.schema.now two.right.found.edm_type)
  right_is = same_side context.schema.now context.filtered_type (scope_of context) old two.middle judged.stop r two.right types.right _ same_right quoted_right

  read_is : (read : OperandRead) → IsOperandRead (slots_in context) form (left_side context.schema.now types) (right_side context.schema.now types) read
      → IsOperandRead (slots_in context) form (side_of l (expr_type context.schema.now two.left.found.edm_type)) (side_of r (expr_type context.schema.now two.right.found.edm_type)) read
  read_is read is =
      subst (λ (s : Side). IsOperandRead (slots_in context) form (side_of l (expr_type context.schema.now two.left.found.edm_type)) s read) right_is
      (subst (λ (s : Side). IsOperandRead (slots_in context) form s (right_side context.schema.now types) read) left_is is)

  pub infix_unread :
      (made : Option EdmType) (code : TypeFaultCode)
      → IsOperandRead (slots_in context) form (left_side context.schema.now types) (right_side context.schema.now types) OperandRead.Neither
      → InfixReason form (expr_type context.schema.now types.right) code
      → AreMade context.schema.now form types.left types.right made
      → IsPutFor made result new (λ type. walk_put old judged form type []) (walk_refused old judged.node.now.span code)
      → IsNodeJudged context judged (infix_shape form l r) old new result
  infix_unread made code unread reason makes =
      let schema = context.schema.now in
      judged_between laws context judged old new form l r result between ready two made code (read_is OperandRead.Neither unread)
      (subst (λ (t : EdmType). InfixReason form (expr_type schema t) code) same_right reason)
      (subst (λ (t : EdmType). AreMade schema form two.left.found.edm_type t made) same_right (subst (λ (t : EdmType). AreMade schema form t types.right made) same_left makes))

  pub infix_right :
      (place : ℕ) (number : ℤ)
      → place ≡ two.middle
      → IsOperandRead (slots_in context) form (left_side context.schema.now types) (right_side context.schema.now types) (OperandRead.Right number)
      → IsReadPut old judged form place number new result
      → IsNodeJudged context judged (infix_shape form l r) old new result
  infix_right place number at is put =
      let read = read_is (OperandRead.Right number) is in
      let first : judged.number + 1 < two.middle = two.left.order in
      read_put laws context judged old new form l r result between ready two two.middle two.right.found number result two.right.at (omega arith) two.right.order
      (right_given laws context judged old new form l r result between ready two form number read)
      (right_read_typed (slots_in context) form number l r (expr_type context.schema.now two.left.found.edm_type) (expr_type context.schema.now two.right.found.edm_type) read) refl
      (subst (λ (k : ℕ). IsReadPut old judged form k number new result) at put)

  pub infix_left :
      (number : ℤ)
      → IsOperandRead (slots_in context) form (left_side context.schema.now types) (right_side context.schema.now types) (OperandRead.Left number)
      → IsReadPut old judged form (judged.number + 1) number new result
      → IsNodeJudged context judged (infix_shape form l r) old new result
  infix_left number is =
      let read = read_is (OperandRead.Left number) is in
      let first : judged.number + 1 < two.middle = two.left.order in
      let second : two.middle < judged.stop = two.right.order in
      read_put laws context judged old new form l r result between ready two (judged.number + 1) two.left.found number result two.left.at (omega arith) (omega arith)
      (left_given laws context judged old new form l r result between ready two form number read)
      (left_read_typed (slots_in context) form number l r (expr_type context.schema.now two.left.found.edm_type) (expr_type context.schema.now two.right.found.edm_type) read) refl

  pub infix_unknown :
      IsOperandRead (slots_in context) form (left_side context.schema.now types) (right_side context.schema.now types) OperandRead.Unknown
      → result ≡ false
      → new ≡ walk_refused old judged.node.now.span TypeFaultCode.UnknownEnum
      → IsNodeJudged context judged (infix_shape form l r) old new result
  infix_unknown is stops refused =
      let lacks = read_is OperandRead.Unknown is in
      refuse_between laws context judged old new form l r result between ready two old TypeFaultCode.UnknownEnum stops refused
      (λ type. unknown_untyped laws (slots_in context) (root_in context) (scope_of context) l r _ _ two.left.typed two.right.typed form type lacks)
      (unknown_reason laws (slots_in context) (root_in context) (scope_of context) l r _ _ two.left.typed two.right.typed judged.node.now.span.start judged.node.now.span.stop form lacks)

-- an operator between operands of which none may be read
pub operator_unread :
    (laws : LawsBelow) (context : CheckContext) (judged : Judged) (old new : Walk) (operator : BinaryOperator) (l r : Tree) (result : Bool)
    (ready : IsNodeReady context old judged) (two : AreTwo context old judged l r) (left right : EdmType) (made : Option EdmType)
    → left ≡ two.left.found.edm_type
    → right ≡ two.right.found.edm_type
    → ((a b : Option (List ℕ)) → ¬ OneIsRead IsResolvedBy (NodeKind.Binary operator) (quoting a (expr_type context.schema.now left)) (quoting b (expr_type context.schema.now right)))
    → AreMade context.schema.now (NodeKind.Binary operator) left right made
    → IsPutFor made result new (λ type. walk_put old judged (NodeKind.Binary operator) type []) (walk_refused old judged.node.now.span TypeFaultCode.OperandTypes)
    → IsNodeJudged context judged (infix_shape (NodeKind.Binary operator) l r) old new result
operator_unread laws context judged old new operator l r result ready two left right made same_left same_right unread makes =
    let schema = context.schema.now in
    let form : NodeKind = NodeKind.Binary operator in
    judged_between laws context judged old new form l r result tt ready two made TypeFaultCode.OperandTypes
    (subst (λ (t : EdmType). ¬ OneIsRead IsResolvedBy form (side_of l (expr_type schema two.left.found.edm_type)) (side_of r (expr_type schema t))) same_right
    (subst (λ (t : EdmType). ¬ OneIsRead IsResolvedBy form (side_of l (expr_type schema t)) (side_of r (expr_type schema right))) same_left (unread (quoted_text l) (quoted_text r))))
    refl
    (subst (λ (t : EdmType). AreMade schema form two.left.found.edm_type t made) same_right (subst (λ (t : EdmType). AreMade schema form t right made) same_left makes))
