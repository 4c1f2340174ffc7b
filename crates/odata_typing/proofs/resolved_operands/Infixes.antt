-- Nodes between two operands, one of which may be resolved by the other.
use Rattle.odata_typing.proofs.Common.{◌≡◌, refl, subst, inl, inr, ℕ, ℤ, List, Option, Tree, node, ExprType, single, enumeration, Slots, boolean_type, string_type, HasNumber, IsResolvedBy, LacksNumber, ResolvedNumber, IsReason, OfEquality, ReadsNone, Between, quoted_text, side_of, Scope, Typed, InfixByTypes, InfixReason, InfixTyped, infix_shape, LawsBelow}
use Rattle.odata_syntax.specs.declared.binary_operator.BinaryOperator.{BinaryOperator}
use Rattle.odata_syntax.specs.declared.binary_operator.ComparisonOperator.{ComparisonOperator}
use Rattle.odata_signatures.specs.HasTyped.{AreFlags}
use Rattle.odata_signatures.specs.OperatorTyped.{OperatorByTypes, IsEquality, OperatorTyped}
use Rattle.odata_signatures.specs.declared.refusal.TypeFaultCode.{TypeFaultCode}
use Rattle.odata_checked_filter.specs.declared.checked_node.NodeKind.{NodeKind}
use Rattle.odata_typing.specs.private.OperandTexts.{IsLeftRead, IsRightRead, OneIsRead}
use Rattle.odata_typing.proofs.resolved_operands.Numbers.{is_read, reading, reads_none, string_unread}

-- ---- which operands are read

module _ (laws : LawsBelow) (slots : Slots) (root : List ℕ) (scope : Scope) (l r : Tree) (left right : ExprType)
    (left_typed : Typed slots root scope l left) (right_typed : Typed slots root scope r right) where
  one_left : (t : ExprType) → Typed slots root scope l t → t ≡ left
  one_left t typed = laws.one_type slots root scope l t left typed left_typed

  one_right : (t : ExprType) → Typed slots root scope r t → t ≡ right
  one_right t typed = laws.one_type slots root scope r t right typed right_typed

  -- where none is
  pub left_unread : (operator : BinaryOperator) → ¬ OneIsRead IsResolvedBy (NodeKind.Binary operator) (side_of l left) (side_of r right)
      → ReadsNone slots (OfEquality operator (Typed slots root scope r)) l
  left_unread operator unread n reads =
      reads_none slots (OfEquality operator (Typed slots root scope r)) right l (λ t of_r. one_right t of_r.1) (λ read. unread (reads.beside.0, inr read)) n reads

  pub right_unread : (operator : BinaryOperator) → ¬ OneIsRead IsResolvedBy (NodeKind.Binary operator) (side_of l left) (side_of r right)
      → ReadsNone slots (OfEquality operator (Typed slots root scope l)) r
  right_unread operator unread n reads =
      reads_none slots (OfEquality operator (Typed slots root scope l)) left r (λ t of_l. one_left t of_l.1) (λ read. unread (reads.beside.0, inl read)) n reads

  pub flags_unread : ¬ OneIsRead IsResolvedBy NodeKind.Has (side_of l left) (side_of r right) → ReadsNone slots (Typed slots root scope l) r
  flags_unread unread = reads_none slots (Typed slots root scope l) left r one_left unread

  -- where one is, the other one is not
  pub right_alone : (operator : BinaryOperator) → ¬ IsResolvedBy left (quoted_text r) → ReadsNone slots (OfEquality operator (Typed slots root scope l)) r
  right_alone operator unread = reads_none slots (OfEquality operator (Typed slots root scope l)) left r (λ t of_l. one_left t of_l.1) unread

  pub left_alone : (operator : BinaryOperator) (n : ℤ) → ResolvedNumber slots left (quoted_text r) n → ReadsNone slots (OfEquality operator (Typed slots root scope r)) l
  left_alone operator n number =
      let is = reading left (quoted_text r) (is_read slots left (quoted_text r) n number) in
      let same : right ≡ string_type = laws.quotes slots root scope r is.spelling right is.quotes right_typed in
      reads_none slots (OfEquality operator (Typed slots root scope r)) right l (λ t of_r. one_right t of_r.1)
      (λ read. string_unread (quoted_text l) (subst (λ (t : ExprType). IsResolvedBy t (quoted_text l)) same read))

-- ---- the types

pub right_read_typed : (slots : Slots) (form : NodeKind) (n : ℤ) (l r : Tree) (left right : ExprType)
    → IsRightRead slots form (side_of l left) (side_of r right) n → Between (InfixTyped slots form) l r left right boolean_type
right_read_typed slots (NodeKind.Binary operator) n l r left right is = inr ((is.0, inl (n, is.1)), refl)
right_read_typed slots NodeKind.Has n l r left right is = (inr (n, is), refl)
right_read_typed slots _ n l r left right is = absurd is

pub left_read_typed : (slots : Slots) (form : NodeKind) (n : ℤ) (l r : Tree) (left right : ExprType)
    → IsLeftRead slots form (side_of l left) (side_of r right) n → Between (InfixTyped slots form) l r left right boolean_type
left_read_typed slots (NodeKind.Binary operator) n l r left right is = inr ((is.0, inr (n, is.2)), refl)
left_read_typed slots _ n l r left right is = absurd is

-- by their types alone where none is read
pub types_typed : (slots : Slots) (form : NodeKind) (l r : Tree) (left right type : ExprType) → InfixByTypes form left right type
    → Between (InfixTyped slots form) l r left right type
types_typed slots (NodeKind.Binary operator) l r left right type makes = inl makes
types_typed slots NodeKind.Has l r left right type makes = (inl makes.0, makes.1)
types_typed slots NodeKind.InPath l r left right type makes = makes
types_typed slots _ l r left right type makes = absurd makes

pub typed_types : (laws : LawsBelow) (slots : Slots) (form : NodeKind) (l r : Tree) (left right type : ExprType)
    → ¬ OneIsRead IsResolvedBy form (side_of l left) (side_of r right) → Between (InfixTyped slots form) l r left right type
    → InfixByTypes form left right type
typed_types laws slots (NodeKind.Binary operator) l r left right type unread typed = (laws.operands slots operator (side_of l left) (side_of r right) type unread).0 typed
typed_types laws slots NodeKind.Has l r left right type unread typed = (laws.flags slots (side_of l left) (side_of r right) type unread).0 typed
typed_types laws slots NodeKind.InPath l r left right type unread typed = typed
typed_types laws slots _ l r left right type unread typed = absurd typed

-- ---- a text that stands for no number

-- an enumeration and a String do not go together by their types
apart_right : (laws : LawsBelow) (operator : BinaryOperator) (name : List ℕ) (type : ExprType) → IsEquality operator
    → ¬ OperatorByTypes operator (single (enumeration name)) string_type type
apart_right laws (BinaryOperator.Comparison ComparisonOperator.Eq) name type equality typed = (laws.apart ComparisonOperator.Eq name).0 typed.0
apart_right laws (BinaryOperator.Comparison ComparisonOperator.Ne) name type equality typed = (laws.apart ComparisonOperator.Ne name).0 typed.0
apart_right laws _ name type equality typed = equality

apart_left : (laws : LawsBelow) (operator : BinaryOperator) (name : List ℕ) (type : ExprType) → IsEquality operator
    → ¬ OperatorByTypes operator string_type (single (enumeration name)) type
apart_left laws (BinaryOperator.Comparison ComparisonOperator.Eq) name type equality typed = (laws.apart ComparisonOperator.Eq name).1 typed.0
apart_left laws (BinaryOperator.Comparison ComparisonOperator.Ne) name type equality typed = (laws.apart ComparisonOperator.Ne name).1 typed.0
apart_left laws _ name type equality typed = equality

module _ (laws : LawsBelow) (slots : Slots) (root : List ℕ) (scope : Scope) (l r : Tree) (left right : ExprType)
    (left_typed : Typed slots root scope l left) (right_typed : Typed slots root scope r right) where
  -- where one operand is resolved, the other is not
  other_unread : (tree : Tree) (type beside : ExprType) (quoting : Tree) → Typed slots root scope tree type → IsResolvedBy beside (quoted_text tree)
      → ¬ IsResolvedBy type (quoted_text quoting)
  other_unread tree type beside quoting typed read other =
      let is = reading beside (quoted_text tree) read in
      let same : type ≡ string_type = laws.quotes slots root scope tree is.spelling type is.quotes typed in
      string_unread (quoted_text quoting) (subst (λ (t : ExprType). IsResolvedBy t (quoted_text quoting)) same other)

  has_read : (type : ExprType) (quoted : Option (List ℕ)) → HasNumber slots type quoted → IsResolvedBy type quoted
  has_read type quoted number = is_read slots type quoted number.0 number.1

  right_unknown : (operator : BinaryOperator) (type : ExprType) → IsEquality operator → LacksNumber slots left (quoted_text r)
      → ¬ OperatorTyped slots operator (side_of l left) (side_of r right) type
  right_unknown operator type equality lacks (inl typed) =
      let is = reading left (quoted_text r) lacks.read in
      let same : right ≡ string_type = laws.quotes slots root scope r is.spelling right is.quotes right_typed in
      apart_right laws operator is.name type equality
      (subst (λ (t : ExprType). OperatorByTypes operator (single (enumeration is.name)) t type) same
      (subst (λ (t : ExprType). OperatorByTypes operator t right type) is.type_is typed))
  right_unknown operator type equality lacks (inr read) = elim read.0.1 [
    | inl number ↦ lacks.none number
    | inr number ↦ other_unread r right left l right_typed lacks.read (has_read right (quoted_text l) number)
  ]

  left_unknown : (operator : BinaryOperator) (type : ExprType) → IsEquality operator → LacksNumber slots right (quoted_text l)
      → ¬ OperatorTyped slots operator (side_of l left) (side_of r right) type
  left_unknown operator type equality lacks (inl typed) =
      let is = reading right (quoted_text l) lacks.read in
      let same : left ≡ string_type = laws.quotes slots root scope l is.spelling left is.quotes left_typed in
      apart_left laws operator is.name type equality
      (subst (λ (t : ExprType). OperatorByTypes operator t (single (enumeration is.name)) type) same
      (subst (λ (t : ExprType). OperatorByTypes operator left t type) is.type_is typed))
  left_unknown operator type equality lacks (inr read) = elim read.0.1 [
    | inl number ↦ other_unread l left right r left_typed lacks.read (has_read left (quoted_text r) number)
    | inr number ↦ lacks.none number
  ]

  flags_unknown : (type : ExprType) → LacksNumber slots left (quoted_text r) → ¬ Between (InfixTyped slots NodeKind.Has) l r left right type
  flags_unknown type lacks typed = elim typed.0 [
    | inl flags ↦
        let is = reading left (quoted_text r) lacks.read in
        let same : right ≡ string_type = laws.quotes slots root scope r is.spelling right is.quotes right_typed in
        (laws.apart ComparisonOperator.Eq is.name).2
        (subst (λ (t : ExprType). AreFlags (single (enumeration is.name)) t) same (subst (λ (t : ExprType). AreFlags t right) is.type_is flags))
    | inr number ↦ lacks.none number
  ]

  pub unknown_untyped : (form : NodeKind) (type : ExprType) → OneIsRead (LacksNumber slots) form (side_of l left) (side_of r right)
      → ¬ Between (InfixTyped slots form) l r left right type
  unknown_untyped (NodeKind.Binary operator) type lacks typed = elim lacks.1 [
    | inl one ↦ right_unknown operator type lacks.0 one typed
    | inr one ↦ left_unknown operator type lacks.0 one typed
  ]
  unknown_untyped NodeKind.Has type lacks typed = flags_unknown type lacks typed
  unknown_untyped _ type lacks typed = lacks

  pub unknown_reason : (start stop : ℕ) (form : NodeKind) → OneIsRead (LacksNumber slots) form (side_of l left) (side_of r right)
      → IsReason slots root scope (node start stop (infix_shape form l r)) TypeFaultCode.UnknownEnum
  unknown_reason start stop (NodeKind.Binary operator) lacks = (left, right, left_typed, right_typed, inl (lacks, refl))
  unknown_reason start stop NodeKind.Has lacks = (left, left_typed, inl (lacks, refl))
  unknown_reason start stop _ lacks = absurd lacks

  -- and the reason where none is read
  pub unread_reason : (start stop : ℕ) (form : NodeKind) (code : TypeFaultCode) → ¬ OneIsRead IsResolvedBy form (side_of l left) (side_of r right)
      → InfixReason form right code → IsReason slots root scope (node start stop (infix_shape form l r)) code
  unread_reason start stop (NodeKind.Binary operator) code unread reason =
      (left, right, left_typed, right_typed, inr (λ lacks. unread (lacks.0, elim lacks.1 [ inl one ↦ inl one.read | inr one ↦ inr one.read ]), reason))
  unread_reason start stop NodeKind.Has code unread reason = (left, left_typed, inr (λ lacks. unread lacks.read, reason))
  unread_reason start stop NodeKind.InPath code unread reason = (right, right_typed, reason)
  unread_reason start stop _ code unread reason = absurd reason
