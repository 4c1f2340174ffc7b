-- A text is refused for one reason at most, and then it is not a filter.
use Rattle.std.proofs.Common.{◌≡◌, sym, ◌∙◌, ap, subst, inl, inr, ℕ, ◌≤◌, List, [], length, Option, Some, None, MatchOption, arith}
use Rattle.odata_text.specs.TokenModel.{TokenModel}
use Rattle.odata_text.specs.TokenSequence.{AreTextTokens}
use Rattle.odata_text.specs.Tokens.{IsTextFault, IsTokenList}
use Rattle.odata_text.specs.declared.text_fault.TextFault.{TextFault}
use Rattle.odata_text.specs.declared.span.Span.{Span}
use Rattle.odata_syntax.specs.Grammar.{Derives, or_level}
use Rattle.odata_syntax.specs.Parse.{HasNoParse, IsExpression, IsSyntaxFault}
use Rattle.odata_syntax.specs.Tree.{Tree, node, literal, it, name, member, count, binary, has, in_list, in_path, call, any_item, lambda, start_of, stop_of}
use Rattle.odata_syntax.specs.declared.node.LiteralKind.{LiteralKind}
use Rattle.odata_syntax.specs.declared.syntax_fault.SyntaxFault.{SyntaxFault}
use Rattle.csdl_schema.specs.ExprType.{ExprType, single, collection, structured}
use Rattle.csdl_schema.specs.SchemaModel.{PropertyModel, PropertyType, Slots, declared, opaque, navigation}
use Rattle.odata_signatures.specs.declared.refusal.Refusal.{Refusal}
use Rattle.odata_signatures.specs.declared.refusal.TypeFault.{TypeFault}
use Rattle.odata_signatures.specs.declared.refusal.TypeFaultCode.{TypeFaultCode}
use Rattle.odata_signatures.specs.CallTyped.{CallReason}
use Rattle.odata_signatures.specs.declared.call.CallFault.{CallFault}
use Rattle.odata_signatures.specs.ExprTypes.{IsBooleanOrNull}
use Rattle.odata_signatures.specs.FirstUntypable.{code_of_call, UnresolvedReason, IsFirstUntypable, IsNotBoolean, IsReason, IsTypeFault, LambdaReason, LiteralReason, OperandReason, PathReason, PropertyReason, SidesReason, StepReason}
use Rattle.odata_signatures.specs.HasTyping.{HasNoTyping, HasTree, HasTypeFault, IsRefusal}
use Rattle.odata_signatures.specs.Laws.{OneUntypableStart}
use Rattle.odata_signatures.specs.OperatorTyped.{OfOneSide}
use Rattle.odata_signatures.specs.QuotedNumber.{LacksNumber}
use Rattle.odata_signatures.specs.Reads.{OneLacksNumber}
use Rattle.odata_signatures.specs.Sides.{quoted_text, side_of}
use Rattle.odata_signatures.specs.Typed.{Scope, Typed, property_named, variable_type}
use Rattle.odata_signatures.proofs.tree_types.OneType.{AreTyped-one, OneCallType, Typed-one}
use Rattle.odata_signatures.proofs.untypable.Untypable.{untypable_blocks}

-- what is known of texts, tokens and trees
pub record Readings : Type 0 where
  pub text_fault : (text : List ℕ) (a b : TextFault) → IsTextFault text a → IsTextFault text b → a ≡ b
  pub list : (text : List ℕ) (a b : List TokenModel) → IsTokenList text a → IsTokenList text b → a ≡ b
  pub not_both : (text : List ℕ) (fault : TextFault) (list : List TokenModel) → IsTextFault text fault → IsTokenList text list → ⊥
  pub spelled : (text : List ℕ) (list : List TokenModel) → IsTokenList text list → AreTextTokens 0 (length text) list
  pub tree : (ts : List TokenModel) (a b : Tree) → Derives or_level ts a → Derives or_level ts b → a ≡ b
  pub syntax_fault : (ts : List TokenModel) (len : ℕ) (a b : SyntaxFault) → IsSyntaxFault ts len a → IsSyntaxFault ts len b → a ≡ b
  pub faults_have_no_tree : (ts : List TokenModel) (len : ℕ) (fault : SyntaxFault) → IsSyntaxFault ts len fault → HasNoParse ts
  pub start : OneUntypableStart
  pub call_type : OneCallType
  pub call_reason : (name : List ℕ) (types : List ExprType) (a b : CallFault) → CallReason name types a → CallReason name types b → a ≡ b

-- one reason for a node
literal_reason : (kind : LiteralKind) (a b : TypeFaultCode) → LiteralReason kind a → LiteralReason kind b → a ≡ b
literal_reason LiteralKind.EnumLit a b x y = x ∙ sym y
literal_reason _ a b x y = x ∙ sym y

property_reason : (kind : PropertyType) (a b : TypeFaultCode) → PropertyReason kind a → PropertyReason kind b → a ≡ b
property_reason (declared type) a b x y = absurd x
property_reason opaque a b x y = x ∙ sym y
property_reason (navigation None) a b x y = x ∙ sym y
property_reason (navigation (Some type)) a b x y = absurd x

found_reason :
    (found : Option PropertyModel) (a b : TypeFaultCode)
    → MatchOption found (a ≡ TypeFaultCode.UnknownProperty) (λ p. PropertyReason p.type_of a)
    → MatchOption found (b ≡ TypeFaultCode.UnknownProperty) (λ p. PropertyReason p.type_of b)
    → a ≡ b
found_reason None a b x y = x ∙ sym y
found_reason (Some p) a b x y = property_reason p.type_of a b x y

step_reason : (slots : Slots) (asked : List ℕ) (type : ExprType) (a b : TypeFaultCode) → StepReason slots asked type a → StepReason slots asked type b → a ≡ b
step_reason slots asked (single (structured owner)) a b x y = found_reason (property_named (slots.properties owner) asked) a b x y
step_reason slots asked _ a b x y = x ∙ sym y

path_reason : (type : ExprType) (a b : TypeFaultCode) → PathReason type a → PathReason type b → a ≡ b
path_reason (collection members) a b x y = x ∙ sym y
path_reason _ a b x y = x ∙ sym y

fresh_reason :
    (bound : Option ExprType) (a b : TypeFaultCode)
    → MatchOption bound (a ≡ TypeFaultCode.BodyNotBoolean) (λ _. a ≡ TypeFaultCode.VariableTaken)
    → MatchOption bound (b ≡ TypeFaultCode.BodyNotBoolean) (λ _. b ≡ TypeFaultCode.VariableTaken)
    → a ≡ b
fresh_reason None a b x y = x ∙ sym y
fresh_reason (Some t) a b x y = x ∙ sym y

lambda_reason : (scope : Scope) (variable : List ℕ) (type : ExprType) (a b : TypeFaultCode) → LambdaReason scope variable type a → LambdaReason scope variable type b → a ≡ b
lambda_reason scope variable (collection members) a b x y = fresh_reason (variable_type scope variable) a b x y
lambda_reason scope variable _ a b x y = x ∙ sym y

operand_reason : (Lacks : Type 0) (a b : TypeFaultCode) → OperandReason Lacks a → OperandReason Lacks b → a ≡ b
operand_reason Lacks a b (inl x) (inl y) = x.1 ∙ sym y.1
operand_reason Lacks a b (inl x) (inr y) = absurd (y.0 x.0)
operand_reason Lacks a b (inr x) (inl y) = absurd (x.0 y.0)
operand_reason Lacks a b (inr x) (inr y) = x.1 ∙ sym y.1

unresolved_reason : (Left : ExprType → Type 0) (Lacks : ExprType → Type 0) (a b : TypeFaultCode) → ((s t : ExprType) → Left s → Left t → s ≡ t)
    → UnresolvedReason Left Lacks a → UnresolvedReason Left Lacks b → a ≡ b
unresolved_reason Left Lacks a b one x y =
    operand_reason (Lacks x.0) a b x.2 (subst (λ (t : ExprType). OperandReason (Lacks t) b) (one y.0 x.0 y.1 x.1) y.2)

sides_reason : (Left Right : ExprType → Type 0) (Lacks : ExprType → ExprType → Type 0) (a b : TypeFaultCode) → ((s t : ExprType) → Left s → Left t → s ≡ t)
    → ((s t : ExprType) → Right s → Right t → s ≡ t) → SidesReason Left Right Lacks a → SidesReason Left Right Lacks b → a ≡ b
sides_reason Left Right Lacks a b one_left one_right x y =
    operand_reason (Lacks x.0 x.1) a b x.4
    (subst (λ (t : ExprType). OperandReason (Lacks x.0 t) b) (one_right y.1 x.1 y.3 x.3)
    (subst (λ (t : ExprType). OperandReason (Lacks t y.1) b) (one_left y.0 x.0 y.2 x.2) y.4))

one_reason : Readings → (slots : Slots) (root : List ℕ) (scope : Scope) (tree : Tree) (a b : TypeFaultCode) → IsReason slots root scope tree a → IsReason slots root scope tree b → a ≡ b
one_reason known slots root scope (node start stop (literal kind spelling)) a b x y = literal_reason kind a b x y
one_reason known slots root scope (node start stop it) a b x y = absurd x
one_reason known slots root scope (node start stop (name asked)) a b x y = found_reason (property_named (slots.properties root) asked) a b x y
one_reason known slots root scope (node start stop (member base asked)) a b x y =
    let same : y.0 ≡ x.0 = Typed-one known.call_type slots root scope base y.0 x.0 y.1 x.1 in
    step_reason slots asked x.0 a b x.2 (subst (λ (t : ExprType). StepReason slots asked t b) same y.2)
one_reason known slots root scope (node start stop (count base)) a b x y = x ∙ sym y
one_reason known slots root scope (node start stop (binary operator left right)) a b x y =
    sides_reason (Typed slots root scope left) (Typed slots root scope right) (λ l r. OfOneSide (LacksNumber slots) operator (side_of left l) (side_of right r)) a b
    (Typed-one known.call_type slots root scope left) (Typed-one known.call_type slots root scope right) x y
one_reason known slots root scope (node start stop (has left right)) a b x y =
    unresolved_reason (Typed slots root scope left) (λ l. LacksNumber slots l (quoted_text right)) a b (Typed-one known.call_type slots root scope left) x y
one_reason known slots root scope (node start stop (in_list left items)) a b x y =
    unresolved_reason (Typed slots root scope left) (λ l. OneLacksNumber slots l items) a b (Typed-one known.call_type slots root scope left) x y
one_reason known slots root scope (node start stop (in_path left path)) a b x y =
    let same : y.0 ≡ x.0 = Typed-one known.call_type slots root scope path y.0 x.0 y.1 x.1 in
    path_reason x.0 a b x.2 (subst (λ (t : ExprType). PathReason t b) same y.2)
one_reason known slots root scope (node start stop (call asked arguments)) a b x y =
    let same : y.types ≡ x.types = AreTyped-one known.call_type slots root scope arguments y.types x.types y.arguments_typed x.arguments_typed in
    let reason : CallReason asked x.types y.fault = subst (λ (ts : List ExprType). CallReason asked ts y.fault) same y.reason in
    x.same ∙ ap code_of_call (known.call_reason asked x.types x.fault y.fault x.reason reason) ∙ sym y.same
one_reason known slots root scope (node start stop (any_item base)) a b x y = x ∙ sym y
one_reason known slots root scope (node start stop (lambda quantifier base variable body)) a b x y =
    let same : y.0 ≡ x.0 = Typed-one known.call_type slots root scope base y.0 x.0 y.1 x.1 in
    lambda_reason scope variable x.0 a b x.2 (subst (λ (t : ExprType). LambdaReason scope variable t b) same y.2)
one_reason known slots root scope (node start stop shape) a b x y = x ∙ sym y

same_span : (a b : Span) → a.start ≡ b.start → a.stop ≡ b.stop → a ≡ b
same_span a b s e =
    let made : ℕ → ℕ → Span = λ n m. record { start = n; stop = m } in
    ap (λ n. made n a.stop) s ∙ ap (λ n. made b.start n) e

same_fault : (a b : TypeFault) → a.code ≡ b.code → a.span.start ≡ b.span.start → a.span.stop ≡ b.span.stop → a ≡ b
same_fault a b c s e =
    let made : TypeFaultCode → Span → TypeFault = λ code span. record { code = code; span = span } in
    ap (λ code. made code a.span) c ∙ ap (λ span. made b.code span) (same_span a.span b.span s e)

-- one first untypable node
one_first : Readings → (slots : Slots) (root : List ℕ) (scope : Scope) (tree : Tree) (a b : TypeFault) → IsExpression tree → IsFirstUntypable slots root scope tree a → IsFirstUntypable slots root scope tree b → a ≡ b
one_first known slots root scope tree a b e x y =
    let before : start_of x.part ≤ start_of y.part = x.first y.at y.part y.untypable in
    let behind : start_of y.part ≤ start_of x.part = y.first x.at x.part x.untypable in
    let one = known.start slots root scope tree x.at y.at x.part y.part e x.untypable y.untypable (omega arith) in
    let there : IsReason slots root x.at y.part b.code = subst (λ (s : Scope). IsReason slots root s y.part b.code) (sym one.0) y.reason in
    let reason : IsReason slots root x.at x.part b.code = subst (λ (t : Tree). IsReason slots root x.at t b.code) (sym one.1) there in
    same_fault a b (one_reason known slots root x.at x.part a.code b.code x.reason reason)
    (x.starts ∙ ap start_of one.1 ∙ sym y.starts)
    (x.stops ∙ ap stop_of one.1 ∙ sym y.stops)

one_not_boolean : (slots : Slots) (root : List ℕ) (tree : Tree) (len : ℕ) (a b : TypeFault) → IsNotBoolean slots root tree len a → IsNotBoolean slots root tree len b → a ≡ b
one_not_boolean slots root tree len a b x y =
    same_fault a b (x.reason ∙ sym y.reason) (x.starts ∙ sym y.starts) (x.stops ∙ sym y.stops)

untypable_or_typed : Readings → (slots : Slots) (root : List ℕ) (tree : Tree) (len : ℕ) (a b : TypeFault) → IsFirstUntypable slots root [] tree a → IsNotBoolean slots root tree len b → ⊥
untypable_or_typed known slots root tree len a b x y = untypable_blocks known.call_type slots root [] tree a x (y.type_of, y.typed)

one_type_fault : Readings → (slots : Slots) (root : List ℕ) (tree : Tree) (len : ℕ) (a b : TypeFault) → IsExpression tree → IsTypeFault slots root tree len a → IsTypeFault slots root tree len b → a ≡ b
one_type_fault known slots root tree len a b e (inl x) (inl y) = one_first known slots root [] tree a b e x y
one_type_fault known slots root tree len a b e (inl x) (inr y) = absurd (untypable_or_typed known slots root tree len a b x y)
one_type_fault known slots root tree len a b e (inr x) (inl y) = absurd (untypable_or_typed known slots root tree len b a y x)
one_type_fault known slots root tree len a b e (inr x) (inr y) = one_not_boolean slots root tree len a b x y

-- one tree of a text, which is an expression
text_tree : Readings → (text : List ℕ) (a b : Tree) → HasTree text a → HasTree text b → a ≡ b
text_tree known text a b x y =
    let same = known.list text x.models y.models x.tokens y.tokens in
    known.tree y.models a b (subst (λ (ts : List TokenModel). Derives or_level ts a) same x.parse.derived) y.parse.derived

expression : Readings → (text : List ℕ) (tree : Tree) → HasTree text tree → IsExpression tree
expression known text tree x = record {
  tokens = x.models;
  length = length text;
  of_text = known.spelled text x.models x.tokens;
  parsed = x.parse;
}

text_or_tree : Readings → (text : List ℕ) (fault : TextFault) (tree : Tree) → IsTextFault text fault → HasTree text tree → ⊥
text_or_tree known text fault tree x y = known.not_both text fault y.models x y.tokens

syntax_or_tree : Readings → (slots : Slots) (root text : List ℕ) (fault : SyntaxFault) (tree : Tree) → IsRefusal slots root text (Refusal.Syntax fault) → HasTree text tree → ⊥
syntax_or_tree known slots root text fault tree x y =
    let same = known.list text x.models y.models x.tokens y.tokens in
    known.faults_have_no_tree y.models (length text) fault (subst (λ (ts : List TokenModel). IsSyntaxFault ts (length text) fault) same x.fault_of) tree y.parse

one_syntax_fault : Readings → (slots : Slots) (root text : List ℕ) (a b : SyntaxFault) → IsRefusal slots root text (Refusal.Syntax a) → IsRefusal slots root text (Refusal.Syntax b) → a ≡ b
one_syntax_fault known slots root text a b x y =
    let same = known.list text x.models y.models x.tokens y.tokens in
    known.syntax_fault y.models (length text) a b (subst (λ (ts : List TokenModel). IsSyntaxFault ts (length text) a) same x.fault_of) y.fault_of

one_typing_fault : Readings → (slots : Slots) (root text : List ℕ) (a b : TypeFault) → HasTypeFault slots root text a → HasTypeFault slots root text b → a ≡ b
one_typing_fault known slots root text a b x y =
    let same = text_tree known text x.tree y.tree x.has_tree y.has_tree in
    one_type_fault known slots root y.tree (length text) a b (expression known text y.tree y.has_tree)
    (subst (λ (t : Tree). IsTypeFault slots root t (length text) a) same x.fault_of) y.fault_of

pub one_refusal : Readings → (slots : Slots) (root text : List ℕ) (a b : Refusal) → IsRefusal slots root text a → IsRefusal slots root text b → a ≡ b
one_refusal known slots root text (Refusal.Text a) (Refusal.Text b) x y = ap Refusal.Text (known.text_fault text a b x y)
one_refusal known slots root text (Refusal.Text a) (Refusal.Syntax b) x y = absurd (known.not_both text a y.models x y.tokens)
one_refusal known slots root text (Refusal.Text a) (Refusal.Typing b) x y = absurd (text_or_tree known text a y.tree x y.has_tree)
one_refusal known slots root text (Refusal.Syntax a) (Refusal.Text b) x y = absurd (known.not_both text b x.models y x.tokens)
one_refusal known slots root text (Refusal.Syntax a) (Refusal.Syntax b) x y = ap Refusal.Syntax (one_syntax_fault known slots root text a b x y)
one_refusal known slots root text (Refusal.Syntax a) (Refusal.Typing b) x y = absurd (syntax_or_tree known slots root text a y.tree x y.has_tree)
one_refusal known slots root text (Refusal.Typing a) (Refusal.Text b) x y = absurd (text_or_tree known text b x.tree y x.has_tree)
one_refusal known slots root text (Refusal.Typing a) (Refusal.Syntax b) x y = absurd (syntax_or_tree known slots root text b x.tree y x.has_tree)
one_refusal known slots root text (Refusal.Typing a) (Refusal.Typing b) x y = ap Refusal.Typing (one_typing_fault known slots root text a b x y)
one_refusal known slots root text Refusal.Memory b x y = absurd x
one_refusal known slots root text a Refusal.Memory x y = absurd y

-- a tree with a fault of types has no type that a filter may have
fault_untyped : Readings → (slots : Slots) (root : List ℕ) (tree : Tree) (len : ℕ) (fault : TypeFault) (type : ExprType) → IsTypeFault slots root tree len fault → Typed slots root [] tree type → IsBooleanOrNull type → ⊥
fault_untyped known slots root tree len fault type (inl x) typed truth = untypable_blocks known.call_type slots root [] tree fault x (type, typed)
fault_untyped known slots root tree len fault type (inr x) typed truth =
    x.other (subst IsBooleanOrNull (Typed-one known.call_type slots root [] tree type x.type_of typed x.typed) truth)

pub refused_untyped : Readings → (slots : Slots) (root text : List ℕ) (refusal : Refusal) → IsRefusal slots root text refusal → HasNoTyping slots root text
refused_untyped known slots root text (Refusal.Text fault) x tree typing = text_or_tree known text fault tree x typing.has_tree
refused_untyped known slots root text (Refusal.Syntax fault) x tree typing = syntax_or_tree known slots root text fault tree x typing.has_tree
refused_untyped known slots root text (Refusal.Typing fault) x tree typing =
    let same = text_tree known text x.tree tree x.has_tree typing.has_tree in
    fault_untyped known slots root tree (length text) fault typing.type_of
    (subst (λ (t : Tree). IsTypeFault slots root t (length text) fault) same x.fault_of) typing.typed typing.truth
refused_untyped known slots root text Refusal.Memory x tree typing = x
