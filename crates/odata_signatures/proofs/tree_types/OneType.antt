-- A tree has at most one type.
use Rattle.std.proofs.Common.{◌≡◌, ◌≢◌, refl, sym, ap, ◌∙◌, inl, inr, ℕ, ℤ, List, [], ◌∷◌, ◌++◌, Option, Some, None, subst, arith, MatchOption, IsSomeAnd}
use Rattle.std.specs.List.{AllByRecursion}
use Rattle.edm_values.specs.IntLiteral.{IntNumber}
use Rattle.edm_values.specs.NumberTypes.{IsIntLiteralType}
use Rattle.edm_values.specs.StringLiteral.{quote}
use Rattle.edm_values.specs.declared.primitive.PrimitiveType.{PrimitiveType}
use Rattle.odata_functions.specs.Promotion.{promotion, negation_type}
use Rattle.odata_syntax.specs.Tree.{Tree, Trees, node, literal, it, name, member, count, negation, logical_not, binary, has, in_list, in_path, call, any_item, lambda, more_trees, no_trees}
use Rattle.odata_syntax.specs.declared.node.LiteralKind.{LiteralKind}
use Rattle.csdl_schema.specs.ExprType.{ExprType, null_type, single, collection, primitive, enumeration, structured}
use Rattle.csdl_schema.specs.SchemaModel.{PropertyModel, Slots}
use Rattle.odata_syntax.specs.declared.binary_operator.BinaryOperator.{BinaryOperator}
use Rattle.odata_syntax.specs.declared.binary_operator.ComparisonOperator.{ComparisonOperator}
use Rattle.odata_signatures.specs.ExprTypes.{IsNumberOrNull, boolean_type, number_or_null}
use Rattle.odata_signatures.specs.LiteralValue.{EnumerationLiteral, IntTyped, IsNameAndText, LiteralTyped}
use Rattle.odata_signatures.specs.CallTyped.{CallTyped}
use Rattle.odata_signatures.specs.OperatorTyped.{ArithmeticTyped, OperatorByTypes, IsEquality, NegationTyped, OperatorTyped}
use Rattle.odata_signatures.specs.Side.{Side}
use Rattle.odata_signatures.specs.Sides.{Between, side_of}
use Rattle.odata_signatures.specs.Typed.{AreTyped, Scope, StepTyped, Typed, PropertyTyped, named_type, variable_type, property_named}

-- an Int literal stands for one number at most
one_number : (text : List ℕ) (m n : ℤ) → IntNumber text m → IntNumber text n → m ≡ n
one_number [] m n first second = absurd first
one_number (c ∷ digits) m n first second = grind arith

IsIntLiteralType-one : (n : ℤ) (a b : PrimitiveType) → IsIntLiteralType n a → IsIntLiteralType n b → a ≡ b
IsIntLiteralType-one n a b (inl x) (inl y) = x.1 ∙ sym y.1
IsIntLiteralType-one n a b (inl x) (inr y) = absurd (y.0 x.0)
IsIntLiteralType-one n a b (inr x) (inl y) = absurd (x.0 y.0)
IsIntLiteralType-one n a b (inr x) (inr y) = x.1 ∙ sym y.1

IntTyped-one : (n : ℤ) (a b : ExprType) → IntTyped n a → IntTyped n b → a ≡ b
IntTyped-one n a b x y =
    x.2 ∙ ap (λ (p : PrimitiveType). single (primitive p)) (IsIntLiteralType-one n x.0 y.0 x.1 y.1) ∙ sym y.2

-- what stands before the first quote of a text is one
before_quote :
    (a b x y : List ℕ)
    → AllByRecursion (λ c. c ≢ quote) a
    → AllByRecursion (λ c. c ≢ quote) b
    → a ++ (quote ∷ x) ≡ b ++ (quote ∷ y)
    → a ≡ b
before_quote [] [] x y p q same = refl
before_quote [] (c ∷ b) x y p q same = let e : c ≡ quote = cc in absurd (q.0 e)
before_quote (c ∷ a) [] x y p q same = let e : c ≡ quote = cc in absurd (p.0 e)
before_quote (c ∷ a) (d ∷ b) x y p q same =
    let e : c ≡ d = cc in
    let rest : a ++ (quote ∷ x) ≡ b ++ (quote ∷ y) = cc in
    rw (e, before_quote a b x y p.1 q.1 rest) refl

pub one_name : (spelling a b x y : List ℕ) → IsNameAndText spelling a x → IsNameAndText spelling b y → a ≡ b
one_name spelling a b x y p q = before_quote a b (x ++ quote ∷ []) (y ++ quote ∷ []) p.unquoted q.unquoted (sym p.spelled ∙ q.spelled)

same_name : (o : Option (List ℕ)) (a b : List ℕ) → o ≡ Some a → o ≡ Some b → a ≡ b
same_name o a b x y = cc

-- an enumeration literal is of one enumeration at most
pub one_enumeration :
    (slots : Slots) (spelling a b : List ℕ) (m n : ℤ)
    → EnumerationLiteral slots spelling a m
    → EnumerationLiteral slots spelling b n
    → a ≡ b
one_enumeration slots spelling a b m n x y =
    let asked : x.asked ≡ y.asked = one_name spelling x.asked y.asked x.inner y.inner x.split y.split in
    same_name (slots.enumeration_names y.asked) a b (sym (ap slots.enumeration_names asked) ∙ x.names.named) y.names.named

LiteralTyped-one :
    (slots : Slots) (kind : LiteralKind) (spelling : List ℕ) (a b : ExprType) → LiteralTyped slots kind spelling a → LiteralTyped slots kind spelling b → a ≡ b
LiteralTyped-one slots LiteralKind.Null spelling a b x y = x ∙ sym y
LiteralTyped-one slots LiteralKind.Bool spelling a b x y = x.2 ∙ sym y.2
LiteralTyped-one slots LiteralKind.Int spelling a b x y =
    let P : ℤ → Type 0 = λ (n : ℤ). IntTyped n b in
    IntTyped-one x.0 a b x.2 (subst P (one_number spelling y.0 x.0 y.1.0 x.1.0) y.2)
LiteralTyped-one slots LiteralKind.Date spelling a b x y = x.2 ∙ sym y.2
LiteralTyped-one slots LiteralKind.Moment spelling a b x y = x.2 ∙ sym y.2
LiteralTyped-one slots LiteralKind.Guid spelling a b x y = x.2 ∙ sym y.2
LiteralTyped-one slots LiteralKind.Str spelling a b x y = x.2 ∙ sym y.2
LiteralTyped-one slots LiteralKind.EnumLit spelling a b x y =
    x.3 ∙ ap (λ (q : List ℕ). single (enumeration q)) (one_enumeration slots spelling x.0 y.0 x.1 y.1 x.2 y.2) ∙ sym y.3

FoundTyped-one :
    (found : Option PropertyModel) (a b : ExprType) → IsSomeAnd found (λ p. named_type p.type_of ≡ Some a) → IsSomeAnd found (λ p. named_type p.type_of ≡ Some b) → a ≡ b
FoundTyped-one None a b x y = absurd x
FoundTyped-one (Some p) a b x y = let same : Some a ≡ Some b = sym x ∙ y in cc

BoundTyped-one :
    (bound : Option ExprType) (properties : List PropertyModel) (asked : List ℕ) (a b : ExprType)
    → MatchOption bound (PropertyTyped properties asked a) (λ t. a ≡ t)
    → MatchOption bound (PropertyTyped properties asked b) (λ t. b ≡ t)
    → a ≡ b
BoundTyped-one None properties asked a b x y = FoundTyped-one (property_named properties asked) a b x y
BoundTyped-one (Some t) properties asked a b x y = x ∙ sym y

StepTyped-one : (slots : Slots) (asked : List ℕ) (base a b : ExprType) → StepTyped slots asked base a → StepTyped slots asked base b → a ≡ b
StepTyped-one slots asked (single (structured owner)) a b x y = FoundTyped-one (property_named (slots.properties owner) asked) a b x y
StepTyped-one slots asked _ a b x y = absurd x

-- an operand of arithmetic is of one number type, or of none
pub one_number_type : (type : ExprType) (a b : Option PrimitiveType) → IsNumberOrNull type a → IsNumberOrNull type b → a ≡ b
one_number_type null_type a b x y = x ∙ sym y
one_number_type (single (primitive p)) a b x y = x.1 ∙ sym y.1
one_number_type (single (enumeration e)) a b x y = absurd x
one_number_type (single (structured owner)) a b x y = absurd x
one_number_type (collection s) a b x y = absurd x

ArithmeticTyped-one : (l r a b : ExprType) → ArithmeticTyped l r a → ArithmeticTyped l r b → a ≡ b
ArithmeticTyped-one l r a b x y =
    x.type_is
    ∙ ap (λ (o : Option PrimitiveType). number_or_null (promotion o x.right_number)) (one_number_type l x.left_number y.left_number x.left_is y.left_is)
    ∙ ap (λ (o : Option PrimitiveType). number_or_null (promotion y.left_number o)) (one_number_type r x.right_number y.right_number x.right_is y.right_is)
    ∙ sym y.type_is

NegationTyped-one : (operand a b : ExprType) → NegationTyped operand a → NegationTyped operand b → a ≡ b
NegationTyped-one operand a b x y =
    x.type_is
    ∙ ap (λ (o : Option PrimitiveType). number_or_null (negation_type o)) (one_number_type operand x.number y.number x.operand_is y.operand_is)
    ∙ sym y.type_is

OperatorByTypes-one : (operator : BinaryOperator) (l r a b : ExprType) → OperatorByTypes operator l r a → OperatorByTypes operator l r b → a ≡ b
OperatorByTypes-one (BinaryOperator.Logical logical) l r a b x y = x.2 ∙ sym y.2
OperatorByTypes-one (BinaryOperator.Comparison comparison) l r a b x y = x.1 ∙ sym y.1
OperatorByTypes-one (BinaryOperator.Arithmetic arithmetic) l r a b x y = ArithmeticTyped-one l r a b x y

-- `eq` and `ne` have type Boolean
equality_boolean : (operator : BinaryOperator) (l r a : ExprType) → IsEquality operator → OperatorByTypes operator l r a → a ≡ boolean_type
equality_boolean (BinaryOperator.Comparison ComparisonOperator.Eq) l r a equality x = x.1
equality_boolean (BinaryOperator.Comparison ComparisonOperator.Ne) l r a equality x = x.1
equality_boolean _ l r a equality x = absurd equality

OperatorTyped-one : (slots : Slots) (operator : BinaryOperator) (l r : Side) (a b : ExprType) → OperatorTyped slots operator l r a → OperatorTyped slots operator l r b → a ≡ b
OperatorTyped-one slots operator l r a b (inl x) (inl y) = OperatorByTypes-one operator l.type_of r.type_of a b x y
OperatorTyped-one slots operator l r a b (inl x) (inr y) = equality_boolean operator l.type_of r.type_of a y.0.0 x ∙ sym y.1
OperatorTyped-one slots operator l r a b (inr x) (inl y) = x.1 ∙ sym (equality_boolean operator l.type_of r.type_of b x.0.0 y)
OperatorTyped-one slots operator l r a b (inr x) (inr y) = x.1 ∙ sym y.1

-- a call has at most one type
abbrev pub OneCallType : Type 0
OneCallType = (name : List ℕ) (types : List ExprType) (a b : ExprType) → CallTyped name types a → CallTyped name types b → a ≡ b

module _ (one_call : OneCallType) where
  mutual
    pub Typed-one : (slots : Slots) (root : List ℕ) (scope : Scope) (tree : Tree) (a b : ExprType) → Typed slots root scope tree a → Typed slots root scope tree b → a ≡ b
    Typed-one slots root scope (node start stop (literal kind spelling)) a b x y = LiteralTyped-one slots kind spelling a b x y
    Typed-one slots root scope (node start stop it) a b x y = x ∙ sym y
    Typed-one slots root scope (node start stop (name asked)) a b x y = BoundTyped-one (variable_type scope asked) (slots.properties root) asked a b x y
    Typed-one slots root scope (node start stop (member base asked)) a b x y =
        let P : ExprType → Type 0 = λ (t : ExprType). StepTyped slots asked t b in
        StepTyped-one slots asked x.operand a b x.makes (subst P (Typed-one slots root scope base y.operand x.operand y.operand_typed x.operand_typed) y.makes)
    Typed-one slots root scope (node start stop (count base)) a b x y = x.makes.1 ∙ sym y.makes.1
    Typed-one slots root scope (node start stop (negation operand)) a b x y =
        let P : ExprType → Type 0 = λ (t : ExprType). NegationTyped t b in
        NegationTyped-one x.operand a b x.makes (subst P (Typed-one slots root scope operand y.operand x.operand y.operand_typed x.operand_typed) y.makes)
    Typed-one slots root scope (node start stop (logical_not operand)) a b x y = x.makes.1 ∙ sym y.makes.1
    Typed-one slots root scope (node start stop (binary operator left right)) a b x y =
        let P : ExprType → Type 0 = λ (t : ExprType). Between (OperatorTyped slots operator) left right t y.right b in
        let Q : ExprType → Type 0 = λ (t : ExprType). Between (OperatorTyped slots operator) left right x.left t b in
        OperatorTyped-one slots operator (side_of left x.left) (side_of right x.right) a b x.makes
        (subst Q (Typed-one slots root scope right y.right x.right y.right_typed x.right_typed)
        (subst P (Typed-one slots root scope left y.left x.left y.left_typed x.left_typed) y.makes))
    Typed-one slots root scope (node start stop (has left right)) a b x y = x.makes.1 ∙ sym y.makes.1
    Typed-one slots root scope (node start stop (in_list left items)) a b x y = x.makes.2 ∙ sym y.makes.2
    Typed-one slots root scope (node start stop (in_path left path)) a b x y = x.makes.1 ∙ sym y.makes.1
    Typed-one slots root scope (node start stop (call asked arguments)) a b x y =
        let P : List ExprType → Type 0 = λ (ts : List ExprType). CallTyped asked ts b in
        one_call asked x.types a b x.call_typed
        (subst P (AreTyped-one slots root scope arguments y.types x.types y.arguments_typed x.arguments_typed) y.call_typed)
    Typed-one slots root scope (node start stop (any_item base)) a b x y = x.makes.1 ∙ sym y.makes.1
    Typed-one slots root scope (node start stop (lambda quantifier base variable body)) a b x y = x.makes ∙ sym y.makes

    pub AreTyped-one : (slots : Slots) (root : List ℕ) (scope : Scope) (trees : Trees) (a b : List ExprType) → AreTyped slots root scope trees a → AreTyped slots root scope trees b → a ≡ b
    AreTyped-one slots root scope no_trees [] [] x y = refl
    AreTyped-one slots root scope no_trees [] (t ∷ ts) x y = absurd y
    AreTyped-one slots root scope no_trees (t ∷ ts) b x y = absurd x
    AreTyped-one slots root scope (more_trees tree trees) [] b x y = absurd x
    AreTyped-one slots root scope (more_trees tree trees) (t ∷ ts) [] x y = absurd y
    AreTyped-one slots root scope (more_trees tree trees) (t ∷ ts) (u ∷ us) x y =
        ap (λ (v : ExprType). v ∷ ts) (Typed-one slots root scope tree t u x.0 y.0) ∙ ap (λ (vs : List ExprType). u ∷ vs) (AreTyped-one slots root scope trees ts us x.1 y.1)
