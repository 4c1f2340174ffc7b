-- Literals, operators and calls have an outcome: a value of the type of their node, or a fault.
use Rattle.std.proofs.Common.{◌≡◌, ◌⊎◌, refl, sym, subst, inl, inr, ℕ, List, [], ◌∷◌, ℤ, Bool, true, false, Option, Some, None, Result, Ok, Err}
use Rattle.std.specs.Prelude.{FitsSigned}
use Rattle.std.specs.Int.{w64}
use Rattle.std.specs.List.{AllByRecursion}
use Rattle.edm_values.specs.MomentParts.{MomentParts}
use Rattle.edm_values.specs.IntLiteral.{IntValue}
use Rattle.edm_values.specs.NumberTypes.{IsIntLiteralType, IsNumberOf}
use Rattle.edm_values.specs.Val.{Val, null, boolean, whole, date, moment, guid, member, text, fields, FieldVal, present}
use Rattle.edm_values.specs.declared.primitive.PrimitiveType.{PrimitiveType}
use Rattle.odata_syntax.specs.Tree.{Tree, Trees, no_trees, more_trees}
use Rattle.odata_syntax.specs.declared.binary_operator.BinaryOperator.{BinaryOperator}
use Rattle.odata_syntax.specs.declared.node.LiteralKind.{LiteralKind}
use Rattle.csdl_schema.specs.ExprType.{ExprType, single, primitive, enumeration}
use Rattle.csdl_schema.specs.SchemaModel.{Slots}
use Rattle.edm_entities.specs.HasType.{HasType}
use Rattle.odata_functions.specs.Arithmetic.{ArithmeticGives}
use Rattle.odata_functions.specs.Connectives.{not3}
use Rattle.odata_functions.specs.declared.arithmetic.ArithFault.{ArithFault}
use Rattle.odata_functions.specs.declared.arithmetic.ArithFault.TheVariants.{Overflow, DivideByZero}
use Rattle.odata_syntax.specs.declared.binary_operator.ArithmeticOperator.{ArithmeticOperator}
use Rattle.odata_syntax.specs.declared.binary_operator.LogicalOperator.{LogicalOperator}
use Rattle.odata_signatures.specs.CollectionTyped.{IsItemFor}
use Rattle.odata_signatures.specs.ExprTypes.{boolean_type, string_type}
use Rattle.odata_signatures.specs.LiteralValue.{LiteralTyped, IntTyped}
use Rattle.odata_signatures.specs.HasTyped.{HasTyped}
use Rattle.odata_signatures.specs.OperatorTyped.{OperatorByTypes, NotTyped, OperatorTyped}
use Rattle.odata_signatures.specs.QuotedNumber.{ResolvedNumber}
use Rattle.odata_signatures.specs.Reads.{OfEquality, ReadsNumber}
use Rattle.odata_signatures.specs.Sides.{Between, quoted_text, side_of, sides_of}
use Rattle.odata_signatures.specs.Typed.{AreTyped, OperandsTyped, Scope, Typed}
use Rattle.odata_filter_operations.specs.CalculationGives.{CalculationGives, NegatedGives, number_outcome}
use Rattle.odata_filter_operations.specs.CompareGives.{CompareGives}
use Rattle.odata_meaning.specs.EndsOnce.{IsOutcomeOf}
use Rattle.odata_meaning.specs.Environment.{Environment, scope_of}
use Rattle.odata_filter_operations.specs.HasGives.{HasGives}
use Rattle.odata_filter_operations.specs.LeftFirst.{After}
use Rattle.odata_meaning.specs.LiteralGives.{LiteralGives}
use Rattle.odata_meaning.specs.Means.{ArgumentsMean, BinaryGives, Means}
use Rattle.odata_meaning.specs.NameGives.{StepGives, FieldGives}
use Rattle.odata_meaning.specs.OneByOne.{ItemAlone}
use Rattle.odata_meaning.specs.OperatorGives.{InType, OperatorGives, SidesGive}
use Rattle.odata_filter_operations.specs.Outcome.{Outcome, gives}
use Rattle.odata_meaning.specs.ReadGives.{OperandGives}
use Rattle.odata_filter_operations.specs.TruthGives.{LogicalGives, JoinGives, NotGives, joined, truth_val}
use Rattle.odata_filter_operations.specs.Operators.{AreNumbers, IsOneNumber}
use Rattle.odata_meaning.specs.private.Decided.{IsDecided}
use Rattle.odata_meaning.proofs.meaning.AllTrees.{AllTrees, AllTyped}
use Rattle.odata_meaning.proofs.meaning.CallEnds.{HaveTypes}
use Rattle.odata_meaning.proofs.meaning.CompareEnds.{compare_ends}
use Rattle.odata_meaning.proofs.meaning.Ends.{Ends, after_ends, typed_value}
use Rattle.odata_meaning.proofs.meaning.FormsEnd.{ItemEnds, has_ends}
use Rattle.odata_meaning.proofs.meaning.Kinds.{IsTruth, truth_of}
use Rattle.odata_meaning.specs.private.LawsBelow.{Promotes, SomeEach}
use Rattle.odata_meaning.proofs.meaning.NumberComes.{number_typed}
use Rattle.odata_meaning.proofs.meaning.Numbers.{calculated_values}
use Rattle.odata_meaning.proofs.meaning.Reads.{equality_typed, flags_apart, left_unread, number_comparable, number_flags, other_unread, right_apart, right_unread}
use Rattle.odata_meaning.proofs.meaning.TypeValues.{date_has, guid_has, member_has, moment_has, null_has, number_has, text_has, truth_has}

int_has : (slots : Slots) (n : ℤ) (p : PrimitiveType) → FitsSigned w64 n → IsIntLiteralType n p → HasType slots (single (primitive p)) (whole n)
int_has slots n p fits (inl small) = number_has slots p n (subst (λ (q : PrimitiveType). IsNumberOf q n) (sym small.1) small.0)
int_has slots n p fits (inr large) = number_has slots p n (subst (λ (q : PrimitiveType). IsNumberOf q n) (sym large.1) fits)

int_ends : (slots : Slots) (type : ExprType) (spelling : List ℕ) (n : ℤ) → IntValue spelling n → IntTyped n type → HasType slots type (whole n)
int_ends slots type spelling n value typed =
    typed_value slots (single (primitive typed.0)) type (whole n) typed.2 (int_has slots n typed.0 value.1 typed.1)

pub literal_ends : SomeEach → (slots : Slots) (kind : LiteralKind) (spelling : List ℕ) (type : ExprType) → LiteralTyped slots kind spelling type → Ends slots type (LiteralGives slots kind spelling)
literal_ends some slots LiteralKind.Null spelling type typed = (gives null, (tt, null_has slots type))
literal_ends some slots LiteralKind.Bool spelling type typed = (gives (boolean typed.0), (typed.1, typed_value slots boolean_type type (boolean typed.0) typed.2 (truth_has slots typed.0)))
literal_ends some slots LiteralKind.Int spelling type typed = (gives (whole typed.0), (typed.1, int_ends slots type spelling typed.0 typed.1 typed.2))
literal_ends some slots LiteralKind.Date spelling type typed =
    (gives (date typed.0), (typed.1, typed_value slots (single (primitive PrimitiveType.Date)) type (date typed.0) typed.2 (date_has slots typed.0 typed.1.0)))
literal_ends some slots LiteralKind.Moment spelling type typed =
    (gives (moment typed.0), (typed.1, typed_value slots (single (primitive PrimitiveType.DateTimeOffset)) type (moment typed.0) typed.2 (moment_has slots typed.0 (some.moments spelling typed.0 typed.1))))
literal_ends some slots LiteralKind.Guid spelling type typed =
    (gives (guid typed.0), (typed.1, typed_value slots (single (primitive PrimitiveType.Guid)) type (guid typed.0) typed.2 (guid_has slots typed.0 (some.guids spelling typed.0 typed.1))))
literal_ends some slots LiteralKind.Str spelling type typed = (gives (text typed.0), (typed.1, typed_value slots string_type type (text typed.0) typed.2 (text_has slots typed.0 typed.1.1)))
literal_ends some slots LiteralKind.EnumLit spelling type typed =
    (gives (member typed.1), ((typed.0, typed.2), typed_value slots (single (enumeration typed.0)) type (member typed.1) typed.3 (member_has slots typed.0 typed.1 typed.2.names.within)))

pub field_gives : (held : List ℕ → FieldVal) (asked : List ℕ) (v : Val) → held asked ≡ present v → StepGives (fields held) asked (gives v)
field_gives held asked v here = subst (λ (h : FieldVal). FieldGives h (gives v)) (sym here) refl

-- ---- operators

-- a truth value is of type Boolean
truth_ends : (slots : Slots) (type : ExprType) (t : Option Bool) → type ≡ boolean_type → HasType slots type (truth_val t)
truth_ends slots type (Some b) is = typed_value slots boolean_type type (boolean b) is (truth_has slots b)
truth_ends slots type None is = null_has slots type

-- the tables at truth values
pub not_gives : (truth : Option Bool) → NotGives (truth_val truth) (gives (truth_val (not3 truth)))
not_gives (Some b) = refl
not_gives None = refl

pub join_gives : (logical : LogicalOperator) (left right : Option Bool) → JoinGives logical left (truth_val right) (gives (truth_val (joined logical left right)))
join_gives logical left (Some b) = refl
join_gives logical left None = refl

pub decided_gives : (logical : LogicalOperator) (left : Option Bool) (Right : Outcome → Type 0) → IsDecided logical (truth_val left)
    → LogicalGives logical (truth_val left) Right (gives (truth_val left))
decided_gives LogicalOperator.And (Some false) Right decided = refl
decided_gives LogicalOperator.Or (Some true) Right decided = refl
decided_gives _ _ Right decided = absurd decided

-- after a truth value that does not decide, a logical operator goes by its right side
pub undecided_goes : (logical : LogicalOperator) (left : Option Bool) (Right : Outcome → Type 0) (o : Outcome) → ¬ (IsDecided logical (truth_val left))
    → After Right (JoinGives logical left) o → LogicalGives logical (truth_val left) Right o
undecided_goes LogicalOperator.And (Some false) Right o undecided goes = absurd (undecided tt)
undecided_goes LogicalOperator.Or (Some true) Right o undecided goes = absurd (undecided tt)
undecided_goes _ _ Right o undecided goes = goes

decided_or_not : (logical : LogicalOperator) (left : Option Bool) → IsDecided logical (truth_val left) ⊎ (¬ IsDecided logical (truth_val left))
decided_or_not LogicalOperator.And (Some false) = inl tt
decided_or_not LogicalOperator.Or (Some true) = inl tt
decided_or_not _ _ = inr (λ decided. decided)

pub not_ends : (slots : Slots) (operand type : ExprType) (v : Val) → NotTyped operand type → HasType slots operand v → Ends slots type (NotGives v)
not_ends slots operand type v typed has =
    let truth = truth_of slots operand v typed.0 has in
    subst (λ (w : Val). Ends slots type (NotGives w)) (sym truth.1)
    (gives (truth_val (not3 truth.0)), (not_gives truth.0, truth_ends slots type (not3 truth.0) typed.1))

join_ends : (slots : Slots) (type : ExprType) (logical : LogicalOperator) (left : Option Bool) (v : Val)
    → type ≡ boolean_type → IsTruth v → Ends slots type (JoinGives logical left v)
join_ends slots type logical left v is truth =
    subst (λ (w : Val). Ends slots type (JoinGives logical left w)) (sym truth.1)
    (gives (truth_val (joined logical left truth.0)), (join_gives logical left truth.0, truth_ends slots type (joined logical left truth.0) is))

logical_ends : (slots : Slots) (logical : LogicalOperator) (right type : ExprType) (left : Option Bool) (Right : Outcome → Type 0)
    → type ≡ boolean_type → ((v : Val) → HasType slots right v → IsTruth v)
    → Ends slots right Right → Ends slots type (LogicalGives logical (truth_val left) Right)
logical_ends slots logical right type left Right is truths_right ends =
    elim (decided_or_not logical left) [
      | inl decided ↦ (gives (truth_val left), (decided_gives logical left Right decided, truth_ends slots type left is))
      | inr undecided ↦
          let goes = after_ends slots slots right type Right (JoinGives logical left) ends (λ v has. join_ends slots type logical left v is (truths_right v has)) in
          (goes.0, (undecided_goes logical left Right goes.0 undecided goes.1.0, goes.1.1))
    ]

answer_typed : (slots : Slots) (operator : ArithmeticOperator) (p : PrimitiveType) (a b : ℤ) (answer : Result (Option ℤ) ArithFault)
    → ArithmeticGives operator p (Some a) (Some b) answer → IsOutcomeOf slots (single (primitive p)) (number_outcome answer)
answer_typed slots operator p a b (Err DivideByZero) given = tt
answer_typed slots operator p a b (Err Overflow) given = tt
answer_typed slots operator p a b (Ok answer) given = number_typed slots p given.0 (Ok answer) given.2

calculation_ends : (some : SomeEach) (slots : Slots) (operator : ArithmeticOperator) (type : ExprType) (l r : Val)
    → AreNumbers type l r → Ends slots type (CalculationGives operator type l r)
calculation_ends some slots operator type null null are = (gives null, (refl, null_has slots type))
calculation_ends some slots operator type null (whole b) are = (gives null, (refl, null_has slots type))
calculation_ends some slots operator type (whole a) null are = (gives null, (refl, null_has slots type))
calculation_ends some slots operator (single (primitive p)) (whole a) (whole b) are =
    let answer = some.answer operator p (Some a) (Some b) are.0 in
    (number_outcome answer.0, ((answer.0, answer.1, refl), answer_typed slots operator p a b answer.0 answer.1))
calculation_ends some slots operator _ _ _ are = absurd are

pub negation_ends : (some : SomeEach) (slots : Slots) (type : ExprType) (v : Val) → IsOneNumber type v → Ends slots type (NegatedGives type v)
negation_ends some slots type null is = (gives null, (refl, null_has slots type))
negation_ends some slots (single (primitive p)) (whole a) is =
    let answer = some.negation p (Some a) is.0 in
    (number_outcome answer.0, ((answer.0, answer.1, refl), number_typed slots p _ answer.0 answer.1))
negation_ends some slots _ _ is = absurd is

-- what is computed in the type of its node
pub in_type : (slots : Slots) (NodeTyped : ExprType → Type 0) (Gives : ExprType → Outcome → Type 0) (type : ExprType)
    → NodeTyped type → Ends slots type (Gives type) → Ends slots type (InType NodeTyped Gives)
in_type slots NodeTyped Gives type typed ends = (ends.0, ((type, typed, ends.1.0), ends.1.1))

operator_ends : (some : SomeEach) (promotes : Promotes) (slots : Slots) (operator : BinaryOperator) (NodeTyped : ExprType → Type 0) (left right type : ExprType) (l : Val) (Right : Outcome → Type 0)
    → OperatorByTypes operator left right type → NodeTyped type → HasType slots left l → Ends slots right Right
    → Ends slots type (OperatorGives operator NodeTyped l Right)
operator_ends some promotes slots (BinaryOperator.Logical logical) NodeTyped left right type l Right typed is of_l ends =
    let truth = truth_of slots left l typed.0 of_l in
    subst (λ (v : Val). Ends slots type (LogicalGives logical v Right)) (sym truth.1)
    (logical_ends slots logical right type truth.0 Right typed.2 (λ v has. truth_of slots right v typed.1 has) ends)
operator_ends some promotes slots (BinaryOperator.Comparison comparison) NodeTyped left right type l Right typed is of_l ends =
    after_ends slots slots right type Right (CompareGives comparison l) ends (λ r of_r. compare_ends some slots comparison left right type l r typed of_l of_r)
operator_ends some promotes slots (BinaryOperator.Arithmetic arithmetic) NodeTyped left right type l Right typed is of_l ends =
    after_ends slots slots right type Right (λ r. InType NodeTyped (λ t. CalculationGives arithmetic t l r)) ends
    (λ r of_r. in_type slots NodeTyped (λ t. CalculationGives arithmetic t l r) type is
    (calculation_ends some slots arithmetic type l r (calculated_values promotes slots left right type l r typed of_l of_r)))

-- ---- sides that may be read

sides_end : (some : SomeEach) (promotes : Promotes) (slots : Slots) (operator : BinaryOperator) (NodeTyped : ExprType → Type 0) (left right type : ExprType) (Left Right : Outcome → Type 0)
    → OperatorByTypes operator left right type → NodeTyped type → Ends slots left Left → Ends slots right Right → Ends slots type (SidesGive operator NodeTyped Left Right)
sides_end some promotes slots operator NodeTyped left right type Left Right makes typed of_left of_right =
    after_ends slots slots left type Left (λ l. OperatorGives operator NodeTyped l Right) of_left
    (λ l of_l. operator_ends some promotes slots operator NodeTyped left right type l Right makes typed of_l of_right)

-- a number that is read is a value of its type
abbrev pub ReadsHave : Slots → Slots → Type 0
ReadsHave slots held = (type : ExprType) (quoted : Option (List ℕ)) (n : ℤ) → ResolvedNumber slots type quoted n → HasType held type (member n)

-- an operand that is not read ends as its tree does, and one that is read with its number
operand_ends : (held : Slots) (type : ExprType) (Reads : ℤ → Type 0) (Alone : Outcome → Type 0) → ((n : ℤ) → ¬ Reads n) → Ends held type Alone → Ends held type (OperandGives Reads Alone)
operand_ends held type Reads Alone none ends = (ends.0, (inr (none, ends.1.0), ends.1.1))

number_ends : (held : Slots) (type : ExprType) (Reads : ℤ → Type 0) (Alone : Outcome → Type 0) (n : ℤ) → Reads n → HasType held type (member n) → Ends held type (OperandGives Reads Alone)
number_ends held type Reads Alone n reads has = (gives (member n), (inl (n, reads, refl), has))

pub binary_ends : (some : SomeEach) (promotes : Promotes) (slots held : Slots) → ReadsHave slots held → (root : List ℕ) (scope : Scope) (operator : BinaryOperator) (left right : Tree) (Left Right : Outcome → Type 0) (type : ExprType)
    → (typed : OperandsTyped (Typed slots root scope left) (Typed slots root scope right) (Between (OperatorTyped slots operator) left right) type)
    → Ends held typed.left Left → Ends held typed.right Right
    → Ends held type (BinaryGives slots operator (Typed slots root scope left) (Typed slots root scope right) left right Left Right)
binary_ends some promotes slots held reads_have root scope operator left right Left Right type typed of_left of_right =
    let N : ExprType → Type 0 = OperandsTyped (Typed slots root scope left) (Typed slots root scope right) (Between (OperatorTyped slots operator) left right) in
    let LeftReads : ℤ → Type 0 = ReadsNumber slots (OfEquality operator (Typed slots root scope right)) left in
    let RightReads : ℤ → Type 0 = ReadsNumber slots (OfEquality operator (Typed slots root scope left)) right in
    elim typed.makes [
      | inl plain ↦
          sides_end some promotes held operator N typed.left typed.right type (OperandGives LeftReads Left) (OperandGives RightReads Right) plain typed
          (operand_ends held typed.left LeftReads Left
          (left_unread some.reads slots root scope operator left right typed.left typed.right type typed.left_typed typed.right_typed plain) of_left)
          (operand_ends held typed.right RightReads Right
          (right_unread some.reads slots root scope operator left right typed.left typed.right type typed.left_typed typed.right_typed plain) of_right)
      | inr read ↦ elim read.0.1 [
        | inl number ↦
            let quoted = quoted_text right in
            let makes = equality_typed operator typed.left typed.left type read.0.0 (number_comparable slots typed.left quoted number.0 number.1) read.1 in
            sides_end some promotes held operator N typed.left typed.left type (OperandGives LeftReads Left) (OperandGives RightReads Right) makes typed
            (operand_ends held typed.left LeftReads Left
            (other_unread some.reads slots root scope operator right left typed.right typed.left number.0 typed.right_typed typed.left_typed number.1) of_left)
            (number_ends held typed.left RightReads Right number.0 (record { type_of = typed.left; beside = (read.0.0, typed.left_typed); number = number.1 })
            (reads_have typed.left quoted number.0 number.1))
        | inr number ↦
            let quoted = quoted_text left in
            let makes = equality_typed operator typed.right typed.right type read.0.0 (number_comparable slots typed.right quoted number.0 number.1) read.1 in
            sides_end some promotes held operator N typed.right typed.right type (OperandGives LeftReads Left) (OperandGives RightReads Right) makes typed
            (number_ends held typed.right LeftReads Left number.0 (record { type_of = typed.right; beside = (read.0.0, typed.right_typed); number = number.1 })
            (reads_have typed.right quoted number.0 number.1))
            (operand_ends held typed.right RightReads Right
            (other_unread some.reads slots root scope operator left right typed.left typed.right number.0 typed.left_typed typed.right_typed number.1) of_right)
      ]
    ]

pub flags_ends : (some : SomeEach) (slots held : Slots) → ReadsHave slots held → (root : List ℕ) (scope : Scope) (left right : Tree) (Left Right : Outcome → Type 0) (type : ExprType)
    → (typed : OperandsTyped (Typed slots root scope left) (Typed slots root scope right) (Between (HasTyped slots) left right) type)
    → Ends held typed.left Left → Ends held typed.right Right
    → Ends held type (After Left (λ l. After (OperandGives (ReadsNumber slots (Typed slots root scope left) right) Right) (HasGives l)))
flags_ends some slots held reads_have root scope left right Left Right type typed of_left of_right =
    let Reads : ℤ → Type 0 = ReadsNumber slots (Typed slots root scope left) right in
    elim typed.makes.0 [
      | inl flags ↦
          let of_operand = operand_ends held typed.right Reads Right
          (λ n reads. flags_apart some.reads slots root scope left right typed.left typed.right n typed.left_typed typed.right_typed reads flags) of_right in
          after_ends held held typed.left type Left (λ l. After (OperandGives Reads Right) (HasGives l)) of_left
          (λ l of_l. after_ends held held typed.right type (OperandGives Reads Right) (HasGives l) of_operand
          (λ r of_r. has_ends some held typed.left typed.right type l r (flags, typed.makes.1) of_l of_r))
      | inr number ↦
          let quoted = quoted_text right in
          let of_operand = number_ends held typed.left Reads Right number.0 (record { type_of = typed.left; beside = typed.left_typed; number = number.1 })
          (reads_have typed.left quoted number.0 number.1) in
          after_ends held held typed.left type Left (λ l. After (OperandGives Reads Right) (HasGives l)) of_left
          (λ l of_l. after_ends held held typed.left type (OperandGives Reads Right) (HasGives l) of_operand
          (λ r of_r. has_ends some held typed.left typed.left type l r (number_flags slots typed.left quoted number.0 number.1, typed.makes.1) of_l of_r))
    ]

-- each item beside the operand on the left
item_ends : (some : SomeEach) (slots held : Slots) → ReadsHave slots held → (root : List ℕ) (now : MomentParts) (entity : Val) (environment : Environment) (left : Tree) (s : ExprType) (item : Tree) (t : ExprType)
    → Typed slots root (scope_of environment) left s → Typed slots root (scope_of environment) item t → IsItemFor slots s (side_of item t)
    → Ends held t (Means slots root now entity environment item)
    → ItemEnds held s (ItemAlone slots root now entity environment (Typed slots root (scope_of environment) left) item)
item_ends some slots held reads_have root now entity environment left s item t of_left of_item (inl comparable) ends = (
  t,
  comparable,
  (
    ends.0,
    (
      inr ((λ n reads. right_apart some.reads slots root (scope_of environment) left item s t n of_left of_item reads comparable), ends.1.0),
      ends.1.1,
    ),
  ),
)
item_ends some slots held reads_have root now entity environment left s item t of_left of_item (inr number) ends = (
  s,
  number_comparable slots s (quoted_text item) number.0 number.1,
  (
    gives (member number.0),
    (
      inl (number.0, record { type_of = s; beside = of_left; number = number.1 }, refl),
      reads_have s (quoted_text item) number.0 number.1,
    ),
  ),
)

pub items_end : (some : SomeEach) (slots held : Slots) → ReadsHave slots held → (root : List ℕ) (now : MomentParts) (entity : Val) (environment : Environment) (left : Tree) (s : ExprType) → Typed slots root (scope_of environment) left s
    → (items : Trees) (types : List ExprType) → AreTyped slots root (scope_of environment) items types → AllByRecursion (IsItemFor slots s) (sides_of items types)
    → AllTyped (λ tree t. Ends held t (Means slots root now entity environment tree)) items types
    → AllTrees (λ tree. ItemEnds held s (ItemAlone slots root now entity environment (Typed slots root (scope_of environment) left) tree)) items
items_end some slots held reads_have root now entity environment left s of_left no_trees types typed are all = tt
items_end some slots held reads_have root now entity environment left s of_left (more_trees item more) [] typed are all = absurd typed
items_end some slots held reads_have root now entity environment left s of_left (more_trees item more) (t ∷ types) typed are all = (
  item_ends some slots held reads_have root now entity environment left s item t of_left typed.0 are.0 all.0,
  items_end some slots held reads_have root now entity environment left s of_left more types typed.1 are.1 all.1,
)

-- after arguments that have outcomes
pub behind_arguments : (slots held : Slots) (root : List ℕ) (now : MomentParts) (entity : Val) (environment : Environment) (arguments : Trees) (types : List ExprType) (type : ExprType)
    (Goes : List Val → Outcome → Type 0) → AllTyped (λ tree t. Ends held t (Means slots root now entity environment tree)) arguments types
    → ((values : List Val) → HaveTypes held types values → Ends held type (Goes values)) → Ends held type (ArgumentsMean slots root now entity environment arguments Goes)
behind_arguments slots held root now entity environment no_trees [] type Goes all goes = goes [] tt
behind_arguments slots held root now entity environment (more_trees argument more) (t ∷ types) type Goes all goes =
    after_ends held held t type (Means slots root now entity environment argument)
    (λ v. ArgumentsMean slots root now entity environment more (λ values. Goes (v ∷ values))) all.0
    (λ v has. behind_arguments slots held root now entity environment more types type (λ values. Goes (v ∷ values)) all.1 (λ values have. goes (v ∷ values) (has, have)))
behind_arguments slots held root now entity environment _ _ type Goes all goes = absurd all
