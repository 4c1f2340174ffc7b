-- What stands first below a node, and down a chain of nodes of one class.
use Rattle.std.proofs.Common.{◌≡◌, ◌∙◌, ℕ, zero, suc, ◌<◌, ◌≤◌, ◌+◌, ◌-◌, List, [], ◌∷◌, length, slice_get, slice_index_or, ap, refl, sym, subst, inl, inr, arith}
use Rattle.std.specs.Prelude.{Contains}
use Rattle.std.proofs.lemmas.Bool.{cases_lt}
use Rattle.edm_values.specs.Val.{Val}
use Rattle.odata_syntax.specs.Spans.{children_of, in_child, list_of_trees}
use Rattle.odata_syntax.specs.Tree.{Tree, Trees, any_item, binary, call, count, has, in_list, in_path, lambda, logical_not, member, more_trees, name, negation, no_trees, node, shape_of}
use Rattle.odata_syntax.specs.declared.binary_operator.BinaryOperator.{BinaryOperator}
use Rattle.odata_syntax.specs.declared.node.LiteralKind.{LiteralKind}
use Rattle.odata_syntax.specs.declared.binary_operator.LogicalOperator.{LogicalOperator}
use Rattle.odata_syntax.specs.declared.binary_operator.ArithmeticOperator.{ArithmeticOperator}
use Rattle.csdl_schema.specs.ExprType.{ExprType, collection}
use Rattle.odata_signatures.specs.ExprTypes.{IsBooleanOrNull}
use Rattle.odata_signatures.specs.OperatorTyped.{IsEquality, OperatorByTypes, OperatorTyped}
use Rattle.odata_signatures.specs.Side.{Side}
use Rattle.odata_checked_filter.specs.Calls.{TakesMemory}
use Rattle.odata_checked_filter.specs.declared.checked_node.CheckedNode.{CheckedNode}
use Rattle.odata_checked_filter.specs.declared.checked_node.NodeKind.{NodeKind}
use Rattle.odata_checked_filter.specs.FlatTree.{FlatTree}
use Rattle.odata_filter_operations.specs.declared.eval_fault.EvalFault.{EvalFault}
use Rattle.filter_context.specs.declared.walk_class.WalkClass.{WalkClass}
use Rattle.odata_meaning.specs.Environment.{scope_of}
use Rattle.odata_filter_operations.specs.LeftFirst.{After}
use Rattle.odata_meaning.specs.OperatorGives.{OperatorGives}
use Rattle.odata_meaning.specs.ReadGives.{OperandGives}
use Rattle.odata_meaning.proofs.meaning.SameGives.{after_both, itself, turned}
use Rattle.odata_meaning.proofs.meaning.UnreadAlone.{operand_alone}
use Rattle.odata_signatures.specs.Reads.{OfEquality, ReadsNone, ReadsNumber}
use Rattle.odata_signatures.specs.Sides.{side_of}
use Rattle.edm_values.specs.Val as val
use Rattle.odata_filter_operations.specs.Outcome.{Outcome, overflow, divides_by_zero}
use Rattle.odata_filter_operations.specs.FaultView.{fault_outcome}
use Rattle.filter_context.specs.private.Place.{HasKind, IsClassAt, IsNumberOperand, OperandStands, PartStands, TypedStands}
use Rattle.filter_context.specs.private.EvalContext.{MeansHere, StandsHere, TypedHere}
use Rattle.filter_context.specs.private.ContextModel.{ContextModel, environment_of}
use Rattle.odata_filter_operations.specs.Reports.{Reports}
use Rattle.filter_context.specs.private.AnswersAtPlace.{AnswersAtPlace}
use Rattle.filter_context.specs.WalkClass.{walk_of_kind, walk_of_operator}
use Rattle.odata_signatures.specs.Functions.{IsNamed, row_of}
use Rattle.odata_signatures.specs.declared.function.Function.{Function}
use Rattle.odata_signatures.specs.CallTyped.{CallTyped}
use Rattle.odata_checked_filter.specs.private.Stands.{AllStand}
use Rattle.odata_signatures.specs.Typed.{AreTyped}
use Rattle.odata_meaning.specs.Means.{ArgumentsMean}
use Rattle.odata_filter_operations.specs.CallGives.{CallGives}
use Rattle.csdl_schema.specs.SchemaModel.{Slots, slots_of, type_name_at}
use Rattle.edm_entities.specs.Row.{value_of}
use Rattle.filter_context.proofs.Children.{only_child}
use Rattle.filter_context.proofs.Operands.{ResolvedHere, fault_no_value, inner_number, tree_of_class, tree_operand}
use Rattle.filter_context.proofs.Parts.{by_kind, goes_there, some_there, reports_there, there_found}

-- what is said of the first one, and of those after it, is said of each
pub with_first : (P : ℕ → Type 0) (first end : ℕ) → P first → ((k : ℕ) → k < end → first + 1 ≤ k → P k) → (k : ℕ) → k < end → first ≤ k → P k
with_first P first end at_first later k before from =
    elim (cases_lt first k) [
      | inl after ↦ later k before (omega arith)
      | inr at ↦ (let same : first ≡ k = omega arith in subst P same at_first)
    ]

-- the walk takes the operator's node by its class
pub walks_by : (list : FlatTree) (place : ℕ) (operator : BinaryOperator) (class : WalkClass) → HasKind list place (NodeKind.Binary operator)
    → walk_of_operator operator ≡ class → IsClassAt list class place
walks_by list place operator class here is =
    goes_there (slice_get list.nodes place) (λ (f : CheckedNode). f.kind ≡ NodeKind.Binary operator) (λ (f : CheckedNode). walk_of_kind f.kind ≡ class)
    (λ found kind_is. ap walk_of_kind kind_is ∙ is) here

pub kind_walks : (list : FlatTree) (place : ℕ) (kind : NodeKind) (class : WalkClass) → walk_of_kind kind ≡ class → HasKind list place kind → IsClassAt list class place
kind_walks list place kind class is here =
    goes_there (slice_get list.nodes place) (λ (f : CheckedNode). f.kind ≡ kind) (λ (f : CheckedNode). walk_of_kind f.kind ≡ class)
    (λ found kind_is. ap walk_of_kind kind_is ∙ is) here

-- a node without operands that is none of the others is `$it`
pub only_it : (kind : NodeKind) → walk_of_kind kind ≡ WalkClass.Leaf → ((form : LiteralKind) (value : ℕ) → kind ≡ NodeKind.Literal form value → ⊥)
    → (kind ≡ NodeKind.Now → ⊥) → ((slot : ℕ) → kind ≡ NodeKind.Property slot → ⊥) → ((level : ℕ) → kind ≡ NodeKind.Variable level → ⊥) → kind ≡ NodeKind.It
only_it NodeKind.It leaf not_literal not_now not_property not_variable = refl
only_it (NodeKind.Literal form value) leaf not_literal not_now not_property not_variable = absurd (not_literal form value refl)
only_it NodeKind.Now leaf not_literal not_now not_property not_variable = absurd (not_now refl)
only_it (NodeKind.Property slot) leaf not_literal not_now not_property not_variable = absurd (not_property slot refl)
only_it (NodeKind.Variable level) leaf not_literal not_now not_property not_variable = absurd (not_variable level refl)
only_it (NodeKind.Binary (BinaryOperator.Logical operator)) leaf not_literal not_now not_property not_variable = absurd (cc)
only_it (NodeKind.Binary (BinaryOperator.Comparison operator)) leaf not_literal not_now not_property not_variable = absurd (cc)
only_it (NodeKind.Binary (BinaryOperator.Arithmetic operator)) leaf not_literal not_now not_property not_variable = absurd (cc)
only_it _ leaf not_literal not_now not_property not_variable = absurd (cc)

-- a node of truth values that is no operator is `not`, and one of numbers `-`
pub only_not : (kind : NodeKind) → walk_of_kind kind ≡ WalkClass.Logical → ((operator : LogicalOperator) → kind ≡ NodeKind.Binary (BinaryOperator.Logical operator) → ⊥) → kind ≡ NodeKind.Not
only_not NodeKind.Not logical other = refl
only_not (NodeKind.Binary (BinaryOperator.Logical operator)) logical other = absurd (other operator refl)
only_not _ logical other = absurd (cc)

pub only_neg : (kind : NodeKind) → walk_of_kind kind ≡ WalkClass.Numeric → ((operator : ArithmeticOperator) → kind ≡ NodeKind.Binary (BinaryOperator.Arithmetic operator) → ⊥) → kind ≡ NodeKind.Neg
only_neg NodeKind.Neg numeric other = refl
only_neg (NodeKind.Binary (BinaryOperator.Arithmetic operator)) numeric other = absurd (other operator refl)
only_neg _ numeric other = absurd (cc)

-- a fault of an operand stays
pub fault_stays : (fault : EvalFault) (WalkOperand Whole : Type 0) (Operand : Outcome → Type 0) (Goes : Val → Outcome → Type 0) → (WalkOperand → Whole)
    → Reports WalkOperand Operand (fault_outcome fault) → Reports Whole (After Operand Goes) (fault_outcome fault)
fault_stays EvalFault.Overflow WalkOperand Whole Operand Goes takes is = (overflow, (is, refl))
fault_stays EvalFault.DivideByZero WalkOperand Whole Operand Goes takes is = (divides_by_zero, (is, refl))
fault_stays EvalFault.Memory WalkOperand Whole Operand Goes takes is = takes is

-- the first two children
pub first_child : (tree : Tree) (more : List Tree) → Contains (tree ∷ more) tree
first_child tree more = (0, omega arith, refl)

pub second_child : (first tree : Tree) (more : List Tree) → Contains (first ∷ tree ∷ more) tree
second_child first tree more = (1, omega arith, refl)

-- a tree takes the memory that a child of it takes
pub child_takes : (tree child : Tree) → Contains (children_of (shape_of tree)) child → TakesMemory child → TakesMemory tree
child_takes tree child is_child takes = record {
  part = takes.part;
  within = in_child is_child takes.within;
  called = takes.called;
  arguments = takes.arguments;
  is_call = takes.is_call;
  one = takes.one;
}

-- the types of operands by the class of their node
abbrev pub AllowedBy : WalkClass → ExprType → Type 0
AllowedBy WalkClass.Logical type = IsBooleanOrNull type
AllowedBy WalkClass.Numeric type = IsNumberOperand type
AllowedBy _ type = Unit {0}

pub operands_allowed : (operator : BinaryOperator) (left right type : ExprType) → OperatorByTypes operator left right type
    → AllowedBy (walk_of_operator operator) left × AllowedBy (walk_of_operator operator) right
operands_allowed (BinaryOperator.Logical logical) left right type typed = (typed.0, typed.1)
operands_allowed (BinaryOperator.Comparison comparison) left right type typed = (tt, tt)
operands_allowed (BinaryOperator.Arithmetic arithmetic) left right type typed = ((typed.left_number, typed.left_is), (typed.right_number, typed.right_is))

-- a logical operator makes a truth value
logical_type : (operator : BinaryOperator) (left right type : ExprType) → walk_of_operator operator ≡ WalkClass.Logical → OperatorByTypes operator left right type → IsBooleanOrNull type
logical_type (BinaryOperator.Logical operator) left right type logical typed = inl typed.2
logical_type _ left right type logical typed = absurd (cc)

-- what may stand as the first operand of a node of the class
abbrev pub StandsBy : ContextModel → ℕ → WalkClass → Type 0
StandsBy context place WalkClass.Logical = TypedStands context place IsBooleanOrNull
StandsBy context place WalkClass.Numeric = TypedStands context place IsNumberOperand
StandsBy context place _ = OperandStands context place

-- the first operand of a node: its faults are those of the node
pub record FirstOperand (context : ContextModel) (place : ℕ) (class : WalkClass) (tree : Tree) : Type 0 where
  pub operand : StandsBy context (place + 1) class
  pub faults : (fault : EvalFault) → AnswersAtPlace context (place + 1) (λ type. fault_outcome fault) → (type : ExprType) → TypedHere context tree type
      → Reports (TakesMemory tree) (MeansHere context tree) (fault_outcome fault)

-- that is a tree
record FirstTree (context : ContextModel) (place : ℕ) (class : WalkClass) (tree : Tree) : Type 0 where
  stop : ℕ
  operand : Tree
  stands : StandsHere context (place + 1) stop operand
  typed : (type : ExprType) → TypedHere context tree type → (first : ExprType) × (TypedHere context operand first × AllowedBy class first)
  faults : (fault : EvalFault) → Reports (TakesMemory operand) (MeansHere context operand) (fault_outcome fault)
      → Reports (TakesMemory tree) (MeansHere context tree) (fault_outcome fault)

tree_by : (context : ContextModel) (place : ℕ) (class : WalkClass) (tree : Tree) (type : ExprType) → FirstTree context place class tree → TypedHere context tree type → StandsBy context (place + 1) class
tree_by context place WalkClass.Logical tree type first typed =
    let of_it = first.typed type typed in
    record { stop = first.stop; tree = first.operand; stands = first.stands; type_of = of_it.0; typed = of_it.1.0; allowed = of_it.1.1 }
tree_by context place WalkClass.Numeric tree type first typed =
    let of_it = first.typed type typed in
    record { stop = first.stop; tree = first.operand; stands = first.stands; type_of = of_it.0; typed = of_it.1.0; allowed = of_it.1.1 }
tree_by context place _ tree type first typed = record { stop = first.stop; tree = first.operand; stands = inl first.stands }

pub has_type : (context : ContextModel) (place stop : ℕ) (tree : Tree) → StandsHere context place stop tree → (type : ExprType) × TypedHere context tree type
has_type context place stop (node from to shape) stands = (_, stands.top.typed)

of_first : (context : ContextModel) (place : ℕ) (class : WalkClass) (stop : ℕ) (tree : Tree) → StandsHere context place stop tree → FirstTree context place class tree
    → FirstOperand context place class tree
of_first context place class stop tree stands first =
    let has = has_type context place stop tree stands in
    record {
      operand = tree_by context place class tree has.0 first has.1;
      faults = λ fault answers type typed.
          let of_it = first.typed type typed in
          first.faults fault (answers.of_tree first.stop first.operand of_it.0 first.stands of_it.1.0);
    }

-- an operator that reads no literal goes by the types of its operands
pub plain_types : (slots : Slots) (operator : BinaryOperator) (left right : Side) (type : ExprType) → ¬ IsEquality operator → OperatorTyped slots operator left right type
    → OperatorByTypes operator left.type_of right.type_of type
plain_types slots operator left right type other (inl plain) = plain
plain_types slots operator left right type other (inr read) = absurd (other read.0.0)

pub types_alone : (context : ContextModel) (from to : ℕ) (operator : BinaryOperator) (left right : Tree) → ReadsNone (slots_of context.row.schema) (OfEquality operator (TypedHere context left)) right
    → ReadsNone (slots_of context.row.schema) (OfEquality operator (TypedHere context right)) left → (type : ExprType)
    → (typed : TypedHere context (node from to (binary operator left right)) type) → OperatorByTypes operator typed.left typed.right type
types_alone context from to operator left right no_right no_left type typed = elim typed.makes [
  | inl plain ↦ plain
  | inr read ↦ elim read.0.1 [
    | inl number ↦ absurd (no_right number.0 (record { type_of = typed.left; beside = (read.0.0, typed.left_typed); number = number.1 }))
    | inr number ↦ absurd (no_left number.0 (record { type_of = typed.right; beside = (read.0.0, typed.right_typed); number = number.1 }))
  ]
]

-- an operator whose operands may be read takes both as values
pub equality_walks : (operator : BinaryOperator) → IsEquality operator → walk_of_operator operator ≡ WalkClass.Eager
equality_walks (BinaryOperator.Comparison comparison) equality = refl
equality_walks _ equality = absurd equality

pub typed_part : (context : ContextModel) (place : ℕ) (Allowed : ExprType → Type 0) → TypedStands context place Allowed → PartStands context place
typed_part context place Allowed typed = record { stop = typed.stop; tree = typed.tree; stands = typed.stands }

-- only `now` is called so, and only it takes nothing
pub only_now : (function : Function) → (row_of function).name ≡ (row_of Function.Now).name → function ≡ Function.Now
only_now Function.Now is = refl
only_now Function.Day is = let letters : 100 ≡ 110 = ap (λ (name : List ℕ). slice_index_or name 0 0) is in absurd (omega (arith, letters))
only_now _ is = let lengths = ap length is in absurd (omega (arith, lengths))

pub some_taken : (function : Function) → ¬ (function ≡ Function.Now) → 1 ≤ (row_of function).least
some_taken Function.Now later = absurd (later refl)
some_taken _ later = omega arith

-- the arguments of a context's list
abbrev pub StandsAll : ContextModel → ℕ → ℕ → Trees → Type 0
StandsAll context = AllStand context.row.schema context.row.type_id (scope_of (environment_of context)) context.list

abbrev pub TypedAll : ContextModel → Trees → List ExprType → Type 0
TypedAll context = AreTyped (slots_of context.row.schema) (type_name_at context.row.schema context.row.type_id) (scope_of (environment_of context))

abbrev pub MeanAll : ContextModel → Trees → (List Val → Outcome → Type 0) → Outcome → Type 0
MeanAll context = ArgumentsMean (slots_of context.row.schema) (type_name_at context.row.schema context.row.type_id) context.moment (value_of context.row) (environment_of context)

module _ (context : ContextModel) where
  pub no_empty_call : (asked : List ℕ) (types : List ExprType) (type : ExprType) → ¬ (IsNamed Function.Now asked) → TypedAll context no_trees types → CallTyped asked types type → ⊥
  no_empty_call asked [] type later typed called =
      let some : 1 ≤ (row_of called.function).least = some_taken called.function (λ is. later (subst (λ (f : Function). IsNamed f asked) is called.named)) in
      let least : (row_of called.function).least ≤ 0 = called.typed.count.least in
      omega arith
  no_empty_call asked (type ∷ types) t later typed called = typed

  first_typed : (argument : Tree) (more : Trees) (types : List ExprType) → TypedAll context (more_trees argument more) types
      → (first : ExprType) × (TypedHere context argument first × AllowedBy WalkClass.Eager first)
  first_typed argument more [] typed = absurd typed
  first_typed argument more (type ∷ types) typed = (type, (typed.0, tt))

  -- a node that evaluates to what follows the value of that child
  after_first : (place : ℕ) (class : WalkClass) (tree operand : Tree) (stop : ℕ) (Goes : Val → Outcome → Type 0) → Contains (children_of (shape_of tree)) operand
      → StandsHere context (place + 1) stop operand → ((type : ExprType) → TypedHere context tree type → (first : ExprType) × (TypedHere context operand first × AllowedBy class first))
      → ((o : Outcome) → After (MeansHere context operand) Goes o → MeansHere context tree o) → FirstTree context place class tree
  after_first place class tree operand stop Goes is_child stands typed means = record {
    stop = stop;
    operand = operand;
    stands = stands;
    typed = typed;
    faults = λ fault is.
        reports_there (fault_outcome fault) (TakesMemory tree) (TakesMemory tree) (After (MeansHere context operand) Goes) (MeansHere context tree) (λ takes. takes) means
        (fault_stays fault (TakesMemory operand) (TakesMemory tree) (MeansHere context operand) Goes (child_takes tree operand is_child) is);
  }

  -- a call of another function than `now` has a first argument
  call_first : (place : ℕ) (asked : List ℕ) (arguments : Trees) (stop from to : ℕ) → ¬ (IsNamed Function.Now asked)
      → StandsHere context place stop (node from to (call asked arguments)) → FirstTree context place WalkClass.Eager (node from to (call asked arguments))
  call_first place asked no_trees stop from to later stands = absurd (no_empty_call asked stands.top.typed.types _ later stands.top.typed.arguments_typed stands.top.typed.call_typed)
  call_first place asked (more_trees argument more) stop from to later stands =
      let called = stands.top.typed.call_typed in
      after_first place WalkClass.Eager (node from to (call asked (more_trees argument more))) argument stands.children.middle (λ v. MeanAll context more (λ values. CallGives context.moment called.function (v ∷ values)))
      (first_child argument (list_of_trees more)) stands.children.left (λ type typed. first_typed argument more typed.types typed.arguments_typed)
      (λ o given. record { function = called.function; named = called.named; given = given })

  -- an operator's is a tree or a literal that is read
  equality_operand : (operator : BinaryOperator) (place : ℕ) → IsEquality operator → OperandStands context place → StandsBy context place (walk_of_operator operator)
  equality_operand (BinaryOperator.Comparison comparison) place equality operand = operand
  equality_operand _ place equality operand = absurd equality

  equality_allows : (operator : BinaryOperator) (type : ExprType) → IsEquality operator → AllowedBy (walk_of_operator operator) type
  equality_allows (BinaryOperator.Comparison comparison) type equality = tt
  equality_allows _ type equality = absurd equality

  -- the left operand, where it is not read, has a type that the walk takes
  first_allowed : (operator : BinaryOperator) (from to : ℕ) (left right : Tree) (type : ExprType) → ReadsNone (slots_of context.row.schema) (OfEquality operator (TypedHere context right)) left
      → (i j : ℕ) → ResolvedHere context (OfEquality operator (TypedHere context left)) right i j → (typed : TypedHere context (node from to (binary operator left right)) type)
      → AllowedBy (walk_of_operator operator) typed.left
  first_allowed operator from to left right type alone i j (inl read) typed = equality_allows operator typed.left read.1.beside.0
  first_allowed operator from to left right type alone i j (inr other) typed =
      (operands_allowed operator typed.left typed.right type (types_alone context from to operator left right other.0 alone type typed)).0

  binary_first : (place : ℕ) (operator : BinaryOperator) (stop from to : ℕ) (left right : Tree) → (stands : StandsHere context place stop (node from to (binary operator left right)))
      → ResolvedHere context (OfEquality operator (TypedHere context right)) left (place + 1) stands.children.middle
      → ResolvedHere context (OfEquality operator (TypedHere context left)) right stands.children.middle stands.children.right.middle
      → FirstOperand context place (walk_of_operator operator) (node from to (binary operator left right))
  binary_first place operator stop from to left right stands (inl read) second = record {
    operand = equality_operand operator (place + 1) read.1.beside.0 (record { stop = stands.children.middle; tree = left; stands = inr (read.0, read.2) });
    faults = λ fault answers type typed.
        absurd (fault_no_value fault (val.member read.0) (answers.of_number read.0 stands.children.middle left type read.2));
  }
  binary_first place operator stop from to left right stands (inr alone) second =
      let whole = node from to (binary operator left right) in
      let slots = slots_of context.row.schema in
      let Left : Outcome → Type 0 = OperandGives (ReadsNumber slots (OfEquality operator (TypedHere context right)) left) (MeansHere context left) in
      let Right : Outcome → Type 0 = OperandGives (ReadsNumber slots (OfEquality operator (TypedHere context left)) right) (MeansHere context right) in
      let Goes : Val → Outcome → Type 0 = λ l. OperatorGives operator (TypedHere context whole) l Right in
      of_first context place (walk_of_operator operator) stop whole stands
      (after_first place (walk_of_operator operator) whole left stands.children.middle Goes (first_child left (right ∷ [])) alone.1
      (λ type typed. (typed.left, (typed.left_typed, first_allowed operator from to left right type alone.0 stands.children.middle stands.children.right.middle second typed)))
      (λ o given. (after_both (MeansHere context left) Left Goes Goes (turned Left (MeansHere context left)
      (operand_alone (ReadsNumber slots (OfEquality operator (TypedHere context right)) left) (MeansHere context left) alone.0)) (λ l. itself (Goes l)) o).0 given))

  -- so has `has`, of which the right operand may be read
  flags_first : (place stop from to : ℕ) (left right : Tree) (i j : ℕ) → StandsHere context (place + 1) stop left → ResolvedHere context (TypedHere context left) right i j
      → FirstTree context place WalkClass.Eager (node from to (has left right))
  flags_first place stop from to left right i j stands beside =
      after_first place WalkClass.Eager (node from to (has left right)) left stop _ (first_child left (right ∷ [])) stands
      (λ type typed. (typed.left, (typed.left_typed, tt))) (λ o given. given)

  first_of_kind : (place : ℕ) (kind : NodeKind) → ¬ (walk_of_kind kind ≡ WalkClass.Leaf) → HasKind context.list place kind
      → (stop : ℕ) (tree : Tree) → StandsHere context place stop tree → FirstOperand context place (walk_of_kind kind) tree
  first_of_kind place (NodeKind.Member slot) inner here stop tree stands = of_first context place (walk_of_kind (NodeKind.Member slot)) stop tree stands (by_kind context place (NodeKind.Member slot) here (λ stop tree. FirstTree context place WalkClass.Eager tree)
      (λ base asked stop from to stands.
      after_first place WalkClass.Eager (node from to (member base asked)) base stop _ (first_child base []) (only_child context (place + 1) stop base stands.children) (λ type typed. (typed.operand, (typed.operand_typed, tt))) (λ o is. is))
      stop tree stands)
  first_of_kind place NodeKind.Count inner here stop tree stands = of_first context place (walk_of_kind NodeKind.Count) stop tree stands (by_kind context place NodeKind.Count here (λ stop tree. FirstTree context place WalkClass.Eager tree)
      (λ base stop from to stands.
      after_first place WalkClass.Eager (node from to (count base)) base stop _ (first_child base []) (only_child context (place + 1) stop base stands.children) (λ type typed. (typed.operand, (typed.operand_typed, tt))) (λ o is. is))
      stop tree stands)
  first_of_kind place NodeKind.AnyItem inner here stop tree stands = of_first context place (walk_of_kind NodeKind.AnyItem) stop tree stands (by_kind context place NodeKind.AnyItem here (λ stop tree. FirstTree context place WalkClass.Eager tree)
      (λ base stop from to stands.
      after_first place WalkClass.Eager (node from to (any_item base)) base stop _ (first_child base []) (only_child context (place + 1) stop base stands.children) (λ type typed. (typed.operand, (typed.operand_typed, tt))) (λ o is. is))
      stop tree stands)
  first_of_kind place NodeKind.Neg inner here stop tree stands = of_first context place (walk_of_kind NodeKind.Neg) stop tree stands (by_kind context place NodeKind.Neg here (λ stop tree. FirstTree context place WalkClass.Numeric tree)
      (λ operand stop from to stands.
      after_first place WalkClass.Numeric (node from to (negation operand)) operand stop _ (first_child operand []) (only_child context (place + 1) stop operand stands.children) (λ type typed. (typed.operand, (typed.operand_typed, (typed.makes.number, typed.makes.operand_is)))) (λ o is. is))
      stop tree stands)
  first_of_kind place NodeKind.Not inner here stop tree stands = of_first context place (walk_of_kind NodeKind.Not) stop tree stands (by_kind context place NodeKind.Not here (λ stop tree. FirstTree context place WalkClass.Logical tree)
      (λ operand stop from to stands.
      after_first place WalkClass.Logical (node from to (logical_not operand)) operand stop _ (first_child operand []) (only_child context (place + 1) stop operand stands.children) (λ type typed. (typed.operand, (typed.operand_typed, typed.makes.0))) (λ o is. is))
      stop tree stands)
  first_of_kind place NodeKind.Has inner here stop tree stands = of_first context place (walk_of_kind NodeKind.Has) stop tree stands (by_kind context place NodeKind.Has here (λ stop tree. FirstTree context place WalkClass.Eager tree)
      (λ left right stop from to stands. flags_first place stands.children.middle from to left right stands.children.middle stands.children.right.middle stands.children.left stands.children.right.left)
      stop tree stands)
  first_of_kind place NodeKind.InPath inner here stop tree stands = of_first context place (walk_of_kind NodeKind.InPath) stop tree stands (by_kind context place NodeKind.InPath here (λ stop tree. FirstTree context place WalkClass.Eager tree)
      (λ left path stop from to stands.
      after_first place WalkClass.Eager (node from to (in_path left path)) left stands.children.middle _ (first_child left (path ∷ [])) stands.children.left (λ type typed. (typed.left, (typed.left_typed, tt))) (λ o is. is))
      stop tree stands)
  first_of_kind place NodeKind.InList inner here stop tree stands = of_first context place (walk_of_kind NodeKind.InList) stop tree stands (by_kind context place NodeKind.InList here (λ stop tree. FirstTree context place WalkClass.Eager tree)
      (λ left items stop from to stands.
      after_first place WalkClass.Eager (node from to (in_list left items)) left stands.children.middle _ (first_child left (list_of_trees items)) stands.children.left (λ type typed. (typed.left, (typed.left_typed, tt))) (λ o is. is))
      stop tree stands)
  first_of_kind place (NodeKind.Lambda quantifier) inner here stop tree stands = of_first context place (walk_of_kind (NodeKind.Lambda quantifier)) stop tree stands (by_kind context place (NodeKind.Lambda quantifier) here (λ stop tree. FirstTree context place WalkClass.Eager tree)
      (λ base asked body stop from to stands.
      after_first place WalkClass.Eager (node from to (lambda quantifier base asked body)) base stands.children.middle _ (first_child base (body ∷ [])) stands.children.left (λ type typed. (collection typed.member_type, (typed.binds.over, tt))) (λ o is. is))
      stop tree stands)
  first_of_kind place (NodeKind.Call function) inner here stop tree stands = of_first context place (walk_of_kind (NodeKind.Call function)) stop tree stands (by_kind context place (NodeKind.Call function) here (λ stop tree. FirstTree context place WalkClass.Eager tree)
      (λ asked arguments named later stop from to stands. call_first place asked arguments stop from to (λ of_now. later (only_now function (named ∙ sym of_now))) stands) stop tree stands)
  first_of_kind place (NodeKind.Binary operator) inner here stop tree stands =
      by_kind context place (NodeKind.Binary operator) here (λ stop tree. FirstOperand context place (walk_of_operator operator) tree)
      (λ left right stop from to stands. binary_first place operator stop from to left right stands stands.children.left stands.children.right.left)
      stop tree stands
  first_of_kind place _ inner here stop tree stands = absurd (inner refl)

  first_operand : (place : ℕ) (class : WalkClass) → ¬ (class ≡ WalkClass.Leaf) → IsClassAt context.list class place
      → (stop : ℕ) (tree : Tree) → StandsHere context place stop tree → FirstOperand context place class tree
  first_operand place class inner is stop tree stands =
      let found = some_there (λ (f : CheckedNode). walk_of_kind f.kind ≡ class) (slice_get context.list.nodes place) is in
      let kind = found.0.kind in
      subst (λ (c : WalkClass). FirstOperand context place c tree) found.1.1
      (first_of_kind place kind (λ leaf. inner (sym found.1.1 ∙ leaf))
      (there_found (λ (f : CheckedNode). f.kind ≡ kind) (slice_get context.list.nodes place) found.0 found.1.0 refl) stop tree stands)

  -- a fault of the first operand is the outcome
  pub first_faults : (place : ℕ) (class : WalkClass) (fault : EvalFault) → ¬ (class ≡ WalkClass.Leaf) → IsClassAt context.list class place
      → AnswersAtPlace context (place + 1) (λ type. fault_outcome fault) → AnswersAtPlace context place (λ type. fault_outcome fault)
  first_faults place class fault inner is first = record {
    of_tree = λ stop tree type stands typed. (first_operand place class inner is stop tree stands).faults fault first type typed;
    of_number = λ number stop tree type there. absurd (inner_number context place class inner is number stop tree there);
  }

  -- the next node is the first operand
  pub first_step : (place : ℕ) (class : WalkClass) → ¬ (class ≡ WalkClass.Leaf) → IsClassAt context.list class place → PartStands context place
      → StandsBy context (place + 1) class
  first_step place class inner is part = (first_operand place class inner is part.stop part.tree part.stands).operand

  -- a node of truth values is of type Boolean
  truth_of_kind : (place : ℕ) (kind : NodeKind) → walk_of_kind kind ≡ WalkClass.Logical → HasKind context.list place kind
      → (stop : ℕ) (tree : Tree) → StandsHere context place stop tree → (type : ExprType) → TypedHere context tree type → IsBooleanOrNull type
  truth_of_kind place NodeKind.Not logical here =
      by_kind context place NodeKind.Not here (λ stop tree. (type : ExprType) → TypedHere context tree type → IsBooleanOrNull type)
      (λ operand stop from to stands type typed. inl typed.makes.1)
  truth_of_kind place (NodeKind.Binary operator) logical here =
      by_kind context place (NodeKind.Binary operator) here (λ stop tree. (type : ExprType) → TypedHere context tree type → IsBooleanOrNull type)
      (λ left right stop from to stands type typed. logical_type operator typed.left typed.right type logical
      (plain_types (slots_of context.row.schema) operator (side_of left typed.left) (side_of right typed.right) type (λ equality. let eager = equality_walks operator equality in cc) typed.makes))
  truth_of_kind place _ logical here = absurd (cc)

  pub logical_stands : (place : ℕ) → IsClassAt context.list WalkClass.Logical place → PartStands context place → TypedStands context place IsBooleanOrNull
  logical_stands place is part =
      let found = some_there (λ (f : CheckedNode). walk_of_kind f.kind ≡ WalkClass.Logical) (slice_get context.list.nodes place) is in
      let typed = has_type context place part.stop part.tree part.stands in
      record {
        stop = part.stop;
        tree = part.tree;
        stands = part.stands;
        type_of = typed.0;
        typed = typed.1;
        allowed = truth_of_kind place found.0.kind found.1.1
            (there_found (λ (f : CheckedNode). f.kind ≡ found.0.kind) (slice_get context.list.nodes place) found.0 found.1.0 refl)
            part.stop part.tree part.stands typed.0 typed.1;
      }

  pub operand_by : (place : ℕ) (class : WalkClass) → StandsBy context place class → OperandStands context place
  operand_by place WalkClass.Logical typed = tree_operand context place (typed_part context place IsBooleanOrNull typed)
  operand_by place WalkClass.Numeric typed = tree_operand context place (typed_part context place IsNumberOperand typed)
  operand_by place _ operand = operand

  part_by : (place : ℕ) (class : WalkClass) → ¬ (class ≡ WalkClass.Leaf) → IsClassAt context.list class place → StandsBy context place class → PartStands context place
  part_by place class inner is by = tree_of_class context place class inner is (operand_by place class by)

  pub first_part : (place : ℕ) (class : WalkClass) → ¬ (class ≡ WalkClass.Leaf) → IsClassAt context.list class place → PartStands context place → OperandStands context (place + 1)
  first_part place class inner is part = operand_by (place + 1) class (first_step place class inner is part)

  -- what goes on from each node to the next goes down a chain
  down : (P Q : ℕ → Type 0) → ((i : ℕ) → P i → Q i → P (i + 1)) → (top d k : ℕ) → k ≡ top + d → P top → ((i : ℕ) → i < k → top ≤ i → Q i) → P k
  down P Q step top zero k is first all = subst P (let e : top ≡ k = omega arith in e) first
  down P Q step top (suc d) k is first all =
      let e : top + d + 1 ≡ k = omega arith in
      subst P e (step (top + d) (down P Q step top d (top + d) refl first (λ i before from. all i (omega arith) from)) (all (top + d) (omega arith) (omega arith)))

  module _ (class : WalkClass) (inner : ¬ (class ≡ WalkClass.Leaf)) (top k : ℕ) where
    pub typed_down : top ≤ k → StandsBy context top class → ((i : ℕ) → i < k → top ≤ i → IsClassAt context.list class i) → StandsBy context k class
    typed_down below first all =
        down (λ i. StandsBy context i class) (IsClassAt context.list class)
        (λ i by is. first_step i class inner is (part_by i class inner is by)) top (k - top) k (omega arith) first all

    pub part_down : top ≤ k → PartStands context top → ((i : ℕ) → i < k → top ≤ i → IsClassAt context.list class i) → OperandStands context k
    part_down below first all =
        down (OperandStands context) (IsClassAt context.list class) (λ i operand is. first_part i class inner is (tree_of_class context i class inner is operand)) top (k - top) k (omega arith)
        (tree_operand context top first) all

  -- the bottom of a chain, after its top
  pub bottom_down : (class : WalkClass) → ¬ (class ≡ WalkClass.Leaf) → (top k : ℕ) → top < k → PartStands context top
      → ((i : ℕ) → i < k → top ≤ i → IsClassAt context.list class i) → StandsBy context k class
  bottom_down class inner top k below first all =
      typed_down class inner (top + 1) k (omega arith) (first_step top class inner (all top below (omega arith)) first) (λ i before from. all i before (omega arith))

  -- a step up a chain to the node before, with what was answered after that
  pub record StepUp (class : WalkClass) (Answers : ℕ → Type 0) (at : ℕ) : Type 0 where
    pub stands : PartStands context (at - 1)
    pub here : IsClassAt context.list class (at - 1)
    pub first : Answers (at - 1 + 1)

  pub step_up : (class : WalkClass) → ¬ (class ≡ WalkClass.Leaf) → (Answers : ℕ → Type 0) (top at bottom : ℕ) → top < at → at ≤ bottom
      → PartStands context top → ((i : ℕ) → i < bottom → top ≤ i → IsClassAt context.list class i) → Answers at → StepUp class Answers at
  step_up class inner Answers top at bottom above within part all answers =
      let e : at ≡ at - 1 + 1 = omega arith in
      record {
        stands = tree_of_class context (at - 1) class inner (all (at - 1) (omega arith) (omega arith)) (part_down class inner top (at - 1) (omega arith) part (λ i before from. all i (omega arith) from));
        here = all (at - 1) (omega arith) (omega arith);
        first = subst Answers e answers;
      }

-- a chain that begins at an index of a class ends after it
pub below_bottom : (list : FlatTree) (class : WalkClass) (place bottom : ℕ) → place ≤ bottom → IsClassAt list class place
    → ¬ (IsClassAt list class bottom) → place < bottom
below_bottom list class place bottom below is is_not =
    elim (cases_lt place bottom) [
      | inl before ↦ before
      | inr after ↦ (let same : place ≡ bottom = omega arith in absurd (is_not (subst (IsClassAt list class) same is)))
    ]

-- what was answered after the last step up was answered at the top
pub at_top : (Answers : ℕ → Type 0) (at top : ℕ) → top ≤ at → at ≤ top → Answers at → Answers top
at_top Answers at top above below answers = let e : at ≡ top = omega arith in subst Answers e answers
