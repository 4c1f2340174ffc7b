-- Operands: trees, and String literals that have a number of an enumeration.
use Rattle.std.proofs.Common.{◌≡◌, ◌∙◌, ap, sym, subst, refl, ℕ, ℤ, ◌<◌, ◌+◌, List, Option, Some, None, length, slice_get, inl, inr}
use Rattle.std.specs.Prelude.{IsSomeAnd}
use Rattle.std.proofs.lemmas.Option.{slice_get_within}
use Rattle.edm_values.specs.Val.{Val, member}
use Rattle.edm_values.specs.declared.value.Value.{Value}
use Rattle.odata_syntax.specs.Tree.{Tree, literal, node}
use Rattle.odata_syntax.specs.declared.binary_operator.BinaryOperator.{BinaryOperator}
use Rattle.odata_syntax.specs.declared.node.LiteralKind.{LiteralKind}
use Rattle.csdl_schema.specs.ExprType.{ExprType, single, enumeration}
use Rattle.csdl_schema.specs.SchemaModel.{Slots, slots_of, type_name_at}
use Rattle.odata_signatures.specs.ExprTypes.{boolean_type, string_type}
use Rattle.odata_signatures.specs.OperatorTyped.{IsEquality, OperatorTyped}
use Rattle.odata_signatures.specs.QuotedNumber.{ResolvedNumber}
use Rattle.odata_signatures.specs.Side.{Side}
use Rattle.odata_signatures.specs.Reads.{OfEquality, ReadsNumber}
use Rattle.odata_signatures.specs.Sides.{quoted_text}
use Rattle.odata_checked_filter.specs.Calls.{TakesMemory}
use Rattle.odata_checked_filter.specs.Stands.{ResolvedStands, HasValue, IsLiteralNode}
use Rattle.odata_checked_filter.specs.declared.checked_node.CheckedNode.{CheckedNode}
use Rattle.odata_checked_filter.specs.declared.checked_node.NodeKind.{NodeKind}
use Rattle.odata_filter_operations.specs.Outcome.{Outcome, gives}
use Rattle.odata_filter_operations.specs.FaultView.{fault_outcome}
use Rattle.odata_filter_operations.specs.Reports.{Reports}
use Rattle.odata_filter_operations.specs.declared.eval_fault.EvalFault.{EvalFault}
use Rattle.edm_entities.specs.Row.{value_of}
use Rattle.odata_meaning.specs.Environment.{scope_of}
use Rattle.odata_meaning.specs.OneByOne.{ItemAlone}
use Rattle.filter_context.specs.declared.walk_class.WalkClass.{WalkClass}
use Rattle.filter_context.specs.private.Place.{HasKind, IsClassAt, OperandStands, PartStands}
use Rattle.filter_context.specs.private.EvalContext.{MeansHere, NumberHere, OperandHere, StandsHere, TypedHere}
use Rattle.filter_context.specs.private.ContextModel.{ContextModel, environment_of}
use Rattle.filter_context.specs.private.AnswersAtPlace.{AnswersAtPlace}
use Rattle.filter_context.specs.WalkClass.{walk_of_kind}
use Rattle.filter_context.proofs.Parts.{some_there, stands_inside, reports_there, there_found}

-- the kind of a node that is no literal's
abbrev pub IsOther : NodeKind → Type 0
IsOther (NodeKind.Literal kind value) = ⊥
IsOther _ = Unit {0}

-- the node of a literal that has a number
pub record HasNumber (values : List Value) (number : ℤ) (kind : NodeKind) : Type 0 where
  pub value : ℕ
  pub kind_is : kind ≡ NodeKind.Literal LiteralKind.Str value
  pub at : slice_get values value ≡ Some (Value.Enum number)

has_number : (values : List Value) (number : ℤ) (kind : NodeKind) → IsLiteralNode LiteralKind.Str kind → HasValue values (λ value. value ≡ Value.Enum number) kind
    → HasNumber values number kind
has_number values number (NodeKind.Literal kind value) is has =
    let held = some_there (λ (v : Value). v ≡ Value.Enum number) (slice_get values value) has in
    record { value = value; kind_is = ap (λ (k : LiteralKind). NodeKind.Literal k value) is; at = held.1.0 ∙ ap Some held.1.1 }
has_number values number _ is has = absurd is

pub one_kind : (o : Option CheckedNode) (a b : NodeKind) → IsSomeAnd o (λ f. f.kind ≡ a) → IsSomeAnd o (λ f. f.kind ≡ b) → a ≡ b
one_kind o a b first second =
    let one = some_there (λ (f : CheckedNode). f.kind ≡ a) o first in
    let other = some_there (λ (f : CheckedNode). f.kind ≡ b) o second in
    let same : Some one.0 ≡ Some other.0 = sym one.1.0 ∙ other.1.0 in
    let is : one.0 ≡ other.0 = cc in
    sym one.1.1 ∙ ap (λ (f : CheckedNode). f.kind) is ∙ other.1.1

-- a text resolves nothing, nor is resolved what quotes none
no_text : (slots : Slots) (type : ExprType) (quoted : Option (List ℕ)) (n : ℤ) → type ≡ string_type → ¬ ResolvedNumber slots type quoted n
no_text slots type quoted n is number = subst (λ (t : ExprType). ResolvedNumber slots t quoted n) is number

unquoted : (slots : Slots) (type : ExprType) (n : ℤ) → ¬ ResolvedNumber slots type None n
unquoted slots (single (enumeration name)) n number = number
unquoted slots _ n number = number

-- no fault is a value
pub fault_no_value : (fault : EvalFault) (v : Val) → fault_outcome fault ≡ Some (gives v) → ⊥
fault_no_value EvalFault.Overflow v same = cc
fault_no_value EvalFault.DivideByZero v same = cc
fault_no_value EvalFault.Memory v same = cc

module _ (context : ContextModel) where
  -- ---- a literal that has a number

  pub record NumberThere (number : ℤ) (place stop : ℕ) : Type 0 where
    pub value : ℕ
    pub here : HasKind context.list place (NodeKind.Literal LiteralKind.Str value)
    pub at : slice_get context.list.values value ≡ Some (Value.Enum number)
    pub inside : place < length context.list.nodes
    pub next : place + 1 ≡ stop
    pub stops : IsSomeAnd (slice_get context.list.nodes place) (λ found. found.stop ≡ stop)

  pub number_there : (number : ℤ) (place stop : ℕ) (tree : Tree) → NumberHere context number place stop tree → NumberThere number place stop
  number_there number place stop (node from to (literal LiteralKind.Str spelling)) there =
      let top = there.top in
      let has = has_number context.list.values number top.found.kind top.kind top.valued in
      record {
        value = has.value;
        here = there_found (λ (f : CheckedNode). f.kind ≡ NodeKind.Literal LiteralKind.Str has.value) (slice_get context.list.nodes place) top.found top.stands_at has.kind_is;
        at = has.at;
        inside = slice_get_within context.list.nodes place top.found top.stands_at;
        next = there.children;
        stops = there_found (λ (f : CheckedNode). f.stop ≡ stop) (slice_get context.list.nodes place) top.found top.stands_at top.last;
      }
  number_there number place stop _ there = absurd there

  -- its type is that of a text
  pub number_text : (number : ℤ) (place stop : ℕ) (tree : Tree) (type : ExprType) → NumberHere context number place stop tree → TypedHere context tree type → type ≡ string_type
  number_text number place stop (node from to (literal LiteralKind.Str spelling)) type there typed = typed.2
  number_text number place stop _ type there typed = absurd there

  pub no_number : (place : ℕ) (kind : NodeKind) → IsOther kind → HasKind context.list place kind → (number : ℤ) (stop : ℕ) (tree : Tree) → NumberHere context number place stop tree → ⊥
  no_number place kind other here number stop tree there =
      let it = number_there number place stop tree there in
      subst IsOther (one_kind (slice_get context.list.nodes place) kind (NodeKind.Literal LiteralKind.Str it.value) here it.here) other

  -- no literal that has a number stands there
  abbrev pub HasNone : ℕ → Type 0
  HasNone place = (number : ℤ) (stop : ℕ) (tree : Tree) → NumberHere context number place stop tree → ⊥

  pub inner_number : (place : ℕ) (class : WalkClass) → ¬ (class ≡ WalkClass.Leaf) → IsClassAt context.list class place → (number : ℤ) (stop : ℕ) (tree : Tree)
      → NumberHere context number place stop tree → ⊥
  inner_number place class inner is number stop tree there =
      let it = number_there number place stop tree there in
      let found = some_there (λ (f : CheckedNode). walk_of_kind f.kind ≡ class) (slice_get context.list.nodes place) is in
      let literal_is : found.0.kind ≡ NodeKind.Literal LiteralKind.Str it.value =
      one_kind (slice_get context.list.nodes place) found.0.kind (NodeKind.Literal LiteralKind.Str it.value)
      (there_found (λ (f : CheckedNode). f.kind ≡ found.0.kind) (slice_get context.list.nodes place) found.0 found.1.0 refl) it.here in
      inner (sym found.1.1 ∙ ap walk_of_kind literal_is)

  -- ---- operands

  pub tree_operand : (place : ℕ) → PartStands context place → OperandStands context place
  tree_operand place part = record { stop = part.stop; tree = part.tree; stands = inl part.stands }

  here_inside : (place stop : ℕ) (tree : Tree) → OperandHere context place stop tree → place < length context.list.nodes
  here_inside place stop tree (inl stands) = stands_inside context place stop tree stands
  here_inside place stop tree (inr number) = (number_there number.0 place stop tree number.1).inside

  pub operand_inside : (place : ℕ) → OperandStands context place → place < length context.list.nodes
  operand_inside place operand = here_inside place operand.stop operand.tree operand.stands

  -- a tree, where its node is none of a literal
  pub tree_of_kind : (place : ℕ) (kind : NodeKind) → IsOther kind → HasKind context.list place kind → OperandStands context place → PartStands context place
  tree_of_kind place kind other here operand = elim operand.stands [
    | inl stands ↦ record { stop = operand.stop; tree = operand.tree; stands = stands }
    | inr number ↦ absurd (no_number place kind other here number.0 operand.stop operand.tree number.1)
  ]

  pub tree_of_class : (place : ℕ) (class : WalkClass) → ¬ (class ≡ WalkClass.Leaf) → IsClassAt context.list class place → OperandStands context place → PartStands context place
  tree_of_class place class inner is operand = elim operand.stands [
    | inl stands ↦ record { stop = operand.stop; tree = operand.tree; stands = stands }
    | inr number ↦ absurd (inner_number place class inner is number.0 operand.stop operand.tree number.1)
  ]

  -- ---- by the types of the other operand

  -- what stands for a tree where the other operand is of some types
  abbrev pub ResolvedHere : (ExprType → Type 0) → Tree → ℕ → ℕ → Type 0
  ResolvedHere OtherSide tree =
      ResolvedStands context.row.schema context.row.type_id (scope_of (environment_of context)) context.list OtherSide tree (λ i j. StandsHere context i j tree)

  pub resolved_here : (OtherSide : ExprType → Type 0) (tree : Tree) (i j : ℕ) → ResolvedHere OtherSide tree i j → OperandHere context i j tree
  resolved_here OtherSide tree i j (inl read) = inr (read.0, read.2)
  resolved_here OtherSide tree i j (inr alone) = inl alone.1

  pub resolved_operand : (OtherSide : ExprType → Type 0) (tree : Tree) (i j : ℕ) → ResolvedHere OtherSide tree i j → OperandStands context i
  resolved_operand OtherSide tree i j there = record { stop = j; tree = tree; stands = resolved_here OtherSide tree i j there }

  -- its outcomes there
  abbrev pub AloneHere : (ExprType → Type 0) → Tree → Outcome → Type 0
  AloneHere =
      ItemAlone (slots_of context.row.schema) (type_name_at context.row.schema context.row.type_id) context.moment (value_of context.row) (environment_of context)

  -- what is answered there is one of them
  pub resolved_reports : (OtherSide : ExprType → Type 0) (tree : Tree) (i j : ℕ) (type : ExprType) (reported : ExprType → Option Outcome) → ResolvedHere OtherSide tree i j → TypedHere context tree type
      → AnswersAtPlace context i reported → Reports (TakesMemory tree) (AloneHere OtherSide tree) (reported type)
  resolved_reports OtherSide tree i j type reported (inl read) typed answers =
      let P : Option Outcome → Type 0 = Reports (TakesMemory tree) (AloneHere OtherSide tree) in
      subst P (sym (answers.of_number read.0 j tree type read.2)) (inl (read.0, read.1, refl))
  resolved_reports OtherSide tree i j type reported (inr alone) typed answers =
      reports_there (reported type) (TakesMemory tree) (TakesMemory tree) (MeansHere context tree) (AloneHere OtherSide tree)
      (λ takes. takes) (λ o means. inr (alone.0, means)) (answers.of_tree j tree type alone.1 typed)

  -- the value that is answered where a number is
  pub number_is : (i j : ℕ) (tree : Tree) (number : ℤ) (value : ExprType → Val) → NumberHere context number i j tree → AnswersAtPlace context i (λ type. Some (gives (value type)))
      → (type : ExprType) → value type ≡ member number
  number_is i j tree number value there answers type =
      let same : Some (gives (value type)) ≡ Some (gives (member number)) = answers.of_number number j tree type there in
      cc

  -- of two operands one is read at most
  pub not_both : (operator : BinaryOperator) (left right : Tree) (m n : ℤ) → ReadsNumber (slots_of context.row.schema) (OfEquality operator (TypedHere context right)) left m
      → ReadsNumber (slots_of context.row.schema) (OfEquality operator (TypedHere context left)) right n → ⊥
  not_both operator (node from to (literal LiteralKind.Str spelling)) right m n of_left of_right =
      no_text (slots_of context.row.schema) of_right.type_of (quoted_text right) n of_right.beside.1.2 of_right.number
  not_both operator _ right m n of_left of_right = unquoted (slots_of context.row.schema) of_left.type_of m of_left.number

-- an operator that reads is of a truth value
pub equality_boolean : (slots : Slots) (operator : BinaryOperator) (left right : Side) (type : ExprType) → IsEquality operator → OperatorTyped slots operator left right type → type ≡ boolean_type
equality_boolean slots (BinaryOperator.Comparison comparison) left right type equality (inl plain) = plain.1
equality_boolean slots (BinaryOperator.Comparison comparison) left right type equality (inr read) = read.1
equality_boolean slots _ left right type equality typed = absurd equality
