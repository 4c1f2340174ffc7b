-- What a comparison evaluates to, of two values, of two that are kept, and of two numbers.
use Rattle.std.proofs.Common.{◌≡◌, ℕ, ℤ, ◌+◌, Bool, Option, Some, None, Ok, slice_get, refl}
use Rattle.std.specs.Prelude.{IsTrue, ◌↔◌}
use Rattle.edm_values.specs.Val.{Val, boolean}
use Rattle.edm_values.specs.declared.datum.Datum.{Datum}
use Rattle.edm_values.specs.declared.datum.Datum.TheVariants as datum
use Rattle.edm_values.specs.declared.value.Value.{Value}
use Rattle.csdl_schema.specs.ExprType.{ExprType}
use Rattle.csdl_schema.specs.SchemaModel.{slots_of}
use Rattle.edm_entities.specs.Row.{val_of}
use Rattle.odata_functions.specs.Comparable.{AreComparableBy, HaveEquality, HaveOrder}
use Rattle.odata_functions.specs.Comparison.{ComparesTrue}
use Rattle.odata_functions.specs.DatumVal.{Reading, datum_val}
use Rattle.odata_functions.specs.KeptVal.{Contents, kept_val}
use Rattle.odata_syntax.specs.declared.binary_operator.ComparisonOperator.{ComparisonOperator}
use Rattle.odata_syntax.specs.declared.binary_operator.BinaryOperator.{BinaryOperator}
use Rattle.odata_checked_filter.specs.declared.checked_node.CheckedNode.{CheckedNode}
use Rattle.odata_checked_filter.specs.declared.checked_node.NodeKind.{NodeKind}
use Rattle.odata_filter_operations.specs.CalculationGives.{number_val}
use Rattle.odata_filter_operations.specs.Outcome.{gives}
use Rattle.odata_filter_operations.specs.TruthGives.{truth_val}
use Rattle.odata_filter_operations.specs.DatumView.{reading_at}
use Rattle.filter_context.specs.private.Place.{HasOperator, IsRightOf, PartStands}
use Rattle.filter_context.specs.private.EvalContext.{EndsOnceHere}
use Rattle.filter_context.specs.private.ContextModel.{ContextModel}
use Rattle.odata_eval.specs.private.WalkAnswer.{AnswersDatum, AnswersKept, AnswersNumber, AnswersTruth}
use Rattle.filter_context.specs.private.AnswersAtPlace.{AnswersAtPlace}
use Rattle.odata_meaning.proofs.meaning.Kinds.{comparable_values}
use Rattle.odata_eval.proofs.walking.KeptValues.{at_contents, at_types}
use Rattle.filter_context.proofs.Parts.{some_there}
use Rattle.odata_eval.proofs.walking.WalkSteps.{of_sides, sides_there}
use Rattle.odata_eval.proofs.walking.WalkValues.{made_value}

-- which values may be compared does not hang on how records and lists are read
abbrev pub ComparedAnyhow : Type 0
ComparedAnyhow =
    (operator : ComparisonOperator) (left right : Datum) (l r k s : Reading) → AreComparableBy operator (datum_val l left) (datum_val r right)
    → AreComparableBy operator (datum_val k left) (datum_val s right)

-- nor of kept ones on what these hold
abbrev pub KeptAnyhow : Type 0
KeptAnyhow =
    (operator : ComparisonOperator) (left right : Value) (l r k m : Contents) → AreComparableBy operator (kept_val l left) (kept_val r right)
    → AreComparableBy operator (kept_val k left) (kept_val m right)

-- numbers and nulls are compared by every operator
numbers_alike : (left right : Option ℤ) → HaveEquality (number_val left) (number_val right) × HaveOrder (number_val left) (number_val right)
numbers_alike (Some a) (Some b) = (tt, tt)
numbers_alike (Some a) None = (tt, tt)
numbers_alike None (Some b) = (tt, tt)
numbers_alike None None = (tt, tt)

numbers_comparable : (comparison : ComparisonOperator) (left right : Option ℤ) → AreComparableBy comparison (number_val left) (number_val right)
numbers_comparable ComparisonOperator.Eq left right = (numbers_alike left right).0
numbers_comparable ComparisonOperator.Ne left right = (numbers_alike left right).0
numbers_comparable _ left right = (numbers_alike left right).1

module _ (context : ContextModel) (place : ℕ) (comparison : ComparisonOperator) (here : HasOperator context.list place (BinaryOperator.Comparison comparison))
    (right_place : ℕ) (is_right : IsRightOf context.list place right_place) where
  module _ (l r : ExprType → Val) (first : AnswersAtPlace context (place + 1) (λ type. Some (gives (l type))))
      (second : AnswersAtPlace context right_place (λ type. Some (gives (r type)))) where
    -- the types of the sides are compared, so the values at these are
    comparable_sides : EndsOnceHere context → PartStands context place → (s t : ExprType) × AreComparableBy comparison (l s) (r t)
    comparable_sides ends part =
        let found = some_there (λ (f : CheckedNode). f.kind ≡ NodeKind.Binary (BinaryOperator.Comparison comparison)) (slice_get context.list.nodes place) here in
        let sides = sides_there context place (BinaryOperator.Comparison comparison) here right_place is_right l r first second ends found.0 found.1.0 part in
        (sides.0, sides.1, comparable_values (slots_of context.row.schema) comparison sides.0 sides.1 (l sides.0) (r sides.1) sides.2.0.0 sides.2.1 sides.2.2)

    comparison_answers : (answer : Bool) → ((s t : ExprType) → AreComparableBy comparison (l s) (r t))
        → ((s t : ExprType) → IsTrue answer ↔ ComparesTrue comparison (l s) (r t)) → AnswersTruth context place (Ok (Some answer))
    comparison_answers answer may compared =
        of_sides context place (BinaryOperator.Comparison comparison) here right_place is_right
        l (λ type. Some (gives (r type))) (λ type. Some (gives (boolean answer))) first second
        (λ stop whole s t type Right stands typed given. (gives (r t), (given, (may s t, compared s t))))

  pub numbers_compared : (left right : Option ℤ) (answer : Bool) → AnswersNumber context (place + 1) (Ok left) → AnswersNumber context right_place (Ok right)
      → (IsTrue answer ↔ ComparesTrue comparison (number_val left) (number_val right)) → AnswersTruth context place (Ok (Some answer))
  numbers_compared left right answer first second compared =
      comparison_answers (λ type. number_val left) (λ type. number_val right) first second answer (λ s t. numbers_comparable comparison left right) (λ s t. compared)

  -- of two stored values
  module _ (left right : Value) (first : AnswersKept context (place + 1) left) (second : AnswersKept context right_place right) where
    pub may_compare_kept : EndsOnceHere context → KeptAnyhow → PartStands context place
        → (q m : Contents) → AreComparableBy comparison (kept_val q left) (kept_val m right)
    may_compare_kept ends anyhow part q m =
        let slots = slots_of context.row.schema in
        let sides = comparable_sides (val_of left slots.properties) (val_of right slots.properties) first second ends part in
        let may = at_contents (AreComparableBy comparison) slots sides.0 sides.1 left right sides.2 in
        anyhow comparison left right may.0 may.1 q m may.2

    pub kept_compared : EndsOnceHere context → KeptAnyhow → PartStands context place → (answer : Bool)
        → ((q m : Contents) → IsTrue answer ↔ ComparesTrue comparison (kept_val q left) (kept_val m right)) → AnswersTruth context place (Ok (Some answer))
    kept_compared ends anyhow part answer compared =
        let slots = slots_of context.row.schema in
        let may = may_compare_kept ends anyhow part in
        comparison_answers (val_of left slots.properties) (val_of right slots.properties) first second answer (λ s t. at_types (AreComparableBy comparison) slots s t left right may)
        (λ s t. at_types (λ v w. IsTrue answer ↔ ComparesTrue comparison v w) slots s t left right compared)

  -- of two that are made
  module _ (left right : Datum) (first : AnswersDatum context (place + 1) (Ok left)) (second : AnswersDatum context right_place (Ok right)) where
    abbrev made : Datum → ExprType → Val
    made value type = datum_val (reading_at (slots_of context.row.schema) type) value

    pub may_compare : EndsOnceHere context → ComparedAnyhow → PartStands context place
        → (q s : Reading) → AreComparableBy comparison (datum_val q left) (datum_val s right)
    may_compare ends anyhow part q s =
        let slots = slots_of context.row.schema in
        let sides = comparable_sides (made left) (made right) first second ends part in
        anyhow comparison left right (reading_at slots sides.0) (reading_at slots sides.1) q s sides.2

    pub truth_compared : EndsOnceHere context → ComparedAnyhow → PartStands context place → (answer : Bool)
        → ((q s : Reading) → IsTrue answer ↔ ComparesTrue comparison (datum_val q left) (datum_val s right)) → AnswersDatum context place (Ok (datum.Bool answer))
    truth_compared ends anyhow part answer compared =
        let slots = slots_of context.row.schema in
        let may = may_compare ends anyhow part in
        made_value context place (datum.Bool answer) (truth_val (Some answer))
        (comparison_answers (made left) (made right) first second answer (λ s t. may (reading_at slots s) (reading_at slots t)) (λ s t. compared (reading_at slots s) (reading_at slots t)))
        (λ reading. refl)
