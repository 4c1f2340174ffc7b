use Rattle.std.proofs.Common.{Err, None, ◌≡◌, ◌<◌, ◌≤◌, ◌+◌, ◌-◌, ◌∙◌, ℕ, ℤ, [], ◌∷◌, refl, Bool, Option, Some, Result, Ok, SFits, w64, ap, sym, subst, slice_get, length, rules, arith}
use Rattle.edm_values.specs.declared.datum.Datum.{Datum}
use Rattle.std.specs.Prelude.{◌↔◌, IsTrue}
use Rattle.std.proofs.lemmas.Int.{to_z-of_z}
use Rattle.std.proofs.lemmas.Option.{slice_get_read}
use Rattle.edm_values.specs.PlainVal.{plain_val}
use Rattle.edm_values.specs.Val.{Val}
use Rattle.csdl_schema.specs.ExprType.{collection}
use Rattle.csdl_schema.specs.SchemaModel.{slots_of}
use Rattle.odata_functions.specs.Comparison.{ComparesTrue}
use Rattle.odata_functions.specs.DatumVal.{datum_val}
use Rattle.odata_checked_filter.specs.declared.checked_node.CheckedNode.{CheckedNode}
use Rattle.odata_checked_filter.specs.declared.checked_node.NodeKind.{NodeKind}
use Rattle.odata_signatures.specs.ExprTypes.{IsBooleanOrNull}
use Rattle.odata_signatures.specs.declared.function.Function.{Function}
use Rattle.odata_syntax.specs.declared.binary_operator.BinaryOperator.{BinaryOperator}
use Rattle.odata_filter_operations.specs.declared.eval_fault.EvalFault.{EvalFault}
use Rattle.filter_context.specs.declared.walk_class.WalkClass.{WalkClass}
use Rattle.odata_signatures.specs.CollectionTyped.{IsComparableWithMembers}
use Rattle.odata_signatures.specs.HasTyped.{AreFlags}
use Rattle.odata_filter_operations.specs.CalculationGives.{number_val}
use Rattle.odata_filter_operations.specs.CollectionGives.{AnyItemGives, CountGives}
use Rattle.odata_filter_operations.specs.HasGives.{HasGives}
use Rattle.odata_filter_operations.specs.LambdaGives.{InGives}
use Rattle.odata_filter_operations.specs.Outcome.{gives}
use Rattle.odata_filter_operations.specs.TextCosts.{comparison_cost}
use Rattle.odata_filter_operations.specs.TruthGives.{truth_val}
use Rattle.edm_entities.specs.Row.{val_of}
use Rattle.odata_filter_operations.specs.DatumView.{reading_at}
use Rattle.odata_eval.specs.declared.stop.EvalStop.{EvalStop}
use Rattle.odata_meaning.specs.Costs.{item_cost}
use Rattle.filter_context.specs.private.EvalContext.{EndsOnceHere, TypedHere}
use Rattle.odata_eval.specs.private.Spending.{CountedDatum, CountedMembers, CountedNumber, CountedTruth, SpendsAt, IsTaken, Takes, datum_stop, path_due, stopped_by}
use Rattle.odata_eval.specs.declared.budget.Budget.{Budget}
use Rattle.odata_eval.proofs.spending.Budgets.{takes_nothing}
use Rattle.odata_eval.proofs.spending.Calls.{AllWalked, call_spends, call_stops}
use Rattle.odata_eval.proofs.spending.Free.{leaf_free}
use Rattle.odata_eval.proofs.spending.ItemStops.{item_ends, item_is_costly, item_pays, item_stops, list_ends, list_is_costly}
use Rattle.odata_eval.proofs.spending.Lambdas.{members_spend, null_spends}
use Rattle.odata_eval.proofs.spending.Operators.{both_spend, right_stops}
use Rattle.odata_eval.proofs.spending.Paths.{path_spends, path_stops}
use Rattle.odata_eval.proofs.spending.Rests.{flags_spend, free_spends, nothing_more, right_asked, right_left_out}
use Rattle.odata_eval.proofs.spending.Splits.{first_stops}
use Rattle.odata_eval.proofs.spending.Stops.{after_stop, after_value, as_counted, as_number, as_paid, as_spent, by_stop, datum_faults, fault_paid, next_spent, number_faults, number_spent, truth_faults, unbounded_spends}
use Rattle.odata_eval.proofs.spending.TextCosts.{numbers_cost}
use Rattle.odata_eval.proofs.spending.Members.{all_paid, body_decides, body_passes, body_stops, none_left, none_paid}
use Rattle.filter_context.specs.private.Place.{HasCall, HasKind, HasOperator, IsNumberOperand, IsStopOf, NumberStands, OperandStands, PartStands, TruthStands}
use Rattle.filter_context.specs.WalkClass.{walk_of_kind}
use Rattle.odata_eval.specs.private.WalkAnswer.{AllAnswered, AnswersDatum, AnswersNumber, AnswersTruth}
use Rattle.filter_context.specs.Frames.{frame_of}
use Rattle.odata_eval.specs.private.Lambda.{Suits}
use Rattle.filter_context.specs.private.ContextModel.{ContextModel, environment_of, with_frame}
use Rattle.filter_context.proofs.Parts.{found_there, part_inside, there_found}
use Rattle.odata_eval.proofs.walking.CallSteps.{OneName, argument_behind, argument_faults, argument_stands, call_answers, call_applies, first_argument, third_is_last}
use Rattle.odata_meaning.specs.private.LawsBelow.{Promotes}
use Rattle.odata_eval.proofs.walking.BaseSteps.{any_item_base, base_answers, base_members, count_base}
use Rattle.odata_eval.proofs.walking.ItemSteps.{equal_due, item_differs, item_equals, item_faults, items_there, list_begins, lists_there, may_compare_item, next_due, next_item, no_item, stop_further}
use Rattle.odata_eval.proofs.walking.Lambdas.{body_behind, body_place, body_there, fault_answers, members_suit, null_answers, over_members, truth_answers}
use Rattle.odata_eval.proofs.walking.MembersAsked.{all_undecided, body_truth, decided_at, each_is, fault_at, none_yet, undecided_at}
use Rattle.odata_eval.proofs.walking.MemberValues.{flags_are, path_gives, some_compared}
use Rattle.odata_eval.proofs.walking.Sides.{flags_sides, next_faults, next_further, next_part, next_there, NoOperand, path_sides, sides_answer, some_sides}
use Rattle.odata_eval.proofs.walking.MemberSteps.{step_answers, step_slot}
use Rattle.odata_eval.proofs.walking.Compared.{kept_compared, may_compare, may_compare_kept, numbers_compared, truth_compared}
use Rattle.odata_eval.proofs.walking.KeptValues.{at_types, kept_value, value_kept}
use Rattle.odata_eval.proofs.walking.Readings.{number_values, truth_values}
use Rattle.filter_context.proofs.Extents.{right_further, right_part, right_there, right_typed}
use Rattle.filter_context.proofs.Spines.{StepUp, at_top, below_bottom, bottom_down, first_faults, logical_stands, first_part, only_neg, only_not, part_down, step_up, typed_down, typed_part, walks_by}
use Rattle.odata_eval.proofs.walking.WalkSteps.{both_faults, calculation_answers, decided_answers, joined_answers, joined_faults, negated_operand, negation_answers, not_answers, numbers_there}
use Rattle.odata_eval.proofs.walking.WalkValues.{kept_datum, made_value, read_value, value_there}
use Rattle.filter_context.proofs.Operands.{operand_inside, tree_of_class, tree_operand}
use Rattle.odata_eval.proofs.walking.Measures.{measure_at, rank_counted, rank_eager, rank_number_operand, rank_numbers, rank_operand, rank_plain, rank_rest, rank_step, rank_test, rank_truth}
use Rattle.odata_eval.proofs.+evaluate.Goals as goal

pub truth_walk::truth_at-returns-clause-answers : goal.truth_walk::truth_at-returns-clause-answers
truth_walk::truth_at-returns-clause-answers g t c = at_top (λ k. CountedTruth c.args.context.now k c.loop-at.answer) c.loop-at.at c.args.place c.loop-at.invariant.above (omega arith) c.loop-at.invariant.answers

pub datum_walk::eager_at-returns-clause-answers : goal.datum_walk::eager_at-returns-clause-answers
datum_walk::eager_at-returns-clause-answers g t c = at_top (λ k. CountedDatum c.args.context.now k c.loop-at.answer) c.loop-at.at c.args.place c.loop-at.invariant.above (omega arith) c.loop-at.invariant.answers

pub truth_walk::made_truth_at-truth_of-requires : goal.truth_walk::made_truth_at-truth_of-requires
truth_walk::made_truth_at-truth_of-requires g t c = λ reading.
    value_there c.args.context.now c.args.place truth_values c.ends_once.ensures c.in-Ok.value c.requires.stands c.in-Ok.ensures.answers reading

pub truth_walk::made_truth_at-returns-in-Ok-clause-answers : goal.truth_walk::made_truth_at-returns-in-Ok-clause-answers
truth_walk::made_truth_at-returns-in-Ok-clause-answers g t c =
    read_value c.args.context.now c.args.place c.in-Ok.value (truth_val c.truth_of.result) c.in-Ok.ensures.answers c.truth_of.ensures

pub datum_walk::counted_at-returns-in-Leaf-clause-answers : goal.datum_walk::counted_at-returns-in-Leaf-clause-answers
datum_walk::counted_at-returns-in-Leaf-clause-answers g t c = kept_datum c.args.context.now c.args.place c.in-Leaf.value.now c.datum_of.result c.in-Leaf.ensures.0 c.datum_of.ensures

pub datum_walk::counted_at-returns-in-Ok-clause-answers : goal.datum_walk::counted_at-returns-in-Ok-clause-answers
datum_walk::counted_at-returns-in-Ok-clause-answers g t c = made_value c.args.context.now c.args.place c.datum_of_truth.result (truth_val c.in-Ok.truth) c.in-Ok.ensures.answers c.datum_of_truth.ensures

pub datum_walk::counted_at-returns-in-Ok-number_at-clause-answers : goal.datum_walk::counted_at-returns-in-Ok-number_at-clause-answers
datum_walk::counted_at-returns-in-Ok-number_at-clause-answers g t c = made_value c.args.context.now c.args.place c.datum_of_number.result (number_val c.in-Ok-number_at.number) c.in-Ok-number_at.ensures.answers c.datum_of_number.ensures

pub truth_walk::truth_at-plain_truth_at-answer-requires : goal.truth_walk::truth_at-plain_truth_at-answer-requires
truth_walk::truth_at-plain_truth_at-answer-requires g t c =
    let below : c.args.place ≤ c.spine_bottom-bottom.result = c.spine_bottom-bottom.ensures.below in
    let smaller : measure_at c.args.context.now.list.nodes c.spine_bottom-bottom.result rank_plain < measure_at c.args.context.now.list.nodes c.args.place rank_truth = omega arith in
    let stands : TruthStands c.args.context.now c.spine_bottom-bottom.result = typed_down c.args.context.now WalkClass.Logical (λ leaf. cc) c.args.place c.spine_bottom-bottom.result below c.requires.stands c.spine_bottom-bottom.ensures.spine in
    search rules

pub truth_walk::truth_at-logical_at-answer-requires : goal.truth_walk::truth_at-logical_at-answer-requires
truth_walk::truth_at-logical_at-answer-requires g t c =
    let l = c.loop-at in
    let above : c.args.place < l.at = omega arith in
    let smaller : measure_at c.args.context.now.list.nodes (l.at - 1) rank_step < measure_at c.args.context.now.list.nodes c.args.place rank_truth = omega arith in
    let up : StepUp c.args.context.now WalkClass.Logical (λ k. CountedTruth c.args.context.now k l.answer) l.at = step_up c.args.context.now WalkClass.Logical (λ leaf. cc) (λ k. CountedTruth c.args.context.now k l.answer) c.args.place l.at c.spine_bottom-bottom.result above l.invariant.within (typed_part c.args.context.now c.args.place IsBooleanOrNull c.requires.stands) c.spine_bottom-bottom.ensures.spine l.invariant.answers in
    search rules

pub datum_walk::eager_at-made_at-answer-requires : goal.datum_walk::eager_at-made_at-answer-requires
datum_walk::eager_at-made_at-answer-requires g t c =
    let l = c.loop-at in
    let above : c.args.place < l.at = omega arith in
    let smaller : measure_at c.args.context.now.list.nodes (l.at - 1) rank_step < measure_at c.args.context.now.list.nodes c.args.place rank_eager = omega arith in
    let up : StepUp c.args.context.now WalkClass.Eager (λ k. CountedDatum c.args.context.now k l.answer) l.at = step_up c.args.context.now WalkClass.Eager (λ leaf. cc) (λ k. CountedDatum c.args.context.now k l.answer) c.args.place l.at c.spine_bottom-bottom.result above l.invariant.within c.requires.stands c.spine_bottom-bottom.ensures.spine l.invariant.answers in
    search rules

pub datum_walk::eager_at-likely_stored_at-answer-requires : goal.datum_walk::eager_at-likely_stored_at-answer-requires
datum_walk::eager_at-likely_stored_at-answer-requires g t c =
    let inside : c.args.place < length c.args.context.now.list.nodes = part_inside c.args.context.now c.args.place c.requires.stands in
    let behind : c.args.place < c.spine_bottom-bottom.result = below_bottom c.args.context.now.list WalkClass.Eager c.args.place c.spine_bottom-bottom.result c.spine_bottom-bottom.ensures.below c.requires.eager c.spine_bottom-bottom.ensures.bottom in
    let smaller : measure_at c.args.context.now.list.nodes c.spine_bottom-bottom.result rank_operand < measure_at c.args.context.now.list.nodes c.args.place rank_eager = omega arith in
    let stands = part_down c.args.context.now WalkClass.Eager (λ leaf. cc) c.args.place c.spine_bottom-bottom.result c.spine_bottom-bottom.ensures.below c.requires.stands c.spine_bottom-bottom.ensures.spine in
    search rules

pub datum_walk::likely_stored_at-returns-in-Leaf-clause-answers : goal.datum_walk::likely_stored_at-returns-in-Leaf-clause-answers
datum_walk::likely_stored_at-returns-in-Leaf-clause-answers g t c = kept_datum c.args.context.now c.args.place c.in-Leaf.value.now c.datum_of.result c.in-Leaf.ensures.0 c.datum_of.ensures

pub datum_walk::likely_stored_at-returns-in-Leaf-clause-spent : goal.datum_walk::likely_stored_at-returns-in-Leaf-clause-spent
datum_walk::likely_stored_at-returns-in-Leaf-clause-spent g t c =
    free_spends c.args.context.now c.args.place None (g.B.Counting.left c.args.budget.now) (leaf_free c.args.context.now c.args.place c.in-Leaf.ensures.1) (takes_nothing (g.B.Counting.left c.args.budget.now))

-- ---- a node of truth values

pub truth_walk::logical_at-returns-in-Err-clause-answers : goal.truth_walk::logical_at-returns-in-Err-clause-answers
truth_walk::logical_at-returns-in-Err-clause-answers g t c = by_stop (λ s. CountedTruth c.args.context.now (c.args.place + 1) (Err s)) (λ s. CountedTruth c.args.context.now c.args.place (Err s)) (λ fault. first_faults c.args.context.now c.args.place WalkClass.Logical fault (λ leaf. cc) c.requires.logical) (λ is. tt) c.in-Err.stop
    (subst (λ (r : Result (Option Bool) EvalStop). CountedTruth c.args.context.now (c.args.place + 1) r) c.in-Err.is c.requires.first)

pub truth_walk::logical_at-node-requires : goal.truth_walk::logical_at-node-requires
truth_walk::logical_at-node-requires g t c = part_inside c.args.context.now c.args.place c.requires.stands

pub truth_walk::connected_at-returns-then-decides-clause-answers : goal.truth_walk::connected_at-returns-then-decides-clause-answers
truth_walk::connected_at-returns-then-decides-clause-answers g t c = decided_answers c.args.context.now c.args.place c.args.operator c.requires.here c.args.left (c.decides.ensures.0 c.if-decides.true) c.requires.left

pub truth_walk::connected_at-right_of-right_place-requires : goal.truth_walk::connected_at-right_of-right_place-requires
truth_walk::connected_at-right_of-right_place-requires g t c = right_there c.args.context.now c.args.place (BinaryOperator.Logical c.args.operator) c.requires.here c.requires.stands

pub truth_walk::connected_at-side_at-requires : goal.truth_walk::connected_at-side_at-requires
truth_walk::connected_at-side_at-requires g t c =
    let inside : c.args.place < length c.args.context.now.list.nodes = part_inside c.args.context.now c.args.place c.requires.stands in
    let behind : c.args.place < c.right_of-right_place.result = right_further c.args.context.now c.args.place (BinaryOperator.Logical c.args.operator) c.requires.here c.requires.stands c.right_of-right_place.result c.right_of-right_place.ensures in
    let smaller : measure_at c.args.context.now.list.nodes c.right_of-right_place.result rank_counted < measure_at c.args.context.now.list.nodes c.args.place rank_rest = omega arith in
    let stands : TruthStands c.args.context.now c.right_of-right_place.result = right_typed c.args.context.now c.args.place (BinaryOperator.Logical c.args.operator) c.requires.here c.requires.stands c.right_of-right_place.result c.right_of-right_place.ensures WalkClass.Logical refl (λ same. cc) in
    search rules

pub truth_walk::connected_at-kept_truth_at-requires : goal.truth_walk::connected_at-kept_truth_at-requires
truth_walk::connected_at-kept_truth_at-requires g t c = record {
  stands = right_typed c.args.context.now c.args.place (BinaryOperator.Logical c.args.operator) c.requires.here c.requires.stands c.right_of-right_place.result c.right_of-right_place.ensures WalkClass.Logical refl (λ same. cc);
}

pub truth_walk::connected_at-returns-in-Some-clause-answers : goal.truth_walk::connected_at-returns-in-Some-clause-answers
truth_walk::connected_at-returns-in-Some-clause-answers g t c =
    subst (λ (r : Option Bool). AnswersTruth c.args.context.now c.args.place (Ok r)) (sym c.join.ensures) (joined_answers c.args.context.now c.args.place c.args.operator c.requires.here c.args.left c.right_of-right_place.result c.right_of-right_place.ensures
    (λ decided. let e = c.decides.ensures.1 decided in cc) c.requires.left (Some c.in-Some.right) c.in-Some.ensures)

pub truth_walk::connected_at-returns-in-Some-clause-spent : goal.truth_walk::connected_at-returns-in-Some-clause-spent
truth_walk::connected_at-returns-in-Some-clause-spent g t c =
    right_asked c.args.context.now c.args.place c.args.operator c.requires.here c.ends_once.ensures c.args.left c.requires.left (λ decided. let e = c.decides.ensures.1 decided in cc) c.right_of-right_place.result c.right_of-right_place.ensures (g.B.Counting.left c.args.budget.now) (g.B.Counting.left c.args.budget.now) None
    (unbounded_spends c.args.context.now c.right_of-right_place.result (g.B.Counting.left c.args.budget.now) (c.is_counting.ensures c.if-not-is_counting.true c.args.budget.now))

pub truth_walk::connected_at-returns-in-Ok-clause-answers : goal.truth_walk::connected_at-returns-in-Ok-clause-answers
truth_walk::connected_at-returns-in-Ok-clause-answers g t c =
    subst (λ (r : Option Bool). AnswersTruth c.args.context.now c.args.place (Ok r)) (sym c.join-in-Ok.ensures) (joined_answers c.args.context.now c.args.place c.args.operator c.requires.here c.args.left c.right_of-right_place.result c.right_of-right_place.ensures
    (λ decided. let e = c.decides.ensures.1 decided in cc) c.requires.left c.in-Ok.right c.in-Ok.ensures.answers)

pub truth_walk::connected_at-returns-in-Err-clause-answers : goal.truth_walk::connected_at-returns-in-Err-clause-answers
truth_walk::connected_at-returns-in-Err-clause-answers g t c =
    by_stop (λ s. CountedTruth c.args.context.now c.right_of-right_place.result (Err s)) (λ s. CountedTruth c.args.context.now c.args.place (Err s))
    (λ fault. joined_faults c.args.context.now c.args.place c.args.operator c.requires.here c.args.left c.right_of-right_place.result c.right_of-right_place.ensures (λ decided. let e = c.decides.ensures.1 decided in cc) c.requires.left fault)
    (λ is. tt) c.in-Err.stop c.in-Err.ensures.answers

-- ---- another node with operands

pub datum_walk::made_at-returns-in-Err-clause-answers : goal.datum_walk::made_at-returns-in-Err-clause-answers
datum_walk::made_at-returns-in-Err-clause-answers g t c = by_stop (λ s. CountedDatum c.args.context.now (c.args.place + 1) (Err s)) (λ s. CountedDatum c.args.context.now c.args.place (Err s)) (λ fault. first_faults c.args.context.now c.args.place WalkClass.Eager fault (λ leaf. cc) c.requires.eager) (λ is. tt) c.in-Err.before
    (subst (λ (r : Result Datum EvalStop). CountedDatum c.args.context.now (c.args.place + 1) r) c.in-Err.is c.requires.first)

pub datum_walk::made_at-node-requires : goal.datum_walk::made_at-node-requires
datum_walk::made_at-node-requires g t c = part_inside c.args.context.now c.args.place c.requires.stands

pub datum_walk::made_at-step-requires : goal.datum_walk::made_at-step-requires
datum_walk::made_at-step-requires g t c =
    let first = subst (λ (r : Result Datum EvalStop). CountedDatum c.args.context.now (c.args.place + 1) r) c.in-Ok.is c.requires.first in
    let here = there_found (λ (f : CheckedNode). f.kind ≡ NodeKind.Member c.in-Member.slot) (slice_get c.args.context.now.list.nodes c.args.place) c.node.result.now c.node.ensures c.in-Member.is in
    step_slot c.trees_have_one_type.ensures c.args.context.now c.ends_once.ensures c.args.place c.in-Member.slot here c.in-Ok.first c.requires.stands first

pub datum_walk::made_at-returns-in-Member-clause-answers : goal.datum_walk::made_at-returns-in-Member-clause-answers
datum_walk::made_at-returns-in-Member-clause-answers g t c =
    let first = subst (λ (r : Result Datum EvalStop). CountedDatum c.args.context.now (c.args.place + 1) r) c.in-Ok.is c.requires.first in
    let here = there_found (λ (f : CheckedNode). f.kind ≡ NodeKind.Member c.in-Member.slot) (slice_get c.args.context.now.list.nodes c.args.place) c.node.result.now c.node.ensures c.in-Member.is in
    step_answers c.trees_have_one_type.ensures c.args.context.now c.ends_once.ensures c.args.place c.in-Member.slot here c.in-Ok.first c.step.result first c.step.ensures

pub number_walk::made_number_at-number_of-requires : goal.number_walk::made_number_at-number_of-requires
number_walk::made_number_at-number_of-requires g t c = λ reading.
    value_there c.args.context.now c.args.place number_values c.ends_once.ensures c.in-Ok.value c.requires.stands c.in-Ok.ensures.answers reading

pub number_walk::made_number_at-returns-in-Ok-clause-answers : goal.number_walk::made_number_at-returns-in-Ok-clause-answers
number_walk::made_number_at-returns-in-Ok-clause-answers g t c =
    read_value c.args.context.now c.args.place c.in-Ok.value (number_val c.number_of.result) c.in-Ok.ensures.answers c.number_of.ensures

pub number_walk::made_number_at-returns-in-Err-clause-answers : goal.number_walk::made_number_at-returns-in-Err-clause-answers
number_walk::made_number_at-returns-in-Err-clause-answers g t c =
    by_stop (λ s. CountedDatum c.args.context.now c.args.place (Err s)) (λ s. CountedNumber c.args.context.now c.args.place (Err s)) (λ fault is. is) (λ is. tt) c.in-Err.stop c.in-Err.ensures.answers

pub number_walk::numeric_at-returns-in-Err-clause-answers : goal.number_walk::numeric_at-returns-in-Err-clause-answers
number_walk::numeric_at-returns-in-Err-clause-answers g t c =
    by_stop (λ s. CountedNumber c.args.context.now (c.args.place + 1) (Err s)) (λ s. CountedNumber c.args.context.now c.args.place (Err s)) (λ fault. first_faults c.args.context.now c.args.place WalkClass.Numeric fault (λ leaf. cc) c.requires.numeric) (λ is. tt) c.in-Err.stop
    (subst (λ (r : Result (Option ℤ) EvalStop). CountedNumber c.args.context.now (c.args.place + 1) r) c.in-Err.is c.requires.first)

pub number_walk::numeric_at-returns-in-Err-clause-spent : goal.number_walk::numeric_at-returns-in-Err-clause-spent
number_walk::numeric_at-returns-in-Err-clause-spent g t c =
    after_stop (Option ℤ) c.args.context.now c.args.place c.args.first c.in-Err.stop (g.B.Counting.left c.args.budget.now) (g.B.Counting.left c.args.budget.now) (Some c.in-Err.stop) c.in-Err.is
    (first_stops c.args.context.now c.ends_once.ensures c.args.place WalkClass.Numeric (λ leaf. cc) c.requires.numeric c.in-Err.stop
    (number_faults c.args.context.now (c.args.place + 1) c.in-Err.stop (subst (λ (r : Result (Option ℤ) EvalStop). CountedNumber c.args.context.now (c.args.place + 1) r) c.in-Err.is c.requires.first)) (g.B.Counting.left c.args.budget.now))

pub number_walk::numeric_at-node-node-requires : goal.number_walk::numeric_at-node-node-requires
number_walk::numeric_at-node-node-requires g t c = part_inside c.args.context.now c.args.place c.requires.stands

pub number_walk::calculated_at-right_of-requires : goal.number_walk::calculated_at-right_of-requires
number_walk::calculated_at-right_of-requires g t c = right_there c.args.context.now c.args.place (BinaryOperator.Arithmetic c.args.operator) c.requires.here c.requires.stands

pub number_walk::calculated_at-number_operand_at-requires : goal.number_walk::calculated_at-number_operand_at-requires
number_walk::calculated_at-number_operand_at-requires g t c =
    let inside : c.args.place < length c.args.context.now.list.nodes = part_inside c.args.context.now c.args.place c.requires.stands in
    let behind : c.args.place < c.right_of.result = right_further c.args.context.now c.args.place (BinaryOperator.Arithmetic c.args.operator) c.requires.here c.requires.stands c.right_of.result c.right_of.ensures in
    let smaller : measure_at c.args.context.now.list.nodes c.right_of.result rank_number_operand < measure_at c.args.context.now.list.nodes c.args.place rank_rest = omega arith in
    let stands : NumberStands c.args.context.now c.right_of.result = right_typed c.args.context.now c.args.place (BinaryOperator.Arithmetic c.args.operator) c.requires.here c.requires.stands c.right_of.result c.right_of.ensures WalkClass.Numeric refl (λ same. cc) in
    search rules

pub number_walk::calculated_at-calculated-requires : goal.number_walk::calculated_at-calculated-requires
number_walk::calculated_at-calculated-requires g t c =
    let promotes : Promotes = record { left = c.operands_lie_within_promotion.ensures.left; right = c.operands_lie_within_promotion.ensures.right; negation = c.operands_lie_within_promotion.ensures.negation; three = c.operands_lie_within_promotion.ensures.three } in
    numbers_there c.args.context.now c.args.place c.args.operator c.requires.here c.right_of.result c.right_of.ensures c.args.left c.in-Ok.right c.requires.left c.in-Ok.ensures.answers c.node-node.result.now c.node-node.ensures c.ends_once.ensures promotes c.requires.stands

pub number_walk::calculated_at-returns-in-Ok-clause-answers : goal.number_walk::calculated_at-returns-in-Ok-clause-answers
number_walk::calculated_at-returns-in-Ok-clause-answers g t c =
    as_number c.args.context.now c.args.place c.calculated.result c.number_stop.result c.number_stop.ensures
    (calculation_answers c.args.context.now c.args.place c.args.operator c.requires.here c.right_of.result c.right_of.ensures c.args.left c.in-Ok.right c.requires.left c.in-Ok.ensures.answers c.node-node.result.now c.node-node.ensures c.calculated.result c.trees_have_one_type.ensures c.calculated.ensures)

pub number_walk::calculated_at-returns-in-Ok-clause-spent : goal.number_walk::calculated_at-returns-in-Ok-clause-spent
number_walk::calculated_at-returns-in-Ok-clause-spent g t c =
    both_spend c.args.context.now c.args.place (BinaryOperator.Arithmetic c.args.operator) c.requires.here tt c.ends_once.ensures (λ type. number_val c.args.left) c.requires.left c.right_of.result c.right_of.ensures (λ type. number_val c.in-Ok.right) c.in-Ok.ensures.answers 0 (λ s t. refl)
    (g.B.Counting.left c.args.budget.now) (g.B.Counting.left c.number_operand_at.new.budget) (g.B.Counting.left c.number_operand_at.new.budget) (stopped_by c.number_stop.result) c.in-Ok.ensures.spent (number_spent c.calculated.result c.number_stop.result (g.B.Counting.left c.number_operand_at.new.budget) c.number_stop.ensures)

pub number_walk::calculated_at-returns-in-Err-clause-answers : goal.number_walk::calculated_at-returns-in-Err-clause-answers
number_walk::calculated_at-returns-in-Err-clause-answers g t c =
    by_stop (λ s. CountedNumber c.args.context.now c.right_of.result (Err s)) (λ s. CountedNumber c.args.context.now c.args.place (Err s))
    (λ fault. both_faults c.args.context.now c.args.place (BinaryOperator.Arithmetic c.args.operator) c.requires.here c.right_of.result c.right_of.ensures (λ type. number_val c.args.left) fault tt c.requires.left)
    (λ is. tt) c.in-Err.stop c.in-Err.ensures.answers

pub number_walk::calculated_at-returns-in-Err-clause-spent : goal.number_walk::calculated_at-returns-in-Err-clause-spent
number_walk::calculated_at-returns-in-Err-clause-spent g t c =
    right_stops c.args.context.now c.args.place (BinaryOperator.Arithmetic c.args.operator) c.requires.here tt c.ends_once.ensures (λ type. number_val c.args.left) c.requires.left c.right_of.result c.right_of.ensures c.in-Err.stop
    (number_faults c.args.context.now c.right_of.result c.in-Err.stop c.in-Err.ensures.answers) (g.B.Counting.left c.args.budget.now) (g.B.Counting.left c.number_operand_at.new.budget) c.in-Err.ensures.spent

-- ---- a comparison of values that are made

pub datum_walk::compared_at-right_of-right_place-requires : goal.datum_walk::compared_at-right_of-right_place-requires
datum_walk::compared_at-right_of-right_place-requires g t c =
    right_there c.args.context.now c.args.place (BinaryOperator.Comparison c.args.comparison) c.requires.here c.requires.stands

pub datum_walk::compared_at-likely_stored_at-requires : goal.datum_walk::compared_at-likely_stored_at-requires
datum_walk::compared_at-likely_stored_at-requires g t c =
    let inside : c.args.place < length c.args.context.now.list.nodes = part_inside c.args.context.now c.args.place c.requires.stands in
    let behind : c.args.place < c.right_of-right_place.result = right_further c.args.context.now c.args.place (BinaryOperator.Comparison c.args.comparison) c.requires.here c.requires.stands c.right_of-right_place.result c.right_of-right_place.ensures in
    let smaller : measure_at c.args.context.now.list.nodes c.right_of-right_place.result rank_operand < measure_at c.args.context.now.list.nodes c.args.place rank_rest = omega arith in
    let stands : OperandStands c.args.context.now c.right_of-right_place.result = right_part c.args.context.now c.args.place (BinaryOperator.Comparison c.args.comparison) c.requires.here c.requires.stands c.right_of-right_place.result c.right_of-right_place.ensures in
    search rules

pub datum_walk::compared_at-compare-requires : goal.datum_walk::compared_at-compare-requires
datum_walk::compared_at-compare-requires g t c =
    may_compare c.args.context.now c.args.place c.args.comparison c.requires.here c.right_of-right_place.result c.right_of-right_place.ensures c.args.left c.in-Ok.right c.requires.left
    c.in-Ok.ensures.answers c.ends_once.ensures c.comparisons_are_decided.ensures.any_reading c.requires.stands

pub datum_walk::compared_at-returns-in-Ok-clause-answers : goal.datum_walk::compared_at-returns-in-Ok-clause-answers
datum_walk::compared_at-returns-in-Ok-clause-answers g t c =
    truth_compared c.args.context.now c.args.place c.args.comparison c.requires.here c.right_of-right_place.result c.right_of-right_place.ensures c.args.left c.in-Ok.right c.requires.left
    c.in-Ok.ensures.answers c.ends_once.ensures c.comparisons_are_decided.ensures.any_reading c.requires.stands c.compare.result c.compare.ensures

pub datum_walk::compared_at-returns-clause-answers : goal.datum_walk::compared_at-returns-clause-answers
datum_walk::compared_at-returns-clause-answers g t c =
    by_stop (λ s. CountedDatum c.args.context.now c.right_of-right_place.result (Err s)) (λ s. CountedDatum c.args.context.now c.args.place (Err s))
    (λ fault. both_faults c.args.context.now c.args.place (BinaryOperator.Comparison c.args.comparison) c.requires.here c.right_of-right_place.result c.right_of-right_place.ensures (λ type. datum_val (reading_at (slots_of c.args.context.now.row.schema) type) c.args.left) fault tt c.requires.left)
    (λ is. tt) c.in-Err.behind c.in-Err.ensures.answers

-- ---- a node that is none of truth values

pub truth_walk::plain_truth_at-text_test_at-requires : goal.truth_walk::plain_truth_at-text_test_at-requires
truth_walk::plain_truth_at-text_test_at-requires g t c = record {
  stands = typed_part c.args.context.now c.args.place IsBooleanOrNull c.requires.stands;
  here = there_found (λ (f : CheckedNode). f.kind ≡ NodeKind.Call c.in-Call.function) (slice_get c.args.context.now.list.nodes c.args.place) c.node-2.result.now c.node-2.ensures c.in-Call.is;
}

pub truth_walk::plain_truth_at-returns-in-Some-clause-answers : goal.truth_walk::plain_truth_at-returns-in-Some-clause-answers
truth_walk::plain_truth_at-returns-in-Some-clause-answers g t c = c.in-Some.ensures

pub truth_walk::plain_truth_at-returns-in-Some-clause-spent : goal.truth_walk::plain_truth_at-returns-in-Some-clause-spent
truth_walk::plain_truth_at-returns-in-Some-clause-spent g t c =
    unbounded_spends c.args.context.now c.args.place (g.B.Counting.left c.args.budget.now) (c.is_counting.ensures c.if-not-is_counting.true c.args.budget.now)

pub truth_walk::plain_truth_at-kept_truth-requires : goal.truth_walk::plain_truth_at-kept_truth-requires
truth_walk::plain_truth_at-kept_truth-requires g t c = value_kept c.args.context.now c.args.place c.in-Leaf.value.now c.in-Leaf.ensures.0 truth_values c.ends_once.ensures c.requires.stands

pub truth_walk::plain_truth_at-returns-in-Leaf-clause-answers : goal.truth_walk::plain_truth_at-returns-in-Leaf-clause-answers
truth_walk::plain_truth_at-returns-in-Leaf-clause-answers g t c = kept_value c.args.context.now c.args.place c.in-Leaf.value.now c.in-Leaf.ensures.0 (truth_val c.kept_truth.result) c.kept_truth.ensures

pub truth_walk::numeric_truth_at-truth_of-requires : goal.truth_walk::numeric_truth_at-truth_of-requires
truth_walk::numeric_truth_at-truth_of-requires g t c = λ reading. value_there c.args.context.now c.args.place truth_values c.ends_once.ensures c.datum_of_number.result c.requires.stands (made_value c.args.context.now c.args.place c.datum_of_number.result (number_val c.in-Ok.number) c.in-Ok.ensures.answers c.datum_of_number.ensures) reading

pub truth_walk::numeric_truth_at-returns-in-Ok-clause-answers : goal.truth_walk::numeric_truth_at-returns-in-Ok-clause-answers
truth_walk::numeric_truth_at-returns-in-Ok-clause-answers g t c = read_value c.args.context.now c.args.place c.datum_of_number.result (truth_val c.truth_of.result) (made_value c.args.context.now c.args.place c.datum_of_number.result (number_val c.in-Ok.number) c.in-Ok.ensures.answers c.datum_of_number.ensures) c.truth_of.ensures

pub truth_walk::numeric_truth_at-returns-in-Err-clause-answers : goal.truth_walk::numeric_truth_at-returns-in-Err-clause-answers
truth_walk::numeric_truth_at-returns-in-Err-clause-answers g t c =
    by_stop (λ s. CountedNumber c.args.context.now c.args.place (Err s)) (λ s. CountedTruth c.args.context.now c.args.place (Err s)) (λ fault is. is) (λ is. tt) c.in-Err.stop c.in-Err.ensures.answers

-- ---- a comparison of values where they stand

pub truth_walk::compared_truth_at-right_of-right_place-requires : goal.truth_walk::compared_truth_at-right_of-right_place-requires
truth_walk::compared_truth_at-right_of-right_place-requires g t c = right_there c.args.context.now c.args.place (BinaryOperator.Comparison c.args.comparison) c.requires.here (typed_part c.args.context.now c.args.place IsBooleanOrNull c.requires.stands)

pub truth_walk::compared_truth_at-overflow_add-place : goal.truth_walk::compared_truth_at-overflow_add-place
truth_walk::compared_truth_at-overflow_add-place g t c =
    let behind = right_further c.args.context.now c.args.place (BinaryOperator.Comparison c.args.comparison) c.requires.here (typed_part c.args.context.now c.args.place IsBooleanOrNull c.requires.stands) c.right_of-right_place.result c.right_of-right_place.ensures in
    omega (arith, behind, c.right_of-right_place.type_inv)

pub truth_walk::compared_truth_at-compare_kept-requires : goal.truth_walk::compared_truth_at-compare_kept-requires
truth_walk::compared_truth_at-compare_kept-requires g t c =
    let here = c.requires.here in
    may_compare_kept c.args.context.now c.args.place c.args.comparison here c.right_of-right_place.result c.right_of-right_place.ensures c.in-Leaf.left.now c.in-Leaf-walk_operand_at.right.now c.in-Leaf.ensures.0 c.in-Leaf-walk_operand_at.ensures.0 c.ends_once.ensures c.comparisons_are_decided.ensures.any_contents (typed_part c.args.context.now c.args.place IsBooleanOrNull c.requires.stands)

pub truth_walk::compared_truth_at-returns-else-not-take-clause-answers : goal.truth_walk::compared_truth_at-returns-else-not-take-clause-answers
truth_walk::compared_truth_at-returns-else-not-take-clause-answers g t c =
    let here = c.requires.here in
    kept_compared c.args.context.now c.args.place c.args.comparison here c.right_of-right_place.result c.right_of-right_place.ensures c.in-Leaf.left.now c.in-Leaf-walk_operand_at.right.now c.in-Leaf.ensures.0 c.in-Leaf-walk_operand_at.ensures.0 c.ends_once.ensures c.comparisons_are_decided.ensures.any_contents (typed_part c.args.context.now c.args.place IsBooleanOrNull c.requires.stands) c.compare_kept.result c.compare_kept.ensures

pub truth_walk::compared_truth_at-kept_compared_at-requires : goal.truth_walk::compared_truth_at-kept_compared_at-requires
truth_walk::compared_truth_at-kept_compared_at-requires g t c = record {
  stands = typed_part c.args.context.now c.args.place IsBooleanOrNull c.requires.stands;
  here = c.requires.here;
}

pub truth_walk::compared_truth_at-arithmetic_compared_at-requires : goal.truth_walk::compared_truth_at-arithmetic_compared_at-requires
truth_walk::compared_truth_at-arithmetic_compared_at-requires g t c = record {
  stands = typed_part c.args.context.now c.args.place IsBooleanOrNull c.requires.stands;
  here = c.requires.here;
  numeric = c.in-Numeric.ensures;
}

pub truth_walk::compared_truth_at-returns-in-Some-clause-answers : goal.truth_walk::compared_truth_at-returns-in-Some-clause-answers
truth_walk::compared_truth_at-returns-in-Some-clause-answers g t c = c.in-Some.ensures

pub truth_walk::compared_truth_at-returns-in-Some-clause-spent : goal.truth_walk::compared_truth_at-returns-in-Some-clause-spent
truth_walk::compared_truth_at-returns-in-Some-clause-spent g t c =
    unbounded_spends c.args.context.now c.args.place (g.B.Counting.left c.args.budget.now) (c.is_counting.ensures c.if-not-is_counting.true c.args.budget.now)

pub truth_walk::compared_truth_at-returns-in-Some-kept_compared_at-clause-answers : goal.truth_walk::compared_truth_at-returns-in-Some-kept_compared_at-clause-answers
truth_walk::compared_truth_at-returns-in-Some-kept_compared_at-clause-answers g t c = c.in-Some-kept_compared_at.ensures

pub truth_walk::compared_truth_at-returns-in-Some-kept_compared_at-clause-spent : goal.truth_walk::compared_truth_at-returns-in-Some-kept_compared_at-clause-spent
truth_walk::compared_truth_at-returns-in-Some-kept_compared_at-clause-spent g t c =
    unbounded_spends c.args.context.now c.args.place (g.B.Counting.left c.args.budget.now) (c.is_counting-in_default.ensures c.if-not-is_counting-2.true c.args.budget.now)

pub truth_walk::numbers_truth_at-right_of-right_place-requires : goal.truth_walk::numbers_truth_at-right_of-right_place-requires
truth_walk::numbers_truth_at-right_of-right_place-requires g t c = right_there c.args.context.now c.args.place (BinaryOperator.Comparison c.args.comparison) c.requires.here (typed_part c.args.context.now c.args.place IsBooleanOrNull c.requires.stands)

pub truth_walk::numbers_truth_at-overflow_add-place : goal.truth_walk::numbers_truth_at-overflow_add-place
truth_walk::numbers_truth_at-overflow_add-place g t c =
    let behind = right_further c.args.context.now c.args.place (BinaryOperator.Comparison c.args.comparison) c.requires.here (typed_part c.args.context.now c.args.place IsBooleanOrNull c.requires.stands) c.right_of-right_place.result c.right_of-right_place.ensures in
    omega (arith, behind, c.right_of-right_place.type_inv)

pub truth_walk::numbers_truth_at-overflow_add-place-in-Numeric : goal.truth_walk::numbers_truth_at-overflow_add-place-in-Numeric
truth_walk::numbers_truth_at-overflow_add-place-in-Numeric g t c =
    let behind = right_further c.args.context.now c.args.place (BinaryOperator.Comparison c.args.comparison) c.requires.here (typed_part c.args.context.now c.args.place IsBooleanOrNull c.requires.stands) c.right_of-right_place.result c.right_of-right_place.ensures in
    omega (arith, behind, c.right_of-right_place.type_inv)

pub truth_walk::numbers_truth_at-number_at-requires : goal.truth_walk::numbers_truth_at-number_at-requires
truth_walk::numbers_truth_at-number_at-requires g t c =
    let part = typed_part c.args.context.now c.args.place IsBooleanOrNull c.requires.stands in
    let inside : c.args.place < length c.args.context.now.list.nodes = part_inside c.args.context.now c.args.place part in
    let smaller : measure_at c.args.context.now.list.nodes (c.args.place + 1) rank_numbers < measure_at c.args.context.now.list.nodes c.args.place rank_numbers = omega arith in
    let left : PartStands c.args.context.now (c.args.place + 1) =
    tree_of_class c.args.context.now (c.args.place + 1) WalkClass.Numeric (λ leaf. cc) c.requires.numeric (first_part c.args.context.now c.args.place WalkClass.Eager (λ leaf. cc) (walks_by c.args.context.now.list c.args.place (BinaryOperator.Comparison c.args.comparison) WalkClass.Eager c.requires.here refl) part) in
    search rules

pub truth_walk::numbers_truth_at-walk_operand_at-requires : goal.truth_walk::numbers_truth_at-walk_operand_at-requires
truth_walk::numbers_truth_at-walk_operand_at-requires g t c = record {
  stands = right_part c.args.context.now c.args.place (BinaryOperator.Comparison c.args.comparison) c.requires.here (typed_part c.args.context.now c.args.place IsBooleanOrNull c.requires.stands) c.right_of-right_place.result
      c.right_of-right_place.ensures;
}

pub truth_walk::numbers_truth_at-returns-in-Err-clause-answers : goal.truth_walk::numbers_truth_at-returns-in-Err-clause-answers
truth_walk::numbers_truth_at-returns-in-Err-clause-answers g t c =
    by_stop (λ s. CountedNumber c.args.context.now (c.args.place + 1) (Err s)) (λ s. CountedTruth c.args.context.now c.args.place (Err s))
    (λ fault. first_faults c.args.context.now c.args.place WalkClass.Eager fault (λ leaf. cc) (walks_by c.args.context.now.list c.args.place (BinaryOperator.Comparison c.args.comparison) WalkClass.Eager c.requires.here refl))
    (λ is. tt) c.in-Err.stop c.in-Err.ensures.answers

pub truth_walk::numbers_truth_at-number_at-requires-in-Numeric : goal.truth_walk::numbers_truth_at-number_at-requires-in-Numeric
truth_walk::numbers_truth_at-number_at-requires-in-Numeric g t c =
    let part = typed_part c.args.context.now c.args.place IsBooleanOrNull c.requires.stands in
    let inside : c.args.place < length c.args.context.now.list.nodes = part_inside c.args.context.now c.args.place part in
    let smaller : measure_at c.args.context.now.list.nodes (c.args.place + 1) rank_numbers < measure_at c.args.context.now.list.nodes c.args.place rank_numbers = omega arith in
    let left : PartStands c.args.context.now (c.args.place + 1) =
    tree_of_class c.args.context.now (c.args.place + 1) WalkClass.Numeric (λ leaf. cc) c.requires.numeric (first_part c.args.context.now c.args.place WalkClass.Eager (λ leaf. cc) (walks_by c.args.context.now.list c.args.place (BinaryOperator.Comparison c.args.comparison) WalkClass.Eager c.requires.here refl) part) in
    search rules

pub truth_walk::numbers_truth_at-number_at-requires-in-Numeric-2 : goal.truth_walk::numbers_truth_at-number_at-requires-in-Numeric-2
truth_walk::numbers_truth_at-number_at-requires-in-Numeric-2 g t c =
    let part = typed_part c.args.context.now c.args.place IsBooleanOrNull c.requires.stands in
    let inside : c.args.place < length c.args.context.now.list.nodes = part_inside c.args.context.now c.args.place part in
    let behind : c.args.place < c.right_of-right_place.result = right_further c.args.context.now c.args.place (BinaryOperator.Comparison c.args.comparison) c.requires.here part c.right_of-right_place.result c.right_of-right_place.ensures in
    let smaller : measure_at c.args.context.now.list.nodes c.right_of-right_place.result rank_numbers < measure_at c.args.context.now.list.nodes c.args.place rank_numbers = omega arith in
    let right : PartStands c.args.context.now c.right_of-right_place.result =
    tree_of_class c.args.context.now c.right_of-right_place.result WalkClass.Numeric (λ leaf. cc) c.in-Numeric.ensures (right_part c.args.context.now c.args.place (BinaryOperator.Comparison c.args.comparison) c.requires.here part c.right_of-right_place.result c.right_of-right_place.ensures) in
    search rules

pub truth_walk::numbers_truth_at-returns-in-Err-number_at-clause-answers : goal.truth_walk::numbers_truth_at-returns-in-Err-number_at-clause-answers
truth_walk::numbers_truth_at-returns-in-Err-number_at-clause-answers g t c =
    by_stop (λ s. CountedNumber c.args.context.now (c.args.place + 1) (Err s)) (λ s. CountedTruth c.args.context.now c.args.place (Err s))
    (λ fault. first_faults c.args.context.now c.args.place WalkClass.Eager fault (λ leaf. cc) (walks_by c.args.context.now.list c.args.place (BinaryOperator.Comparison c.args.comparison) WalkClass.Eager c.requires.here refl))
    (λ is. tt) c.in-Err-number_at.stop c.in-Err-number_at.ensures.answers

pub truth_walk::numbers_truth_at-returns-in-Err-number_at-2-clause-answers : goal.truth_walk::numbers_truth_at-returns-in-Err-number_at-2-clause-answers
truth_walk::numbers_truth_at-returns-in-Err-number_at-2-clause-answers g t c =
    by_stop (λ s. CountedNumber c.args.context.now c.right_of-right_place.result (Err s)) (λ s. CountedTruth c.args.context.now c.args.place (Err s))
    (λ fault. both_faults c.args.context.now c.args.place (BinaryOperator.Comparison c.args.comparison) c.requires.here c.right_of-right_place.result c.right_of-right_place.ensures (λ type. number_val c.in-Ok-number_at.left) fault tt c.in-Ok-number_at.ensures.answers)
    (λ is. tt) c.in-Err-number_at-2.stop c.in-Err-number_at-2.ensures.answers

pub truth_walk::logical_at-connected_at-requires : goal.truth_walk::logical_at-connected_at-requires
truth_walk::logical_at-connected_at-requires g t c =
    let operator = BinaryOperator.Logical c.in-Some.operator in
    let here : HasOperator c.args.context.now.list c.args.place operator = there_found (λ (f : CheckedNode). f.kind ≡ NodeKind.Binary operator) (slice_get c.args.context.now.list.nodes c.args.place) c.node.result.now c.node.ensures c.in-Some.ensures.some in
    let left : AnswersTruth c.args.context.now (c.args.place + 1) (Ok c.in-Ok.first) = subst (λ (r : Result (Option Bool) EvalStop). CountedTruth c.args.context.now (c.args.place + 1) r) c.in-Ok.is c.requires.first in
    let smaller : measure_at c.args.context.now.list.nodes c.args.place rank_rest < measure_at c.args.context.now.list.nodes c.args.place rank_step = omega arith in
    search rules

pub number_walk::numeric_at-calculated_at-requires : goal.number_walk::numeric_at-calculated_at-requires
number_walk::numeric_at-calculated_at-requires g t c =
    let operator = BinaryOperator.Arithmetic c.in-Some.operator in
    let here : HasOperator c.args.context.now.list c.args.place operator = there_found (λ (f : CheckedNode). f.kind ≡ NodeKind.Binary operator) (slice_get c.args.context.now.list.nodes c.args.place) c.node-node.result.now c.node-node.ensures c.in-Some.ensures.some in
    let left : AnswersNumber c.args.context.now (c.args.place + 1) (Ok c.in-Ok.first) = subst (λ (r : Result (Option ℤ) EvalStop). CountedNumber c.args.context.now (c.args.place + 1) r) c.in-Ok.is c.requires.first in
    let smaller : measure_at c.args.context.now.list.nodes c.args.place rank_rest < measure_at c.args.context.now.list.nodes c.args.place rank_step = omega arith in
    search rules

pub datum_walk::made_at-compared_at-requires : goal.datum_walk::made_at-compared_at-requires
datum_walk::made_at-compared_at-requires g t c =
    let operator = BinaryOperator.Comparison c.in-Binary-Comparison.comparison in
    let operator_is : c.in-Binary-Comparison.operator ≡ operator = rw c.in-Binary-Comparison.is at c.in-Binary-Comparison.operator-is in
    let here : HasOperator c.args.context.now.list c.args.place operator = there_found (λ (f : CheckedNode). f.kind ≡ NodeKind.Binary operator) (slice_get c.args.context.now.list.nodes c.args.place) c.node.result.now c.node.ensures (c.in-Binary-Comparison.is ∙ ap NodeKind.Binary operator_is) in
    let left : AnswersDatum c.args.context.now (c.args.place + 1) (Ok c.in-Ok.first) = subst (λ (r : Result Datum EvalStop). CountedDatum c.args.context.now (c.args.place + 1) r) c.in-Ok.is c.requires.first in
    let smaller : measure_at c.args.context.now.list.nodes c.args.place rank_rest < measure_at c.args.context.now.list.nodes c.args.place rank_step = omega arith in
    search rules

pub truth_walk::plain_truth_at-compared_truth_at-requires : goal.truth_walk::plain_truth_at-compared_truth_at-requires
truth_walk::plain_truth_at-compared_truth_at-requires g t c =
    let operator = BinaryOperator.Comparison c.in-Comparison.comparison in
    let here : HasOperator c.args.context.now.list c.args.place operator = there_found (λ (f : CheckedNode). f.kind ≡ NodeKind.Binary operator) (slice_get c.args.context.now.list.nodes c.args.place) c.node.result.now c.node.ensures (c.in-Binary.is ∙ ap NodeKind.Binary c.in-Comparison.is) in
    let smaller : measure_at c.args.context.now.list.nodes c.args.place rank_test < measure_at c.args.context.now.list.nodes c.args.place rank_plain = omega arith in
    search rules

-- ---- `not`, and `-`

pub truth_walk::logical_at-returns-in-None-clause-answers : goal.truth_walk::logical_at-returns-in-None-clause-answers
truth_walk::logical_at-returns-in-None-clause-answers g t c =
    let first = subst (λ (r : Result (Option Bool) EvalStop). CountedTruth c.args.context.now (c.args.place + 1) r) c.in-Ok.is c.requires.first in
    let walk = found_there (λ (f : CheckedNode). walk_of_kind f.kind ≡ WalkClass.Logical) (slice_get c.args.context.now.list.nodes c.args.place) c.node.result.now c.node.ensures c.requires.logical in
    let here = there_found (λ (f : CheckedNode). f.kind ≡ NodeKind.Not) (slice_get c.args.context.now.list.nodes c.args.place) c.node.result.now c.node.ensures (only_not c.node.result.now.kind walk c.in-None.ensures.none) in
    subst (λ (r : Option Bool). AnswersTruth c.args.context.now c.args.place (Ok r)) (sym c.not3.ensures) (not_answers c.args.context.now c.args.place c.in-Ok.first here first)

pub number_walk::numeric_at-negated-requires : goal.number_walk::numeric_at-negated-requires
number_walk::numeric_at-negated-requires g t c =
    let first = subst (λ (r : Result (Option ℤ) EvalStop). CountedNumber c.args.context.now (c.args.place + 1) r) c.in-Ok.is c.requires.first in
    let walk = found_there (λ (f : CheckedNode). walk_of_kind f.kind ≡ WalkClass.Numeric) (slice_get c.args.context.now.list.nodes c.args.place) c.node-node.result.now c.node-node.ensures c.requires.numeric in
    let here = there_found (λ (f : CheckedNode). f.kind ≡ NodeKind.Neg) (slice_get c.args.context.now.list.nodes c.args.place) c.node-node.result.now c.node-node.ensures (only_neg c.node-node.result.now.kind walk c.in-None.ensures.none) in
    let promotes : Promotes = record { left = c.operands_lie_within_promotion.ensures.left; right = c.operands_lie_within_promotion.ensures.right; negation = c.operands_lie_within_promotion.ensures.negation; three = c.operands_lie_within_promotion.ensures.three } in
    negated_operand c.args.context.now c.args.place c.in-Ok.first c.node-node.result.now c.node-node.ensures here first c.ends_once.ensures promotes c.requires.stands

pub number_walk::numeric_at-returns-in-None-clause-answers : goal.number_walk::numeric_at-returns-in-None-clause-answers
number_walk::numeric_at-returns-in-None-clause-answers g t c =
    let first = subst (λ (r : Result (Option ℤ) EvalStop). CountedNumber c.args.context.now (c.args.place + 1) r) c.in-Ok.is c.requires.first in
    let walk = found_there (λ (f : CheckedNode). walk_of_kind f.kind ≡ WalkClass.Numeric) (slice_get c.args.context.now.list.nodes c.args.place) c.node-node.result.now c.node-node.ensures c.requires.numeric in
    let here = there_found (λ (f : CheckedNode). f.kind ≡ NodeKind.Neg) (slice_get c.args.context.now.list.nodes c.args.place) c.node-node.result.now c.node-node.ensures (only_neg c.node-node.result.now.kind walk c.in-None.ensures.none) in
    as_number c.args.context.now c.args.place c.negated.result c.number_stop.result c.number_stop.ensures
    (negation_answers c.args.context.now c.args.place c.in-Ok.first c.node-node.result.now c.node-node.ensures here first c.negated.result c.trees_have_one_type.ensures c.negated.ensures)

pub number_walk::numeric_at-returns-in-None-clause-spent : goal.number_walk::numeric_at-returns-in-None-clause-spent
number_walk::numeric_at-returns-in-None-clause-spent g t c =
    let walk = found_there (λ (f : CheckedNode). walk_of_kind f.kind ≡ WalkClass.Numeric) (slice_get c.args.context.now.list.nodes c.args.place) c.node-node.result.now c.node-node.ensures c.requires.numeric in
    let here = there_found (λ (f : CheckedNode). f.kind ≡ NodeKind.Neg) (slice_get c.args.context.now.list.nodes c.args.place) c.node-node.result.now c.node-node.ensures (only_neg c.node-node.result.now.kind walk c.in-None.ensures.none) in
    after_value (Option ℤ) c.args.context.now c.args.place c.args.first c.in-Ok.first (g.B.Counting.left c.args.budget.now) (g.B.Counting.left c.args.budget.now) (stopped_by c.number_stop.result) c.in-Ok.is
    (nothing_more c.args.context.now c.args.place NodeKind.Neg tt here (g.B.Counting.left c.args.budget.now) (stopped_by c.number_stop.result) (number_spent c.negated.result c.number_stop.result (g.B.Counting.left c.args.budget.now) c.number_stop.ensures))

pub number_walk::numeric_at-returns-in-Some-clause-spent : goal.number_walk::numeric_at-returns-in-Some-clause-spent
number_walk::numeric_at-returns-in-Some-clause-spent g t c =
    after_value (Option ℤ) c.args.context.now c.args.place c.args.first c.in-Ok.first (g.B.Counting.left c.args.budget.now) (g.B.Counting.left c.calculated_at.new.budget) (stopped_by c.calculated_at.result) c.in-Ok.is c.calculated_at.ensures.spent

-- ---- chains of numbers

pub number_walk::number_at-returns-clause-answers : goal.number_walk::number_at-returns-clause-answers
number_walk::number_at-returns-clause-answers g t c =
    at_top (λ k. CountedNumber c.args.context.now k c.loop-at.answer) c.loop-at.at c.args.place c.loop-at.invariant.above (omega arith) c.loop-at.invariant.answers

pub number_walk::number_at-returns-clause-spent : goal.number_walk::number_at-returns-clause-spent
number_walk::number_at-returns-clause-spent g t c =
    at_top (λ k. SpendsAt c.args.context.now k (g.B.Counting.left c.args.budget.now) (g.B.Counting.left c.loop-at.budget) (stopped_by c.loop-at.answer)) c.loop-at.at c.args.place c.loop-at.invariant.above (omega arith) c.loop-at.invariant.spent

pub number_walk::number_at-loop-at-preserved : goal.number_walk::number_at-loop-at-preserved
number_walk::number_at-loop-at-preserved g t c =
    let l = c.loop-at in
    let above : c.args.place < l.at = omega arith in
    let within : l.at ≤ c.spine_bottom-bottom.result = l.invariant.within in
    record {
      above = omega arith;
      within = omega arith;
      answers = c.numeric_at-answer.ensures.answers;
      spent = c.numeric_at-answer.ensures.spent (g.B.Counting.left c.args.budget.now) (next_spent c.args.context.now l.at c.args.place (g.B.Counting.left c.args.budget.now) (g.B.Counting.left l.budget) (stopped_by l.answer) above l.invariant.spent);
    }

pub number_walk::number_at-number_operand_at-answer-requires : goal.number_walk::number_at-number_operand_at-answer-requires
number_walk::number_at-number_operand_at-answer-requires g t c =
    let inside : c.args.place < length c.args.context.now.list.nodes = part_inside c.args.context.now c.args.place c.requires.stands in
    let behind : c.args.place < c.spine_bottom-bottom.result = below_bottom c.args.context.now.list WalkClass.Numeric c.args.place c.spine_bottom-bottom.result c.spine_bottom-bottom.ensures.below c.requires.numeric c.spine_bottom-bottom.ensures.bottom in
    let smaller : measure_at c.args.context.now.list.nodes c.spine_bottom-bottom.result rank_number_operand < measure_at c.args.context.now.list.nodes c.args.place rank_numbers = omega arith in
    let stands : NumberStands c.args.context.now c.spine_bottom-bottom.result = bottom_down c.args.context.now WalkClass.Numeric (λ leaf. cc) c.args.place c.spine_bottom-bottom.result behind c.requires.stands c.spine_bottom-bottom.ensures.spine in
    search rules

pub number_walk::number_at-numeric_at-answer-requires : goal.number_walk::number_at-numeric_at-answer-requires
number_walk::number_at-numeric_at-answer-requires g t c =
    let l = c.loop-at in
    let above : c.args.place < l.at = omega arith in
    let smaller : measure_at c.args.context.now.list.nodes (l.at - 1) rank_step < measure_at c.args.context.now.list.nodes c.args.place rank_numbers = omega arith in
    let up : StepUp c.args.context.now WalkClass.Numeric (λ k. CountedNumber c.args.context.now k l.answer) l.at = step_up c.args.context.now WalkClass.Numeric (λ leaf. cc) (λ k. CountedNumber c.args.context.now k l.answer) c.args.place l.at c.spine_bottom-bottom.result above l.invariant.within c.requires.stands c.spine_bottom-bottom.ensures.spine l.invariant.answers in
    search rules

pub number_walk::number_operand_at-kept_number-requires : goal.number_walk::number_operand_at-kept_number-requires
number_walk::number_operand_at-kept_number-requires g t c = value_kept c.args.context.now c.args.place c.in-Leaf.value.now c.in-Leaf.ensures.0 number_values c.ends_once.ensures c.requires.stands

pub number_walk::number_operand_at-returns-in-Leaf-clause-answers : goal.number_walk::number_operand_at-returns-in-Leaf-clause-answers
number_walk::number_operand_at-returns-in-Leaf-clause-answers g t c = kept_value c.args.context.now c.args.place c.in-Leaf.value.now c.in-Leaf.ensures.0 (number_val c.kept_number.result) c.kept_number.ensures

pub number_walk::number_operand_at-returns-in-Leaf-clause-spent : goal.number_walk::number_operand_at-returns-in-Leaf-clause-spent
number_walk::number_operand_at-returns-in-Leaf-clause-spent g t c =
    free_spends c.args.context.now c.args.place None (g.B.Counting.left c.args.budget.now) (leaf_free c.args.context.now c.args.place c.in-Leaf.ensures.1) (takes_nothing (g.B.Counting.left c.args.budget.now))

pub truth_walk::numbers_truth_at-returns-in-Ok-clause-answers : goal.truth_walk::numbers_truth_at-returns-in-Ok-clause-answers
truth_walk::numbers_truth_at-returns-in-Ok-clause-answers g t c =
    let here = c.requires.here in
    let right = kept_value c.args.context.now c.right_of-right_place.result c.in-Leaf.value.now c.in-Leaf.ensures.0 (number_val (Some c.in-Int.right)) (ap plain_val c.in-Int.is) in
    let fits : SFits w64 c.in-Int.right = search rules in
    let compared : IsTrue c.compare_numbers.result ↔ ComparesTrue c.args.comparison (number_val c.in-Ok.left) (number_val (Some c.in-Int.right)) =
    subst (λ (n : ℤ). IsTrue c.compare_numbers.result ↔ ComparesTrue c.args.comparison (number_val c.in-Ok.left) (number_val (Some n))) (to_z-of_z w64 c.in-Int.right fits) c.compare_numbers.ensures in
    numbers_compared c.args.context.now c.args.place c.args.comparison here c.right_of-right_place.result c.right_of-right_place.ensures c.in-Ok.left (Some c.in-Int.right) c.compare_numbers.result c.in-Ok.ensures.answers right compared

pub truth_walk::numbers_truth_at-returns-in-Ok-number_at-2-clause-answers : goal.truth_walk::numbers_truth_at-returns-in-Ok-number_at-2-clause-answers
truth_walk::numbers_truth_at-returns-in-Ok-number_at-2-clause-answers g t c =
    let here = c.requires.here in
    numbers_compared c.args.context.now c.args.place c.args.comparison here c.right_of-right_place.result c.right_of-right_place.ensures c.in-Ok-number_at.left c.in-Ok-number_at-2.right c.compare_numbers-in-Ok-number_at-2.result c.in-Ok-number_at.ensures.answers c.in-Ok-number_at-2.ensures.answers c.compare_numbers-in-Ok-number_at-2.ensures

pub truth_walk::compared_truth_at-walk_operand_at-requires : goal.truth_walk::compared_truth_at-walk_operand_at-requires
truth_walk::compared_truth_at-walk_operand_at-requires g t c = record {
  stands = first_part c.args.context.now c.args.place WalkClass.Eager (λ leaf. cc) (walks_by c.args.context.now.list c.args.place (BinaryOperator.Comparison c.args.comparison) WalkClass.Eager c.requires.here refl)
      (typed_part c.args.context.now c.args.place IsBooleanOrNull c.requires.stands);
}

pub truth_walk::compared_truth_at-walk_operand_at-requires-in-Leaf : goal.truth_walk::compared_truth_at-walk_operand_at-requires-in-Leaf
truth_walk::compared_truth_at-walk_operand_at-requires-in-Leaf g t c = record {
  stands = right_part c.args.context.now c.args.place (BinaryOperator.Comparison c.args.comparison) c.requires.here (typed_part c.args.context.now c.args.place IsBooleanOrNull c.requires.stands) c.right_of-right_place.result
      c.right_of-right_place.ensures;
}

-- ---- a call

pub datum_walk::made_at-called_at-requires : goal.datum_walk::made_at-called_at-requires
datum_walk::made_at-called_at-requires g t c =
    let first : AnswersDatum c.args.context.now (c.args.place + 1) (Ok c.in-Ok.first) = subst (λ (r : Result Datum EvalStop). CountedDatum c.args.context.now (c.args.place + 1) r) c.in-Ok.is c.requires.first in
    let here : HasCall c.args.context.now.list c.args.place c.in-Call.function = there_found (λ (f : CheckedNode). f.kind ≡ NodeKind.Call c.in-Call.function) (slice_get c.args.context.now.list.nodes c.args.place) c.node.result.now c.node.ensures c.in-Call.is in
    let smaller : measure_at c.args.context.now.list.nodes c.args.place rank_rest < measure_at c.args.context.now.list.nodes c.args.place rank_step = omega arith in
    search rules

pub datum_walk::called_at-stop_of-own_stop-requires : goal.datum_walk::called_at-stop_of-own_stop-requires
datum_walk::called_at-stop_of-own_stop-requires g t c = part_inside c.args.context.now c.args.place c.requires.stands

-- the first argument stands there
first_there : (context : ContextModel) → OneName → (place : ℕ) (function : Function) → HasCall context.list place function → (own : ℕ) → IsStopOf context.list place own → PartStands context place
    → PartStands context (place + 1)
first_there context names place function here own is_own part =
    argument_stands context names place function here own is_own (place + 1) [] part refl (first_argument context names place function here own is_own part)

pub datum_walk::called_at-stop_of-second_place-requires : goal.datum_walk::called_at-stop_of-second_place-requires
datum_walk::called_at-stop_of-second_place-requires g t c =
    part_inside c.args.context.now (c.args.place + 1) (first_there c.args.context.now c.calls_have_one_type.ensures.named c.args.place c.args.function c.requires.here c.stop_of-own_stop.result c.stop_of-own_stop.ensures c.requires.stands)

-- the first argument, the first two, and three
one_answered : (context : ContextModel) → OneName → (place : ℕ) (function : Function) → HasCall context.list place function → (own : ℕ) → IsStopOf context.list place own → PartStands context place
    → (second : ℕ) → IsStopOf context.list (place + 1) second → (first : Datum) → AnswersDatum context (place + 1) (Ok first) → AllAnswered context (place + 1) second own (first ∷ [])
one_answered context names place function here own is_own part second is_second first answers =
    (second, is_second, first_argument context names place function here own is_own part, answers, refl)

two_answered : (context : ContextModel) → OneName → (place : ℕ) (function : Function) → HasCall context.list place function → (own : ℕ) → IsStopOf context.list place own → PartStands context place
    → (second : ℕ) → IsStopOf context.list (place + 1) second → (first : Datum) → AnswersDatum context (place + 1) (Ok first)
    → ¬ (second ≡ own) → (third : ℕ) → IsStopOf context.list second third → (next : Datum) → AnswersDatum context second (Ok next) → AllAnswered context (place + 1) third own (first ∷ next ∷ [])
two_answered context names place function here own is_own part second is_second first answers further third is_third next next_answers =
    (second, is_second, first_argument context names place function here own is_own part, answers, (third, is_third, further, next_answers, refl))

three_answered : (context : ContextModel) → OneName → (place : ℕ) (function : Function) → HasCall context.list place function → (own : ℕ) → IsStopOf context.list place own → PartStands context place
    → (second : ℕ) → IsStopOf context.list (place + 1) second → (first : Datum) → AnswersDatum context (place + 1) (Ok first)
    → ¬ (second ≡ own) → (third : ℕ) → IsStopOf context.list second third → (next : Datum) → AnswersDatum context second (Ok next)
    → ¬ (third ≡ own) → (last : Datum) → AnswersDatum context third (Ok last) → AllAnswered context (place + 1) own own (first ∷ next ∷ last ∷ [])
three_answered context names place function here own is_own part second is_second first answers further third is_third next next_answers later last last_answers =
    let two : AllAnswered context (place + 1) third own (first ∷ next ∷ []) = two_answered context names place function here own is_own part second is_second first answers further third is_third next next_answers in
    let stops : IsStopOf context.list third own = third_is_last context names place function here own is_own third first next part two later in
    (second, is_second, first_argument context names place function here own is_own part, answers, (third, is_third, further, next_answers, (own, stops, later, last_answers, refl)))

pub datum_walk::called_at-called_on_one-requires : goal.datum_walk::called_at-called_on_one-requires
datum_walk::called_at-called_on_one-requires g t c =
    call_applies c.args.context.now c.calls_have_one_type.ensures.named c.args.place c.args.function c.requires.here c.stop_of-own_stop.result c.stop_of-own_stop.ensures c.ends_once.ensures (c.args.first ∷ [])
    (subst (λ (k : ℕ). AllAnswered c.args.context.now (c.args.place + 1) k c.stop_of-own_stop.result (c.args.first ∷ [])) c.if-second_place-own_stop.true
    (one_answered c.args.context.now c.calls_have_one_type.ensures.named c.args.place c.args.function c.requires.here c.stop_of-own_stop.result c.stop_of-own_stop.ensures c.requires.stands c.stop_of-second_place.result c.stop_of-second_place.ensures c.args.first c.requires.first)) c.requires.stands

pub datum_walk::called_at-returns-then-second_place-own_stop-clause-answers : goal.datum_walk::called_at-returns-then-second_place-own_stop-clause-answers
datum_walk::called_at-returns-then-second_place-own_stop-clause-answers g t c =
    as_counted c.args.context.now c.args.place c.called_on_one.result c.as_stop.result c.as_stop.ensures
    (call_answers c.args.context.now c.calls_have_one_type.ensures.named c.args.place c.args.function c.requires.here c.stop_of-own_stop.result c.stop_of-own_stop.ensures c.ends_once.ensures (c.args.first ∷ [])
    (subst (λ (k : ℕ). AllAnswered c.args.context.now (c.args.place + 1) k c.stop_of-own_stop.result (c.args.first ∷ [])) c.if-second_place-own_stop.true
    (one_answered c.args.context.now c.calls_have_one_type.ensures.named c.args.place c.args.function c.requires.here c.stop_of-own_stop.result c.stop_of-own_stop.ensures c.requires.stands c.stop_of-second_place.result c.stop_of-second_place.ensures c.args.first c.requires.first)) c.called_on_one.result (λ r s. c.called_on_one.ensures c.args.context.now.moment r s))

pub datum_walk::called_at-likely_stored_at-requires : goal.datum_walk::called_at-likely_stored_at-requires
datum_walk::called_at-likely_stored_at-requires g t c =
    let inside : c.args.place < length c.args.context.now.list.nodes = part_inside c.args.context.now c.args.place c.requires.stands in
    let behind : c.args.place < c.stop_of-second_place.result = argument_behind c.args.context.now c.calls_have_one_type.ensures.named c.args.place c.args.function c.requires.here c.stop_of-own_stop.result c.stop_of-own_stop.ensures c.stop_of-second_place.result (c.args.first ∷ []) c.requires.stands (one_answered c.args.context.now c.calls_have_one_type.ensures.named c.args.place c.args.function c.requires.here c.stop_of-own_stop.result c.stop_of-own_stop.ensures c.requires.stands c.stop_of-second_place.result c.stop_of-second_place.ensures c.args.first c.requires.first) in
    let smaller : measure_at c.args.context.now.list.nodes c.stop_of-second_place.result rank_operand < measure_at c.args.context.now.list.nodes c.args.place rank_rest = omega arith in
    let stands : OperandStands c.args.context.now c.stop_of-second_place.result = tree_operand c.args.context.now c.stop_of-second_place.result (argument_stands c.args.context.now c.calls_have_one_type.ensures.named c.args.place c.args.function c.requires.here c.stop_of-own_stop.result c.stop_of-own_stop.ensures c.stop_of-second_place.result (c.args.first ∷ []) c.requires.stands (one_answered c.args.context.now c.calls_have_one_type.ensures.named c.args.place c.args.function c.requires.here c.stop_of-own_stop.result c.stop_of-own_stop.ensures c.requires.stands c.stop_of-second_place.result c.stop_of-second_place.ensures c.args.first c.requires.first) c.if-second_place-own_stop.false) in
    search rules

pub datum_walk::called_at-returns-in-Err-clause-answers : goal.datum_walk::called_at-returns-in-Err-clause-answers
datum_walk::called_at-returns-in-Err-clause-answers g t c =
    by_stop (λ s. CountedDatum c.args.context.now c.stop_of-second_place.result (Err s)) (λ s. CountedDatum c.args.context.now c.args.place (Err s))
    (λ fault. argument_faults c.args.context.now c.calls_have_one_type.ensures.named c.args.place c.args.function c.requires.here c.stop_of-own_stop.result c.stop_of-own_stop.ensures c.stop_of-second_place.result (c.args.first ∷ []) fault (one_answered c.args.context.now c.calls_have_one_type.ensures.named c.args.place c.args.function c.requires.here c.stop_of-own_stop.result c.stop_of-own_stop.ensures c.requires.stands c.stop_of-second_place.result c.stop_of-second_place.ensures c.args.first c.requires.first) c.if-second_place-own_stop.false)
    (λ is. tt) c.in-Err.further c.in-Err.ensures.answers

pub datum_walk::called_at-stop_of-third_place-requires : goal.datum_walk::called_at-stop_of-third_place-requires
datum_walk::called_at-stop_of-third_place-requires g t c =
    part_inside c.args.context.now c.stop_of-second_place.result (argument_stands c.args.context.now c.calls_have_one_type.ensures.named c.args.place c.args.function c.requires.here c.stop_of-own_stop.result c.stop_of-own_stop.ensures c.stop_of-second_place.result (c.args.first ∷ []) c.requires.stands (one_answered c.args.context.now c.calls_have_one_type.ensures.named c.args.place c.args.function c.requires.here c.stop_of-own_stop.result c.stop_of-own_stop.ensures c.requires.stands c.stop_of-second_place.result c.stop_of-second_place.ensures c.args.first c.requires.first) c.if-second_place-own_stop.false)

pub datum_walk::called_at-called_on_two-requires : goal.datum_walk::called_at-called_on_two-requires
datum_walk::called_at-called_on_two-requires g t c =
    call_applies c.args.context.now c.calls_have_one_type.ensures.named c.args.place c.args.function c.requires.here c.stop_of-own_stop.result c.stop_of-own_stop.ensures c.ends_once.ensures (c.args.first ∷ c.in-Ok.second ∷ [])
    (subst (λ (k : ℕ). AllAnswered c.args.context.now (c.args.place + 1) k c.stop_of-own_stop.result (c.args.first ∷ c.in-Ok.second ∷ [])) c.if-third_place-own_stop.true
    (two_answered c.args.context.now c.calls_have_one_type.ensures.named c.args.place c.args.function c.requires.here c.stop_of-own_stop.result c.stop_of-own_stop.ensures c.requires.stands c.stop_of-second_place.result c.stop_of-second_place.ensures c.args.first c.requires.first c.if-second_place-own_stop.false c.stop_of-third_place.result c.stop_of-third_place.ensures c.in-Ok.second c.in-Ok.ensures.answers)) c.requires.stands

pub datum_walk::called_at-returns-then-third_place-own_stop-clause-answers : goal.datum_walk::called_at-returns-then-third_place-own_stop-clause-answers
datum_walk::called_at-returns-then-third_place-own_stop-clause-answers g t c =
    as_counted c.args.context.now c.args.place c.called_on_two.result c.as_stop-then-third_place-own_stop.result c.as_stop-then-third_place-own_stop.ensures
    (call_answers c.args.context.now c.calls_have_one_type.ensures.named c.args.place c.args.function c.requires.here c.stop_of-own_stop.result c.stop_of-own_stop.ensures c.ends_once.ensures (c.args.first ∷ c.in-Ok.second ∷ [])
    (subst (λ (k : ℕ). AllAnswered c.args.context.now (c.args.place + 1) k c.stop_of-own_stop.result (c.args.first ∷ c.in-Ok.second ∷ [])) c.if-third_place-own_stop.true
    (two_answered c.args.context.now c.calls_have_one_type.ensures.named c.args.place c.args.function c.requires.here c.stop_of-own_stop.result c.stop_of-own_stop.ensures c.requires.stands c.stop_of-second_place.result c.stop_of-second_place.ensures c.args.first c.requires.first c.if-second_place-own_stop.false c.stop_of-third_place.result c.stop_of-third_place.ensures c.in-Ok.second c.in-Ok.ensures.answers)) c.called_on_two.result (λ r s. c.called_on_two.ensures c.args.context.now.moment r s))

pub datum_walk::called_at-likely_stored_at-requires-2 : goal.datum_walk::called_at-likely_stored_at-requires-2
datum_walk::called_at-likely_stored_at-requires-2 g t c =
    let inside : c.args.place < length c.args.context.now.list.nodes = part_inside c.args.context.now c.args.place c.requires.stands in
    let behind : c.args.place < c.stop_of-third_place.result = argument_behind c.args.context.now c.calls_have_one_type.ensures.named c.args.place c.args.function c.requires.here c.stop_of-own_stop.result c.stop_of-own_stop.ensures c.stop_of-third_place.result (c.args.first ∷ c.in-Ok.second ∷ []) c.requires.stands (two_answered c.args.context.now c.calls_have_one_type.ensures.named c.args.place c.args.function c.requires.here c.stop_of-own_stop.result c.stop_of-own_stop.ensures c.requires.stands c.stop_of-second_place.result c.stop_of-second_place.ensures c.args.first c.requires.first c.if-second_place-own_stop.false c.stop_of-third_place.result c.stop_of-third_place.ensures c.in-Ok.second c.in-Ok.ensures.answers) in
    let smaller : measure_at c.args.context.now.list.nodes c.stop_of-third_place.result rank_operand < measure_at c.args.context.now.list.nodes c.args.place rank_rest = omega arith in
    let stands : OperandStands c.args.context.now c.stop_of-third_place.result = tree_operand c.args.context.now c.stop_of-third_place.result (argument_stands c.args.context.now c.calls_have_one_type.ensures.named c.args.place c.args.function c.requires.here c.stop_of-own_stop.result c.stop_of-own_stop.ensures c.stop_of-third_place.result (c.args.first ∷ c.in-Ok.second ∷ []) c.requires.stands (two_answered c.args.context.now c.calls_have_one_type.ensures.named c.args.place c.args.function c.requires.here c.stop_of-own_stop.result c.stop_of-own_stop.ensures c.requires.stands c.stop_of-second_place.result c.stop_of-second_place.ensures c.args.first c.requires.first c.if-second_place-own_stop.false c.stop_of-third_place.result c.stop_of-third_place.ensures c.in-Ok.second c.in-Ok.ensures.answers) c.if-third_place-own_stop.false) in
    search rules

pub datum_walk::called_at-called_on_three-requires : goal.datum_walk::called_at-called_on_three-requires
datum_walk::called_at-called_on_three-requires g t c =
    call_applies c.args.context.now c.calls_have_one_type.ensures.named c.args.place c.args.function c.requires.here c.stop_of-own_stop.result c.stop_of-own_stop.ensures c.ends_once.ensures (c.args.first ∷ c.in-Ok.second ∷ c.in-Ok-likely_stored_at.third ∷ [])
    (three_answered c.args.context.now c.calls_have_one_type.ensures.named c.args.place c.args.function c.requires.here c.stop_of-own_stop.result c.stop_of-own_stop.ensures c.requires.stands c.stop_of-second_place.result c.stop_of-second_place.ensures c.args.first c.requires.first c.if-second_place-own_stop.false c.stop_of-third_place.result c.stop_of-third_place.ensures c.in-Ok.second c.in-Ok.ensures.answers c.if-third_place-own_stop.false c.in-Ok-likely_stored_at.third c.in-Ok-likely_stored_at.ensures.answers) c.requires.stands

pub datum_walk::called_at-returns-in-Ok-likely_stored_at-clause-answers : goal.datum_walk::called_at-returns-in-Ok-likely_stored_at-clause-answers
datum_walk::called_at-returns-in-Ok-likely_stored_at-clause-answers g t c =
    as_counted c.args.context.now c.args.place c.called_on_three.result c.as_stop-in-Ok-likely_stored_at.result c.as_stop-in-Ok-likely_stored_at.ensures
    (call_answers c.args.context.now c.calls_have_one_type.ensures.named c.args.place c.args.function c.requires.here c.stop_of-own_stop.result c.stop_of-own_stop.ensures c.ends_once.ensures (c.args.first ∷ c.in-Ok.second ∷ c.in-Ok-likely_stored_at.third ∷ [])
    (three_answered c.args.context.now c.calls_have_one_type.ensures.named c.args.place c.args.function c.requires.here c.stop_of-own_stop.result c.stop_of-own_stop.ensures c.requires.stands c.stop_of-second_place.result c.stop_of-second_place.ensures c.args.first c.requires.first c.if-second_place-own_stop.false c.stop_of-third_place.result c.stop_of-third_place.ensures c.in-Ok.second c.in-Ok.ensures.answers c.if-third_place-own_stop.false c.in-Ok-likely_stored_at.third c.in-Ok-likely_stored_at.ensures.answers) c.called_on_three.result (λ r s. c.called_on_three.ensures c.args.context.now.moment r s))

pub datum_walk::called_at-returns-clause-answers : goal.datum_walk::called_at-returns-clause-answers
datum_walk::called_at-returns-clause-answers g t c =
    by_stop (λ s. CountedDatum c.args.context.now c.stop_of-third_place.result (Err s)) (λ s. CountedDatum c.args.context.now c.args.place (Err s))
    (λ fault. argument_faults c.args.context.now c.calls_have_one_type.ensures.named c.args.place c.args.function c.requires.here c.stop_of-own_stop.result c.stop_of-own_stop.ensures c.stop_of-third_place.result (c.args.first ∷ c.in-Ok.second ∷ []) fault (two_answered c.args.context.now c.calls_have_one_type.ensures.named c.args.place c.args.function c.requires.here c.stop_of-own_stop.result c.stop_of-own_stop.ensures c.requires.stands c.stop_of-second_place.result c.stop_of-second_place.ensures c.args.first c.requires.first c.if-second_place-own_stop.false c.stop_of-third_place.result c.stop_of-third_place.ensures c.in-Ok.second c.in-Ok.ensures.answers) c.if-third_place-own_stop.false)
    (λ is. tt) c.in-Err-likely_stored_at.stop c.in-Err-likely_stored_at.ensures.answers

-- the first argument, the first two, and three, with what each took of a budget
one_walked : (context : ContextModel) → OneName → (place : ℕ) (function : Function) → HasCall context.list place function → (own : ℕ) → IsStopOf context.list place own → PartStands context place
    → (second : ℕ) → IsStopOf context.list (place + 1) second → (first : Datum) → AnswersDatum context (place + 1) (Ok first) → (old now : Budget) → SpendsAt context (place + 1) old now None
    → AllWalked context (place + 1) second own (first ∷ []) old now
one_walked context names place function here own is_own part second is_second first answers old now spends =
    (second, now, is_second, first_argument context names place function here own is_own part, answers, spends, (refl, refl))

two_walked : (context : ContextModel) → OneName → (place : ℕ) (function : Function) → HasCall context.list place function → (own : ℕ) → IsStopOf context.list place own → PartStands context place
    → (second : ℕ) → IsStopOf context.list (place + 1) second → (first : Datum) → AnswersDatum context (place + 1) (Ok first) → ¬ (second ≡ own) → (third : ℕ) → IsStopOf context.list second third
    → (next : Datum) → AnswersDatum context second (Ok next) → (old mid now : Budget) → SpendsAt context (place + 1) old mid None → SpendsAt context second mid now None
    → AllWalked context (place + 1) third own (first ∷ next ∷ []) old now
two_walked context names place function here own is_own part second is_second first answers further third is_third next next_answers old mid now spends next_spends =
    (second, mid, is_second, first_argument context names place function here own is_own part, answers, spends, (third, now, is_third, further, next_answers, next_spends, (refl, refl)))

three_walked : (context : ContextModel) → OneName → (place : ℕ) (function : Function) → HasCall context.list place function → (own : ℕ) → IsStopOf context.list place own → PartStands context place
    → (second : ℕ) → IsStopOf context.list (place + 1) second → (first : Datum) → AnswersDatum context (place + 1) (Ok first) → ¬ (second ≡ own) → (third : ℕ) → IsStopOf context.list second third
    → (next : Datum) → AnswersDatum context second (Ok next) → ¬ (third ≡ own) → (last : Datum) → AnswersDatum context third (Ok last)
    → (old mid later now : Budget) → SpendsAt context (place + 1) old mid None → SpendsAt context second mid later None → SpendsAt context third later now None
    → AllWalked context (place + 1) own own (first ∷ next ∷ last ∷ []) old now
three_walked context names place function here own is_own part second is_second first answers further third is_third next next_answers behind last last_answers old mid later now spends next_spends last_spends =
    let two : AllAnswered context (place + 1) third own (first ∷ next ∷ []) = two_answered context names place function here own is_own part second is_second first answers further third is_third next next_answers in
    let stops : IsStopOf context.list third own = third_is_last context names place function here own is_own third first next part two behind in (
      second,
      mid,
      is_second,
      first_argument context names place function here own is_own part,
      answers,
      spends,
      (third, later, is_third, further, next_answers, next_spends, (own, now, stops, behind, last_answers, last_spends, (refl, refl))),
    )

pub datum_walk::called_at-returns-then-second_place-own_stop-clause-spent : goal.datum_walk::called_at-returns-then-second_place-own_stop-clause-spent
datum_walk::called_at-returns-then-second_place-own_stop-clause-spent g t c = λ start spends.
    call_spends c.args.context.now c.calls_have_one_type.ensures.named c.args.place c.args.function c.requires.here c.stop_of-own_stop.result c.stop_of-own_stop.ensures c.ends_once.ensures (c.args.first ∷ []) start (g.B.Counting.left c.args.budget.now) (g.B.Counting.left c.take.new.self) (datum_stop c.as_stop.result)
    (subst (λ (k : ℕ). AllWalked c.args.context.now (c.args.place + 1) k c.stop_of-own_stop.result (c.args.first ∷ []) start (g.B.Counting.left c.args.budget.now)) c.if-second_place-own_stop.true
    (one_walked c.args.context.now c.calls_have_one_type.ensures.named c.args.place c.args.function c.requires.here c.stop_of-own_stop.result c.stop_of-own_stop.ensures c.requires.stands c.stop_of-second_place.result c.stop_of-second_place.ensures c.args.first c.requires.first start (g.B.Counting.left c.args.budget.now) spends))
    c.cost_of_one.result c.cost_of_one.ensures (as_paid c.called_on_one.result c.as_stop.result (g.B.Counting.left c.args.budget.now) (g.B.Counting.left c.take.new.self) c.cost_of_one.result c.as_stop.ensures (subst (λ (b : Bool). IsTaken b (g.B.Counting.left c.args.budget.now) (g.B.Counting.left c.take.new.self) c.cost_of_one.result) c.if-not-take.false c.take.ensures))

pub datum_walk::called_at-returns-then-not-take-clause-spent : goal.datum_walk::called_at-returns-then-not-take-clause-spent
datum_walk::called_at-returns-then-not-take-clause-spent g t c = λ start spends.
    call_spends c.args.context.now c.calls_have_one_type.ensures.named c.args.place c.args.function c.requires.here c.stop_of-own_stop.result c.stop_of-own_stop.ensures c.ends_once.ensures (c.args.first ∷ []) start (g.B.Counting.left c.args.budget.now) (g.B.Counting.left c.take.new.self) (Some EvalStop.TooCostly)
    (subst (λ (k : ℕ). AllWalked c.args.context.now (c.args.place + 1) k c.stop_of-own_stop.result (c.args.first ∷ []) start (g.B.Counting.left c.args.budget.now)) c.if-second_place-own_stop.true
    (one_walked c.args.context.now c.calls_have_one_type.ensures.named c.args.place c.args.function c.requires.here c.stop_of-own_stop.result c.stop_of-own_stop.ensures c.requires.stands c.stop_of-second_place.result c.stop_of-second_place.ensures c.args.first c.requires.first start (g.B.Counting.left c.args.budget.now) spends))
    c.cost_of_one.result c.cost_of_one.ensures (subst (λ (b : Bool). IsTaken b (g.B.Counting.left c.args.budget.now) (g.B.Counting.left c.take.new.self) c.cost_of_one.result) c.if-not-take.true c.take.ensures)

pub datum_walk::called_at-returns-then-third_place-own_stop-clause-spent : goal.datum_walk::called_at-returns-then-third_place-own_stop-clause-spent
datum_walk::called_at-returns-then-third_place-own_stop-clause-spent g t c = λ start spends.
    call_spends c.args.context.now c.calls_have_one_type.ensures.named c.args.place c.args.function c.requires.here c.stop_of-own_stop.result c.stop_of-own_stop.ensures c.ends_once.ensures (c.args.first ∷ c.in-Ok.second ∷ []) start (g.B.Counting.left c.likely_stored_at.new.budget) (g.B.Counting.left c.take-then-third_place-own_stop.new.self) (datum_stop c.as_stop-then-third_place-own_stop.result)
    (subst (λ (k : ℕ). AllWalked c.args.context.now (c.args.place + 1) k c.stop_of-own_stop.result (c.args.first ∷ c.in-Ok.second ∷ []) start (g.B.Counting.left c.likely_stored_at.new.budget)) c.if-third_place-own_stop.true
    (two_walked c.args.context.now c.calls_have_one_type.ensures.named c.args.place c.args.function c.requires.here c.stop_of-own_stop.result c.stop_of-own_stop.ensures c.requires.stands c.stop_of-second_place.result c.stop_of-second_place.ensures c.args.first c.requires.first c.if-second_place-own_stop.false c.stop_of-third_place.result c.stop_of-third_place.ensures c.in-Ok.second c.in-Ok.ensures.answers start (g.B.Counting.left c.args.budget.now) (g.B.Counting.left c.likely_stored_at.new.budget) spends c.in-Ok.ensures.spent))
    c.cost_of_two.result c.cost_of_two.ensures (as_paid c.called_on_two.result c.as_stop-then-third_place-own_stop.result (g.B.Counting.left c.likely_stored_at.new.budget) (g.B.Counting.left c.take-then-third_place-own_stop.new.self) c.cost_of_two.result c.as_stop-then-third_place-own_stop.ensures (subst (λ (b : Bool). IsTaken b (g.B.Counting.left c.likely_stored_at.new.budget) (g.B.Counting.left c.take-then-third_place-own_stop.new.self) c.cost_of_two.result) c.if-not-take-2.false c.take-then-third_place-own_stop.ensures))

pub datum_walk::called_at-returns-then-not-take-2-clause-spent : goal.datum_walk::called_at-returns-then-not-take-2-clause-spent
datum_walk::called_at-returns-then-not-take-2-clause-spent g t c = λ start spends.
    call_spends c.args.context.now c.calls_have_one_type.ensures.named c.args.place c.args.function c.requires.here c.stop_of-own_stop.result c.stop_of-own_stop.ensures c.ends_once.ensures (c.args.first ∷ c.in-Ok.second ∷ []) start (g.B.Counting.left c.likely_stored_at.new.budget) (g.B.Counting.left c.take-then-third_place-own_stop.new.self) (Some EvalStop.TooCostly)
    (subst (λ (k : ℕ). AllWalked c.args.context.now (c.args.place + 1) k c.stop_of-own_stop.result (c.args.first ∷ c.in-Ok.second ∷ []) start (g.B.Counting.left c.likely_stored_at.new.budget)) c.if-third_place-own_stop.true
    (two_walked c.args.context.now c.calls_have_one_type.ensures.named c.args.place c.args.function c.requires.here c.stop_of-own_stop.result c.stop_of-own_stop.ensures c.requires.stands c.stop_of-second_place.result c.stop_of-second_place.ensures c.args.first c.requires.first c.if-second_place-own_stop.false c.stop_of-third_place.result c.stop_of-third_place.ensures c.in-Ok.second c.in-Ok.ensures.answers start (g.B.Counting.left c.args.budget.now) (g.B.Counting.left c.likely_stored_at.new.budget) spends c.in-Ok.ensures.spent))
    c.cost_of_two.result c.cost_of_two.ensures (subst (λ (b : Bool). IsTaken b (g.B.Counting.left c.likely_stored_at.new.budget) (g.B.Counting.left c.take-then-third_place-own_stop.new.self) c.cost_of_two.result) c.if-not-take-2.true c.take-then-third_place-own_stop.ensures)

pub datum_walk::called_at-returns-in-Ok-likely_stored_at-clause-spent : goal.datum_walk::called_at-returns-in-Ok-likely_stored_at-clause-spent
datum_walk::called_at-returns-in-Ok-likely_stored_at-clause-spent g t c = λ start spends.
    call_spends c.args.context.now c.calls_have_one_type.ensures.named c.args.place c.args.function c.requires.here c.stop_of-own_stop.result c.stop_of-own_stop.ensures c.ends_once.ensures (c.args.first ∷ c.in-Ok.second ∷ c.in-Ok-likely_stored_at.third ∷ []) start (g.B.Counting.left c.likely_stored_at-2.new.budget) (g.B.Counting.left c.take-in-Ok-likely_stored_at.new.self) (datum_stop c.as_stop-in-Ok-likely_stored_at.result)
    (three_walked c.args.context.now c.calls_have_one_type.ensures.named c.args.place c.args.function c.requires.here c.stop_of-own_stop.result c.stop_of-own_stop.ensures c.requires.stands c.stop_of-second_place.result c.stop_of-second_place.ensures c.args.first c.requires.first c.if-second_place-own_stop.false c.stop_of-third_place.result c.stop_of-third_place.ensures c.in-Ok.second c.in-Ok.ensures.answers c.if-third_place-own_stop.false c.in-Ok-likely_stored_at.third c.in-Ok-likely_stored_at.ensures.answers start (g.B.Counting.left c.args.budget.now) (g.B.Counting.left c.likely_stored_at.new.budget) (g.B.Counting.left c.likely_stored_at-2.new.budget) spends c.in-Ok.ensures.spent c.in-Ok-likely_stored_at.ensures.spent)
    c.cost_of_three.result (c.cost_of_three.ensures c.args.function) (as_paid c.called_on_three.result c.as_stop-in-Ok-likely_stored_at.result (g.B.Counting.left c.likely_stored_at-2.new.budget) (g.B.Counting.left c.take-in-Ok-likely_stored_at.new.self) c.cost_of_three.result c.as_stop-in-Ok-likely_stored_at.ensures (subst (λ (b : Bool). IsTaken b (g.B.Counting.left c.likely_stored_at-2.new.budget) (g.B.Counting.left c.take-in-Ok-likely_stored_at.new.self) c.cost_of_three.result) c.if-not-take-3.false c.take-in-Ok-likely_stored_at.ensures))

pub datum_walk::called_at-returns-then-not-take-3-clause-spent : goal.datum_walk::called_at-returns-then-not-take-3-clause-spent
datum_walk::called_at-returns-then-not-take-3-clause-spent g t c = λ start spends.
    call_spends c.args.context.now c.calls_have_one_type.ensures.named c.args.place c.args.function c.requires.here c.stop_of-own_stop.result c.stop_of-own_stop.ensures c.ends_once.ensures (c.args.first ∷ c.in-Ok.second ∷ c.in-Ok-likely_stored_at.third ∷ []) start (g.B.Counting.left c.likely_stored_at-2.new.budget) (g.B.Counting.left c.take-in-Ok-likely_stored_at.new.self) (Some EvalStop.TooCostly)
    (three_walked c.args.context.now c.calls_have_one_type.ensures.named c.args.place c.args.function c.requires.here c.stop_of-own_stop.result c.stop_of-own_stop.ensures c.requires.stands c.stop_of-second_place.result c.stop_of-second_place.ensures c.args.first c.requires.first c.if-second_place-own_stop.false c.stop_of-third_place.result c.stop_of-third_place.ensures c.in-Ok.second c.in-Ok.ensures.answers c.if-third_place-own_stop.false c.in-Ok-likely_stored_at.third c.in-Ok-likely_stored_at.ensures.answers start (g.B.Counting.left c.args.budget.now) (g.B.Counting.left c.likely_stored_at.new.budget) (g.B.Counting.left c.likely_stored_at-2.new.budget) spends c.in-Ok.ensures.spent c.in-Ok-likely_stored_at.ensures.spent)
    c.cost_of_three.result (c.cost_of_three.ensures c.args.function) (subst (λ (b : Bool). IsTaken b (g.B.Counting.left c.likely_stored_at-2.new.budget) (g.B.Counting.left c.take-in-Ok-likely_stored_at.new.self) c.cost_of_three.result) c.if-not-take-3.true c.take-in-Ok-likely_stored_at.ensures)

pub datum_walk::called_at-returns-in-Err-clause-spent : goal.datum_walk::called_at-returns-in-Err-clause-spent
datum_walk::called_at-returns-in-Err-clause-spent g t c = λ start spends.
    call_stops c.args.context.now c.calls_have_one_type.ensures.named c.args.place c.args.function c.requires.here c.stop_of-own_stop.result c.stop_of-own_stop.ensures c.ends_once.ensures c.stop_of-second_place.result (c.args.first ∷ []) start (g.B.Counting.left c.args.budget.now) (g.B.Counting.left c.likely_stored_at.new.budget) (one_walked c.args.context.now c.calls_have_one_type.ensures.named c.args.place c.args.function c.requires.here c.stop_of-own_stop.result c.stop_of-own_stop.ensures c.requires.stands c.stop_of-second_place.result c.stop_of-second_place.ensures c.args.first c.requires.first start (g.B.Counting.left c.args.budget.now) spends) c.if-second_place-own_stop.false c.in-Err.further
    (datum_faults c.args.context.now c.stop_of-second_place.result c.in-Err.further c.in-Err.ensures.answers) c.in-Err.ensures.spent

pub datum_walk::called_at-returns-clause-spent : goal.datum_walk::called_at-returns-clause-spent
datum_walk::called_at-returns-clause-spent g t c = λ start spends.
    call_stops c.args.context.now c.calls_have_one_type.ensures.named c.args.place c.args.function c.requires.here c.stop_of-own_stop.result c.stop_of-own_stop.ensures c.ends_once.ensures c.stop_of-third_place.result (c.args.first ∷ c.in-Ok.second ∷ []) start (g.B.Counting.left c.likely_stored_at.new.budget) (g.B.Counting.left c.likely_stored_at-2.new.budget) (two_walked c.args.context.now c.calls_have_one_type.ensures.named c.args.place c.args.function c.requires.here c.stop_of-own_stop.result c.stop_of-own_stop.ensures c.requires.stands c.stop_of-second_place.result c.stop_of-second_place.ensures c.args.first c.requires.first c.if-second_place-own_stop.false c.stop_of-third_place.result c.stop_of-third_place.ensures c.in-Ok.second c.in-Ok.ensures.answers start (g.B.Counting.left c.args.budget.now) (g.B.Counting.left c.likely_stored_at.new.budget) spends c.in-Ok.ensures.spent) c.if-third_place-own_stop.false c.in-Err-likely_stored_at.stop
    (datum_faults c.args.context.now c.stop_of-third_place.result c.in-Err-likely_stored_at.stop c.in-Err-likely_stored_at.ensures.answers) c.in-Err-likely_stored_at.ensures.spent

-- ---- a call of two stored values

-- the second argument stands where the first one stops, unless that is the last
second_there : (context : ContextModel) → OneName → (place : ℕ) (function : Function) → HasCall context.list place function → (own : ℕ) → IsStopOf context.list place own → PartStands context place
    → (second : ℕ) → IsStopOf context.list (place + 1) second → (first : Datum) → AnswersDatum context (place + 1) (Ok first) → ¬ (second ≡ own) → PartStands context second
second_there context names place function here own is_own part second is_second first answers further =
    argument_stands context names place function here own is_own second (first ∷ []) part (one_answered context names place function here own is_own part second is_second first answers) further

-- and these two are all where the second one stops with the call
two_are_all : (context : ContextModel) → OneName → (place : ℕ) (function : Function) → HasCall context.list place function → (own : ℕ) → IsStopOf context.list place own → PartStands context place
    → (second : ℕ) → IsStopOf context.list (place + 1) second → (first : Datum) → AnswersDatum context (place + 1) (Ok first)
    → ¬ (second ≡ own) → (third : ℕ) → IsStopOf context.list second third → third ≡ own → (next : Datum) → AnswersDatum context second (Ok next) → AllAnswered context (place + 1) own own (first ∷ next ∷ [])
two_are_all context names place function here own is_own part second is_second first answers further third is_third same next next_answers =
    subst (λ (k : ℕ). AllAnswered context (place + 1) k own (first ∷ next ∷ [])) same
    (two_answered context names place function here own is_own part second is_second first answers further third is_third next next_answers)

pub truth_walk::called_truth_at-stop_of-own_stop-requires : goal.truth_walk::called_truth_at-stop_of-own_stop-requires
truth_walk::called_truth_at-stop_of-own_stop-requires g t c = part_inside c.args.context.now c.args.place (typed_part c.args.context.now c.args.place IsBooleanOrNull c.requires.stands)

pub truth_walk::called_truth_at-walk_operand_at-requires : goal.truth_walk::called_truth_at-walk_operand_at-requires
truth_walk::called_truth_at-walk_operand_at-requires g t c = record { stands = tree_operand c.args.context.now (c.args.place + 1) (first_there c.args.context.now c.calls_have_one_type.ensures.named c.args.place c.args.function c.requires.here c.stop_of-own_stop.result c.stop_of-own_stop.ensures (typed_part c.args.context.now c.args.place IsBooleanOrNull c.requires.stands)) }

pub truth_walk::called_truth_at-stop_of-second_place-requires : goal.truth_walk::called_truth_at-stop_of-second_place-requires
truth_walk::called_truth_at-stop_of-second_place-requires g t c = part_inside c.args.context.now (c.args.place + 1) (first_there c.args.context.now c.calls_have_one_type.ensures.named c.args.place c.args.function c.requires.here c.stop_of-own_stop.result c.stop_of-own_stop.ensures (typed_part c.args.context.now c.args.place IsBooleanOrNull c.requires.stands))

pub truth_walk::called_truth_at-stop_of-requires : goal.truth_walk::called_truth_at-stop_of-requires
truth_walk::called_truth_at-stop_of-requires g t c =
    let first : AnswersDatum c.args.context.now (c.args.place + 1) (Ok c.datum_of-first.result) = kept_datum c.args.context.now (c.args.place + 1) c.in-Leaf.value.now c.datum_of-first.result c.in-Leaf.ensures.0 c.datum_of-first.ensures in
    part_inside c.args.context.now c.stop_of-second_place.result (second_there c.args.context.now c.calls_have_one_type.ensures.named c.args.place c.args.function c.requires.here c.stop_of-own_stop.result c.stop_of-own_stop.ensures (typed_part c.args.context.now c.args.place IsBooleanOrNull c.requires.stands) c.stop_of-second_place.result c.stop_of-second_place.ensures c.datum_of-first.result first c.if-second_place-own_stop.false)

pub truth_walk::called_truth_at-walk_operand_at-requires-2 : goal.truth_walk::called_truth_at-walk_operand_at-requires-2
truth_walk::called_truth_at-walk_operand_at-requires-2 g t c =
    let first : AnswersDatum c.args.context.now (c.args.place + 1) (Ok c.datum_of-first.result) = kept_datum c.args.context.now (c.args.place + 1) c.in-Leaf.value.now c.datum_of-first.result c.in-Leaf.ensures.0 c.datum_of-first.ensures in
    record { stands = tree_operand c.args.context.now c.stop_of-second_place.result (second_there c.args.context.now c.calls_have_one_type.ensures.named c.args.place c.args.function c.requires.here c.stop_of-own_stop.result c.stop_of-own_stop.ensures (typed_part c.args.context.now c.args.place IsBooleanOrNull c.requires.stands) c.stop_of-second_place.result c.stop_of-second_place.ensures c.datum_of-first.result first c.if-second_place-own_stop.false) }

pub truth_walk::called_truth_at-called_on_two-requires : goal.truth_walk::called_truth_at-called_on_two-requires
truth_walk::called_truth_at-called_on_two-requires g t c =
    let first : AnswersDatum c.args.context.now (c.args.place + 1) (Ok c.datum_of-first.result) = kept_datum c.args.context.now (c.args.place + 1) c.in-Leaf.value.now c.datum_of-first.result c.in-Leaf.ensures.0 c.datum_of-first.ensures in
    let next : AnswersDatum c.args.context.now c.stop_of-second_place.result (Ok c.datum_of-second.result) = kept_datum c.args.context.now c.stop_of-second_place.result c.in-Leaf-walk_operand_at.value.now c.datum_of-second.result c.in-Leaf-walk_operand_at.ensures.0 c.datum_of-second.ensures in
    let all = two_are_all c.args.context.now c.calls_have_one_type.ensures.named c.args.place c.args.function c.requires.here c.stop_of-own_stop.result c.stop_of-own_stop.ensures (typed_part c.args.context.now c.args.place IsBooleanOrNull c.requires.stands) c.stop_of-second_place.result c.stop_of-second_place.ensures c.datum_of-first.result first c.if-second_place-own_stop.false c.stop_of.result c.stop_of.ensures c.if-stop_of-own_stop.false c.datum_of-second.result next in
    call_applies c.args.context.now c.calls_have_one_type.ensures.named c.args.place c.args.function c.requires.here c.stop_of-own_stop.result c.stop_of-own_stop.ensures c.ends_once.ensures (c.datum_of-first.result ∷ c.datum_of-second.result ∷ []) all (typed_part c.args.context.now c.args.place IsBooleanOrNull c.requires.stands)

pub truth_walk::called_truth_at-truth_of-requires : goal.truth_walk::called_truth_at-truth_of-requires
truth_walk::called_truth_at-truth_of-requires g t c =
    let first : AnswersDatum c.args.context.now (c.args.place + 1) (Ok c.datum_of-first.result) = kept_datum c.args.context.now (c.args.place + 1) c.in-Leaf.value.now c.datum_of-first.result c.in-Leaf.ensures.0 c.datum_of-first.ensures in
    let next : AnswersDatum c.args.context.now c.stop_of-second_place.result (Ok c.datum_of-second.result) = kept_datum c.args.context.now c.stop_of-second_place.result c.in-Leaf-walk_operand_at.value.now c.datum_of-second.result c.in-Leaf-walk_operand_at.ensures.0 c.datum_of-second.ensures in
    let all = two_are_all c.args.context.now c.calls_have_one_type.ensures.named c.args.place c.args.function c.requires.here c.stop_of-own_stop.result c.stop_of-own_stop.ensures (typed_part c.args.context.now c.args.place IsBooleanOrNull c.requires.stands) c.stop_of-second_place.result c.stop_of-second_place.ensures c.datum_of-first.result first c.if-second_place-own_stop.false c.stop_of.result c.stop_of.ensures c.if-stop_of-own_stop.false c.datum_of-second.result next in
    let given : AnswersDatum c.args.context.now c.args.place c.called_on_two.result = call_answers c.args.context.now c.calls_have_one_type.ensures.named c.args.place c.args.function c.requires.here c.stop_of-own_stop.result c.stop_of-own_stop.ensures c.ends_once.ensures (c.datum_of-first.result ∷ c.datum_of-second.result ∷ []) all c.called_on_two.result (λ r s. c.called_on_two.ensures c.args.context.now.moment r s) in
    let made : AnswersDatum c.args.context.now c.args.place (Ok c.in-Ok.value) = subst (λ (r : Result Datum EvalFault). AnswersDatum c.args.context.now c.args.place r) c.in-Ok.is given in
    λ reading. value_there c.args.context.now c.args.place truth_values c.ends_once.ensures c.in-Ok.value c.requires.stands made reading

pub truth_walk::called_truth_at-returns-in-Ok-clause-answers : goal.truth_walk::called_truth_at-returns-in-Ok-clause-answers
truth_walk::called_truth_at-returns-in-Ok-clause-answers g t c =
    let first : AnswersDatum c.args.context.now (c.args.place + 1) (Ok c.datum_of-first.result) = kept_datum c.args.context.now (c.args.place + 1) c.in-Leaf.value.now c.datum_of-first.result c.in-Leaf.ensures.0 c.datum_of-first.ensures in
    let next : AnswersDatum c.args.context.now c.stop_of-second_place.result (Ok c.datum_of-second.result) = kept_datum c.args.context.now c.stop_of-second_place.result c.in-Leaf-walk_operand_at.value.now c.datum_of-second.result c.in-Leaf-walk_operand_at.ensures.0 c.datum_of-second.ensures in
    let all = two_are_all c.args.context.now c.calls_have_one_type.ensures.named c.args.place c.args.function c.requires.here c.stop_of-own_stop.result c.stop_of-own_stop.ensures (typed_part c.args.context.now c.args.place IsBooleanOrNull c.requires.stands) c.stop_of-second_place.result c.stop_of-second_place.ensures c.datum_of-first.result first c.if-second_place-own_stop.false c.stop_of.result c.stop_of.ensures c.if-stop_of-own_stop.false c.datum_of-second.result next in
    let given : AnswersDatum c.args.context.now c.args.place c.called_on_two.result = call_answers c.args.context.now c.calls_have_one_type.ensures.named c.args.place c.args.function c.requires.here c.stop_of-own_stop.result c.stop_of-own_stop.ensures c.ends_once.ensures (c.datum_of-first.result ∷ c.datum_of-second.result ∷ []) all c.called_on_two.result (λ r s. c.called_on_two.ensures c.args.context.now.moment r s) in
    let made : AnswersDatum c.args.context.now c.args.place (Ok c.in-Ok.value) = subst (λ (r : Result Datum EvalFault). AnswersDatum c.args.context.now c.args.place r) c.in-Ok.is given in
    read_value c.args.context.now c.args.place c.in-Ok.value (truth_val c.truth_of.result) made c.truth_of.ensures

pub truth_walk::called_truth_at-returns-in-Err-clause-answers : goal.truth_walk::called_truth_at-returns-in-Err-clause-answers
truth_walk::called_truth_at-returns-in-Err-clause-answers g t c =
    let first : AnswersDatum c.args.context.now (c.args.place + 1) (Ok c.datum_of-first.result) = kept_datum c.args.context.now (c.args.place + 1) c.in-Leaf.value.now c.datum_of-first.result c.in-Leaf.ensures.0 c.datum_of-first.ensures in
    let next : AnswersDatum c.args.context.now c.stop_of-second_place.result (Ok c.datum_of-second.result) = kept_datum c.args.context.now c.stop_of-second_place.result c.in-Leaf-walk_operand_at.value.now c.datum_of-second.result c.in-Leaf-walk_operand_at.ensures.0 c.datum_of-second.ensures in
    let all = two_are_all c.args.context.now c.calls_have_one_type.ensures.named c.args.place c.args.function c.requires.here c.stop_of-own_stop.result c.stop_of-own_stop.ensures (typed_part c.args.context.now c.args.place IsBooleanOrNull c.requires.stands) c.stop_of-second_place.result c.stop_of-second_place.ensures c.datum_of-first.result first c.if-second_place-own_stop.false c.stop_of.result c.stop_of.ensures c.if-stop_of-own_stop.false c.datum_of-second.result next in
    let given : AnswersDatum c.args.context.now c.args.place c.called_on_two.result = call_answers c.args.context.now c.calls_have_one_type.ensures.named c.args.place c.args.function c.requires.here c.stop_of-own_stop.result c.stop_of-own_stop.ensures c.ends_once.ensures (c.datum_of-first.result ∷ c.datum_of-second.result ∷ []) all c.called_on_two.result (λ r s. c.called_on_two.ensures c.args.context.now.moment r s) in
    subst (λ (r : Result Datum EvalFault). AnswersDatum c.args.context.now c.args.place r) c.in-Err.is given

-- ---- a collection: `$count`, `any()`, `in`; and `has`

pub datum_walk::made_at-count_of-requires : goal.datum_walk::made_at-count_of-requires
datum_walk::made_at-count_of-requires g t c =
    let first : AnswersDatum c.args.context.now (c.args.place + 1) (Ok c.in-Ok.first) = subst (λ (r : Result Datum EvalStop). CountedDatum c.args.context.now (c.args.place + 1) r) c.in-Ok.is c.requires.first in
    let here : HasKind c.args.context.now.list c.args.place NodeKind.Count = there_found (λ (f : CheckedNode). f.kind ≡ NodeKind.Count) (slice_get c.args.context.now.list.nodes c.args.place) c.node.result.now c.node.ensures c.in-Count.is in
    base_members c.args.context.now c.args.place CountGives (count_base c.args.context.now c.args.place here) c.in-Ok.first first c.ends_once.ensures c.requires.stands

pub datum_walk::made_at-returns-in-Count-clause-answers : goal.datum_walk::made_at-returns-in-Count-clause-answers
datum_walk::made_at-returns-in-Count-clause-answers g t c =
    let first : AnswersDatum c.args.context.now (c.args.place + 1) (Ok c.in-Ok.first) = subst (λ (r : Result Datum EvalStop). CountedDatum c.args.context.now (c.args.place + 1) r) c.in-Ok.is c.requires.first in
    let here : HasKind c.args.context.now.list c.args.place NodeKind.Count = there_found (λ (f : CheckedNode). f.kind ≡ NodeKind.Count) (slice_get c.args.context.now.list.nodes c.args.place) c.node.result.now c.node.ensures c.in-Count.is in
    as_counted c.args.context.now c.args.place c.count_of.result c.as_stop.result c.as_stop.ensures (base_answers c.args.context.now c.args.place CountGives (count_base c.args.context.now c.args.place here) c.in-Ok.first first c.count_of.result c.count_of.ensures)

pub datum_walk::made_at-any_item_of-requires : goal.datum_walk::made_at-any_item_of-requires
datum_walk::made_at-any_item_of-requires g t c =
    let first : AnswersDatum c.args.context.now (c.args.place + 1) (Ok c.in-Ok.first) = subst (λ (r : Result Datum EvalStop). CountedDatum c.args.context.now (c.args.place + 1) r) c.in-Ok.is c.requires.first in
    let here : HasKind c.args.context.now.list c.args.place NodeKind.AnyItem = there_found (λ (f : CheckedNode). f.kind ≡ NodeKind.AnyItem) (slice_get c.args.context.now.list.nodes c.args.place) c.node.result.now c.node.ensures c.in-AnyItem.is in
    base_members c.args.context.now c.args.place AnyItemGives (any_item_base c.args.context.now c.args.place here) c.in-Ok.first first c.ends_once.ensures c.requires.stands

pub datum_walk::made_at-returns-in-AnyItem-clause-answers : goal.datum_walk::made_at-returns-in-AnyItem-clause-answers
datum_walk::made_at-returns-in-AnyItem-clause-answers g t c =
    let first : AnswersDatum c.args.context.now (c.args.place + 1) (Ok c.in-Ok.first) = subst (λ (r : Result Datum EvalStop). CountedDatum c.args.context.now (c.args.place + 1) r) c.in-Ok.is c.requires.first in
    let here : HasKind c.args.context.now.list c.args.place NodeKind.AnyItem = there_found (λ (f : CheckedNode). f.kind ≡ NodeKind.AnyItem) (slice_get c.args.context.now.list.nodes c.args.place) c.node.result.now c.node.ensures c.in-AnyItem.is in
    base_answers c.args.context.now c.args.place AnyItemGives (any_item_base c.args.context.now c.args.place here) c.in-Ok.first first (Ok c.any_item_of.result) c.any_item_of.ensures

pub datum_walk::made_at-flags_at-requires : goal.datum_walk::made_at-flags_at-requires
datum_walk::made_at-flags_at-requires g t c =
    let first : AnswersDatum c.args.context.now (c.args.place + 1) (Ok c.in-Ok.first) = subst (λ (r : Result Datum EvalStop). CountedDatum c.args.context.now (c.args.place + 1) r) c.in-Ok.is c.requires.first in
    let here : HasKind c.args.context.now.list c.args.place NodeKind.Has = there_found (λ (f : CheckedNode). f.kind ≡ NodeKind.Has) (slice_get c.args.context.now.list.nodes c.args.place) c.node.result.now c.node.ensures c.in-Has.is in
    let smaller : measure_at c.args.context.now.list.nodes c.args.place rank_rest < measure_at c.args.context.now.list.nodes c.args.place rank_step = omega arith in
    search rules

pub datum_walk::made_at-among_at-requires : goal.datum_walk::made_at-among_at-requires
datum_walk::made_at-among_at-requires g t c =
    let first : AnswersDatum c.args.context.now (c.args.place + 1) (Ok c.in-Ok.first) = subst (λ (r : Result Datum EvalStop). CountedDatum c.args.context.now (c.args.place + 1) r) c.in-Ok.is c.requires.first in
    let here : HasKind c.args.context.now.list c.args.place NodeKind.InPath = there_found (λ (f : CheckedNode). f.kind ≡ NodeKind.InPath) (slice_get c.args.context.now.list.nodes c.args.place) c.node.result.now c.node.ensures c.in-InPath.is in
    let smaller : measure_at c.args.context.now.list.nodes c.args.place rank_rest < measure_at c.args.context.now.list.nodes c.args.place rank_step = omega arith in
    search rules

pub datum_walk::made_at-listed_at-requires : goal.datum_walk::made_at-listed_at-requires
datum_walk::made_at-listed_at-requires g t c =
    let first : AnswersDatum c.args.context.now (c.args.place + 1) (Ok c.in-Ok.first) = subst (λ (r : Result Datum EvalStop). CountedDatum c.args.context.now (c.args.place + 1) r) c.in-Ok.is c.requires.first in
    let here : HasKind c.args.context.now.list c.args.place NodeKind.InList = there_found (λ (f : CheckedNode). f.kind ≡ NodeKind.InList) (slice_get c.args.context.now.list.nodes c.args.place) c.node.result.now c.node.ensures c.in-InList.is in
    let smaller : measure_at c.args.context.now.list.nodes c.args.place rank_rest < measure_at c.args.context.now.list.nodes c.args.place rank_step = omega arith in
    search rules

pub collection_walk::flags_at-right_of-requires : goal.collection_walk::flags_at-right_of-requires
collection_walk::flags_at-right_of-requires g t c = next_there c.args.context.now c.args.place (TypedHere c.args.context.now) AreFlags HasGives (flags_sides c.args.context.now c.args.place c.requires.here) c.requires.stands

pub collection_walk::flags_at-likely_stored_at-requires : goal.collection_walk::flags_at-likely_stored_at-requires
collection_walk::flags_at-likely_stored_at-requires g t c =
    let inside : c.args.place < length c.args.context.now.list.nodes = part_inside c.args.context.now c.args.place c.requires.stands in
    let behind : c.args.place < c.right_of.result = next_further c.args.context.now c.args.place (TypedHere c.args.context.now) AreFlags HasGives (flags_sides c.args.context.now c.args.place c.requires.here) c.right_of.result c.right_of.ensures c.requires.stands in
    let smaller : measure_at c.args.context.now.list.nodes c.right_of.result rank_operand < measure_at c.args.context.now.list.nodes c.args.place rank_rest = omega arith in
    let stands : OperandStands c.args.context.now c.right_of.result = next_part c.args.context.now c.args.place (TypedHere c.args.context.now) AreFlags HasGives (flags_sides c.args.context.now c.args.place c.requires.here) c.right_of.result c.right_of.ensures c.requires.stands in
    search rules

pub collection_walk::flags_at-flags_of-requires : goal.collection_walk::flags_at-flags_of-requires
collection_walk::flags_at-flags_of-requires g t c =
    let there = some_sides c.args.context.now c.args.place (TypedHere c.args.context.now) AreFlags HasGives (flags_sides c.args.context.now c.args.place c.requires.here) c.right_of.result c.right_of.ensures c.args.left.now c.requires.left c.in-Ok.right c.in-Ok.ensures.answers c.ends_once.ensures c.requires.stands in
    let are = flags_are (slots_of c.args.context.now.row.schema) there.0 there.1 c.args.left.now c.in-Ok.right there.2.0 there.2.1 there.2.2 in
    record { left = are.0; right = are.1 }

pub collection_walk::flags_at-returns-in-Ok-clause-answers : goal.collection_walk::flags_at-returns-in-Ok-clause-answers
collection_walk::flags_at-returns-in-Ok-clause-answers g t c =
    let slots = slots_of c.args.context.now.row.schema in
    sides_answer c.args.context.now c.args.place (TypedHere c.args.context.now) AreFlags HasGives (flags_sides c.args.context.now c.args.place c.requires.here) c.right_of.result c.right_of.ensures c.args.left.now c.requires.left c.in-Ok.right c.in-Ok.ensures.answers c.ends_once.ensures c.flags_of.result
    (λ s t type are of_left of_right. c.flags_of.ensures (reading_at slots s) (reading_at slots t) (reading_at slots type))

pub collection_walk::flags_at-returns-in-Err-clause-answers : goal.collection_walk::flags_at-returns-in-Err-clause-answers
collection_walk::flags_at-returns-in-Err-clause-answers g t c =
    by_stop (λ s. CountedDatum c.args.context.now c.right_of.result (Err s)) (λ s. CountedDatum c.args.context.now c.args.place (Err s))
    (λ fault. next_faults c.args.context.now c.args.place (TypedHere c.args.context.now) AreFlags HasGives (flags_sides c.args.context.now c.args.place c.requires.here) c.right_of.result c.right_of.ensures c.args.left.now c.requires.left fault)
    (λ is. tt) c.in-Err.stop c.in-Err.ensures.answers

pub collection_walk::flags_at-returns-in-Err-clause-spent : goal.collection_walk::flags_at-returns-in-Err-clause-spent
collection_walk::flags_at-returns-in-Err-clause-spent g t c =
    flags_spend c.args.context.now c.args.place c.requires.here c.ends_once.ensures c.args.left.now c.requires.left c.right_of.result c.right_of.ensures (g.B.Counting.left c.args.budget.now) (g.B.Counting.left c.likely_stored_at.new.budget) (Some c.in-Err.stop) c.in-Err.ensures.spent

pub collection_walk::flags_at-returns-in-Ok-clause-spent : goal.collection_walk::flags_at-returns-in-Ok-clause-spent
collection_walk::flags_at-returns-in-Ok-clause-spent g t c =
    flags_spend c.args.context.now c.args.place c.requires.here c.ends_once.ensures c.args.left.now c.requires.left c.right_of.result c.right_of.ensures (g.B.Counting.left c.args.budget.now) (g.B.Counting.left c.likely_stored_at.new.budget) None c.in-Ok.ensures.spent

pub collection_walk::among_at-right_of-requires : goal.collection_walk::among_at-right_of-requires
collection_walk::among_at-right_of-requires g t c = next_there c.args.context.now c.args.place NoOperand IsComparableWithMembers InGives (path_sides c.args.context.now c.args.place c.requires.here) c.requires.stands

pub collection_walk::among_at-likely_stored_at-requires : goal.collection_walk::among_at-likely_stored_at-requires
collection_walk::among_at-likely_stored_at-requires g t c =
    let inside : c.args.place < length c.args.context.now.list.nodes = part_inside c.args.context.now c.args.place c.requires.stands in
    let behind : c.args.place < c.right_of.result = next_further c.args.context.now c.args.place NoOperand IsComparableWithMembers InGives (path_sides c.args.context.now c.args.place c.requires.here) c.right_of.result c.right_of.ensures c.requires.stands in
    let smaller : measure_at c.args.context.now.list.nodes c.right_of.result rank_operand < measure_at c.args.context.now.list.nodes c.args.place rank_rest = omega arith in
    let stands : OperandStands c.args.context.now c.right_of.result = next_part c.args.context.now c.args.place NoOperand IsComparableWithMembers InGives (path_sides c.args.context.now c.args.place c.requires.here) c.right_of.result c.right_of.ensures c.requires.stands in
    search rules

pub collection_walk::among_at-among-found-requires : goal.collection_walk::among_at-among-found-requires
collection_walk::among_at-among-found-requires g t c =
    let slots = slots_of c.args.context.now.row.schema in
    let there = some_sides c.args.context.now c.args.place NoOperand IsComparableWithMembers InGives (path_sides c.args.context.now c.args.place c.requires.here) c.right_of.result c.right_of.ensures c.args.left.now c.requires.left c.in-Ok.path c.in-Ok.ensures.answers c.ends_once.ensures c.requires.stands in
    some_compared slots there.0 there.1 c.args.left.now c.in-Ok.path there.2.0 there.2.1 there.2.2

pub collection_walk::among_at-returns-else-not-take_compared-clause-answers : goal.collection_walk::among_at-returns-else-not-take_compared-clause-answers
collection_walk::among_at-returns-else-not-take_compared-clause-answers g t c =
    let slots = slots_of c.args.context.now.row.schema in
    sides_answer c.args.context.now c.args.place NoOperand IsComparableWithMembers InGives (path_sides c.args.context.now c.args.place c.requires.here) c.right_of.result c.right_of.ensures c.args.left.now c.requires.left c.in-Ok.path c.in-Ok.ensures.answers c.ends_once.ensures c.datum_of_truth.result
    (λ s t type alike of_left of_path. path_gives slots s t c.args.left.now c.in-Ok.path (gives (datum_val (reading_at slots type) c.datum_of_truth.result)) alike of_left of_path
    (λ member may.
    subst (λ (v : Val). InGives (datum_val (reading_at slots s) c.args.left.now) (datum_val (reading_at slots (collection member)) c.in-Ok.path) (gives v)) (sym (c.datum_of_truth.ensures (reading_at slots type)))
    (c.among-found.ensures.truth slots s member may)))

pub collection_walk::among_at-returns-else-not-take_compared-clause-spent : goal.collection_walk::among_at-returns-else-not-take_compared-clause-spent
collection_walk::among_at-returns-else-not-take_compared-clause-spent g t c =
    path_spends c.args.context.now c.args.place c.requires.here c.ends_once.ensures c.right_of.result c.right_of.ensures c.args.left.now c.requires.left c.in-Ok.path c.in-Ok.ensures.answers c.among-found.result.compared c.among-found.ensures.compared (g.B.Counting.left c.args.budget.now) (g.B.Counting.left c.likely_stored_at.new.budget) (g.B.Counting.left c.take_compared.new.budget) None c.in-Ok.ensures.spent
    (subst (λ (b : Bool). IsTaken b (g.B.Counting.left c.likely_stored_at.new.budget) (g.B.Counting.left c.take_compared.new.budget) (path_due (item_cost (environment_of c.args.context.now)) c.args.left.now c.in-Ok.path c.among-found.result.compared)) c.if-not-take_compared.false c.take_compared.ensures)

pub collection_walk::among_at-returns-then-not-take_compared-clause-spent : goal.collection_walk::among_at-returns-then-not-take_compared-clause-spent
collection_walk::among_at-returns-then-not-take_compared-clause-spent g t c =
    path_spends c.args.context.now c.args.place c.requires.here c.ends_once.ensures c.right_of.result c.right_of.ensures c.args.left.now c.requires.left c.in-Ok.path c.in-Ok.ensures.answers c.among-found.result.compared c.among-found.ensures.compared (g.B.Counting.left c.args.budget.now) (g.B.Counting.left c.likely_stored_at.new.budget) (g.B.Counting.left c.take_compared.new.budget) (Some EvalStop.TooCostly) c.in-Ok.ensures.spent
    (subst (λ (b : Bool). IsTaken b (g.B.Counting.left c.likely_stored_at.new.budget) (g.B.Counting.left c.take_compared.new.budget) (path_due (item_cost (environment_of c.args.context.now)) c.args.left.now c.in-Ok.path c.among-found.result.compared)) c.if-not-take_compared.true c.take_compared.ensures)

pub collection_walk::among_at-returns-in-Err-clause-answers : goal.collection_walk::among_at-returns-in-Err-clause-answers
collection_walk::among_at-returns-in-Err-clause-answers g t c =
    by_stop (λ s. CountedDatum c.args.context.now c.right_of.result (Err s)) (λ s. CountedDatum c.args.context.now c.args.place (Err s))
    (λ fault. next_faults c.args.context.now c.args.place NoOperand IsComparableWithMembers InGives (path_sides c.args.context.now c.args.place c.requires.here) c.right_of.result c.right_of.ensures c.args.left.now c.requires.left fault)
    (λ is. tt) c.in-Err.stop c.in-Err.ensures.answers

pub collection_walk::among_at-returns-in-Err-clause-spent : goal.collection_walk::among_at-returns-in-Err-clause-spent
collection_walk::among_at-returns-in-Err-clause-spent g t c =
    path_stops c.args.context.now c.args.place c.requires.here c.ends_once.ensures c.right_of.result c.right_of.ensures c.args.left.now c.requires.left c.in-Err.stop (datum_faults c.args.context.now c.right_of.result c.in-Err.stop c.in-Err.ensures.answers) (g.B.Counting.left c.args.budget.now) (g.B.Counting.left c.likely_stored_at.new.budget) c.in-Err.ensures.spent

pub collection_walk::listed_at-stop_of-own_stop-requires : goal.collection_walk::listed_at-stop_of-own_stop-requires
collection_walk::listed_at-stop_of-own_stop-requires g t c = part_inside c.args.context.now c.args.place c.requires.stands

pub collection_walk::listed_at-right_of-at-requires : goal.collection_walk::listed_at-right_of-at-requires
collection_walk::listed_at-right_of-at-requires g t c = items_there c.args.context.now c.args.place (lists_there c.args.context.now c.args.place c.requires.here) c.requires.stands

pub collection_walk::listed_at-loop-at-init : goal.collection_walk::listed_at-loop-at-init
collection_walk::listed_at-loop-at-init g t c =
    list_begins c.args.context.now c.args.place (lists_there c.args.context.now c.args.place c.requires.here) c.stop_of-own_stop.result c.stop_of-own_stop.ensures c.right_of-at.result c.right_of-at.ensures c.args.left.now c.requires.left c.ends_once.ensures c.requires.stands
    (Takes (g.B.Counting.left c.args.budget.now) (g.B.Counting.left c.args.budget.now)) (takes_nothing (g.B.Counting.left c.args.budget.now))

pub collection_walk::listed_at-likely_stored_at-requires : goal.collection_walk::listed_at-likely_stored_at-requires
collection_walk::listed_at-likely_stored_at-requires g t c =
    let inside : c.args.place < length c.args.context.now.list.nodes = part_inside c.args.context.now c.args.place c.requires.stands in
    let behind : c.args.place < c.loop-at.at = c.loop-at.invariant.behind in
    let smaller : measure_at c.args.context.now.list.nodes c.loop-at.at rank_operand < measure_at c.args.context.now.list.nodes c.args.place rank_rest = omega arith in
    let stands : OperandStands c.args.context.now c.loop-at.at = next_item c.args.context.now c.args.place c.stop_of-own_stop.result c.loop-at.at (Takes (g.B.Counting.left c.args.budget.now) (g.B.Counting.left c.loop-at.budget)) c.args.left.now c.loop-at.invariant c.requires.stands c.loop-at-test.true in
    search rules

pub collection_walk::listed_at-compare-requires : goal.collection_walk::listed_at-compare-requires
collection_walk::listed_at-compare-requires g t c = may_compare_item c.args.context.now c.args.place c.stop_of-own_stop.result c.loop-at.at (Takes (g.B.Counting.left c.args.budget.now) (g.B.Counting.left c.loop-at.budget)) c.args.left.now c.loop-at.invariant c.trees_have_one_type.ensures c.in-Ok.item c.in-Ok.ensures.answers c.loop-at-test.true c.ends_once.ensures c.comparisons_are_decided.ensures.any_reading c.requires.stands

pub collection_walk::listed_at-returns-then-compare-clause-answers : goal.collection_walk::listed_at-returns-then-compare-clause-answers
collection_walk::listed_at-returns-then-compare-clause-answers g t c = item_equals c.args.context.now c.args.place c.stop_of-own_stop.result c.loop-at.at (Takes (g.B.Counting.left c.args.budget.now) (g.B.Counting.left c.loop-at.budget)) c.args.left.now c.loop-at.invariant c.trees_have_one_type.ensures c.in-Ok.item c.in-Ok.ensures.answers c.loop-at-test.true c.ends_once.ensures c.compare.result c.compare.ensures c.if-compare.true

pub collection_walk::listed_at-returns-in-Err-clause-answers : goal.collection_walk::listed_at-returns-in-Err-clause-answers
collection_walk::listed_at-returns-in-Err-clause-answers g t c =
    by_stop (λ s. CountedDatum c.args.context.now c.loop-at.at (Err s)) (λ s. CountedDatum c.args.context.now c.args.place (Err s))
    (λ fault is. item_faults c.args.context.now c.args.place c.stop_of-own_stop.result c.loop-at.at (Takes (g.B.Counting.left c.args.budget.now) (g.B.Counting.left c.loop-at.budget)) c.args.left.now c.loop-at.invariant c.loop-at-test.true fault is)
    (λ is. tt) c.in-Err.stop c.in-Err.ensures.answers

pub collection_walk::listed_at-stop_of-at-requires : goal.collection_walk::listed_at-stop_of-at-requires
collection_walk::listed_at-stop_of-at-requires g t c = operand_inside c.args.context.now c.loop-at.at (next_item c.args.context.now c.args.place c.stop_of-own_stop.result c.loop-at.at (Takes (g.B.Counting.left c.args.budget.now) (g.B.Counting.left c.loop-at.budget)) c.args.left.now c.loop-at.invariant c.requires.stands c.loop-at-test.true)

pub collection_walk::listed_at-loop-at-preserved : goal.collection_walk::listed_at-loop-at-preserved
collection_walk::listed_at-loop-at-preserved g t c =
    item_differs c.args.context.now c.args.place c.stop_of-own_stop.result c.loop-at.at (Takes (g.B.Counting.left c.args.budget.now) (g.B.Counting.left c.loop-at.budget)) c.args.left.now c.loop-at.invariant c.trees_have_one_type.ensures c.in-Ok.item c.in-Ok.ensures.answers c.loop-at-test.true c.ends_once.ensures c.compare.result c.compare.ensures c.if-compare.false c.requires.stands c.stop_of-at.result c.stop_of-at.ensures c.comparison_cost.result c.comparison_cost.ensures
    (Takes (g.B.Counting.left c.args.budget.now) (g.B.Counting.left c.take.new.self)) (item_pays c.args.context.now c.args.place c.stop_of-own_stop.result c.loop-at.at c.args.left.now (g.B.Counting.left c.args.budget.now) (g.B.Counting.left c.loop-at.budget) c.loop-at.invariant (g.B.Counting.left c.take_item.new.budget) (g.B.Counting.left c.likely_stored_at.new.budget) (subst (λ (b : Bool). IsTaken b (g.B.Counting.left c.loop-at.budget) (g.B.Counting.left c.take_item.new.budget) (item_cost (environment_of c.args.context.now))) c.if-not-take_item.false c.take_item.ensures) (g.B.Counting.left c.take.new.self) c.comparison_cost.result (subst (λ (b : Bool). IsTaken b (g.B.Counting.left c.likely_stored_at.new.budget) (g.B.Counting.left c.take.new.self) c.comparison_cost.result) c.if-not-take.false c.take.ensures) c.in-Ok.ensures.spent)

pub collection_walk::listed_at-loop-at-smaller : goal.collection_walk::listed_at-loop-at-smaller
collection_walk::listed_at-loop-at-smaller g t c =
    let later : c.loop-at.at < c.stop_of-at.result = stop_further c.args.context.now c.loop-at.at c.stop_of-at.result (next_item c.args.context.now c.args.place c.stop_of-own_stop.result c.loop-at.at (Takes (g.B.Counting.left c.args.budget.now) (g.B.Counting.left c.loop-at.budget)) c.args.left.now c.loop-at.invariant c.requires.stands c.loop-at-test.true) c.stop_of-at.ensures in
    let within : c.loop-at.at ≤ c.stop_of-own_stop.result = c.loop-at.invariant.within in
    let remains = c.loop-at-test.true in
    omega (arith, remains)

pub collection_walk::listed_at-returns-clause-answers : goal.collection_walk::listed_at-returns-clause-answers
collection_walk::listed_at-returns-clause-answers g t c = no_item c.args.context.now c.args.place c.stop_of-own_stop.result c.loop-at.at (Takes (g.B.Counting.left c.args.budget.now) (g.B.Counting.left c.loop-at.budget)) c.args.left.now c.loop-at.invariant c.loop-at-test.false

-- ---- a lambda operator

pub datum_walk::made_at-lambda_at-requires : goal.datum_walk::made_at-lambda_at-requires
datum_walk::made_at-lambda_at-requires g t c =
    let first : AnswersDatum c.args.context.now (c.args.place + 1) (Ok c.in-Ok.first) = subst (λ (r : Result Datum EvalStop). CountedDatum c.args.context.now (c.args.place + 1) r) c.in-Ok.is c.requires.first in
    let here : HasKind c.args.context.now.list c.args.place (NodeKind.Lambda c.in-Lambda.quantifier) = there_found (λ (f : CheckedNode). f.kind ≡ NodeKind.Lambda c.in-Lambda.quantifier) (slice_get c.args.context.now.list.nodes c.args.place) c.node.result.now c.node.ensures c.in-Lambda.is in
    let smaller : measure_at c.args.context.now.list.nodes c.args.place rank_rest < measure_at c.args.context.now.list.nodes c.args.place rank_step = omega arith in
    search rules

pub lambda_walk::lambda_at-returns-in_default-clause-answers : goal.lambda_walk::lambda_at-returns-in_default-clause-answers
lambda_walk::lambda_at-returns-in_default-clause-answers g t c = null_answers c.trees_have_one_type.ensures c.args.context.now c.args.place c.args.quantifier c.requires.here c.ends_once.ensures c.args.base c.requires.first c.in_default.not-List

pub lambda_walk::lambda_at-variable_bound-variable-requires : goal.lambda_walk::lambda_at-variable_bound-variable-requires
lambda_walk::lambda_at-variable_bound-variable-requires g t c = over_members c.trees_have_one_type.ensures c.args.context.now c.args.place c.args.quantifier c.requires.here c.requires.stands

pub lambda_walk::lambda_at-right_of-requires : goal.lambda_walk::lambda_at-right_of-requires
lambda_walk::lambda_at-right_of-requires g t c = body_place c.trees_have_one_type.ensures c.args.context.now c.args.place c.args.quantifier c.requires.here c.requires.stands

pub lambda_walk::lambda_at-members_at-requires : goal.lambda_walk::lambda_at-members_at-requires
lambda_walk::lambda_at-members_at-requires g t c =
    let inside : c.args.place < length c.args.context.now.list.nodes = part_inside c.args.context.now c.args.place c.requires.stands in
    let behind : c.args.place < c.right_of.result = body_behind c.trees_have_one_type.ensures c.args.context.now c.args.place c.args.quantifier c.requires.here c.right_of.result c.right_of.ensures c.requires.stands in
    let smaller : measure_at c.args.context.now.list.nodes c.right_of.result rank_operand < measure_at c.args.context.now.list.nodes c.args.place rank_rest = omega arith in
    let body = body_there c.trees_have_one_type.ensures c.args.context.now c.args.place c.args.quantifier c.requires.here c.variable_bound-variable.result c.variable_bound-variable.ensures c.right_of.result c.right_of.ensures c.requires.stands in
    let suit = members_suit c.trees_have_one_type.ensures c.args.context.now c.args.place c.args.quantifier c.requires.here c.variable_bound-variable.result c.variable_bound-variable.ensures c.right_of.result c.right_of.ensures c.ends_once.ensures c.in-List.members (subst (λ (d : Datum). AnswersDatum c.args.context.now (c.args.place + 1) (Ok d)) c.in-List.is c.requires.first) c.requires.stands in
    search rules

pub lambda_walk::lambda_at-returns-in-Ok-clause-answers : goal.lambda_walk::lambda_at-returns-in-Ok-clause-answers
lambda_walk::lambda_at-returns-in-Ok-clause-answers g t c =
    made_value c.args.context.now c.args.place c.datum_of_truth.result (truth_val c.in-Ok.truth) (truth_answers c.trees_have_one_type.ensures c.args.context.now c.args.place c.args.quantifier c.requires.here c.variable_bound-variable.result c.variable_bound-variable.ensures c.right_of.result c.right_of.ensures c.in-List.members (subst (λ (d : Datum). AnswersDatum c.args.context.now (c.args.place + 1) (Ok d)) c.in-List.is c.requires.first) c.in-Ok.truth c.in-Ok.ensures.answers) c.datum_of_truth.ensures

pub lambda_walk::lambda_at-returns-in-Err-clause-answers : goal.lambda_walk::lambda_at-returns-in-Err-clause-answers
lambda_walk::lambda_at-returns-in-Err-clause-answers g t c =
    by_stop (λ s. CountedMembers c.args.context.now c.right_of.result c.args.quantifier c.variable_bound-variable.result c.in-List.members.now (Err s)) (λ s. CountedDatum c.args.context.now c.args.place (Err s))
    (λ fault. fault_answers c.trees_have_one_type.ensures c.args.context.now c.args.place c.args.quantifier c.requires.here c.variable_bound-variable.result c.variable_bound-variable.ensures c.right_of.result c.right_of.ensures c.in-List.members (subst (λ (d : Datum). AnswersDatum c.args.context.now (c.args.place + 1) (Ok d)) c.in-List.is c.requires.first) fault)
    (λ is. tt) c.in-Err.stop c.in-Err.ensures.answers

pub lambda_walk::members_at-loop-at-init : goal.lambda_walk::members_at-loop-at-init
lambda_walk::members_at-loop-at-init g t c = record {
  left = none_yet c.args.context.now c.args.body.place c.args.body.quantifier c.args.variable.now c.args.members.now;
  paid = none_paid c.args.context.now c.args.body.place c.args.body.quantifier c.args.variable.now c.args.members.now (g.B.Counting.left c.args.budget.now);
  beside = record {
    row_is = ap (λ (s : ContextModel). s.row) c.copy-bound.ensures;
    moment_is = ap (λ (s : ContextModel). s.moment) c.copy-bound.ensures;
    list_is = ap (λ (s : ContextModel). s.list) c.copy-bound.ensures;
  };
}

pub lambda_walk::members_at-bind-requires : goal.lambda_walk::members_at-bind-requires
lambda_walk::members_at-bind-requires g t c = record {
  beside = c.loop-at.invariant.beside;
  suits = each_is (Suits c.args.context.now c.args.variable.now) c.args.members.now c.loop-at.at c.index-members-at.result c.requires.suit
      (slice_get_read c.args.members.now (length c.args.members.now) c.loop-at.at c.index-members-at.result refl c.loop-at-test.true c.index-members-at.is);
}

pub lambda_walk::members_at-side_at-requires : goal.lambda_walk::members_at-side_at-requires
lambda_walk::members_at-side_at-requires g t c =
    let bound = c.bind.new.self in
    let same : bound ≡ with_frame c.args.context.now (frame_of c.args.variable.now c.index-members-at.result) = c.bind.ensures in
    let stands : TruthStands bound c.args.body.place = subst (λ (s : ContextModel). TruthStands s c.args.body.place) (sym same) (body_truth c.args.context.now c.args.variable.now c.args.body.place c.index-members-at.result c.requires.body) in
    let smaller : measure_at bound.list.nodes c.args.body.place rank_counted < measure_at c.args.context.now.list.nodes c.args.body.place rank_operand =
    subst (λ (s : ContextModel). measure_at s.list.nodes c.args.body.place rank_counted < measure_at c.args.context.now.list.nodes c.args.body.place rank_operand) (sym same) (omega arith) in
    search rules

pub lambda_walk::members_at-returns-then-not-is_undecided-clause-answers : goal.lambda_walk::members_at-returns-then-not-is_undecided-clause-answers
lambda_walk::members_at-returns-then-not-is_undecided-clause-answers g t c =
    decided_at c.args.context.now c.args.body.place c.args.body.quantifier c.args.variable.now c.args.members.now c.loop-at.at c.loop-at.invariant.left c.loop-at-test.true c.index-members-at.result (sym c.index-members-at.is) c.in-Ok.truth c.undecided.result (subst (λ (s : ContextModel). AnswersTruth s c.args.body.place (Ok c.in-Ok.truth)) c.bind.ensures c.in-Ok.ensures.answers) c.undecided.ensures
    (λ passes. let e = c.is_undecided.ensures.1 passes in cc)

pub lambda_walk::members_at-loop-at-preserved : goal.lambda_walk::members_at-loop-at-preserved
lambda_walk::members_at-loop-at-preserved g t c = record {
  left = undecided_at c.args.context.now c.args.body.place c.args.body.quantifier c.args.variable.now c.args.members.now c.loop-at.at c.loop-at.invariant.left c.loop-at-test.true c.index-members-at.result (sym c.index-members-at.is) c.in-Ok.truth (subst (λ (s : ContextModel). AnswersTruth s c.args.body.place (Ok c.in-Ok.truth)) c.bind.ensures c.in-Ok.ensures.answers)
      (c.is_undecided.ensures.0 c.if-not-is_undecided.false);
  paid = body_passes c.args.context.now c.args.body.place c.args.body.quantifier c.args.variable.now c.args.members.now c.loop-at.at (g.B.Counting.left c.args.budget.now) (g.B.Counting.left c.loop-at.budget) c.loop-at.invariant.paid c.loop-at-test.true c.index-members-at.result (sym c.index-members-at.is) (g.B.Counting.left c.take.new.self) (subst (λ (b : Bool). IsTaken b (g.B.Counting.left c.loop-at.budget) (g.B.Counting.left c.take.new.self) 1) c.if-not-take.false c.take.ensures) (g.B.Counting.left c.side_at.new.budget) (subst (λ (s : ContextModel). EndsOnceHere s) c.bind.ensures c.ends_once.ensures) c.in-Ok.truth
      (subst (λ (s : ContextModel). AnswersTruth s c.args.body.place (Ok c.in-Ok.truth)) c.bind.ensures c.in-Ok.ensures.answers)
      (subst (λ (s : ContextModel). SpendsAt s c.args.body.place (g.B.Counting.left c.take.new.self) (g.B.Counting.left c.side_at.new.budget) None) c.bind.ensures c.in-Ok.ensures.spent) (c.is_undecided.ensures.0 c.if-not-is_undecided.false);
  beside = record {
    row_is = ap (λ (s : ContextModel). s.row) c.bind.ensures;
    moment_is = ap (λ (s : ContextModel). s.moment) c.bind.ensures;
    list_is = ap (λ (s : ContextModel). s.list) c.bind.ensures;
  };
}

pub lambda_walk::members_at-returns-in-Err-clause-answers : goal.lambda_walk::members_at-returns-in-Err-clause-answers
lambda_walk::members_at-returns-in-Err-clause-answers g t c =
    by_stop (λ s. CountedTruth (with_frame c.args.context.now (frame_of c.args.variable.now c.index-members-at.result)) c.args.body.place (Err s)) (λ s. CountedMembers c.args.context.now c.args.body.place c.args.body.quantifier c.args.variable.now c.args.members.now (Err s))
    (λ fault. fault_at c.args.context.now c.args.body.place c.args.body.quantifier c.args.variable.now c.args.members.now c.loop-at.at c.loop-at.invariant.left c.loop-at-test.true c.index-members-at.result (sym c.index-members-at.is) fault)
    (λ is. tt) c.in-Err.stop (subst (λ (s : ContextModel). CountedTruth s c.args.body.place (Err c.in-Err.stop)) c.bind.ensures c.in-Err.ensures.answers)

pub lambda_walk::members_at-returns-clause-answers : goal.lambda_walk::members_at-returns-clause-answers
lambda_walk::members_at-returns-clause-answers g t c = all_undecided c.args.context.now c.args.body.place c.args.body.quantifier c.args.variable.now c.args.members.now c.loop-at.at c.loop-at.invariant.left c.loop-at-test.false c.undecided-2.result c.undecided-2.ensures

-- ---- what search does not find any more with so many kinds

pub datum_walk::counted_at-truth_at-requires : goal.datum_walk::counted_at-truth_at-requires
datum_walk::counted_at-truth_at-requires g t c =
    let stands : TruthStands c.args.context.now c.args.place = logical_stands c.args.context.now c.args.place c.in-Logical.ensures (tree_of_class c.args.context.now c.args.place WalkClass.Logical (λ leaf. cc) c.in-Logical.ensures c.requires.stands) in
    let smaller : measure_at c.args.context.now.list.nodes c.args.place rank_truth < measure_at c.args.context.now.list.nodes c.args.place rank_counted = omega arith in
    search rules

pub datum_walk::counted_at-number_at-requires : goal.datum_walk::counted_at-number_at-requires
datum_walk::counted_at-number_at-requires g t c =
    let stands : PartStands c.args.context.now c.args.place = tree_of_class c.args.context.now c.args.place WalkClass.Numeric (λ leaf. cc) c.in-Numeric.ensures c.requires.stands in
    let smaller : measure_at c.args.context.now.list.nodes c.args.place rank_numbers < measure_at c.args.context.now.list.nodes c.args.place rank_counted = omega arith in
    search rules

pub datum_walk::counted_at-eager_at-requires : goal.datum_walk::counted_at-eager_at-requires
datum_walk::counted_at-eager_at-requires g t c =
    let stands : PartStands c.args.context.now c.args.place = tree_of_class c.args.context.now c.args.place WalkClass.Eager (λ leaf. cc) c.in-Eager.ensures c.requires.stands in
    let smaller : measure_at c.args.context.now.list.nodes c.args.place rank_eager < measure_at c.args.context.now.list.nodes c.args.place rank_counted = omega arith in
    search rules

pub truth_walk::plain_truth_at-walk_operand_at-requires : goal.truth_walk::plain_truth_at-walk_operand_at-requires
truth_walk::plain_truth_at-walk_operand_at-requires g t c = record { stands = tree_operand c.args.context.now c.args.place (typed_part c.args.context.now c.args.place IsBooleanOrNull c.requires.stands) }

pub number_walk::number_operand_at-walk_operand_at-requires : goal.number_walk::number_operand_at-walk_operand_at-requires
number_walk::number_operand_at-walk_operand_at-requires g t c = record { stands = tree_operand c.args.context.now c.args.place (typed_part c.args.context.now c.args.place IsNumberOperand c.requires.stands) }

-- ---- what is taken from the budget

pub truth_walk::truth_at-returns-clause-spent : goal.truth_walk::truth_at-returns-clause-spent
truth_walk::truth_at-returns-clause-spent g t c =
    at_top (λ k. SpendsAt c.args.context.now k (g.B.Counting.left c.args.budget.now) (g.B.Counting.left c.loop-at.budget) (stopped_by c.loop-at.answer)) c.loop-at.at c.args.place c.loop-at.invariant.above (omega arith) c.loop-at.invariant.spent

pub datum_walk::eager_at-returns-clause-spent : goal.datum_walk::eager_at-returns-clause-spent
datum_walk::eager_at-returns-clause-spent g t c =
    at_top (λ k. SpendsAt c.args.context.now k (g.B.Counting.left c.args.budget.now) (g.B.Counting.left c.loop-at.budget) (datum_stop c.loop-at.answer)) c.loop-at.at c.args.place c.loop-at.invariant.above (omega arith) c.loop-at.invariant.spent

pub truth_walk::truth_at-loop-at-preserved : goal.truth_walk::truth_at-loop-at-preserved
truth_walk::truth_at-loop-at-preserved g t c =
    let l = c.loop-at in
    let above : c.args.place < l.at = omega arith in
    let within : l.at ≤ c.spine_bottom-bottom.result = l.invariant.within in
    record {
      above = omega arith;
      within = omega arith;
      answers = c.logical_at-answer.ensures.answers;
      spent = c.logical_at-answer.ensures.spent (g.B.Counting.left c.args.budget.now) (next_spent c.args.context.now l.at c.args.place (g.B.Counting.left c.args.budget.now) (g.B.Counting.left l.budget) (stopped_by l.answer) above l.invariant.spent);
    }

pub datum_walk::eager_at-loop-at-preserved : goal.datum_walk::eager_at-loop-at-preserved
datum_walk::eager_at-loop-at-preserved g t c =
    let l = c.loop-at in
    let above : c.args.place < l.at = omega arith in
    let within : l.at ≤ c.spine_bottom-bottom.result = l.invariant.within in
    record {
      above = omega arith;
      within = omega arith;
      answers = c.made_at-answer.ensures.answers;
      spent = c.made_at-answer.ensures.spent (g.B.Counting.left c.args.budget.now) (next_spent c.args.context.now l.at c.args.place (g.B.Counting.left c.args.budget.now) (g.B.Counting.left l.budget) (datum_stop l.answer) above l.invariant.spent);
    }

pub truth_walk::plain_truth_at-returns-in-Leaf-clause-spent : goal.truth_walk::plain_truth_at-returns-in-Leaf-clause-spent
truth_walk::plain_truth_at-returns-in-Leaf-clause-spent g t c =
    free_spends c.args.context.now c.args.place None (g.B.Counting.left c.args.budget.now) (leaf_free c.args.context.now c.args.place c.in-Leaf.ensures.1) (takes_nothing (g.B.Counting.left c.args.budget.now))

pub truth_walk::compared_truth_at-returns-else-not-take-clause-spent : goal.truth_walk::compared_truth_at-returns-else-not-take-clause-spent
truth_walk::compared_truth_at-returns-else-not-take-clause-spent g t c =
    both_spend c.args.context.now c.args.place (BinaryOperator.Comparison c.args.comparison) c.requires.here tt c.ends_once.ensures (λ type. val_of c.in-Leaf.left.now (slots_of c.args.context.now.row.schema).properties type) c.in-Leaf.ensures.0 c.right_of-right_place.result c.right_of-right_place.ensures (λ type. val_of c.in-Leaf-walk_operand_at.right.now (slots_of c.args.context.now.row.schema).properties type) c.in-Leaf-walk_operand_at.ensures.0 c.stored_cost.result
    (λ s t. at_types (λ l r. comparison_cost l r ≡ c.stored_cost.result) (slots_of c.args.context.now.row.schema) s t c.in-Leaf.left.now c.in-Leaf-walk_operand_at.right.now (λ q m. sym (c.stored_cost.ensures q m)))
    (g.B.Counting.left c.args.budget.now) (g.B.Counting.left c.args.budget.now) (g.B.Counting.left c.take.new.self) None (free_spends c.args.context.now c.right_of-right_place.result None (g.B.Counting.left c.args.budget.now) (leaf_free c.args.context.now c.right_of-right_place.result c.in-Leaf-walk_operand_at.ensures.1) (takes_nothing (g.B.Counting.left c.args.budget.now)))
    (subst (λ (b : Bool). IsTaken b (g.B.Counting.left c.args.budget.now) (g.B.Counting.left c.take.new.self) c.stored_cost.result) c.if-not-take.false c.take.ensures)
    (g.B.Counting.left c.args.budget.now) (free_spends c.args.context.now (c.args.place + 1) None (g.B.Counting.left c.args.budget.now) (leaf_free c.args.context.now (c.args.place + 1) c.in-Leaf.ensures.1) (takes_nothing (g.B.Counting.left c.args.budget.now)))

pub truth_walk::compared_truth_at-returns-then-not-take-clause-spent : goal.truth_walk::compared_truth_at-returns-then-not-take-clause-spent
truth_walk::compared_truth_at-returns-then-not-take-clause-spent g t c =
    both_spend c.args.context.now c.args.place (BinaryOperator.Comparison c.args.comparison) c.requires.here tt c.ends_once.ensures (λ type. val_of c.in-Leaf.left.now (slots_of c.args.context.now.row.schema).properties type) c.in-Leaf.ensures.0 c.right_of-right_place.result c.right_of-right_place.ensures (λ type. val_of c.in-Leaf-walk_operand_at.right.now (slots_of c.args.context.now.row.schema).properties type) c.in-Leaf-walk_operand_at.ensures.0 c.stored_cost.result
    (λ s t. at_types (λ l r. comparison_cost l r ≡ c.stored_cost.result) (slots_of c.args.context.now.row.schema) s t c.in-Leaf.left.now c.in-Leaf-walk_operand_at.right.now (λ q m. sym (c.stored_cost.ensures q m)))
    (g.B.Counting.left c.args.budget.now) (g.B.Counting.left c.args.budget.now) (g.B.Counting.left c.take.new.self) (Some EvalStop.TooCostly) (free_spends c.args.context.now c.right_of-right_place.result None (g.B.Counting.left c.args.budget.now) (leaf_free c.args.context.now c.right_of-right_place.result c.in-Leaf-walk_operand_at.ensures.1) (takes_nothing (g.B.Counting.left c.args.budget.now)))
    (subst (λ (b : Bool). IsTaken b (g.B.Counting.left c.args.budget.now) (g.B.Counting.left c.take.new.self) c.stored_cost.result) c.if-not-take.true c.take.ensures)
    (g.B.Counting.left c.args.budget.now) (free_spends c.args.context.now (c.args.place + 1) None (g.B.Counting.left c.args.budget.now) (leaf_free c.args.context.now (c.args.place + 1) c.in-Leaf.ensures.1) (takes_nothing (g.B.Counting.left c.args.budget.now)))

pub truth_walk::numbers_truth_at-returns-in-Err-clause-spent : goal.truth_walk::numbers_truth_at-returns-in-Err-clause-spent
truth_walk::numbers_truth_at-returns-in-Err-clause-spent g t c =
    first_stops c.args.context.now c.ends_once.ensures c.args.place WalkClass.Eager (λ leaf. cc) (walks_by c.args.context.now.list c.args.place (BinaryOperator.Comparison c.args.comparison) WalkClass.Eager c.requires.here refl) c.in-Err.stop (number_faults c.args.context.now (c.args.place + 1) c.in-Err.stop c.in-Err.ensures.answers) (g.B.Counting.left c.number_at.new.budget) (g.B.Counting.left c.args.budget.now) c.in-Err.ensures.spent

pub truth_walk::numbers_truth_at-returns-in-Ok-clause-spent : goal.truth_walk::numbers_truth_at-returns-in-Ok-clause-spent
truth_walk::numbers_truth_at-returns-in-Ok-clause-spent g t c =
    let right = kept_value c.args.context.now c.right_of-right_place.result c.in-Leaf.value.now c.in-Leaf.ensures.0 (number_val (Some c.in-Int.right)) (ap plain_val c.in-Int.is) in
    both_spend c.args.context.now c.args.place (BinaryOperator.Comparison c.args.comparison) c.requires.here tt c.ends_once.ensures (λ type. number_val c.in-Ok.left) c.in-Ok.ensures.answers c.right_of-right_place.result c.right_of-right_place.ensures (λ type. number_val (Some c.in-Int.right)) right 0 (λ s t. numbers_cost c.in-Ok.left (Some c.in-Int.right))
    (g.B.Counting.left c.number_at.new.budget) (g.B.Counting.left c.number_at.new.budget) (g.B.Counting.left c.number_at.new.budget) None (free_spends c.args.context.now c.right_of-right_place.result None (g.B.Counting.left c.number_at.new.budget) (leaf_free c.args.context.now c.right_of-right_place.result c.in-Leaf.ensures.1) (takes_nothing (g.B.Counting.left c.number_at.new.budget))) (takes_nothing (g.B.Counting.left c.number_at.new.budget))
    (g.B.Counting.left c.args.budget.now) c.in-Ok.ensures.spent

pub truth_walk::numbers_truth_at-returns-in-Ok-number_at-2-clause-spent : goal.truth_walk::numbers_truth_at-returns-in-Ok-number_at-2-clause-spent
truth_walk::numbers_truth_at-returns-in-Ok-number_at-2-clause-spent g t c =
    both_spend c.args.context.now c.args.place (BinaryOperator.Comparison c.args.comparison) c.requires.here tt c.ends_once.ensures (λ type. number_val c.in-Ok-number_at.left) c.in-Ok-number_at.ensures.answers c.right_of-right_place.result c.right_of-right_place.ensures (λ type. number_val c.in-Ok-number_at-2.right) c.in-Ok-number_at-2.ensures.answers 0 (λ s t. numbers_cost c.in-Ok-number_at.left c.in-Ok-number_at-2.right)
    (g.B.Counting.left c.number_at-in-Numeric.new.budget) (g.B.Counting.left c.number_at-in-Numeric-2.new.budget) (g.B.Counting.left c.number_at-in-Numeric-2.new.budget) None c.in-Ok-number_at-2.ensures.spent (takes_nothing (g.B.Counting.left c.number_at-in-Numeric-2.new.budget)) (g.B.Counting.left c.args.budget.now) c.in-Ok-number_at.ensures.spent

pub truth_walk::numbers_truth_at-returns-in-Err-number_at-clause-spent : goal.truth_walk::numbers_truth_at-returns-in-Err-number_at-clause-spent
truth_walk::numbers_truth_at-returns-in-Err-number_at-clause-spent g t c =
    first_stops c.args.context.now c.ends_once.ensures c.args.place WalkClass.Eager (λ leaf. cc) (walks_by c.args.context.now.list c.args.place (BinaryOperator.Comparison c.args.comparison) WalkClass.Eager c.requires.here refl) c.in-Err-number_at.stop (number_faults c.args.context.now (c.args.place + 1) c.in-Err-number_at.stop c.in-Err-number_at.ensures.answers) (g.B.Counting.left c.number_at-in-Numeric.new.budget) (g.B.Counting.left c.args.budget.now) c.in-Err-number_at.ensures.spent

pub truth_walk::numbers_truth_at-returns-in-Err-number_at-2-clause-spent : goal.truth_walk::numbers_truth_at-returns-in-Err-number_at-2-clause-spent
truth_walk::numbers_truth_at-returns-in-Err-number_at-2-clause-spent g t c =
    right_stops c.args.context.now c.args.place (BinaryOperator.Comparison c.args.comparison) c.requires.here tt c.ends_once.ensures (λ type. number_val c.in-Ok-number_at.left) c.in-Ok-number_at.ensures.answers c.right_of-right_place.result c.right_of-right_place.ensures c.in-Err-number_at-2.stop (number_faults c.args.context.now c.right_of-right_place.result c.in-Err-number_at-2.stop c.in-Err-number_at-2.ensures.answers)
    (g.B.Counting.left c.number_at-in-Numeric.new.budget) (g.B.Counting.left c.number_at-in-Numeric-2.new.budget) c.in-Err-number_at-2.ensures.spent (g.B.Counting.left c.args.budget.now) c.in-Ok-number_at.ensures.spent

pub truth_walk::called_truth_at-returns-in-Ok-clause-spent : goal.truth_walk::called_truth_at-returns-in-Ok-clause-spent
truth_walk::called_truth_at-returns-in-Ok-clause-spent g t c =
    let part = typed_part c.args.context.now c.args.place IsBooleanOrNull c.requires.stands in
    let first : AnswersDatum c.args.context.now (c.args.place + 1) (Ok c.datum_of-first.result) = kept_datum c.args.context.now (c.args.place + 1) c.in-Leaf.value.now c.datum_of-first.result c.in-Leaf.ensures.0 c.datum_of-first.ensures in
    let next : AnswersDatum c.args.context.now c.stop_of-second_place.result (Ok c.datum_of-second.result) = kept_datum c.args.context.now c.stop_of-second_place.result c.in-Leaf-walk_operand_at.value.now c.datum_of-second.result c.in-Leaf-walk_operand_at.ensures.0 c.datum_of-second.ensures in
    let walked = two_walked c.args.context.now c.calls_have_one_type.ensures.named c.args.place c.args.function c.requires.here c.stop_of-own_stop.result c.stop_of-own_stop.ensures part c.stop_of-second_place.result c.stop_of-second_place.ensures c.datum_of-first.result first c.if-second_place-own_stop.false c.stop_of.result c.stop_of.ensures c.datum_of-second.result next (g.B.Counting.left c.args.budget.now) (g.B.Counting.left c.args.budget.now) (g.B.Counting.left c.args.budget.now)
    (free_spends c.args.context.now (c.args.place + 1) None (g.B.Counting.left c.args.budget.now) (leaf_free c.args.context.now (c.args.place + 1) c.in-Leaf.ensures.1) (takes_nothing (g.B.Counting.left c.args.budget.now)))
    (free_spends c.args.context.now c.stop_of-second_place.result None (g.B.Counting.left c.args.budget.now) (leaf_free c.args.context.now c.stop_of-second_place.result c.in-Leaf-walk_operand_at.ensures.1) (takes_nothing (g.B.Counting.left c.args.budget.now))) in
    let all = subst (λ (k : ℕ). AllWalked c.args.context.now (c.args.place + 1) k c.stop_of-own_stop.result (c.datum_of-first.result ∷ c.datum_of-second.result ∷ []) (g.B.Counting.left c.args.budget.now) (g.B.Counting.left c.args.budget.now)) c.if-stop_of-own_stop.false walked in
    call_spends c.args.context.now c.calls_have_one_type.ensures.named c.args.place c.args.function c.requires.here c.stop_of-own_stop.result c.stop_of-own_stop.ensures c.ends_once.ensures (c.datum_of-first.result ∷ c.datum_of-second.result ∷ []) (g.B.Counting.left c.args.budget.now) (g.B.Counting.left c.args.budget.now) (g.B.Counting.left c.take.new.self) None all c.cost_of_two.result c.cost_of_two.ensures (subst (λ (b : Bool). IsTaken b (g.B.Counting.left c.args.budget.now) (g.B.Counting.left c.take.new.self) c.cost_of_two.result) c.if-not-take.false c.take.ensures)

pub truth_walk::called_truth_at-returns-in-Err-clause-spent : goal.truth_walk::called_truth_at-returns-in-Err-clause-spent
truth_walk::called_truth_at-returns-in-Err-clause-spent g t c =
    let part = typed_part c.args.context.now c.args.place IsBooleanOrNull c.requires.stands in
    let first : AnswersDatum c.args.context.now (c.args.place + 1) (Ok c.datum_of-first.result) = kept_datum c.args.context.now (c.args.place + 1) c.in-Leaf.value.now c.datum_of-first.result c.in-Leaf.ensures.0 c.datum_of-first.ensures in
    let next : AnswersDatum c.args.context.now c.stop_of-second_place.result (Ok c.datum_of-second.result) = kept_datum c.args.context.now c.stop_of-second_place.result c.in-Leaf-walk_operand_at.value.now c.datum_of-second.result c.in-Leaf-walk_operand_at.ensures.0 c.datum_of-second.ensures in
    let walked = two_walked c.args.context.now c.calls_have_one_type.ensures.named c.args.place c.args.function c.requires.here c.stop_of-own_stop.result c.stop_of-own_stop.ensures part c.stop_of-second_place.result c.stop_of-second_place.ensures c.datum_of-first.result first c.if-second_place-own_stop.false c.stop_of.result c.stop_of.ensures c.datum_of-second.result next (g.B.Counting.left c.args.budget.now) (g.B.Counting.left c.args.budget.now) (g.B.Counting.left c.args.budget.now)
    (free_spends c.args.context.now (c.args.place + 1) None (g.B.Counting.left c.args.budget.now) (leaf_free c.args.context.now (c.args.place + 1) c.in-Leaf.ensures.1) (takes_nothing (g.B.Counting.left c.args.budget.now)))
    (free_spends c.args.context.now c.stop_of-second_place.result None (g.B.Counting.left c.args.budget.now) (leaf_free c.args.context.now c.stop_of-second_place.result c.in-Leaf-walk_operand_at.ensures.1) (takes_nothing (g.B.Counting.left c.args.budget.now))) in
    let all = subst (λ (k : ℕ). AllWalked c.args.context.now (c.args.place + 1) k c.stop_of-own_stop.result (c.datum_of-first.result ∷ c.datum_of-second.result ∷ []) (g.B.Counting.left c.args.budget.now) (g.B.Counting.left c.args.budget.now)) c.if-stop_of-own_stop.false walked in
    call_spends c.args.context.now c.calls_have_one_type.ensures.named c.args.place c.args.function c.requires.here c.stop_of-own_stop.result c.stop_of-own_stop.ensures c.ends_once.ensures (c.datum_of-first.result ∷ c.datum_of-second.result ∷ []) (g.B.Counting.left c.args.budget.now) (g.B.Counting.left c.args.budget.now) (g.B.Counting.left c.take.new.self) (Some (EvalStop.Fault c.in-Err.fault)) all c.cost_of_two.result c.cost_of_two.ensures (fault_paid c.in-Err.fault (g.B.Counting.left c.args.budget.now) (g.B.Counting.left c.take.new.self) c.cost_of_two.result (subst (λ (b : Bool). IsTaken b (g.B.Counting.left c.args.budget.now) (g.B.Counting.left c.take.new.self) c.cost_of_two.result) c.if-not-take.false c.take.ensures))

pub truth_walk::called_truth_at-returns-then-not-take-clause-spent : goal.truth_walk::called_truth_at-returns-then-not-take-clause-spent
truth_walk::called_truth_at-returns-then-not-take-clause-spent g t c =
    let part = typed_part c.args.context.now c.args.place IsBooleanOrNull c.requires.stands in
    let first : AnswersDatum c.args.context.now (c.args.place + 1) (Ok c.datum_of-first.result) = kept_datum c.args.context.now (c.args.place + 1) c.in-Leaf.value.now c.datum_of-first.result c.in-Leaf.ensures.0 c.datum_of-first.ensures in
    let next : AnswersDatum c.args.context.now c.stop_of-second_place.result (Ok c.datum_of-second.result) = kept_datum c.args.context.now c.stop_of-second_place.result c.in-Leaf-walk_operand_at.value.now c.datum_of-second.result c.in-Leaf-walk_operand_at.ensures.0 c.datum_of-second.ensures in
    let walked = two_walked c.args.context.now c.calls_have_one_type.ensures.named c.args.place c.args.function c.requires.here c.stop_of-own_stop.result c.stop_of-own_stop.ensures part c.stop_of-second_place.result c.stop_of-second_place.ensures c.datum_of-first.result first c.if-second_place-own_stop.false c.stop_of.result c.stop_of.ensures c.datum_of-second.result next (g.B.Counting.left c.args.budget.now) (g.B.Counting.left c.args.budget.now) (g.B.Counting.left c.args.budget.now)
    (free_spends c.args.context.now (c.args.place + 1) None (g.B.Counting.left c.args.budget.now) (leaf_free c.args.context.now (c.args.place + 1) c.in-Leaf.ensures.1) (takes_nothing (g.B.Counting.left c.args.budget.now)))
    (free_spends c.args.context.now c.stop_of-second_place.result None (g.B.Counting.left c.args.budget.now) (leaf_free c.args.context.now c.stop_of-second_place.result c.in-Leaf-walk_operand_at.ensures.1) (takes_nothing (g.B.Counting.left c.args.budget.now))) in
    let all = subst (λ (k : ℕ). AllWalked c.args.context.now (c.args.place + 1) k c.stop_of-own_stop.result (c.datum_of-first.result ∷ c.datum_of-second.result ∷ []) (g.B.Counting.left c.args.budget.now) (g.B.Counting.left c.args.budget.now)) c.if-stop_of-own_stop.false walked in
    call_spends c.args.context.now c.calls_have_one_type.ensures.named c.args.place c.args.function c.requires.here c.stop_of-own_stop.result c.stop_of-own_stop.ensures c.ends_once.ensures (c.datum_of-first.result ∷ c.datum_of-second.result ∷ []) (g.B.Counting.left c.args.budget.now) (g.B.Counting.left c.args.budget.now) (g.B.Counting.left c.take.new.self) (Some EvalStop.TooCostly) all c.cost_of_two.result c.cost_of_two.ensures (subst (λ (b : Bool). IsTaken b (g.B.Counting.left c.args.budget.now) (g.B.Counting.left c.take.new.self) c.cost_of_two.result) c.if-not-take.true c.take.ensures)

pub truth_walk::logical_at-returns-in-Err-clause-spent : goal.truth_walk::logical_at-returns-in-Err-clause-spent
truth_walk::logical_at-returns-in-Err-clause-spent g t c =
    after_stop (Option Bool) c.args.context.now c.args.place c.args.first c.in-Err.stop (g.B.Counting.left c.args.budget.now) (g.B.Counting.left c.args.budget.now) (Some c.in-Err.stop) c.in-Err.is
    (first_stops c.args.context.now c.ends_once.ensures c.args.place WalkClass.Logical (λ leaf. cc) c.requires.logical c.in-Err.stop
    (truth_faults c.args.context.now (c.args.place + 1) c.in-Err.stop (subst (λ (r : Result (Option Bool) EvalStop). CountedTruth c.args.context.now (c.args.place + 1) r) c.in-Err.is c.requires.first)) (g.B.Counting.left c.args.budget.now))

pub truth_walk::logical_at-returns-in-Some-clause-spent : goal.truth_walk::logical_at-returns-in-Some-clause-spent
truth_walk::logical_at-returns-in-Some-clause-spent g t c =
    after_value (Option Bool) c.args.context.now c.args.place c.args.first c.in-Ok.first (g.B.Counting.left c.args.budget.now) (g.B.Counting.left c.connected_at.new.budget) (stopped_by c.connected_at.result) c.in-Ok.is c.connected_at.ensures.spent

pub truth_walk::logical_at-returns-in-None-clause-spent : goal.truth_walk::logical_at-returns-in-None-clause-spent
truth_walk::logical_at-returns-in-None-clause-spent g t c =
    let walk = found_there (λ (f : CheckedNode). walk_of_kind f.kind ≡ WalkClass.Logical) (slice_get c.args.context.now.list.nodes c.args.place) c.node.result.now c.node.ensures c.requires.logical in
    let here = there_found (λ (f : CheckedNode). f.kind ≡ NodeKind.Not) (slice_get c.args.context.now.list.nodes c.args.place) c.node.result.now c.node.ensures (only_not c.node.result.now.kind walk c.in-None.ensures.none) in
    after_value (Option Bool) c.args.context.now c.args.place c.args.first c.in-Ok.first (g.B.Counting.left c.args.budget.now) (g.B.Counting.left c.args.budget.now) None c.in-Ok.is (nothing_more c.args.context.now c.args.place NodeKind.Not tt here (g.B.Counting.left c.args.budget.now) None (takes_nothing (g.B.Counting.left c.args.budget.now)))

pub truth_walk::connected_at-returns-then-decides-clause-spent : goal.truth_walk::connected_at-returns-then-decides-clause-spent
truth_walk::connected_at-returns-then-decides-clause-spent g t c =
    right_left_out c.args.context.now c.args.place c.args.operator c.requires.here c.ends_once.ensures c.args.left c.requires.left (c.decides.ensures.0 c.if-decides.true) (g.B.Counting.left c.args.budget.now)

pub truth_walk::connected_at-returns-in-Ok-clause-spent : goal.truth_walk::connected_at-returns-in-Ok-clause-spent
truth_walk::connected_at-returns-in-Ok-clause-spent g t c =
    right_asked c.args.context.now c.args.place c.args.operator c.requires.here c.ends_once.ensures c.args.left c.requires.left (λ decided. let e = c.decides.ensures.1 decided in cc) c.right_of-right_place.result c.right_of-right_place.ensures (g.B.Counting.left c.args.budget.now) (g.B.Counting.left c.side_at.new.budget) None c.in-Ok.ensures.spent

pub truth_walk::connected_at-returns-in-Err-clause-spent : goal.truth_walk::connected_at-returns-in-Err-clause-spent
truth_walk::connected_at-returns-in-Err-clause-spent g t c =
    right_asked c.args.context.now c.args.place c.args.operator c.requires.here c.ends_once.ensures c.args.left c.requires.left (λ decided. let e = c.decides.ensures.1 decided in cc) c.right_of-right_place.result c.right_of-right_place.ensures (g.B.Counting.left c.args.budget.now) (g.B.Counting.left c.side_at.new.budget) (Some c.in-Err.stop) c.in-Err.ensures.spent

pub datum_walk::counted_at-returns-in-Leaf-clause-spent : goal.datum_walk::counted_at-returns-in-Leaf-clause-spent
datum_walk::counted_at-returns-in-Leaf-clause-spent g t c =
    free_spends c.args.context.now c.args.place None (g.B.Counting.left c.args.budget.now) (leaf_free c.args.context.now c.args.place c.in-Leaf.ensures.1) (takes_nothing (g.B.Counting.left c.args.budget.now))

pub datum_walk::made_at-returns-in-Err-clause-spent : goal.datum_walk::made_at-returns-in-Err-clause-spent
datum_walk::made_at-returns-in-Err-clause-spent g t c =
    after_stop Datum c.args.context.now c.args.place c.args.first c.in-Err.before (g.B.Counting.left c.args.budget.now) (g.B.Counting.left c.args.budget.now) (Some c.in-Err.before) c.in-Err.is
    (first_stops c.args.context.now c.ends_once.ensures c.args.place WalkClass.Eager (λ leaf. cc) c.requires.eager c.in-Err.before
    (datum_faults c.args.context.now (c.args.place + 1) c.in-Err.before (subst (λ (r : Result Datum EvalStop). CountedDatum c.args.context.now (c.args.place + 1) r) c.in-Err.is c.requires.first)) (g.B.Counting.left c.args.budget.now))

pub datum_walk::made_at-returns-in-Member-clause-spent : goal.datum_walk::made_at-returns-in-Member-clause-spent
datum_walk::made_at-returns-in-Member-clause-spent g t c =
    let here : HasKind c.args.context.now.list c.args.place (NodeKind.Member c.in-Member.slot) = there_found (λ (f : CheckedNode). f.kind ≡ (NodeKind.Member c.in-Member.slot)) (slice_get c.args.context.now.list.nodes c.args.place) c.node.result.now c.node.ensures c.in-Member.is in
    after_value Datum c.args.context.now c.args.place c.args.first c.in-Ok.first (g.B.Counting.left c.args.budget.now) (g.B.Counting.left c.args.budget.now) None c.in-Ok.is (nothing_more c.args.context.now c.args.place (NodeKind.Member c.in-Member.slot) tt here (g.B.Counting.left c.args.budget.now) None (takes_nothing (g.B.Counting.left c.args.budget.now)))

pub datum_walk::made_at-returns-in-AnyItem-clause-spent : goal.datum_walk::made_at-returns-in-AnyItem-clause-spent
datum_walk::made_at-returns-in-AnyItem-clause-spent g t c =
    let here : HasKind c.args.context.now.list c.args.place (NodeKind.AnyItem) = there_found (λ (f : CheckedNode). f.kind ≡ (NodeKind.AnyItem)) (slice_get c.args.context.now.list.nodes c.args.place) c.node.result.now c.node.ensures c.in-AnyItem.is in
    after_value Datum c.args.context.now c.args.place c.args.first c.in-Ok.first (g.B.Counting.left c.args.budget.now) (g.B.Counting.left c.args.budget.now) None c.in-Ok.is (nothing_more c.args.context.now c.args.place (NodeKind.AnyItem) tt here (g.B.Counting.left c.args.budget.now) None (takes_nothing (g.B.Counting.left c.args.budget.now)))

pub datum_walk::made_at-returns-in-Call-clause-spent : goal.datum_walk::made_at-returns-in-Call-clause-spent
datum_walk::made_at-returns-in-Call-clause-spent g t c =
    after_value Datum c.args.context.now c.args.place c.args.first c.in-Ok.first (g.B.Counting.left c.args.budget.now) (g.B.Counting.left c.called_at.new.budget) (datum_stop c.called_at.result) c.in-Ok.is c.called_at.ensures.spent

pub datum_walk::made_at-returns-in-Count-clause-spent : goal.datum_walk::made_at-returns-in-Count-clause-spent
datum_walk::made_at-returns-in-Count-clause-spent g t c =
    let here : HasKind c.args.context.now.list c.args.place (NodeKind.Count) = there_found (λ (f : CheckedNode). f.kind ≡ (NodeKind.Count)) (slice_get c.args.context.now.list.nodes c.args.place) c.node.result.now c.node.ensures c.in-Count.is in
    after_value Datum c.args.context.now c.args.place c.args.first c.in-Ok.first (g.B.Counting.left c.args.budget.now) (g.B.Counting.left c.args.budget.now) (datum_stop c.as_stop.result) c.in-Ok.is
    (nothing_more c.args.context.now c.args.place (NodeKind.Count) tt here (g.B.Counting.left c.args.budget.now) (datum_stop c.as_stop.result) (as_spent c.count_of.result c.as_stop.result (g.B.Counting.left c.args.budget.now) c.as_stop.ensures))

pub datum_walk::made_at-returns-in-Has-clause-spent : goal.datum_walk::made_at-returns-in-Has-clause-spent
datum_walk::made_at-returns-in-Has-clause-spent g t c =
    after_value Datum c.args.context.now c.args.place c.args.first c.in-Ok.first (g.B.Counting.left c.args.budget.now) (g.B.Counting.left c.flags_at.new.budget) (datum_stop c.flags_at.result) c.in-Ok.is c.flags_at.ensures.spent

pub datum_walk::made_at-returns-in-InPath-clause-spent : goal.datum_walk::made_at-returns-in-InPath-clause-spent
datum_walk::made_at-returns-in-InPath-clause-spent g t c =
    after_value Datum c.args.context.now c.args.place c.args.first c.in-Ok.first (g.B.Counting.left c.args.budget.now) (g.B.Counting.left c.among_at.new.budget) (datum_stop c.among_at.result) c.in-Ok.is c.among_at.ensures.spent

pub datum_walk::made_at-returns-in-InList-clause-spent : goal.datum_walk::made_at-returns-in-InList-clause-spent
datum_walk::made_at-returns-in-InList-clause-spent g t c =
    after_value Datum c.args.context.now c.args.place c.args.first c.in-Ok.first (g.B.Counting.left c.args.budget.now) (g.B.Counting.left c.listed_at.new.budget) (datum_stop c.listed_at.result) c.in-Ok.is c.listed_at.ensures.spent

pub datum_walk::made_at-returns-in-Lambda-clause-spent : goal.datum_walk::made_at-returns-in-Lambda-clause-spent
datum_walk::made_at-returns-in-Lambda-clause-spent g t c =
    after_value Datum c.args.context.now c.args.place c.args.first c.in-Ok.first (g.B.Counting.left c.args.budget.now) (g.B.Counting.left c.lambda_at.new.budget) (datum_stop c.lambda_at.result) c.in-Ok.is c.lambda_at.ensures.spent

pub datum_walk::made_at-returns-in-Binary-Comparison-clause-spent : goal.datum_walk::made_at-returns-in-Binary-Comparison-clause-spent
datum_walk::made_at-returns-in-Binary-Comparison-clause-spent g t c =
    after_value Datum c.args.context.now c.args.place c.args.first c.in-Ok.first (g.B.Counting.left c.args.budget.now) (g.B.Counting.left c.compared_at.new.budget) (datum_stop c.compared_at.result) c.in-Ok.is c.compared_at.ensures.spent

pub datum_walk::compared_at-returns-in-Ok-clause-spent : goal.datum_walk::compared_at-returns-in-Ok-clause-spent
datum_walk::compared_at-returns-in-Ok-clause-spent g t c =
    both_spend c.args.context.now c.args.place (BinaryOperator.Comparison c.args.comparison) c.requires.here tt c.ends_once.ensures (λ type. datum_val (reading_at (slots_of c.args.context.now.row.schema) type) c.args.left) c.requires.left c.right_of-right_place.result c.right_of-right_place.ensures (λ type. datum_val (reading_at (slots_of c.args.context.now.row.schema) type) c.in-Ok.right) c.in-Ok.ensures.answers c.comparison_cost.result (λ s t. sym (c.comparison_cost.ensures (reading_at (slots_of c.args.context.now.row.schema) s) (reading_at (slots_of c.args.context.now.row.schema) t)))
    (g.B.Counting.left c.args.budget.now) (g.B.Counting.left c.likely_stored_at.new.budget) (g.B.Counting.left c.take.new.self) None c.in-Ok.ensures.spent (subst (λ (b : Bool). IsTaken b (g.B.Counting.left c.likely_stored_at.new.budget) (g.B.Counting.left c.take.new.self) c.comparison_cost.result) c.if-not-take.false c.take.ensures)

pub datum_walk::compared_at-returns-then-not-take-clause-spent : goal.datum_walk::compared_at-returns-then-not-take-clause-spent
datum_walk::compared_at-returns-then-not-take-clause-spent g t c =
    both_spend c.args.context.now c.args.place (BinaryOperator.Comparison c.args.comparison) c.requires.here tt c.ends_once.ensures (λ type. datum_val (reading_at (slots_of c.args.context.now.row.schema) type) c.args.left) c.requires.left c.right_of-right_place.result c.right_of-right_place.ensures (λ type. datum_val (reading_at (slots_of c.args.context.now.row.schema) type) c.in-Ok.right) c.in-Ok.ensures.answers c.comparison_cost.result (λ s t. sym (c.comparison_cost.ensures (reading_at (slots_of c.args.context.now.row.schema) s) (reading_at (slots_of c.args.context.now.row.schema) t)))
    (g.B.Counting.left c.args.budget.now) (g.B.Counting.left c.likely_stored_at.new.budget) (g.B.Counting.left c.take.new.self) (Some EvalStop.TooCostly) c.in-Ok.ensures.spent (subst (λ (b : Bool). IsTaken b (g.B.Counting.left c.likely_stored_at.new.budget) (g.B.Counting.left c.take.new.self) c.comparison_cost.result) c.if-not-take.true c.take.ensures)

pub datum_walk::compared_at-returns-clause-spent : goal.datum_walk::compared_at-returns-clause-spent
datum_walk::compared_at-returns-clause-spent g t c =
    right_stops c.args.context.now c.args.place (BinaryOperator.Comparison c.args.comparison) c.requires.here tt c.ends_once.ensures (λ type. datum_val (reading_at (slots_of c.args.context.now.row.schema) type) c.args.left) c.requires.left c.right_of-right_place.result c.right_of-right_place.ensures c.in-Err.behind (datum_faults c.args.context.now c.right_of-right_place.result c.in-Err.behind c.in-Err.ensures.answers) (g.B.Counting.left c.args.budget.now) (g.B.Counting.left c.likely_stored_at.new.budget) c.in-Err.ensures.spent

pub lambda_walk::lambda_at-returns-in_default-clause-spent : goal.lambda_walk::lambda_at-returns-in_default-clause-spent
lambda_walk::lambda_at-returns-in_default-clause-spent g t c =
    null_spends c.trees_have_one_type.ensures c.args.context.now c.args.place c.args.quantifier c.requires.here c.ends_once.ensures c.args.base c.requires.first c.in_default.not-List (g.B.Counting.left c.args.budget.now)

pub lambda_walk::lambda_at-returns-in-Ok-clause-spent : goal.lambda_walk::lambda_at-returns-in-Ok-clause-spent
lambda_walk::lambda_at-returns-in-Ok-clause-spent g t c =
    members_spend c.trees_have_one_type.ensures c.args.context.now c.args.place c.args.quantifier c.requires.here c.ends_once.ensures c.variable_bound-variable.result c.variable_bound-variable.ensures c.right_of.result c.right_of.ensures c.in-List.members
    (subst (λ (d : Datum). AnswersDatum c.args.context.now (c.args.place + 1) (Ok d)) c.in-List.is c.requires.first) (g.B.Counting.left c.args.budget.now) (g.B.Counting.left c.members_at.new.budget) None c.in-Ok.ensures.spent

pub lambda_walk::lambda_at-returns-in-Err-clause-spent : goal.lambda_walk::lambda_at-returns-in-Err-clause-spent
lambda_walk::lambda_at-returns-in-Err-clause-spent g t c =
    members_spend c.trees_have_one_type.ensures c.args.context.now c.args.place c.args.quantifier c.requires.here c.ends_once.ensures c.variable_bound-variable.result c.variable_bound-variable.ensures c.right_of.result c.right_of.ensures c.in-List.members
    (subst (λ (d : Datum). AnswersDatum c.args.context.now (c.args.place + 1) (Ok d)) c.in-List.is c.requires.first) (g.B.Counting.left c.args.budget.now) (g.B.Counting.left c.members_at.new.budget) (Some c.in-Err.stop) c.in-Err.ensures.spent

pub lambda_walk::members_at-returns-clause-spent : goal.lambda_walk::members_at-returns-clause-spent
lambda_walk::members_at-returns-clause-spent g t c =
    all_paid c.args.context.now c.args.body.place c.args.body.quantifier c.args.variable.now c.args.members.now c.loop-at.at (g.B.Counting.left c.args.budget.now) (g.B.Counting.left c.loop-at.budget) c.loop-at.invariant.paid c.loop-at-test.false

pub lambda_walk::members_at-returns-then-not-take-clause-spent : goal.lambda_walk::members_at-returns-then-not-take-clause-spent
lambda_walk::members_at-returns-then-not-take-clause-spent g t c =
    none_left c.args.context.now c.args.body.place c.args.body.quantifier c.args.variable.now c.args.members.now c.loop-at.at (g.B.Counting.left c.args.budget.now) (g.B.Counting.left c.loop-at.budget) c.loop-at.invariant.paid c.loop-at-test.true
    (subst (λ (b : Bool). IsTaken b (g.B.Counting.left c.loop-at.budget) (g.B.Counting.left c.take.new.self) 1) c.if-not-take.true c.take.ensures) (g.B.Counting.left c.take.new.self)

pub lambda_walk::members_at-returns-in-Err-clause-spent : goal.lambda_walk::members_at-returns-in-Err-clause-spent
lambda_walk::members_at-returns-in-Err-clause-spent g t c =
    body_stops c.args.context.now c.args.body.place c.args.body.quantifier c.args.variable.now c.args.members.now c.loop-at.at (g.B.Counting.left c.args.budget.now) (g.B.Counting.left c.loop-at.budget) c.loop-at.invariant.paid c.loop-at-test.true c.index-members-at.result (sym c.index-members-at.is) (g.B.Counting.left c.take.new.self) (subst (λ (b : Bool). IsTaken b (g.B.Counting.left c.loop-at.budget) (g.B.Counting.left c.take.new.self) 1) c.if-not-take.false c.take.ensures) (g.B.Counting.left c.side_at.new.budget) (subst (λ (s : ContextModel). EndsOnceHere s) c.bind.ensures c.ends_once.ensures) c.in-Err.stop
    (truth_faults (with_frame c.args.context.now (frame_of c.args.variable.now c.index-members-at.result)) c.args.body.place c.in-Err.stop (subst (λ (s : ContextModel). CountedTruth s c.args.body.place (Err c.in-Err.stop)) c.bind.ensures c.in-Err.ensures.answers)) (subst (λ (s : ContextModel). SpendsAt s c.args.body.place (g.B.Counting.left c.take.new.self) (g.B.Counting.left c.side_at.new.budget) (Some c.in-Err.stop)) c.bind.ensures c.in-Err.ensures.spent)

pub lambda_walk::members_at-returns-then-not-is_undecided-clause-spent : goal.lambda_walk::members_at-returns-then-not-is_undecided-clause-spent
lambda_walk::members_at-returns-then-not-is_undecided-clause-spent g t c =
    body_decides c.args.context.now c.args.body.place c.args.body.quantifier c.args.variable.now c.args.members.now c.loop-at.at (g.B.Counting.left c.args.budget.now) (g.B.Counting.left c.loop-at.budget) c.loop-at.invariant.paid c.loop-at-test.true c.index-members-at.result (sym c.index-members-at.is) (g.B.Counting.left c.take.new.self) (subst (λ (b : Bool). IsTaken b (g.B.Counting.left c.loop-at.budget) (g.B.Counting.left c.take.new.self) 1) c.if-not-take.false c.take.ensures) (g.B.Counting.left c.side_at.new.budget) (subst (λ (s : ContextModel). EndsOnceHere s) c.bind.ensures c.ends_once.ensures) c.in-Ok.truth
    (subst (λ (s : ContextModel). AnswersTruth s c.args.body.place (Ok c.in-Ok.truth)) c.bind.ensures c.in-Ok.ensures.answers) (subst (λ (s : ContextModel). SpendsAt s c.args.body.place (g.B.Counting.left c.take.new.self) (g.B.Counting.left c.side_at.new.budget) None) c.bind.ensures c.in-Ok.ensures.spent) (λ passes. let e = c.is_undecided.ensures.1 passes in cc)

pub collection_walk::listed_at-returns-clause-spent : goal.collection_walk::listed_at-returns-clause-spent
collection_walk::listed_at-returns-clause-spent g t c =
    list_ends c.args.context.now c.args.place c.stop_of-own_stop.result c.loop-at.at c.args.left.now (g.B.Counting.left c.args.budget.now) (g.B.Counting.left c.loop-at.budget) c.loop-at.invariant c.loop-at-test.false

pub collection_walk::listed_at-returns-then-not-take_item-clause-spent : goal.collection_walk::listed_at-returns-then-not-take_item-clause-spent
collection_walk::listed_at-returns-then-not-take_item-clause-spent g t c =
    list_is_costly c.args.context.now c.args.place c.stop_of-own_stop.result c.loop-at.at c.args.left.now (g.B.Counting.left c.args.budget.now) (g.B.Counting.left c.loop-at.budget) c.loop-at.invariant c.loop-at-test.true (subst (λ (b : Bool). IsTaken b (g.B.Counting.left c.loop-at.budget) (g.B.Counting.left c.take_item.new.budget) (item_cost (environment_of c.args.context.now))) c.if-not-take_item.true c.take_item.ensures) (g.B.Counting.left c.take_item.new.budget)

pub collection_walk::listed_at-returns-in-Err-clause-spent : goal.collection_walk::listed_at-returns-in-Err-clause-spent
collection_walk::listed_at-returns-in-Err-clause-spent g t c =
    item_stops c.args.context.now c.args.place c.stop_of-own_stop.result c.loop-at.at c.args.left.now (g.B.Counting.left c.args.budget.now) (g.B.Counting.left c.loop-at.budget) c.loop-at.invariant (g.B.Counting.left c.take_item.new.budget) (g.B.Counting.left c.likely_stored_at.new.budget) (subst (λ (b : Bool). IsTaken b (g.B.Counting.left c.loop-at.budget) (g.B.Counting.left c.take_item.new.budget) (item_cost (environment_of c.args.context.now))) c.if-not-take_item.false c.take_item.ensures) c.ends_once.ensures c.loop-at-test.true c.in-Err.stop (datum_faults c.args.context.now c.loop-at.at c.in-Err.stop c.in-Err.ensures.answers) c.in-Err.ensures.spent

pub collection_walk::listed_at-returns-then-not-take-clause-spent : goal.collection_walk::listed_at-returns-then-not-take-clause-spent
collection_walk::listed_at-returns-then-not-take-clause-spent g t c =
    item_is_costly c.args.context.now c.args.place c.stop_of-own_stop.result c.loop-at.at c.args.left.now (g.B.Counting.left c.args.budget.now) (g.B.Counting.left c.loop-at.budget) c.loop-at.invariant (g.B.Counting.left c.take_item.new.budget) (g.B.Counting.left c.likely_stored_at.new.budget) (subst (λ (b : Bool). IsTaken b (g.B.Counting.left c.loop-at.budget) (g.B.Counting.left c.take_item.new.budget) (item_cost (environment_of c.args.context.now))) c.if-not-take_item.false c.take_item.ensures) c.comparison_cost.result
    (next_due c.args.context.now c.args.place c.stop_of-own_stop.result c.loop-at.at (Takes (g.B.Counting.left c.args.budget.now) (g.B.Counting.left c.loop-at.budget)) c.args.left.now c.loop-at.invariant c.trees_have_one_type.ensures c.in-Ok.item c.in-Ok.ensures.answers c.loop-at-test.true c.ends_once.ensures c.comparison_cost.result c.comparison_cost.ensures)
    c.in-Ok.ensures.spent (subst (λ (b : Bool). IsTaken b (g.B.Counting.left c.likely_stored_at.new.budget) (g.B.Counting.left c.take.new.self) c.comparison_cost.result) c.if-not-take.true c.take.ensures) (g.B.Counting.left c.take.new.self)

pub collection_walk::listed_at-returns-then-compare-clause-spent : goal.collection_walk::listed_at-returns-then-compare-clause-spent
collection_walk::listed_at-returns-then-compare-clause-spent g t c =
    item_ends c.args.context.now c.args.place c.stop_of-own_stop.result c.loop-at.at c.args.left.now (g.B.Counting.left c.args.budget.now) (g.B.Counting.left c.loop-at.budget) c.loop-at.invariant (g.B.Counting.left c.take_item.new.budget) (g.B.Counting.left c.likely_stored_at.new.budget) (subst (λ (b : Bool). IsTaken b (g.B.Counting.left c.loop-at.budget) (g.B.Counting.left c.take_item.new.budget) (item_cost (environment_of c.args.context.now))) c.if-not-take_item.false c.take_item.ensures) (g.B.Counting.left c.take.new.self) c.comparison_cost.result (subst (λ (b : Bool). IsTaken b (g.B.Counting.left c.likely_stored_at.new.budget) (g.B.Counting.left c.take.new.self) c.comparison_cost.result) c.if-not-take.false c.take.ensures)
    (equal_due c.args.context.now c.args.place c.stop_of-own_stop.result c.loop-at.at (Takes (g.B.Counting.left c.args.budget.now) (g.B.Counting.left c.loop-at.budget)) c.args.left.now c.loop-at.invariant c.trees_have_one_type.ensures c.in-Ok.item c.in-Ok.ensures.answers c.loop-at-test.true c.ends_once.ensures c.compare.result c.compare.ensures c.if-compare.true c.comparison_cost.result c.comparison_cost.ensures)
    c.in-Ok.ensures.spent
