use Rattle.sql_forms.proofs.Common.{Value, CheckedNode, NodeKind, found_there, inside, some_there, there_found, ArithFault, IsQuietKind, TakesCount, Form, CheckedHas, AreArgumentsOf, CalledHas, IsChain, IsJoin, IsOfValues, ComparesNothing, ComparisonHas, IsFaulty, AllHave, faults_front, AmongHas, AreConstants, AreItemsOf, AreMembersBeside, AsCode, EqualCodesOrNull, EqualsHas, kept_form, body_form, missing_front, ArithmeticOperator, BinaryOperator, ComparisonOperator, LogicalOperator, Quantifier, by_node, on_ok, literal_spelled, literal_within, path_on, Grows, GrowsBy, AreCompared, kind_of_type, IsInside, IsPut, IsSourceOf, IsTested, IsFaultless, IsKindAt, IsStep, IsTruthAt, IsTruthKind, question_of, OfPlace, Puts, PutsAll, Draft, Operand, Source, Kind, Carrier, Digit, SqlNode, SqlType, All, List, None, OnOk, Result, [], ap, arith, false, get_or, inl, inr, length, pos, refl, rules, subst, suc, sym, true, ℕ, ◌++◌, ◌+◌, ◌-◌, ◌/◌, ◌<ℤ◌, ◌<◌, ◌∙◌, ◌∷◌, ◌≡◌, ◌≢◌, ◌≤◌, nil_from_length, slice_get-get_or, slice_get_read, slice_get_within, AllByRecursion, slice_get, Range}
use Rattle.sql_forms.specs.Forms.{IsInForm}
use Rattle.sql_outcomes.specs.private.ValueForms.{Itself, OrTruth}
use Rattle.sql_forms.proofs.answers.AlongAnswers.{kind_inside, node_is_at}
use Rattle.sql_forms.proofs.answers.CallAnswers.{ok_call, ok_call_code, ok_called, ok_counted, small_of}
use Rattle.sql_forms.proofs.answers.CodedAnswers.{faulty_coded, not_coded, null_after_truth, null_before_truth, ok_after_null, ok_before_null, ok_compared_code, ok_flags, ok_only_code, ok_truths}
use Rattle.sql_forms.proofs.answers.ConstantAnswers.{item_put, item_value, left_put}
use Rattle.sql_forms.proofs.answers.DecidedAnswers.{asked_not_both, front_faultless, only_front, only_rest, two_parts}
use Rattle.sql_forms.proofs.answers.EqualAnswers.{ok_one_code, ok_one_equal, ok_over_left}
use Rattle.sql_forms.proofs.answers.FlagAnswers.{ok_flags_node, other_step}
use Rattle.sql_forms.proofs.answers.HalfAnswers.{both_parts, front_beside, front_some, of_front, of_rest, rest_beside, rest_some}
use Rattle.sql_forms.proofs.answers.InPathAnswers.{beside, collection, comes_so, in_path_there, left_boolean, left_faultless, left_tested, left_tested_plainly, member_truth, ok_in_path, ok_kept_in_path, ok_lifted_code, ok_over_members, ok_over_plain, ok_plain_code, ok_truth_in_path, path_opened}
use Rattle.sql_forms.proofs.answers.ListAnswers.{beside as of_list_answers_beside, boolean_truth, comes_so as of_list_answers_comes_so, is_truth_operand, items_compared, items_faulty, left_boolean as of_list_answers_left_boolean, left_faultless as of_list_answers_left_faultless, left_faulty, ok_among_kept, ok_among_plain, ok_among_truth, ok_both_codes, ok_both_equal, ok_list, ok_list_code, ok_list_plain_code, ok_never, ok_no_code, ok_none_equal, ok_same_items, ok_truth_list, truth_operand}
use Rattle.sql_forms.proofs.answers.LoopAnswers.{AmongSoFar, FunctionSoFar, among_ends, among_goes_on, among_starts, function_ends, function_goes_on, function_starts}
use Rattle.sql_forms.proofs.answers.MemberAnswers.{after_nothing, any_of, body_made, null_any, null_never, ok_all, ok_any, ok_by, ok_decided, ok_given_code, ok_kept_all, ok_kept_given, ok_lambda, ok_missing_code, popped_one}
use Rattle.sql_forms.proofs.answers.NodeAnswers.{boolean_of, boolean_there, chain_is, connective_here, fault_there, faultless_there, kind_found, kind_here, kind_there, plain_faultless, plain_side, quiet_faultless, truth_at, truth_inside, truth_ranged}
use Rattle.sql_forms.proofs.answers.NumberAnswers.{ok_checked, ok_safe}
use Rattle.sql_forms.proofs.answers.RequiredAnswers.{at_all, empty_length, negated_child, no_place, node_plain, node_there, node_valued, not_so, or_equal, own_carried, some_length}
use Rattle.sql_forms.proofs.answers.ZeroAnswers.{zero_bounded, zero_high, zero_low, zero_may_be_put}
use Rattle.sql_outcomes.proofs.nodes.ArithmeticNodes.{calculated_node, negated_node}
use Rattle.sql_outcomes.proofs.nodes.BelowNodes.{below_faultless, body_there, lambda_body, lambda_path, not_below}
use Rattle.sql_outcomes.proofs.nodes.CallSuits.{arguments_given}
use Rattle.sql_outcomes.proofs.nodes.ChildPlaces.{first_child, flags_inside, has_range, lambda_inside, list_child, operator_inside, path_inside, second_child}
use Rattle.sql_outcomes.proofs.nodes.ComparisonPlaces.{side_faulty}
use Rattle.sql_outcomes.proofs.nodes.ComparisonsAt.{node_operand}
use Rattle.sql_outcomes.proofs.nodes.FlagSides.{flag_sides}
use Rattle.sql_outcomes.proofs.nodes.Given.{all_inside, chain_faultless, faultless_plain, faulty_inside, first_put, kind_path, negated_put, not_null, null_there, of_field, put_inside, second_put, terms_ranged}
use Rattle.sql_forms.proofs.puts.FormsPut.{asked_no_truth, code_values}
use Rattle.sql_outcomes.proofs.nodes.InPathNodes.{at_place}
use Rattle.sql_outcomes.proofs.nodes.InPathPlaces.{beside_collection, members_truth}
use Rattle.sql_outcomes.proofs.nodes.ListPlaces.{items_few}
use Rattle.sql_forms.proofs.Measures.{down_to, left_among, left_by, left_from, left_in, left_of, on_from}
use Rattle.sql_forms.proofs.MeasuresLess.{arguments_left, lifted_bound_left, lifted_inner_left, lifted_one_left, lifted_two_left, one_left, sides_left, term_left, terms_left, two_left}
use Rattle.sql_forms.proofs.MeasuresSteps.{at_on, bound_beside_left, bound_left_left, front_left, front_terms, further_on, item_left, items_on, lifted_left_left, member_left, next_on, node_left, nothing_on, parts_length, rest_left, rest_terms, second_after, side_on, swap_left, two_on}
use Rattle.sql_outcomes.proofs.nodes.Contexts.{paths_by_laws}
use Rattle.sql_outcomes.proofs.nodes.StructuredNodes.{node_tested, not_testable, nullable_path}
use Rattle.sql_outcomes.proofs.nodes.TruthKinds.{no_other_truth, other_kind}
use Rattle.sql_outcomes.proofs.nodes.ValueNodes.{computed_by, counted_path, negation_computed, operator_computed, path_here}
use Rattle.sql_forms.proofs.answers.ArithmeticAnswers.{ok_divided, ok_is_zero, ok_undivided, ok_wide, ok_wide_zero}
use Rattle.sql_forms.proofs.answers.ChainAnswers.{ok_all_joined, ok_alone, ok_chain, ok_form, ok_joined, ok_same_terms, ok_undecided}
use Rattle.sql_forms.proofs.answers.CodeAnswers.{ok_code_bound, ok_code_node}
use Rattle.sql_outcomes.proofs.outcomes.ComparedValues.{alike_of, tested_put}
use Rattle.sql_forms.proofs.answers.ComparisonAnswers.{ok_beside_false, ok_beside_not, ok_beside_null, ok_denied, ok_given, ok_is_true, ok_kept, ok_kept_strict, ok_left_null, ok_right_null, ok_same, ok_strict, ok_unequal, order_of, true_of_nulls}
use Rattle.sql_forms.proofs.answers.ComparisonsReported.{ok_not_equal, ok_opposite, reported_enough, reported_one, reported_order}
use Rattle.sql_forms.proofs.answers.InstantAnswers.{ok_literal_instant, ok_now, ok_of_moment}
use Rattle.sql_forms.proofs.lets.InsideLet.{alike_in, all_put, holds_inside, holds_of_bound, inner_length, kind_in, put_in, bound_may_be_put, compared_inside_let, tested_inside_let, beside_first, faulty_first, kind_first, tested_first}
use Rattle.sql_outcomes.proofs.outcomes.LiftedOperands.{each, put_bound, tested_value}
use Rattle.sql_forms.proofs.answers.LiteralAnswers.{literal_at}
use Rattle.sql_forms.proofs.answers.OperandAnswers.{ok_always, ok_bound, ok_compared, ok_field, ok_missing, ok_never as of_operand_answers_ok_never, ok_node, ok_null, ok_number, ok_path, ok_unfaulted, ok_zero}
use Rattle.sql_outcomes.proofs.outcomes.TestedBoth.{untrue_tested}
use Rattle.sql_forms.proofs.answers.TruthAnswers.{ok_code_by_truth, ok_comparison, ok_comparison_code, ok_denies_by_truth, ok_has_code, ok_keeps_by_truth, ok_literal, ok_not_code, ok_not_denies, ok_not_keeps, ok_not_truth, ok_null_asked, ok_null_truth}
use Rattle.sql_forms.proofs.answers.ValueAnswers.{ok_calculated_value, ok_counted_value, ok_now_value, ok_null_value}
use Rattle.sql_outcomes.proofs.outcomes.ValueWalk.{no_value_put, one_value_put}
use Rattle.sql_forms.proofs.puts.HasMemberPut.{has_member_put, member_compared, member_tested}
use Rattle.sql_forms.proofs.lets.OrNullsLet.{ok_or_nulls}
use Rattle.sql_outcomes.specs.private.FaultySides.{IsCoded}
use Rattle.odata_syntax.specs.contracts.binary_operator.ComparisonOperator.{the_type}
use Rattle.odata_syntax.specs.contracts.node.Quantifier.{the_type as of_quantifier_the_type}
use Rattle.std.specs.declared.alloc.AllocError.{AllocError}
use Rattle.sql_tree.specs.contracts.sql_node.SqlType.{the_type as of_sql_type_the_type}
use Rattle.std.proofs.lemmas.List.Elements.{All-get_or}
use denote.Enum.Bare.{same_true, true_same}
use Rattle.sql_forms.proofs.+put.Goals.{arithmetic_forms::put_checked-else-by_zero, arithmetic_forms::put_checked-then-by_zero+in_ok-put+in_ok-put-2+in_ok-put_is_zero+in_ok-put-3+in_ok-put-4+in_ok-put_operand+in_ok-put_fault, call_forms::put_called-then-not-is_counting-via-else-not-is_counting+then-not-may_exceed_int32, call_forms::put_called-then-not-is_counting-via-then-not-is_counting, keeps::put_denies-in-And, keeps::put_denies-in-Or, keeps::put_keeps-in-And, keeps::put_keeps-in-Or, lambda::put_kept_lambda-else-eq-via-else-eq, lambda::put_kept_lambda-else-eq-via-then-eq+else-range, list_forms::put_list-else-left, list_forms::put_list-then-left+in_ok-put}
use Rattle.sql_forms.proofs.+put.Goals as goal

-- ---- arithmetic_forms::put_calculated

pub arithmetic_forms::put_calculated-number_type-prim-requires-clause-number : goal.arithmetic_forms::put_calculated-number_type-prim-requires-clause-number
arithmetic_forms::put_calculated-number_type-prim-requires-clause-number t c = c.requires.number

pub arithmetic_forms::put_calculated-is_safe-safe-requires-clause-number : goal.arithmetic_forms::put_calculated-is_safe-safe-requires-clause-number
arithmetic_forms::put_calculated-is_safe-safe-requires-clause-number t c = c.number_type-prim.ensures.0

pub arithmetic_forms::put_calculated-bind_operands-requires-clause-inside : goal.arithmetic_forms::put_calculated-bind_operands-requires-clause-inside
arithmetic_forms::put_calculated-bind_operands-requires-clause-inside t c =
    each (λ (operand : Operand). IsInside c.args.context.now.checked.now operand.source) (c.args.left.now ∷ c.args.right.now ∷ []) (put_inside c.args.context.now.checked.now c.args.context.now.ranges.now c.args.left.now c.requires.left, (put_inside c.args.context.now.checked.now c.args.context.now.ranges.now c.args.right.now c.requires.right, tt))

pub arithmetic_forms::put_calculated-bind_operands-requires-clause-valued : goal.arithmetic_forms::put_calculated-bind_operands-requires-clause-valued
arithmetic_forms::put_calculated-bind_operands-requires-clause-valued t c = λ all. (c.requires.left.valued, (c.requires.right.valued, tt))

pub arithmetic_forms::put_calculated-first-first-requires : goal.arithmetic_forms::put_calculated-first-first-requires
arithmetic_forms::put_calculated-first-first-requires t c =
    let two : length c.in_ok-lifted.lifted.inner.items ≡ 2 = inner_length (c.args.left.now ∷ c.args.right.now ∷ []) c.args.draft.now.depth c.in_ok-lifted.lifted c.in_ok-lifted.ensures in
    omega (arith, two)

pub arithmetic_forms::put_calculated-second-second-requires : goal.arithmetic_forms::put_calculated-second-second-requires
arithmetic_forms::put_calculated-second-second-requires t c =
    let two : length c.in_ok-lifted.lifted.inner.items ≡ 2 = inner_length (c.args.left.now ∷ c.args.right.now ∷ []) c.args.draft.now.depth c.in_ok-lifted.lifted c.in_ok-lifted.ensures in
    omega (arith, two)

pub arithmetic_forms::put_calculated-put_faults-requires : goal.arithmetic_forms::put_calculated-put_faults-requires
arithmetic_forms::put_calculated-put_faults-requires t c = c.in_ok-lifted.ensures.few

pub arithmetic_forms::put_calculated-returns-then-safe : goal.arithmetic_forms::put_calculated-returns-then-safe
arithmetic_forms::put_calculated-returns-then-safe t c =
    ok_safe (question_of c.args.context.now) c.args.operator c.args.place c.number_type-prim.result c.number_type-prim.ensures c.args.left.now c.args.right.now c.first-first.result c.second-second.result c.in_ok-lifted.lifted c.args.draft.now c.open.new.draft c.put_faults.new.draft c.put_operand-then-safe.new.draft c.close.new.draft c.in_ok-lifted.ensures c.in_ok-open.ensures c.in_ok-put_faults.ensures c.first-first.ensures c.second-second.ensures c.close.result c.close.ensures.values c.close.ensures.idle (c.is_safe-safe.ensures.safe c.if-safe.true)
    c.put.new.self c.put_operand.new.draft c.in_ok-put.ensures.ok c.in_ok-put_operand.ensures c.in_ok-put_operand-2.ensures

pub arithmetic_forms::put_calculated-returns : goal.arithmetic_forms::put_calculated-returns
arithmetic_forms::put_calculated-returns t c =
    ok_checked (question_of c.args.context.now) c.args.operator c.args.place c.number_type-prim.result c.number_type-prim.ensures c.args.left.now c.args.right.now c.first-first.result c.second-second.result c.in_ok-lifted.lifted c.args.draft.now c.open.new.draft c.put_faults.new.draft c.put_checked.new.draft c.close-2.new.draft c.in_ok-lifted.ensures c.in_ok-open.ensures c.in_ok-put_faults.ensures c.first-first.ensures c.second-second.ensures c.close-2.result c.close-2.ensures.values c.close-2.ensures.idle c.in_ok-put_checked.ensures

pub arithmetic_forms::put_calculated-put_operand-requires : goal.arithmetic_forms::put_calculated-put_operand-requires
arithmetic_forms::put_calculated-put_operand-requires t c = (
  omega (arith, down_to c.args.context.now.checked.now (left_of c.args.context.now.checked.now c.first-first.result) (left_in c.args.context.now.checked.now (c.args.left.now ∷ c.args.right.now ∷ [])) 10 14 (lifted_one_left c.args.context.now.checked.now (c.args.left.now ∷ c.args.right.now ∷ []) c.args.draft.now.depth c.in_ok-lifted.lifted c.in_ok-lifted.ensures 0 c.first-first.result c.first-first.ensures) (omega arith)),
  (c.requires.translated, put_in c.args.context.now.checked.now c.args.context.now.ranges.now c.args.left.now c.args.right.now c.args.draft.now.depth c.in_ok-lifted.lifted 0 c.first-first.result c.in_ok-lifted.ensures c.requires.left c.requires.right c.first-first.ensures),
)

pub arithmetic_forms::put_calculated-put_operand-requires-then-safe : goal.arithmetic_forms::put_calculated-put_operand-requires-then-safe
arithmetic_forms::put_calculated-put_operand-requires-then-safe t c = (
  omega (arith, down_to c.args.context.now.checked.now (left_of c.args.context.now.checked.now c.second-second.result) (left_in c.args.context.now.checked.now (c.args.left.now ∷ c.args.right.now ∷ [])) 10 14 (lifted_one_left c.args.context.now.checked.now (c.args.left.now ∷ c.args.right.now ∷ []) c.args.draft.now.depth c.in_ok-lifted.lifted c.in_ok-lifted.ensures 1 c.second-second.result c.second-second.ensures) (omega arith)),
  (c.requires.translated, put_in c.args.context.now.checked.now c.args.context.now.ranges.now c.args.left.now c.args.right.now c.args.draft.now.depth c.in_ok-lifted.lifted 1 c.second-second.result c.in_ok-lifted.ensures c.requires.left c.requires.right c.second-second.ensures),
)

pub arithmetic_forms::put_calculated-close-requires : goal.arithmetic_forms::put_calculated-close-requires
arithmetic_forms::put_calculated-close-requires t c = (
  omega (arith, down_to c.args.context.now.checked.now (left_in c.args.context.now.checked.now c.in_ok-lifted.lifted.bound.items) (left_in c.args.context.now.checked.now (c.args.left.now ∷ c.args.right.now ∷ [])) 11 14 (lifted_bound_left c.args.context.now.checked.now (c.args.left.now ∷ c.args.right.now ∷ []) c.args.draft.now.depth c.in_ok-lifted.lifted c.in_ok-lifted.ensures) (omega arith)),
  (c.requires.translated, (all_put c.args.context.now.checked.now c.args.context.now.ranges.now c.args.left.now c.args.right.now c.args.draft.now.depth c.in_ok-lifted.lifted c.in_ok-lifted.ensures c.requires.left c.requires.right, omega (arith, c.in_ok-open.ensures.depth, c.in_ok-put_faults.ensures.depth, c.in_ok-put.ensures.ok.depth, c.in_ok-put_operand.ensures.grows.depth, c.in_ok-put_operand-2.ensures.grows.depth))),
)

pub arithmetic_forms::put_calculated-put_checked-requires : goal.arithmetic_forms::put_calculated-put_checked-requires
arithmetic_forms::put_calculated-put_checked-requires t c = (
  omega (arith, down_to c.args.context.now.checked.now (left_in c.args.context.now.checked.now (c.first-first.result ∷ c.second-second.result ∷ [])) (left_in c.args.context.now.checked.now (c.args.left.now ∷ c.args.right.now ∷ [])) 13 14 (lifted_two_left c.args.context.now.checked.now (c.args.left.now ∷ c.args.right.now ∷ []) c.args.draft.now.depth c.in_ok-lifted.lifted c.in_ok-lifted.ensures c.first-first.result c.second-second.result c.first-first.ensures c.second-second.ensures) (omega arith)),
  (c.requires.translated, (put_in c.args.context.now.checked.now c.args.context.now.ranges.now c.args.left.now c.args.right.now c.args.draft.now.depth c.in_ok-lifted.lifted 0 c.first-first.result c.in_ok-lifted.ensures c.requires.left c.requires.right c.first-first.ensures, (put_in c.args.context.now.checked.now c.args.context.now.ranges.now c.args.left.now c.args.right.now c.args.draft.now.depth c.in_ok-lifted.lifted 1 c.second-second.result c.in_ok-lifted.ensures c.requires.left c.requires.right c.second-second.ensures, c.number_type-prim.ensures.0))),
)

pub arithmetic_forms::put_calculated-close-requires-2 : goal.arithmetic_forms::put_calculated-close-requires-2
arithmetic_forms::put_calculated-close-requires-2 t c = (
  omega (arith, down_to c.args.context.now.checked.now (left_in c.args.context.now.checked.now c.in_ok-lifted.lifted.bound.items) (left_in c.args.context.now.checked.now (c.args.left.now ∷ c.args.right.now ∷ [])) 11 14 (lifted_bound_left c.args.context.now.checked.now (c.args.left.now ∷ c.args.right.now ∷ []) c.args.draft.now.depth c.in_ok-lifted.lifted c.in_ok-lifted.ensures) (omega arith)),
  (c.requires.translated, (all_put c.args.context.now.checked.now c.args.context.now.ranges.now c.args.left.now c.args.right.now c.args.draft.now.depth c.in_ok-lifted.lifted c.in_ok-lifted.ensures c.requires.left c.requires.right, omega (arith, c.in_ok-open.ensures.depth, c.in_ok-put_faults.ensures.depth, c.in_ok-put_checked.ensures.grows.depth))),
)

-- ---- arithmetic_forms::put_checked

pub arithmetic_forms::put_checked-returns : goal.arithmetic_forms::put_checked-returns
arithmetic_forms::put_checked-returns t c =
    elim c.if-by_zero.branch [
      | arithmetic_forms::put_checked-then-by_zero+in_ok-put+in_ok-put-2+in_ok-put_is_zero+in_ok-put-3+in_ok-put-4+in_ok-put_operand+in_ok-put_fault w ↦
          ok_divided (question_of c.args.context.now) c.args.operator c.args.left.now c.args.right.now (record { there = c.divisions_are_unique.ensures.there; by_zero = c.divisions_are_unique.ensures.zero; one = record { quotient = c.divisions_are_unique.ensures.quotient; remainder = c.divisions_are_unique.ensures.remainder } }) c.args.prim c.may_divide_by_zero-by_zero.result c.args.draft.now w.put.new.self w.put-then-by_zero.new.self w.put_is_zero.new.draft w.put-then-by_zero-2.new.self w.put-then-by_zero-3.new.self w.put_operand.new.draft c.if-by_zero.draft c.put-2.new.self c.put-3.new.self c.put-4.new.self c.put_unbounded.new.draft c.put_fault-2.new.draft c.put_unbounded-2.new.draft c.put_unbounded-2.result w.if-by_zero.true
          (c.may_divide_by_zero-by_zero.ensures.0 w.if-by_zero.true).0 w.in_ok-put.ensures.ok w.in_ok-put-2.ensures.ok w.in_ok-put_is_zero.ensures w.in_ok-put-3.ensures.ok w.in_ok-put-4.ensures.ok w.in_ok-put_operand.ensures
          (subst (λ (d : Draft). Grows w.put_operand.new.draft d (SqlNode.Fault Carrier.Number ArithFault.DivideByZero ∷ [])) (sym w.draft-is) w.in_ok-put_fault.ensures) c.in_ok-put-5.ensures.ok c.in_ok-put-6.ensures.ok c.in_ok-put-7.ensures.ok c.in_ok-put_unbounded.ensures c.in_ok-put_fault-2.ensures c.put_unbounded-2.ensures
      | arithmetic_forms::put_checked-else-by_zero w ↦
          subst (λ (d : Draft). OnOk c.put_unbounded-2.result (Puts (question_of c.args.context.now) d c.put_unbounded-2.new.draft (CheckedHas c.args.context.now.checked.now c.args.operator c.args.prim c.args.left.now c.args.right.now) Itself)) w.draft-is
          (ok_undivided (question_of c.args.context.now) c.args.operator c.args.left.now c.args.right.now (record { there = c.divisions_are_unique.ensures.there; by_zero = c.divisions_are_unique.ensures.zero; one = record { quotient = c.divisions_are_unique.ensures.quotient; remainder = c.divisions_are_unique.ensures.remainder } }) c.args.prim c.may_divide_by_zero-by_zero.result c.if-by_zero.draft c.put-2.new.self c.put-3.new.self c.put-4.new.self c.put_unbounded.new.draft c.put_fault-2.new.draft c.put_unbounded-2.new.draft c.put_unbounded-2.result w.if-by_zero.false (λ divides zero. c.may_divide_by_zero-by_zero.ensures.1 (divides, zero)) c.in_ok-put-5.ensures.ok c.in_ok-put-6.ensures.ok c.in_ok-put-7.ensures.ok c.in_ok-put_unbounded.ensures c.in_ok-put_fault-2.ensures c.put_unbounded-2.ensures)
    ]

pub arithmetic_forms::put_checked-put_is_zero-requires : goal.arithmetic_forms::put_checked-put_is_zero-requires
arithmetic_forms::put_checked-put_is_zero-requires t c = (
  omega (arith, down_to c.args.context.now.checked.now (left_of c.args.context.now.checked.now c.args.right.now) (left_in c.args.context.now.checked.now (c.args.left.now ∷ c.args.right.now ∷ [])) 11 13 (one_left c.args.context.now.checked.now (c.args.left.now ∷ c.args.right.now ∷ []) 1 c.args.right.now refl) (omega arith)),
  (c.requires.translated, c.requires.right),
)

pub arithmetic_forms::put_checked-put_operand-requires : goal.arithmetic_forms::put_checked-put_operand-requires
arithmetic_forms::put_checked-put_operand-requires t c = (
  omega (arith, down_to c.args.context.now.checked.now (left_of c.args.context.now.checked.now c.args.left.now) (left_in c.args.context.now.checked.now (c.args.left.now ∷ c.args.right.now ∷ [])) 10 13 (one_left c.args.context.now.checked.now (c.args.left.now ∷ c.args.right.now ∷ []) 0 c.args.left.now refl) (omega arith)),
  (c.requires.translated, c.requires.left),
)

pub arithmetic_forms::put_checked-put_unbounded-requires : goal.arithmetic_forms::put_checked-put_unbounded-requires
arithmetic_forms::put_checked-put_unbounded-requires t c = (omega arith, (c.requires.translated, (c.requires.left, c.requires.right)))

pub arithmetic_forms::put_checked-put_unbounded-requires-2 : goal.arithmetic_forms::put_checked-put_unbounded-requires-2
arithmetic_forms::put_checked-put_unbounded-requires-2 t c = (omega arith, (c.requires.translated, (c.requires.left, c.requires.right)))

-- ---- arithmetic_forms::put_is_zero

pub arithmetic_forms::put_is_zero-returns : goal.arithmetic_forms::put_is_zero-returns
arithmetic_forms::put_is_zero-returns t c =
    ok_is_zero (question_of c.args.context.now) c.args.operand.now c.args.draft.now c.put.new.self c.put_operand.new.draft c.put_number.new.self c.put_number.result c.in_ok-put.ensures.ok c.in_ok-put_operand.ensures c.put_number.ensures.ok

pub arithmetic_forms::put_is_zero-put_operand-requires : goal.arithmetic_forms::put_is_zero-put_operand-requires
arithmetic_forms::put_is_zero-put_operand-requires t c = (omega arith, (c.requires.translated, c.requires.put))

-- ---- arithmetic_forms::put_unbounded

pub arithmetic_forms::put_unbounded-returns-then-by_zero : goal.arithmetic_forms::put_unbounded-returns-then-by_zero
arithmetic_forms::put_unbounded-returns-then-by_zero t c =
    ok_wide_zero (question_of c.args.context.now) c.args.operator c.args.left.now c.args.right.now c.args.by_zero c.args.draft.now c.put.new.self c.put_operand.new.draft c.put-then-by_zero.new.self c.put_is_zero.new.draft c.put-then-by_zero-2.new.self c.put_operand-then-by_zero.new.draft c.put_operand-then-by_zero.result c.if-by_zero.true
    c.in_ok-put.ensures.ok c.in_ok-put_operand.ensures c.in_ok-put-2.ensures.ok c.in_ok-put_is_zero.ensures c.in_ok-put-3.ensures.ok c.put_operand-then-by_zero.ensures

pub arithmetic_forms::put_unbounded-returns : goal.arithmetic_forms::put_unbounded-returns
arithmetic_forms::put_unbounded-returns t c =
    ok_wide (question_of c.args.context.now) c.args.operator c.args.left.now c.args.right.now c.args.by_zero c.args.draft.now c.put.new.self c.put_operand.new.draft c.put_operand-2.new.draft c.put_operand-2.result c.if-by_zero.false c.in_ok-put.ensures.ok c.in_ok-put_operand.ensures c.put_operand-2.ensures

pub arithmetic_forms::put_unbounded-put_operand-requires : goal.arithmetic_forms::put_unbounded-put_operand-requires
arithmetic_forms::put_unbounded-put_operand-requires t c = (
  omega (arith, down_to c.args.context.now.checked.now (left_of c.args.context.now.checked.now c.args.left.now) (left_in c.args.context.now.checked.now (c.args.left.now ∷ c.args.right.now ∷ [])) 10 12 (one_left c.args.context.now.checked.now (c.args.left.now ∷ c.args.right.now ∷ []) 0 c.args.left.now refl) (omega arith)),
  (c.requires.translated, c.requires.left),
)

pub arithmetic_forms::put_unbounded-put_is_zero-requires : goal.arithmetic_forms::put_unbounded-put_is_zero-requires
arithmetic_forms::put_unbounded-put_is_zero-requires t c = (
  omega (arith, down_to c.args.context.now.checked.now (left_of c.args.context.now.checked.now c.args.right.now) (left_in c.args.context.now.checked.now (c.args.left.now ∷ c.args.right.now ∷ [])) 11 12 (one_left c.args.context.now.checked.now (c.args.left.now ∷ c.args.right.now ∷ []) 1 c.args.right.now refl) (omega arith)),
  (c.requires.translated, c.requires.right),
)

pub arithmetic_forms::put_unbounded-put_operand-requires-then-by_zero : goal.arithmetic_forms::put_unbounded-put_operand-requires-then-by_zero
arithmetic_forms::put_unbounded-put_operand-requires-then-by_zero t c = (
  omega (arith, down_to c.args.context.now.checked.now (left_of c.args.context.now.checked.now c.args.right.now) (left_in c.args.context.now.checked.now (c.args.left.now ∷ c.args.right.now ∷ [])) 10 12 (one_left c.args.context.now.checked.now (c.args.left.now ∷ c.args.right.now ∷ []) 1 c.args.right.now refl) (omega arith)),
  (c.requires.translated, c.requires.right),
)

pub arithmetic_forms::put_unbounded-put_operand-requires-2 : goal.arithmetic_forms::put_unbounded-put_operand-requires-2
arithmetic_forms::put_unbounded-put_operand-requires-2 t c = (
  omega (arith, down_to c.args.context.now.checked.now (left_of c.args.context.now.checked.now c.args.right.now) (left_in c.args.context.now.checked.now (c.args.left.now ∷ c.args.right.now ∷ [])) 10 12 (one_left c.args.context.now.checked.now (c.args.left.now ∷ c.args.right.now ∷ []) 1 c.args.right.now refl) (omega arith)),
  (c.requires.translated, c.requires.right),
)

-- ---- call_forms::put_call

pub call_forms::put_call-bind_operands-requires-clause-inside : goal.call_forms::put_call-bind_operands-requires-clause-inside
call_forms::put_call-bind_operands-requires-clause-inside t c =
    let n = some_there (λ (found : CheckedNode). found.kind ≡ NodeKind.Call c.args.function) (slice_get c.args.context.now.checked.now.list.nodes c.args.place) c.requires.kind in
    let given = arguments_given c.args.context.now.checked.now c.requires.translated.right c.trees_have_one_type.ensures c.calls_have_one_type.ensures.named c.args.context.now.ranges.now c.args.place n.0 n.1.0 c.args.function n.1.1 c.as_slice.result.now (subst (AreArgumentsOf c.args.context.now.checked.now c.args.context.now.ranges.now c.args.place) (sym c.as_slice.ensures.value) c.in_ok-operands.ensures) in
    each (λ (operand : Operand). IsInside c.args.context.now.checked.now operand.source) c.as_slice.result.now (all_inside c.args.context.now.checked.now c.args.context.now.ranges.now c.as_slice.result.now given.put)

pub call_forms::put_call-bind_operands-requires-clause-valued : goal.call_forms::put_call-bind_operands-requires-clause-valued
call_forms::put_call-bind_operands-requires-clause-valued t c = λ all. let never : false ≡ true = all in absurd (cc)

pub call_forms::put_call-put_carried_faults-requires : goal.call_forms::put_call-put_carried_faults-requires
call_forms::put_call-put_carried_faults-requires t c = c.in_ok-lifted.ensures.few

pub call_forms::put_call-returns : goal.call_forms::put_call-returns
call_forms::put_call-returns t c =
    ok_call (question_of c.args.context.now) c.trees_have_one_type.ensures c.typed_trees_end_once_on_entities.ensures c.requires.translated.moment c.calls_have_one_type.ensures.named c.args.context.now.ranges.now c.requires.translated.ranges c.requires.translated.right c.args.place c.args.function c.requires.kind c.as_slice.result.now (subst (AreArgumentsOf c.args.context.now.checked.now c.args.context.now.ranges.now c.args.place) (sym c.as_slice.ensures.value) c.in_ok-operands.ensures) c.in_ok-lifted.lifted c.args.draft.now c.in_ok-lifted.ensures c.close.result c.open.new.draft c.put_carried_faults.new.draft c.put_called.new.draft c.close.new.draft c.in_ok-open.ensures c.close.ensures.values c.close.ensures.idle
    c.carrier_of-carrier.result c.carrier_of-carrier.ensures.none c.requires.plain c.in_ok-put_carried_faults.ensures (subst (λ (xs : List Operand). Puts (question_of c.args.context.now) c.put_carried_faults.new.draft c.put_called.new.draft (CalledHas c.args.context.now.checked.now c.args.function xs) Itself) c.as_slice-2.ensures.value c.in_ok-put_called.ensures)

pub call_forms::put_call-arguments_of-requires-clause-call : goal.call_forms::put_call-arguments_of-requires-clause-call
call_forms::put_call-arguments_of-requires-clause-call t c = (c.args.function, c.requires.kind)

pub call_forms::put_call-own_carrier-own-requires : goal.call_forms::put_call-own_carrier-own-requires
call_forms::put_call-own_carrier-own-requires t c =
    has_range (question_of c.args.context.now) c.args.context.now.ranges.now c.requires.translated.ranges c.args.place (kind_inside c.args.context.now.checked.now c.args.place (NodeKind.Call c.args.function) c.requires.kind)

pub call_forms::put_call-put_called-requires : goal.call_forms::put_call-put_called-requires
call_forms::put_call-put_called-requires t c = (
  omega (arith, on_from c.args.context.now.checked.now (left_in c.args.context.now.checked.now c.as_slice-2.result.now) (left_from c.args.context.now.checked.now c.args.place) 12 3 (omega (arith, arguments_left c.args.context.now.checked.now c.args.place (kind_inside c.args.context.now.checked.now c.args.place (NodeKind.Call c.args.function) c.requires.kind) c.args.context.now.ranges.now c.as_slice.result.now (subst (AreArgumentsOf c.args.context.now.checked.now c.args.context.now.ranges.now c.args.place) (sym c.as_slice.ensures.value) c.in_ok-operands.ensures), lifted_inner_left c.args.context.now.checked.now c.as_slice.result.now c.args.draft.now.depth c.in_ok-lifted.lifted c.in_ok-lifted.ensures, ap (left_in c.args.context.now.checked.now) c.as_slice-2.ensures.value)) (omega arith)),
  (c.requires.translated, ((let n = some_there (λ (found : CheckedNode). found.kind ≡ NodeKind.Call c.args.function) (slice_get c.args.context.now.checked.now.list.nodes c.args.place) c.requires.kind in let given = arguments_given c.args.context.now.checked.now c.requires.translated.right c.trees_have_one_type.ensures c.calls_have_one_type.ensures.named c.args.context.now.ranges.now c.args.place n.0 n.1.0 c.args.function n.1.1 c.as_slice.result.now (subst (AreArgumentsOf c.args.context.now.checked.now c.args.context.now.ranges.now c.args.place) (sym c.as_slice.ensures.value) c.in_ok-operands.ensures) in subst (All (IsPut c.args.context.now.checked.now c.args.context.now.ranges.now)) (sym c.as_slice-2.ensures.value) (holds_inside (IsPut c.args.context.now.checked.now c.args.context.now.ranges.now) (put_bound c.args.context.now.checked.now c.args.context.now.ranges.now) c.as_slice.result.now c.args.draft.now.depth c.in_ok-lifted.lifted c.in_ok-lifted.ensures given.put)), ((let n = some_there (λ (found : CheckedNode). found.kind ≡ NodeKind.Call c.args.function) (slice_get c.args.context.now.checked.now.list.nodes c.args.place) c.requires.kind in let given = arguments_given c.args.context.now.checked.now c.requires.translated.right c.trees_have_one_type.ensures c.calls_have_one_type.ensures.named c.args.context.now.ranges.now c.args.place n.0 n.1.0 c.args.function n.1.1 c.as_slice.result.now (subst (AreArgumentsOf c.args.context.now.checked.now c.args.context.now.ranges.now c.args.place) (sym c.as_slice.ensures.value) c.in_ok-operands.ensures) in let many : length c.in_ok-lifted.lifted.inner.items ≡ length c.as_slice.result.now = inner_length c.as_slice.result.now c.args.draft.now.depth c.in_ok-lifted.lifted c.in_ok-lifted.ensures in let some : 0 < length c.as_slice.result.now = given.some in let same : length c.as_slice-2.result.now ≡ length c.in_ok-lifted.lifted.inner.items = ap length c.as_slice-2.ensures.value in omega (arith, many, some, same)), ((let n = some_there (λ (found : CheckedNode). found.kind ≡ NodeKind.Call c.args.function) (slice_get c.args.context.now.checked.now.list.nodes c.args.place) c.requires.kind in let given = arguments_given c.args.context.now.checked.now c.requires.translated.right c.trees_have_one_type.ensures c.calls_have_one_type.ensures.named c.args.context.now.ranges.now c.args.place n.0 n.1.0 c.args.function n.1.1 c.as_slice.result.now (subst (AreArgumentsOf c.args.context.now.checked.now c.args.context.now.ranges.now c.args.place) (sym c.as_slice.ensures.value) c.in_ok-operands.ensures) in let many : length c.in_ok-lifted.lifted.inner.items ≡ length c.as_slice.result.now = inner_length c.as_slice.result.now c.args.draft.now.depth c.in_ok-lifted.lifted c.in_ok-lifted.ensures in let same : length c.as_slice-2.result.now ≡ length c.in_ok-lifted.lifted.inner.items = ap length c.as_slice-2.ensures.value in subst (TakesCount c.args.function) (sym (same ∙ many)) given.counted), own_carried c.args.function c.carrier_of-carrier.result c.own_carrier-own.result c.carrier_of-carrier.ensures.some c.own_carrier-own.ensures)))),
)

pub call_forms::put_call-close-requires : goal.call_forms::put_call-close-requires
call_forms::put_call-close-requires t c = (
  omega (arith, on_from c.args.context.now.checked.now (left_in c.args.context.now.checked.now c.in_ok-lifted.lifted.bound.items) (left_from c.args.context.now.checked.now c.args.place) 11 3 (omega (arith, arguments_left c.args.context.now.checked.now c.args.place (kind_inside c.args.context.now.checked.now c.args.place (NodeKind.Call c.args.function) c.requires.kind) c.args.context.now.ranges.now c.as_slice.result.now (subst (AreArgumentsOf c.args.context.now.checked.now c.args.context.now.ranges.now c.args.place) (sym c.as_slice.ensures.value) c.in_ok-operands.ensures), lifted_bound_left c.args.context.now.checked.now c.as_slice.result.now c.args.draft.now.depth c.in_ok-lifted.lifted c.in_ok-lifted.ensures)) (omega arith)),
  (c.requires.translated, ((let n = some_there (λ (found : CheckedNode). found.kind ≡ NodeKind.Call c.args.function) (slice_get c.args.context.now.checked.now.list.nodes c.args.place) c.requires.kind in let given = arguments_given c.args.context.now.checked.now c.requires.translated.right c.trees_have_one_type.ensures c.calls_have_one_type.ensures.named c.args.context.now.ranges.now c.args.place n.0 n.1.0 c.args.function n.1.1 c.as_slice.result.now (subst (AreArgumentsOf c.args.context.now.checked.now c.args.context.now.ranges.now c.args.place) (sym c.as_slice.ensures.value) c.in_ok-operands.ensures) in holds_of_bound (IsPut c.args.context.now.checked.now c.args.context.now.ranges.now) c.as_slice.result.now c.args.draft.now.depth c.in_ok-lifted.lifted c.in_ok-lifted.ensures given.put), omega (arith, c.in_ok-open.ensures.depth, c.in_ok-put_carried_faults.ensures.depth, c.in_ok-put_called.ensures.grows.depth))),
)

-- ---- call_forms::put_call_code

pub call_forms::put_call_code-bind_operands-requires-clause-inside : goal.call_forms::put_call_code-bind_operands-requires-clause-inside
call_forms::put_call_code-bind_operands-requires-clause-inside t c =
    let n = some_there (λ (found : CheckedNode). found.kind ≡ NodeKind.Call c.args.function) (slice_get c.args.context.now.checked.now.list.nodes c.args.place) c.requires.kind in
    let given = arguments_given c.args.context.now.checked.now c.requires.translated.right c.trees_have_one_type.ensures c.calls_have_one_type.ensures.named c.args.context.now.ranges.now c.args.place n.0 n.1.0 c.args.function n.1.1 c.as_slice.result.now (subst (AreArgumentsOf c.args.context.now.checked.now c.args.context.now.ranges.now c.args.place) (sym c.as_slice.ensures.value) c.in_ok-operands.ensures) in
    each (λ (operand : Operand). IsInside c.args.context.now.checked.now operand.source) c.as_slice.result.now (all_inside c.args.context.now.checked.now c.args.context.now.ranges.now c.as_slice.result.now given.put)

pub call_forms::put_call_code-bind_operands-requires-clause-valued : goal.call_forms::put_call_code-bind_operands-requires-clause-valued
call_forms::put_call_code-bind_operands-requires-clause-valued t c = λ all. let never : false ≡ true = all in absurd (cc)

pub call_forms::put_call_code-put_faults-requires : goal.call_forms::put_call_code-put_faults-requires
call_forms::put_call_code-put_faults-requires t c = c.in_ok-lifted.ensures.few

pub call_forms::put_call_code-returns : goal.call_forms::put_call_code-returns
call_forms::put_call_code-returns t c =
    ok_call_code (question_of c.args.context.now) c.trees_have_one_type.ensures c.typed_trees_end_once_on_entities.ensures c.requires.translated.moment c.calls_have_one_type.ensures.named c.args.context.now.ranges.now c.requires.translated.ranges c.requires.translated.right c.args.place c.args.function c.requires.kind c.as_slice.result.now (subst (AreArgumentsOf c.args.context.now.checked.now c.args.context.now.ranges.now c.args.place) (sym c.as_slice.ensures.value) c.in_ok-operands.ensures) c.in_ok-lifted.lifted c.args.draft.now c.in_ok-lifted.ensures c.close.result c.open.new.draft c.put_faults.new.draft c.put_called.new.draft c.close.new.draft c.in_ok-open.ensures c.close.ensures.values c.close.ensures.idle
    c.requires.truth c.in_ok-put_faults.ensures c.put.new.self c.in_ok-put.ensures.ok (subst (λ (xs : List Operand). Puts (question_of c.args.context.now) c.put.new.self c.put_called.new.draft (CalledHas c.args.context.now.checked.now c.args.function xs) Itself) c.as_slice-2.ensures.value c.in_ok-put_called.ensures)

pub call_forms::put_call_code-arguments_of-requires-clause-call : goal.call_forms::put_call_code-arguments_of-requires-clause-call
call_forms::put_call_code-arguments_of-requires-clause-call t c = (c.args.function, c.requires.kind)

pub call_forms::put_call_code-put_called-requires : goal.call_forms::put_call_code-put_called-requires
call_forms::put_call_code-put_called-requires t c = (
  omega (arith, on_from c.args.context.now.checked.now (left_in c.args.context.now.checked.now c.as_slice-2.result.now) (left_from c.args.context.now.checked.now c.args.place) 12 3 (omega (arith, arguments_left c.args.context.now.checked.now c.args.place (kind_inside c.args.context.now.checked.now c.args.place (NodeKind.Call c.args.function) c.requires.kind) c.args.context.now.ranges.now c.as_slice.result.now (subst (AreArgumentsOf c.args.context.now.checked.now c.args.context.now.ranges.now c.args.place) (sym c.as_slice.ensures.value) c.in_ok-operands.ensures), lifted_inner_left c.args.context.now.checked.now c.as_slice.result.now c.args.draft.now.depth c.in_ok-lifted.lifted c.in_ok-lifted.ensures, ap (left_in c.args.context.now.checked.now) c.as_slice-2.ensures.value)) (omega arith)),
  (c.requires.translated, ((let n = some_there (λ (found : CheckedNode). found.kind ≡ NodeKind.Call c.args.function) (slice_get c.args.context.now.checked.now.list.nodes c.args.place) c.requires.kind in let given = arguments_given c.args.context.now.checked.now c.requires.translated.right c.trees_have_one_type.ensures c.calls_have_one_type.ensures.named c.args.context.now.ranges.now c.args.place n.0 n.1.0 c.args.function n.1.1 c.as_slice.result.now (subst (AreArgumentsOf c.args.context.now.checked.now c.args.context.now.ranges.now c.args.place) (sym c.as_slice.ensures.value) c.in_ok-operands.ensures) in subst (All (IsPut c.args.context.now.checked.now c.args.context.now.ranges.now)) (sym c.as_slice-2.ensures.value) (holds_inside (IsPut c.args.context.now.checked.now c.args.context.now.ranges.now) (put_bound c.args.context.now.checked.now c.args.context.now.ranges.now) c.as_slice.result.now c.args.draft.now.depth c.in_ok-lifted.lifted c.in_ok-lifted.ensures given.put)), ((let n = some_there (λ (found : CheckedNode). found.kind ≡ NodeKind.Call c.args.function) (slice_get c.args.context.now.checked.now.list.nodes c.args.place) c.requires.kind in let given = arguments_given c.args.context.now.checked.now c.requires.translated.right c.trees_have_one_type.ensures c.calls_have_one_type.ensures.named c.args.context.now.ranges.now c.args.place n.0 n.1.0 c.args.function n.1.1 c.as_slice.result.now (subst (AreArgumentsOf c.args.context.now.checked.now c.args.context.now.ranges.now c.args.place) (sym c.as_slice.ensures.value) c.in_ok-operands.ensures) in let many : length c.in_ok-lifted.lifted.inner.items ≡ length c.as_slice.result.now = inner_length c.as_slice.result.now c.args.draft.now.depth c.in_ok-lifted.lifted c.in_ok-lifted.ensures in let some : 0 < length c.as_slice.result.now = given.some in let same : length c.as_slice-2.result.now ≡ length c.in_ok-lifted.lifted.inner.items = ap length c.as_slice-2.ensures.value in omega (arith, many, some, same)), ((let n = some_there (λ (found : CheckedNode). found.kind ≡ NodeKind.Call c.args.function) (slice_get c.args.context.now.checked.now.list.nodes c.args.place) c.requires.kind in let given = arguments_given c.args.context.now.checked.now c.requires.translated.right c.trees_have_one_type.ensures c.calls_have_one_type.ensures.named c.args.context.now.ranges.now c.args.place n.0 n.1.0 c.args.function n.1.1 c.as_slice.result.now (subst (AreArgumentsOf c.args.context.now.checked.now c.args.context.now.ranges.now c.args.place) (sym c.as_slice.ensures.value) c.in_ok-operands.ensures) in let many : length c.in_ok-lifted.lifted.inner.items ≡ length c.as_slice.result.now = inner_length c.as_slice.result.now c.args.draft.now.depth c.in_ok-lifted.lifted c.in_ok-lifted.ensures in let same : length c.as_slice-2.result.now ≡ length c.in_ok-lifted.lifted.inner.items = ap length c.as_slice-2.ensures.value in subst (TakesCount c.args.function) (sym (same ∙ many)) given.counted), tt)))),
)

pub call_forms::put_call_code-close-requires : goal.call_forms::put_call_code-close-requires
call_forms::put_call_code-close-requires t c = (
  omega (arith, on_from c.args.context.now.checked.now (left_in c.args.context.now.checked.now c.in_ok-lifted.lifted.bound.items) (left_from c.args.context.now.checked.now c.args.place) 11 3 (omega (arith, arguments_left c.args.context.now.checked.now c.args.place (kind_inside c.args.context.now.checked.now c.args.place (NodeKind.Call c.args.function) c.requires.kind) c.args.context.now.ranges.now c.as_slice.result.now (subst (AreArgumentsOf c.args.context.now.checked.now c.args.context.now.ranges.now c.args.place) (sym c.as_slice.ensures.value) c.in_ok-operands.ensures), lifted_bound_left c.args.context.now.checked.now c.as_slice.result.now c.args.draft.now.depth c.in_ok-lifted.lifted c.in_ok-lifted.ensures)) (omega arith)),
  (c.requires.translated, ((let n = some_there (λ (found : CheckedNode). found.kind ≡ NodeKind.Call c.args.function) (slice_get c.args.context.now.checked.now.list.nodes c.args.place) c.requires.kind in let given = arguments_given c.args.context.now.checked.now c.requires.translated.right c.trees_have_one_type.ensures c.calls_have_one_type.ensures.named c.args.context.now.ranges.now c.args.place n.0 n.1.0 c.args.function n.1.1 c.as_slice.result.now (subst (AreArgumentsOf c.args.context.now.checked.now c.args.context.now.ranges.now c.args.place) (sym c.as_slice.ensures.value) c.in_ok-operands.ensures) in holds_of_bound (IsPut c.args.context.now.checked.now c.args.context.now.ranges.now) c.as_slice.result.now c.args.draft.now.depth c.in_ok-lifted.lifted c.in_ok-lifted.ensures given.put), omega (arith, c.in_ok-open.ensures.depth, c.in_ok-put_faults.ensures.depth, c.in_ok-put.ensures.ok.depth, c.in_ok-put_called.ensures.grows.depth))),
)

-- ---- call_forms::put_called

pub call_forms::put_called-returns-then-not-is_counting : goal.call_forms::put_called-returns-then-not-is_counting
call_forms::put_called-returns-then-not-is_counting t c =
    elim c.then-not-is_counting.branch [
      | call_forms::put_called-then-not-is_counting-via-then-not-is_counting w ↦ ok_called (question_of c.args.context.now) c.args.function c.args.operands.now (inl (not_so c.is_counting.result c.is_counting.ensures.1 w.if-not-is_counting.true)) c.put_function.result c.args.carrier c.requires.carried c.args.draft.now c.put_carried.new.draft c.put_function.new.draft
          c.in_ok-put_carried.ensures c.put_function.ensures
      | call_forms::put_called-then-not-is_counting-via-else-not-is_counting+then-not-may_exceed_int32 w ↦ ok_called (question_of c.args.context.now) c.args.function c.args.operands.now (small_of c.args.function c.args.operands.now w.index-operands-0.result (slice_get_read c.args.operands.now (length c.args.operands.now) 0 w.index-operands-0.result refl c.requires.some w.index-operands-0.is) (subst (λ (o : Operand). pos 2_147_483_647 <ℤ o.range.high → ⊥) (sym w.index-operands-0.is) (not_so w.may_exceed_int32.result w.may_exceed_int32.ensures.1 w.if-not-may_exceed_int32.true))) c.put_function.result c.args.carrier c.requires.carried c.args.draft.now c.put_carried.new.draft c.put_function.new.draft
          c.in_ok-put_carried.ensures c.put_function.ensures
    ]

pub call_forms::put_called-returns : goal.call_forms::put_called-returns
call_forms::put_called-returns t c =
    ok_counted (question_of c.args.context.now) c.args.function c.args.operands.now (c.is_counting.ensures.0 c.if-not-is_counting.false) c.put_function-2.result c.in_ok-level.level c.args.draft.now c.put.new.self c.put-2.new.self c.put-3.new.self c.put-4.new.self c.put-5.new.self c.put-6.new.self c.put-7.new.self c.put-8.new.self c.put_function-2.new.draft
    c.in_ok-level.ensures.ok.0 c.in_ok-put.ensures.ok c.in_ok-put-2.ensures.ok c.in_ok-put-3.ensures.ok c.in_ok-put-4.ensures.ok c.in_ok-put-5.ensures.ok c.in_ok-put-6.ensures.ok c.in_ok-put-7.ensures.ok c.in_ok-put-8.ensures.ok c.put_function-2.ensures

pub call_forms::put_called-put_function-requires : goal.call_forms::put_called-put_function-requires
call_forms::put_called-put_function-requires t c = (omega arith, (c.requires.translated, (c.requires.put, (c.requires.some, c.requires.counted))))

pub call_forms::put_called-put_function-requires-2 : goal.call_forms::put_called-put_function-requires-2
call_forms::put_called-put_function-requires-2 t c = (omega arith, (c.requires.translated, (c.requires.put, (c.requires.some, c.requires.counted))))

-- ---- call_forms::put_function

pub call_forms::put_function-loop-place-init : goal.call_forms::put_function-loop-place-init
call_forms::put_function-loop-place-init t c =
    record {
      so =
          function_starts (question_of c.args.context.now) c.args.function c.args.operands.now c.args.draft.now c.function_of.result c.put.new.self c.function_of.ensures.is c.function_of.ensures.many
          (by_node c.args.draft.now c.put.new.self (SqlNode.Function c.function_of.result) refl c.in_ok-put.ensures.ok);
    }

pub call_forms::put_function-loop-place-preserved : goal.call_forms::put_function-loop-place-preserved
call_forms::put_function-loop-place-preserved t c =
    let operands = c.args.operands.now in
    let at = slice_get_read operands (length operands) c.loop-place.place c.index-operands-place.result refl (omega arith) c.index-operands-place.is in
    record {
      so =
          function_goes_on (question_of c.args.context.now) c.args.function operands c.args.draft.now c.loop-place.draft c.put_operand.new.draft c.loop-place.place c.index-operands-place.result at
          c.loop-place.invariant.so c.in_ok-put_operand.ensures;
    }

pub call_forms::put_function-returns : goal.call_forms::put_function-returns
call_forms::put_function-returns t c =
    let operands = c.args.operands.now in
    let end : c.loop-place.place ≡ length operands = omega arith in
    function_ends (question_of c.args.context.now) c.args.function operands c.args.draft.now c.loop-place.draft c.requires.some
    (subst (λ (n : ℕ). FunctionSoFar (question_of c.args.context.now) c.args.function operands c.args.draft.now c.loop-place.draft n) end c.loop-place.invariant.so)

pub call_forms::put_function-put_operand-requires : goal.call_forms::put_function-put_operand-requires
call_forms::put_function-put_operand-requires t c = (
  omega (arith, down_to c.args.context.now.checked.now (left_of c.args.context.now.checked.now c.index-operands-place.result) (left_in c.args.context.now.checked.now c.args.operands.now) 10 11 (one_left c.args.context.now.checked.now c.args.operands.now c.loop-place.place c.index-operands-place.result (slice_get_read c.args.operands.now (length c.args.operands.now) c.loop-place.place c.index-operands-place.result refl (omega arith) c.index-operands-place.is)) (omega arith)),
  (c.requires.translated, subst (IsPut c.args.context.now.checked.now c.args.context.now.ranges.now) (sym c.index-operands-place.is) (All-get_or (IsPut c.args.context.now.checked.now c.args.context.now.ranges.now) c.args.operands.now c.loop-place.place c.index-operands-place.result (omega arith) c.requires.put)),
)

-- ---- code::put_code

pub code::put_code-may_fault-requires : goal.code::put_code-may_fault-requires
code::put_code-may_fault-requires t c = truth_ranged (question_of c.args.context.now) c.args.context.now.ranges.now c.requires.translated.ranges c.args.place c.requires.truth

pub code::put_code-returns-then-not-may_fault : goal.code::put_code-returns-then-not-may_fault
code::put_code-returns-then-not-may_fault t c =
    ok_code_by_truth (question_of c.args.context.now) c.args.context.now.ranges.now c.requires.translated.ranges c.typed_trees_end_once_on_entities.ensures c.requires.translated.moment c.args.place c.put_truth.result c.requires.truth (faultless_there c.args.context.now.ranges.now c.args.place c.may_fault.result c.may_fault.ensures c.if-not-may_fault.true) c.args.draft.now c.put.new.self c.put_truth.new.draft c.in_ok-put.ensures.ok c.put_truth.ensures

pub code::put_code-compared_at-requires-clause-there : goal.code::put_code-compared_at-requires-clause-there
code::put_code-compared_at-requires-clause-there t c = truth_inside c.args.context.now.checked.now c.args.place c.requires.truth

pub code::put_code-returns-in-Some : goal.code::put_code-returns-in-Some
code::put_code-returns-in-Some t c =
    ok_comparison_code (question_of c.args.context.now) c.args.context.now.ranges.now c.requires.translated.ranges c.typed_trees_end_once_on_entities.ensures c.requires.translated.moment c.args.place c.put_compared_code.result c.in-Some.operator c.in-Some.left c.in-Some.right c.in-Some.ensures.some c.args.draft.now c.put_compared_code.new.draft
    (ok_only_code (question_of c.args.context.now) c.in-Some.operator c.in-Some.left c.in-Some.right c.put_compared_code.result c.args.draft.now c.put_compared_code.new.draft c.put_compared_code.ensures)

pub code::put_code-connective_at-requires : goal.code::put_code-connective_at-requires
code::put_code-connective_at-requires t c = truth_inside c.args.context.now.checked.now c.args.place c.requires.truth

pub code::put_code-terms_of-requires-clause-there : goal.code::put_code-terms_of-requires-clause-there
code::put_code-terms_of-requires-clause-there t c = truth_inside c.args.context.now.checked.now c.args.place c.requires.truth

pub code::put_code-terms_of-requires-clause-top : goal.code::put_code-terms_of-requires-clause-top
code::put_code-terms_of-requires-clause-top t c = c.in-Some-connective_at.ensures.some

pub code::put_code-returns-in-Some-connective_at : goal.code::put_code-returns-in-Some-connective_at
code::put_code-returns-in-Some-connective_at t c =
    ok_chain (question_of c.args.context.now) Form.Code c.put_joined.result c.in-Some-connective_at.connective c.args.place c.as_slice.result.now c.args.draft.now c.put_joined.new.draft (subst (IsChain (question_of c.args.context.now) c.in-Some-connective_at.connective c.args.place) (sym c.as_slice.ensures.value) c.in_ok-terms.ensures) (c.put_joined.ensures c.in-Some-connective_at.connective c.code_join-join.ensures)

pub code::put_code-node-requires : goal.code::put_code-node-requires
code::put_code-node-requires t c = truth_inside c.args.context.now.checked.now c.args.place c.requires.truth

pub code::put_code-returns-in_ok-put-in-Not : goal.code::put_code-returns-in_ok-put-in-Not
code::put_code-returns-in_ok-put-in-Not t c =
    let under = not_below c.args.context.now.checked.now c.requires.translated.right c.trees_have_one_type.ensures c.args.place c.node.result c.node.ensures c.in-Not.is in
    ok_not_code (question_of c.args.context.now) c.args.context.now.ranges.now c.requires.translated.ranges c.typed_trees_end_once_on_entities.ensures c.requires.translated.moment c.args.place c.put_code.result (kind_here c.args.context.now.checked.now c.args.place c.node.result c.node.ensures NodeKind.Not c.in-Not.is) under.truth c.tables_are_connectives.ensures.not c.args.draft.now c.put-in-Not.new.self c.put_code.new.draft c.in_ok-put-in-Not.ensures.ok c.put_code.ensures

pub code::put_code-returns-in_ok-put-in_default-kind : goal.code::put_code-returns-in_ok-put-in_default-kind
code::put_code-returns-in_ok-put-in_default-kind t c =
    let f = fault_there c.args.context.now.ranges.now c.args.place c.may_fault.result c.may_fault.ensures c.if-not-may_fault.false in
    absurd (no_other_truth (question_of c.args.context.now) c.args.context.now.ranges.now c.requires.translated.ranges c.requires.translated.right c.args.place c.node.result c.node.ensures (there_found (λ (r : Range). r.may_fault ≡ true) (slice_get c.args.context.now.ranges.now c.args.place) f.range f.at f.faults) c.requires.truth c.in_default.ensures.none
    (λ connective is. c.in_default-connective_at.ensures.none connective (connective_here c.args.context.now.checked.now c.args.place c.node.result c.node.ensures connective is)) c.in_default-kind.not-Not c.in_default-kind.not-InList c.in_default-kind.not-InPath (λ q is. c.in_default-kind.not-Lambda q is) (λ function is. c.in_default-kind.not-Call function is))

pub code::put_code-overflow_add-place : goal.code::put_code-overflow_add-place
code::put_code-overflow_add-place t c =
    let there = truth_inside c.args.context.now.checked.now c.args.place c.requires.truth in
    search (rules, arith)

pub code::put_code-put_truth-requires : goal.code::put_code-put_truth-requires
code::put_code-put_truth-requires t c =
    (omega arith, (c.requires.translated, (c.requires.truth, faultless_there c.args.context.now.ranges.now c.args.place c.may_fault.result c.may_fault.ensures c.if-not-may_fault.true)))

pub code::put_code-put_compared_code-requires : goal.code::put_code-put_compared_code-requires
code::put_code-put_compared_code-requires t c = (
  omega (arith, on_from c.args.context.now.checked.now (left_in c.args.context.now.checked.now (c.in-Some.left ∷ c.in-Some.right ∷ [])) (left_from c.args.context.now.checked.now c.args.place) 17 6 (sides_left c.args.context.now.checked.now c.args.place (truth_inside c.args.context.now.checked.now c.args.place c.requires.truth) c.args.context.now.ranges.now (c.in-Some.left ∷ c.in-Some.right ∷ []) (c.in-Some.ensures.some.left_is, (c.in-Some.ensures.some.right_is, tt))) (omega arith)),
  (c.requires.translated, (side_faulty c.args.context.now.checked.now c.args.context.now.ranges.now c.args.place c.in-Some.left c.in-Some.ensures.some.left_is, (side_faulty c.args.context.now.checked.now c.args.context.now.ranges.now c.args.place c.in-Some.right c.in-Some.ensures.some.right_is, c.in-Some.ensures.some.compared))),
)

pub code::put_code-put_joined-requires : goal.code::put_code-put_joined-requires
code::put_code-put_joined-requires t c = (
  omega (arith, on_from c.args.context.now.checked.now (left_among c.args.context.now.checked.now c.as_slice.result.now) (left_from c.args.context.now.checked.now c.args.place) (10 + length c.as_slice.result.now) 6 (terms_left c.args.context.now.checked.now c.args.place (truth_inside c.args.context.now.checked.now c.args.place c.requires.truth) c.as_slice.result.now (subst (IsChain (question_of c.args.context.now) c.in-Some-connective_at.connective c.args.place) (sym c.as_slice.ensures.value) c.in_ok-terms.ensures).after) (omega (arith, (subst (IsChain (question_of c.args.context.now) c.in-Some-connective_at.connective c.args.place) (sym c.as_slice.ensures.value) c.in_ok-terms.ensures).few))),
  (c.requires.translated, ((subst (IsChain (question_of c.args.context.now) c.in-Some-connective_at.connective c.args.place) (sym c.as_slice.ensures.value) c.in_ok-terms.ensures).some, ((subst (IsChain (question_of c.args.context.now) c.in-Some-connective_at.connective c.args.place) (sym c.as_slice.ensures.value) c.in_ok-terms.ensures).truths, ((λ values. absurd (code_values c.code_join-join.result c.in-Some-connective_at.connective c.code_join-join.ensures values)), (c.in-Some-connective_at.connective, c.code_join-join.ensures))))),
)

pub code::put_code-put_code-requires : goal.code::put_code-put_code-requires
code::put_code-put_code-requires t c = (
  omega (arith, on_from c.args.context.now.checked.now (left_from c.args.context.now.checked.now (c.args.place + 1)) (left_from c.args.context.now.checked.now c.args.place) 6 6 (next_on c.args.context.now.checked.now c.args.place (truth_inside c.args.context.now.checked.now c.args.place c.requires.truth)) (omega arith)),
  (c.requires.translated, (not_below c.args.context.now.checked.now c.requires.translated.right c.trees_have_one_type.ensures c.args.place c.node.result c.node.ensures c.in-Not.is).truth),
)

pub code::put_code-put_list_code-requires : goal.code::put_code-put_list_code-requires
code::put_code-put_list_code-requires t c = (omega arith, (c.requires.translated, kind_here c.args.context.now.checked.now c.args.place c.node.result c.node.ensures NodeKind.InList c.in-InList.is))

pub code::put_code-put_in_path_code-requires : goal.code::put_code-put_in_path_code-requires
code::put_code-put_in_path_code-requires t c = (omega arith, (c.requires.translated, kind_here c.args.context.now.checked.now c.args.place c.node.result c.node.ensures NodeKind.InPath c.in-InPath.is))

pub code::put_code-put_lambda_code-requires : goal.code::put_code-put_lambda_code-requires
code::put_code-put_lambda_code-requires t c =
    (omega arith, (c.requires.translated, kind_here c.args.context.now.checked.now c.args.place c.node.result c.node.ensures (NodeKind.Lambda c.in-Lambda.quantifier) c.in-Lambda.is))

pub code::put_code-put_call_code-requires : goal.code::put_code-put_call_code-requires
code::put_code-put_call_code-requires t c =
    (omega arith, (c.requires.translated, (kind_here c.args.context.now.checked.now c.args.place c.node.result c.node.ensures (NodeKind.Call c.in-Call.function) c.in-Call.is, c.requires.truth)))

pub code::put_code-put_truth-requires-in_default-kind : goal.code::put_code-put_truth-requires-in_default-kind
code::put_code-put_truth-requires-in_default-kind t c =
    let f = fault_there c.args.context.now.ranges.now c.args.place c.may_fault.result c.may_fault.ensures c.if-not-may_fault.false in
    absurd (no_other_truth (question_of c.args.context.now) c.args.context.now.ranges.now c.requires.translated.ranges c.requires.translated.right c.args.place c.node.result c.node.ensures (there_found (λ (r : Range). r.may_fault ≡ true) (slice_get c.args.context.now.ranges.now c.args.place) f.range f.at f.faults) c.requires.truth c.in_default.ensures.none
    (λ connective is. c.in_default-connective_at.ensures.none connective (connective_here c.args.context.now.checked.now c.args.place c.node.result c.node.ensures connective is)) c.in_default-kind.not-Not c.in_default-kind.not-InList c.in_default-kind.not-InPath (λ q is. c.in_default-kind.not-Lambda q is) (λ function is. c.in_default-kind.not-Call function is))

-- ---- code::put_compared_code

pub code::put_compared_code-returns-then-is_truth-2 : goal.code::put_compared_code-returns-then-is_truth-2
code::put_compared_code-returns-then-is_truth-2 t c =
    ok_truths (question_of c.args.context.now) c.args.operator c.args.left.now c.args.right.now c.put_operand_code-then-is_truth-2.result c.args.draft.now c.put_operand_code-then-is_truth-2.new.draft c.comparison_table.result c.put.new.self c.in_ok-put.ensures.ok c.comparison_table.ensures (c.is_truth.ensures.0 c.if-is_truth.true) (c.is_truth-then-is_truth.ensures.0 c.if-is_truth-2.true) c.put_operand_code.new.draft c.in_ok-put_operand_code.ensures c.put_operand_code-then-is_truth-2.ensures

pub code::put_compared_code-returns-then-is_truth : goal.code::put_compared_code-returns-then-is_truth
code::put_compared_code-returns-then-is_truth t c =
    ok_before_null (question_of c.args.context.now) c.args.operator c.args.left.now c.args.right.now c.put_operand_code-then-is_truth.result c.args.draft.now c.put_operand_code-then-is_truth.new.draft c.null_table.result c.put-then-is_truth.new.self c.in_ok-put-2.ensures.ok c.null_table.ensures (c.is_truth.ensures.0 c.if-is_truth.true) (null_after_truth c.args.left.now.kind c.args.right.now.kind c.requires.compared (c.is_truth.ensures.0 c.if-is_truth.true) (not_so c.is_truth-then-is_truth.result c.is_truth-then-is_truth.ensures.1 c.if-is_truth-2.false)) c.put_operand_code-then-is_truth.ensures

pub code::put_compared_code-returns-then-is_truth-3 : goal.code::put_compared_code-returns-then-is_truth-3
code::put_compared_code-returns-then-is_truth-3 t c =
    ok_after_null (question_of c.args.context.now) c.args.operator c.args.left.now c.args.right.now c.put_operand_code-then-is_truth-3.result c.args.draft.now c.put_operand_code-then-is_truth-3.new.draft c.null_table-then-is_truth-3.result c.put-then-is_truth-3.new.self c.in_ok-put-3.ensures.ok c.null_table-then-is_truth-3.ensures (null_before_truth c.args.left.now.kind c.args.right.now.kind c.requires.compared (not_so c.is_truth.result c.is_truth.ensures.1 c.if-is_truth.false) (c.is_truth-2.ensures.0 c.if-is_truth-3.true)) (c.is_truth-2.ensures.0 c.if-is_truth-3.true) c.put_operand_code-then-is_truth-3.ensures

pub code::put_compared_code-bind_operands-requires-clause-inside : goal.code::put_compared_code-bind_operands-requires-clause-inside
code::put_compared_code-bind_operands-requires-clause-inside t c =
    each (λ (operand : Operand). IsInside c.args.context.now.checked.now operand.source) (c.args.left.now ∷ c.args.right.now ∷ []) (faulty_inside c.args.context.now.checked.now c.args.context.now.ranges.now c.args.left.now c.requires.left, (faulty_inside c.args.context.now.checked.now c.args.context.now.ranges.now c.args.right.now c.requires.right, tt))

pub code::put_compared_code-bind_operands-requires-clause-valued : goal.code::put_compared_code-bind_operands-requires-clause-valued
code::put_compared_code-bind_operands-requires-clause-valued t c = λ all. let never : false ≡ true = all in absurd (cc)

pub code::put_compared_code-put_faults-requires : goal.code::put_compared_code-put_faults-requires
code::put_compared_code-put_faults-requires t c = c.in_ok-lifted.ensures.few

pub code::put_compared_code-first-requires : goal.code::put_compared_code-first-requires
code::put_compared_code-first-requires t c =
    let two : length c.in_ok-lifted.lifted.inner.items ≡ 2 = inner_length (c.args.left.now ∷ c.args.right.now ∷ []) c.args.draft.now.depth c.in_ok-lifted.lifted c.in_ok-lifted.ensures in
    omega (arith, two)

pub code::put_compared_code-second-requires : goal.code::put_compared_code-second-requires
code::put_compared_code-second-requires t c =
    let two : length c.in_ok-lifted.lifted.inner.items ≡ 2 = inner_length (c.args.left.now ∷ c.args.right.now ∷ []) c.args.draft.now.depth c.in_ok-lifted.lifted c.in_ok-lifted.ensures in
    omega (arith, two)

pub code::put_compared_code-returns : goal.code::put_compared_code-returns
code::put_compared_code-returns t c =
    ok_compared_code (question_of c.args.context.now) c.args.operator c.args.left.now c.args.right.now c.close.result c.args.draft.now c.close.new.draft c.first.result c.second.result c.in_ok-lifted.lifted c.in_ok-lifted.ensures c.first.ensures c.second.ensures (not_so c.is_truth.result c.is_truth.ensures.1 c.if-is_truth.false) (not_so c.is_truth-2.result c.is_truth-2.ensures.1 c.if-is_truth-3.false) c.open.new.draft c.put_faults.new.draft c.put-2.new.self c.put_comparison.new.draft c.in_ok-open.ensures c.in_ok-put_faults.ensures c.in_ok-put-4.ensures.ok c.in_ok-put_comparison.ensures c.close.ensures.values c.close.ensures.idle

pub code::put_compared_code-put_operand_code-requires : goal.code::put_compared_code-put_operand_code-requires
code::put_compared_code-put_operand_code-requires t c = (
  omega (arith, down_to c.args.context.now.checked.now (left_of c.args.context.now.checked.now c.args.left.now) (left_in c.args.context.now.checked.now (c.args.left.now ∷ c.args.right.now ∷ [])) 10 17 (one_left c.args.context.now.checked.now (c.args.left.now ∷ c.args.right.now ∷ []) 0 c.args.left.now refl) (omega arith)),
  (c.requires.translated, faulty_coded c.args.context.now.checked.now c.args.context.now.ranges.now c.args.left.now (c.is_truth.ensures.0 c.if-is_truth.true) c.requires.left),
)

pub code::put_compared_code-put_operand_code-requires-then-is_truth-2 : goal.code::put_compared_code-put_operand_code-requires-then-is_truth-2
code::put_compared_code-put_operand_code-requires-then-is_truth-2 t c = (
  omega (arith, down_to c.args.context.now.checked.now (left_of c.args.context.now.checked.now c.args.right.now) (left_in c.args.context.now.checked.now (c.args.left.now ∷ c.args.right.now ∷ [])) 10 17 (one_left c.args.context.now.checked.now (c.args.left.now ∷ c.args.right.now ∷ []) 1 c.args.right.now refl) (omega arith)),
  (c.requires.translated, faulty_coded c.args.context.now.checked.now c.args.context.now.ranges.now c.args.right.now (c.is_truth-then-is_truth.ensures.0 c.if-is_truth-2.true) c.requires.right),
)

pub code::put_compared_code-put_operand_code-requires-then-is_truth : goal.code::put_compared_code-put_operand_code-requires-then-is_truth
code::put_compared_code-put_operand_code-requires-then-is_truth t c = (
  omega (arith, down_to c.args.context.now.checked.now (left_of c.args.context.now.checked.now c.args.left.now) (left_in c.args.context.now.checked.now (c.args.left.now ∷ c.args.right.now ∷ [])) 10 17 (one_left c.args.context.now.checked.now (c.args.left.now ∷ c.args.right.now ∷ []) 0 c.args.left.now refl) (omega arith)),
  (c.requires.translated, faulty_coded c.args.context.now.checked.now c.args.context.now.ranges.now c.args.left.now (c.is_truth.ensures.0 c.if-is_truth.true) c.requires.left),
)

pub code::put_compared_code-put_operand_code-requires-then-is_truth-3 : goal.code::put_compared_code-put_operand_code-requires-then-is_truth-3
code::put_compared_code-put_operand_code-requires-then-is_truth-3 t c = (
  omega (arith, down_to c.args.context.now.checked.now (left_of c.args.context.now.checked.now c.args.right.now) (left_in c.args.context.now.checked.now (c.args.left.now ∷ c.args.right.now ∷ [])) 10 17 (one_left c.args.context.now.checked.now (c.args.left.now ∷ c.args.right.now ∷ []) 1 c.args.right.now refl) (omega arith)),
  (c.requires.translated, faulty_coded c.args.context.now.checked.now c.args.context.now.ranges.now c.args.right.now (c.is_truth-2.ensures.0 c.if-is_truth-3.true) c.requires.right),
)

pub code::put_compared_code-put_comparison-requires : goal.code::put_compared_code-put_comparison-requires
code::put_compared_code-put_comparison-requires t c = (
  omega (arith, down_to c.args.context.now.checked.now (left_in c.args.context.now.checked.now (c.first.result ∷ c.second.result ∷ [])) (left_in c.args.context.now.checked.now (c.args.left.now ∷ c.args.right.now ∷ [])) 16 17 (lifted_two_left c.args.context.now.checked.now (c.args.left.now ∷ c.args.right.now ∷ []) c.args.draft.now.depth c.in_ok-lifted.lifted c.in_ok-lifted.ensures c.first.result c.second.result c.first.ensures c.second.ensures) (omega arith)),
  (c.requires.translated, (tested_inside_let c.args.context.now.checked.now c.args.context.now.ranges.now (c.args.left.now ∷ c.args.right.now ∷ []) c.args.draft.now.depth c.in_ok-lifted.lifted c.in_ok-lifted.ensures (untrue_tested c.args.context.now.checked.now c.args.context.now.ranges.now c.args.left.now (not_so c.is_truth.result c.is_truth.ensures.1 c.if-is_truth.false) c.requires.left, (untrue_tested c.args.context.now.checked.now c.args.context.now.ranges.now c.args.right.now (not_so c.is_truth-2.result c.is_truth-2.ensures.1 c.if-is_truth-3.false) c.requires.right, tt)) 0 c.first.result c.first.ensures, (tested_inside_let c.args.context.now.checked.now c.args.context.now.ranges.now (c.args.left.now ∷ c.args.right.now ∷ []) c.args.draft.now.depth c.in_ok-lifted.lifted c.in_ok-lifted.ensures (untrue_tested c.args.context.now.checked.now c.args.context.now.ranges.now c.args.left.now (not_so c.is_truth.result c.is_truth.ensures.1 c.if-is_truth.false) c.requires.left, (untrue_tested c.args.context.now.checked.now c.args.context.now.ranges.now c.args.right.now (not_so c.is_truth-2.result c.is_truth-2.ensures.1 c.if-is_truth-3.false) c.requires.right, tt)) 1 c.second.result c.second.ensures, compared_inside_let c.args.left.now c.args.right.now c.first.result c.second.result c.args.draft.now.depth c.in_ok-lifted.lifted c.in_ok-lifted.ensures c.first.ensures c.second.ensures c.requires.compared))),
)

pub code::put_compared_code-close-requires : goal.code::put_compared_code-close-requires
code::put_compared_code-close-requires t c = (
  omega (arith, down_to c.args.context.now.checked.now (left_in c.args.context.now.checked.now c.in_ok-lifted.lifted.bound.items) (left_in c.args.context.now.checked.now (c.args.left.now ∷ c.args.right.now ∷ [])) 11 17 (lifted_bound_left c.args.context.now.checked.now (c.args.left.now ∷ c.args.right.now ∷ []) c.args.draft.now.depth c.in_ok-lifted.lifted c.in_ok-lifted.ensures) (omega arith)),
  (c.requires.translated, (bound_may_be_put c.args.context.now.checked.now c.args.context.now.ranges.now (c.args.left.now ∷ c.args.right.now ∷ []) c.args.draft.now.depth c.in_ok-lifted.lifted c.in_ok-lifted.ensures (untrue_tested c.args.context.now.checked.now c.args.context.now.ranges.now c.args.left.now (not_so c.is_truth.result c.is_truth.ensures.1 c.if-is_truth.false) c.requires.left, (untrue_tested c.args.context.now.checked.now c.args.context.now.ranges.now c.args.right.now (not_so c.is_truth-2.result c.is_truth-2.ensures.1 c.if-is_truth-3.false) c.requires.right, tt)), omega (arith, c.in_ok-open.ensures.depth, c.in_ok-put_faults.ensures.depth, c.in_ok-put-4.ensures.ok.depth, c.in_ok-put_comparison.ensures.grows.depth))),
)

-- ---- code::put_operand_code

pub code::put_operand_code-returns-in-Node : goal.code::put_operand_code-returns-in-Node
code::put_operand_code-returns-in-Node t c =
    ok_code_node (question_of c.args.context.now) c.args.draft.now c.put_code.new.draft c.put_code.result c.args.operand.now.source c.in-Node.place c.in-Node.is c.put_code.ensures

pub code::put_operand_code-returns-in-Bound : goal.code::put_operand_code-returns-in-Bound
code::put_operand_code-returns-in-Bound t c =
    ok_code_bound (question_of c.args.context.now) c.args.draft.now c.put.new.self c.put.result c.args.operand.now.source c.in-Bound.level c.in-Bound.is c.put.ensures.ok

pub code::put_operand_code-returns-in_ok-put-in_default : goal.code::put_operand_code-returns-in_ok-put-in_default
code::put_operand_code-returns-in_ok-put-in_default t c =
    absurd (not_coded c.args.context.now.checked.now c.args.operand.now.source c.requires.coded (λ place is. c.in_default.not-Node place is) (λ level is. c.in_default.not-Bound level is))

pub code::put_operand_code-put_code-requires : goal.code::put_operand_code-put_code-requires
code::put_operand_code-put_code-requires t c = (
  omega (arith, down_to c.args.context.now.checked.now (left_from c.args.context.now.checked.now c.in-Node.place) (left_of c.args.context.now.checked.now c.args.operand.now) 6 10 (node_left c.args.context.now.checked.now c.args.operand.now.source c.in-Node.place c.in-Node.is) (omega arith)),
  (c.requires.translated, subst (IsCoded c.args.context.now.checked.now) c.in-Node.is c.requires.coded),
)

pub code::put_operand_code-put_operand-requires : goal.code::put_operand_code-put_operand-requires
code::put_operand_code-put_operand-requires t c =
    absurd (not_coded c.args.context.now.checked.now c.args.operand.now.source c.requires.coded (λ place is. c.in_default.not-Node place is) (λ level is. c.in_default.not-Bound level is))

-- ---- comparison_forms::put_beside_null

pub comparison_forms::put_beside_null-returns-in-Gt : goal.comparison_forms::put_beside_null-returns-in-Gt
comparison_forms::put_beside_null-returns-in-Gt t c =
    ok_beside_false (question_of c.args.context.now) c.args.operand.now c.args.operator c.args.draft.now c.put.new.self c.put.result (order_of c.args.operator c.in-Gt.is) c.put.ensures.ok

pub comparison_forms::put_beside_null-returns-in_ok-put-in-Ne : goal.comparison_forms::put_beside_null-returns-in_ok-put-in-Ne
comparison_forms::put_beside_null-returns-in_ok-put-in-Ne t c =
    ok_beside_not (question_of c.args.context.now) c.args.operand.now c.args.operator c.args.draft.now c.put-in-Ne.new.self c.put_is_null.new.draft c.put_is_null.result c.in-Ne.is c.in_ok-put-in-Ne.ensures.ok
    c.put_is_null.ensures

pub comparison_forms::put_beside_null-returns-in_default : goal.comparison_forms::put_beside_null-returns-in_default
comparison_forms::put_beside_null-returns-in_default t c =
    ok_beside_null (question_of c.args.context.now) c.args.operand.now c.args.operator c.args.draft.now c.put_is_null-in_default.new.draft c.put_is_null-in_default.result c.in_default.not-Ne
    (true_of_nulls c.args.operator c.in_default.not-Ne c.in_default.not-Gt c.in_default.not-Lt) c.put_is_null-in_default.ensures

pub comparison_forms::put_beside_null-put_is_null-requires : goal.comparison_forms::put_beside_null-put_is_null-requires
comparison_forms::put_beside_null-put_is_null-requires t c = (omega arith, (c.requires.translated, c.requires.tested))

pub comparison_forms::put_beside_null-put_is_null-requires-in_default : goal.comparison_forms::put_beside_null-put_is_null-requires-in_default
comparison_forms::put_beside_null-put_is_null-requires-in_default t c = (omega arith, (c.requires.translated, c.requires.tested))

-- ---- comparison_forms::put_comparison

pub comparison_forms::put_comparison-returns-then-is_null : goal.comparison_forms::put_comparison-returns-then-is_null
comparison_forms::put_comparison-returns-then-is_null t c =
    ok_left_null (question_of c.args.context.now) c.args.left.now c.args.right.now c.args.operator c.args.draft.now c.put_beside_null.new.draft c.put_beside_null.result (c.is_null.ensures.0 c.if-is_null.true) c.put_beside_null.ensures

pub comparison_forms::put_comparison-returns-then-is_null-2 : goal.comparison_forms::put_comparison-returns-then-is_null-2
comparison_forms::put_comparison-returns-then-is_null-2 t c =
    ok_right_null (question_of c.args.context.now) c.args.left.now c.args.right.now c.args.operator c.args.draft.now c.put_beside_null-then-is_null-2.new.draft c.put_beside_null-then-is_null-2.result (c.is_null-2.ensures.0 c.if-is_null-2.true) c.put_beside_null-then-is_null-2.ensures

pub comparison_forms::put_comparison-returns : goal.comparison_forms::put_comparison-returns
comparison_forms::put_comparison-returns t c =
    ok_given (question_of c.args.context.now) c.args.left.now c.args.right.now c.args.operator c.args.draft.now c.put_strict.new.draft c.put_strict.result c.if-left.false c.if-right-2.false c.put_strict.ensures

pub comparison_forms::put_comparison-put_beside_null-requires : goal.comparison_forms::put_comparison-put_beside_null-requires
comparison_forms::put_comparison-put_beside_null-requires t c = (
  omega (arith, down_to c.args.context.now.checked.now (left_of c.args.context.now.checked.now c.args.right.now) (left_in c.args.context.now.checked.now (c.args.left.now ∷ c.args.right.now ∷ [])) 12 16 (one_left c.args.context.now.checked.now (c.args.left.now ∷ c.args.right.now ∷ []) 1 c.args.right.now refl) (omega arith)),
  (c.requires.translated, c.requires.right),
)

pub comparison_forms::put_comparison-put_beside_null-requires-then-is_null-2 : goal.comparison_forms::put_comparison-put_beside_null-requires-then-is_null-2
comparison_forms::put_comparison-put_beside_null-requires-then-is_null-2 t c = (
  omega (arith, down_to c.args.context.now.checked.now (left_of c.args.context.now.checked.now c.args.left.now) (left_in c.args.context.now.checked.now (c.args.left.now ∷ c.args.right.now ∷ [])) 12 16 (one_left c.args.context.now.checked.now (c.args.left.now ∷ c.args.right.now ∷ []) 0 c.args.left.now refl) (omega arith)),
  (c.requires.translated, c.requires.left),
)

pub comparison_forms::put_comparison-put_of_nullable-requires : goal.comparison_forms::put_comparison-put_of_nullable-requires
comparison_forms::put_comparison-put_of_nullable-requires t c =
    (omega arith, (c.requires.translated, ((let alike = alike_of c.args.left.now.kind c.args.right.now.kind c.requires.compared (not_so c.is_null.result c.is_null.ensures.1 c.if-is_null.false) (not_so c.is_null-2.result c.is_null-2.ensures.1 c.if-is_null-2.false) in tested_put c.args.context.now.checked.now c.args.context.now.ranges.now c.args.left.now alike.type_of alike.left_is c.requires.left), ((let alike = alike_of c.args.left.now.kind c.args.right.now.kind c.requires.compared (not_so c.is_null.result c.is_null.ensures.1 c.if-is_null.false) (not_so c.is_null-2.result c.is_null-2.ensures.1 c.if-is_null-2.false) in tested_put c.args.context.now.checked.now c.args.context.now.ranges.now c.args.right.now alike.type_of alike.right_is c.requires.right), alike_of c.args.left.now.kind c.args.right.now.kind c.requires.compared (not_so c.is_null.result c.is_null.ensures.1 c.if-is_null.false) (not_so c.is_null-2.result c.is_null-2.ensures.1 c.if-is_null-2.false)))))

pub comparison_forms::put_comparison-put_of_one-requires : goal.comparison_forms::put_comparison-put_of_one-requires
comparison_forms::put_comparison-put_of_one-requires t c =
    (omega arith, (c.requires.translated, ((let alike = alike_of c.args.left.now.kind c.args.right.now.kind c.requires.compared (not_so c.is_null.result c.is_null.ensures.1 c.if-is_null.false) (not_so c.is_null-2.result c.is_null-2.ensures.1 c.if-is_null-2.false) in tested_put c.args.context.now.checked.now c.args.context.now.ranges.now c.args.left.now alike.type_of alike.left_is c.requires.left), ((let alike = alike_of c.args.left.now.kind c.args.right.now.kind c.requires.compared (not_so c.is_null.result c.is_null.ensures.1 c.if-is_null.false) (not_so c.is_null-2.result c.is_null-2.ensures.1 c.if-is_null-2.false) in tested_put c.args.context.now.checked.now c.args.context.now.ranges.now c.args.right.now alike.type_of alike.right_is c.requires.right), (alike_of c.args.left.now.kind c.args.right.now.kind c.requires.compared (not_so c.is_null.result c.is_null.ensures.1 c.if-is_null.false) (not_so c.is_null-2.result c.is_null-2.ensures.1 c.if-is_null-2.false), inr c.if-right.false)))))

pub comparison_forms::put_comparison-put_of_one-requires-then-right-2 : goal.comparison_forms::put_comparison-put_of_one-requires-then-right-2
comparison_forms::put_comparison-put_of_one-requires-then-right-2 t c =
    (omega arith, (c.requires.translated, ((let alike = alike_of c.args.left.now.kind c.args.right.now.kind c.requires.compared (not_so c.is_null.result c.is_null.ensures.1 c.if-is_null.false) (not_so c.is_null-2.result c.is_null-2.ensures.1 c.if-is_null-2.false) in tested_put c.args.context.now.checked.now c.args.context.now.ranges.now c.args.left.now alike.type_of alike.left_is c.requires.left), ((let alike = alike_of c.args.left.now.kind c.args.right.now.kind c.requires.compared (not_so c.is_null.result c.is_null.ensures.1 c.if-is_null.false) (not_so c.is_null-2.result c.is_null-2.ensures.1 c.if-is_null-2.false) in tested_put c.args.context.now.checked.now c.args.context.now.ranges.now c.args.right.now alike.type_of alike.right_is c.requires.right), (alike_of c.args.left.now.kind c.args.right.now.kind c.requires.compared (not_so c.is_null.result c.is_null.ensures.1 c.if-is_null.false) (not_so c.is_null-2.result c.is_null-2.ensures.1 c.if-is_null-2.false), inl c.if-left.false)))))

pub comparison_forms::put_comparison-put_strict-requires : goal.comparison_forms::put_comparison-put_strict-requires
comparison_forms::put_comparison-put_strict-requires t c =
    (omega arith, (c.requires.translated, ((let alike = alike_of c.args.left.now.kind c.args.right.now.kind c.requires.compared (not_so c.is_null.result c.is_null.ensures.1 c.if-is_null.false) (not_so c.is_null-2.result c.is_null-2.ensures.1 c.if-is_null-2.false) in tested_put c.args.context.now.checked.now c.args.context.now.ranges.now c.args.left.now alike.type_of alike.left_is c.requires.left), ((let alike = alike_of c.args.left.now.kind c.args.right.now.kind c.requires.compared (not_so c.is_null.result c.is_null.ensures.1 c.if-is_null.false) (not_so c.is_null-2.result c.is_null-2.ensures.1 c.if-is_null-2.false) in tested_put c.args.context.now.checked.now c.args.context.now.ranges.now c.args.right.now alike.type_of alike.right_is c.requires.right), alike_of c.args.left.now.kind c.args.right.now.kind c.requires.compared (not_so c.is_null.result c.is_null.ensures.1 c.if-is_null.false) (not_so c.is_null-2.result c.is_null-2.ensures.1 c.if-is_null-2.false)))))

-- ---- comparison_forms::put_denied_comparison

pub comparison_forms::put_denied_comparison-returns-then-not-is_null-2 : goal.comparison_forms::put_denied_comparison-returns-then-not-is_null-2
comparison_forms::put_denied_comparison-returns-then-not-is_null-2 t c =
    ok_opposite (question_of c.args.context.now) c.args.left.now c.args.right.now c.args.operator c.opposite.result c.opposite.ensures c.if-not-left.true c.if-not-right.true c.args.draft.now c.put_strict.new.draft c.put_strict.result c.put_strict.ensures

pub comparison_forms::put_denied_comparison-returns : goal.comparison_forms::put_denied_comparison-returns
comparison_forms::put_denied_comparison-returns t c =
    ok_denied (question_of c.args.context.now) c.args.left.now c.args.right.now c.args.operator c.args.draft.now c.put.new.self c.put_comparison.new.draft c.put_comparison.result c.in_ok-put.ensures.ok c.put_comparison.ensures

pub comparison_forms::put_denied_comparison-put_strict-requires : goal.comparison_forms::put_denied_comparison-put_strict-requires
comparison_forms::put_denied_comparison-put_strict-requires t c =
    (omega arith, (c.requires.translated, ((let alike = alike_of c.args.left.now.kind c.args.right.now.kind c.requires.compared (not_so c.is_null.result c.is_null.ensures.1 c.if-not-is_null.true) (not_so c.is_null-then-not-is_null.result c.is_null-then-not-is_null.ensures.1 c.if-not-is_null-2.true) in tested_put c.args.context.now.checked.now c.args.context.now.ranges.now c.args.left.now alike.type_of alike.left_is c.requires.left), ((let alike = alike_of c.args.left.now.kind c.args.right.now.kind c.requires.compared (not_so c.is_null.result c.is_null.ensures.1 c.if-not-is_null.true) (not_so c.is_null-then-not-is_null.result c.is_null-then-not-is_null.ensures.1 c.if-not-is_null-2.true) in tested_put c.args.context.now.checked.now c.args.context.now.ranges.now c.args.right.now alike.type_of alike.right_is c.requires.right), alike_of c.args.left.now.kind c.args.right.now.kind c.requires.compared (not_so c.is_null.result c.is_null.ensures.1 c.if-not-is_null.true) (not_so c.is_null-then-not-is_null.result c.is_null-then-not-is_null.ensures.1 c.if-not-is_null-2.true)))))

pub comparison_forms::put_denied_comparison-put_comparison-requires : goal.comparison_forms::put_denied_comparison-put_comparison-requires
comparison_forms::put_denied_comparison-put_comparison-requires t c = (omega arith, (c.requires.translated, (c.requires.left, (c.requires.right, c.requires.compared))))

-- ---- comparison_forms::put_kept_comparison

pub comparison_forms::put_kept_comparison-returns-then-is_strict_enough : goal.comparison_forms::put_kept_comparison-returns-then-is_strict_enough
comparison_forms::put_kept_comparison-returns-then-is_strict_enough t c =
    let enough = c.is_strict_enough.ensures c.if-is_strict_enough.true in
    ok_kept_strict (question_of c.args.context.now) c.args.left.now c.args.right.now c.args.operator c.args.draft.now c.put_strict.new.draft c.put_strict.result (reported_enough (question_of c.args.context.now) c.args.left.now c.args.right.now c.args.operator enough.2) c.put_strict.ensures

pub comparison_forms::put_kept_comparison-returns-else-is_strict_enough : goal.comparison_forms::put_kept_comparison-returns-else-is_strict_enough
comparison_forms::put_kept_comparison-returns-else-is_strict_enough t c =
    ok_kept (question_of c.args.context.now) c.args.left.now c.args.right.now c.args.operator c.args.draft.now c.put_comparison.new.draft c.put_comparison.result c.put_comparison.ensures

pub comparison_forms::put_kept_comparison-put_strict-requires : goal.comparison_forms::put_kept_comparison-put_strict-requires
comparison_forms::put_kept_comparison-put_strict-requires t c =
    (omega arith, (c.requires.translated, ((let alike = alike_of c.args.left.now.kind c.args.right.now.kind c.requires.compared (c.is_strict_enough.ensures c.if-is_strict_enough.true).0 (c.is_strict_enough.ensures c.if-is_strict_enough.true).1 in tested_put c.args.context.now.checked.now c.args.context.now.ranges.now c.args.left.now alike.type_of alike.left_is c.requires.left), ((let alike = alike_of c.args.left.now.kind c.args.right.now.kind c.requires.compared (c.is_strict_enough.ensures c.if-is_strict_enough.true).0 (c.is_strict_enough.ensures c.if-is_strict_enough.true).1 in tested_put c.args.context.now.checked.now c.args.context.now.ranges.now c.args.right.now alike.type_of alike.right_is c.requires.right), (let enough = c.is_strict_enough.ensures c.if-is_strict_enough.true in alike_of c.args.left.now.kind c.args.right.now.kind c.requires.compared (enough.0) (enough.1))))))

pub comparison_forms::put_kept_comparison-put_comparison-requires : goal.comparison_forms::put_kept_comparison-put_comparison-requires
comparison_forms::put_kept_comparison-put_comparison-requires t c = (omega arith, (c.requires.translated, (c.requires.left, (c.requires.right, c.requires.compared))))

-- ---- comparison_forms::put_of_nullable

pub comparison_forms::put_of_nullable-returns-in_ok-put-in-Ne : goal.comparison_forms::put_of_nullable-returns-in_ok-put-in-Ne
comparison_forms::put_of_nullable-returns-in_ok-put-in-Ne t c =
    ok_unequal (question_of c.args.context.now) c.args.left.now c.args.right.now c.args.operator c.args.draft.now c.put.new.self c.put_same-in-Ne.new.draft c.put_same-in-Ne.result c.in-Ne.is
    (λ v w. let d = c.comparisons_are_decided.ensures.decided ComparisonOperator.Eq v w in (d.0, d.1.0, d.1.1)) c.in_ok-put-in-Ne.ensures.ok c.put_same-in-Ne.ensures

pub comparison_forms::put_of_nullable-returns-in_ok-put-in-Gt : goal.comparison_forms::put_of_nullable-returns-in_ok-put-in-Gt
comparison_forms::put_of_nullable-returns-in_ok-put-in-Gt t c =
    ok_is_true (question_of c.args.context.now) c.args.left.now c.args.right.now c.args.operator c.args.draft.now c.put-in-Gt.new.self c.put_strict.new.draft c.put_strict.result
    (reported_order (question_of c.args.context.now) c.args.left.now c.args.right.now c.args.operator (order_of c.args.operator c.in-Gt.is)) c.in_ok-put-in-Gt.ensures.ok c.put_strict.ensures

pub comparison_forms::put_of_nullable-returns-in-Eq : goal.comparison_forms::put_of_nullable-returns-in-Eq
comparison_forms::put_of_nullable-returns-in-Eq t c =
    subst (λ (o : ComparisonOperator). OnOk c.put_same.result (Puts (question_of c.args.context.now) c.args.draft.now c.put_same.new.draft (ComparisonHas c.args.context.now.checked.now o c.args.left.now c.args.right.now) (OrTruth Itself))) (sym c.in-Eq.is) c.put_same.ensures

pub comparison_forms::put_of_nullable-put_same-requires : goal.comparison_forms::put_of_nullable-put_same-requires
comparison_forms::put_of_nullable-put_same-requires t c = (omega arith, (c.requires.translated, (c.requires.left, (c.requires.right, c.requires.alike))))

pub comparison_forms::put_of_nullable-put_same-requires-in-Ne : goal.comparison_forms::put_of_nullable-put_same-requires-in-Ne
comparison_forms::put_of_nullable-put_same-requires-in-Ne t c = (omega arith, (c.requires.translated, (c.requires.left, (c.requires.right, c.requires.alike))))

pub comparison_forms::put_of_nullable-put_strict-requires : goal.comparison_forms::put_of_nullable-put_strict-requires
comparison_forms::put_of_nullable-put_strict-requires t c = (omega arith, (c.requires.translated, (c.requires.left, (c.requires.right, c.requires.alike))))

pub comparison_forms::put_of_nullable-put_or_nulls-requires : goal.comparison_forms::put_of_nullable-put_or_nulls-requires
comparison_forms::put_of_nullable-put_or_nulls-requires t c =
    (omega arith, (c.requires.translated, (c.requires.left, (c.requires.right, (c.requires.alike, ((or_equal c.args.operator c.in-Ge.is).0, (or_equal c.args.operator c.in-Ge.is).1))))))

-- ---- comparison_forms::put_of_one

pub comparison_forms::put_of_one-returns-then-eq : goal.comparison_forms::put_of_one-returns-then-eq
comparison_forms::put_of_one-returns-then-eq t c =
    ok_not_equal (question_of c.args.context.now) c.args.left.now c.args.right.now c.args.operator c.args.draft.now c.put.new.self c.put-then-eq.new.self c.put_strict.new.draft c.put_strict.result (same_true the_type tt c.args.operator ComparisonOperator.Ne (sym c.eq.ensures ∙ c.if-eq.true)) (λ v w. let d = c.comparisons_are_decided.ensures.decided ComparisonOperator.Eq v w in (d.0, d.1.0, d.1.1))
    c.requires.one c.in_ok-put.ensures.ok c.in_ok-put-2.ensures.ok c.put_strict.ensures

pub comparison_forms::put_of_one-returns : goal.comparison_forms::put_of_one-returns
comparison_forms::put_of_one-returns t c =
    ok_is_true (question_of c.args.context.now) c.args.left.now c.args.right.now c.args.operator c.args.draft.now c.put-2.new.self c.put_strict-2.new.draft c.put_strict-2.result (reported_one (question_of c.args.context.now) c.args.left.now c.args.right.now c.args.operator (λ same. let reported : c.eq.result ≡ true = c.eq.ensures ∙ true_same the_type c.args.operator ComparisonOperator.Ne same in let clash : false ≡ true = sym c.if-eq.false ∙ reported in absurd (cc)) c.requires.one) c.in_ok-put-3.ensures.ok c.put_strict-2.ensures

pub comparison_forms::put_of_one-put_strict-requires : goal.comparison_forms::put_of_one-put_strict-requires
comparison_forms::put_of_one-put_strict-requires t c = (omega arith, (c.requires.translated, (c.requires.left, (c.requires.right, c.requires.alike))))

pub comparison_forms::put_of_one-put_strict-requires-2 : goal.comparison_forms::put_of_one-put_strict-requires-2
comparison_forms::put_of_one-put_strict-requires-2 t c = (omega arith, (c.requires.translated, (c.requires.left, (c.requires.right, c.requires.alike))))

-- ---- comparison_forms::put_or_nulls

pub comparison_forms::put_or_nulls-first-first-requires : goal.comparison_forms::put_or_nulls-first-first-requires
comparison_forms::put_or_nulls-first-first-requires t c =
    let two : length c.in_ok-lifted.lifted.inner.items ≡ 2 = inner_length (c.args.left.now ∷ c.args.right.now ∷ []) c.args.draft.now.depth c.in_ok-lifted.lifted c.in_ok-lifted.ensures in
    omega (arith, two)

pub comparison_forms::put_or_nulls-second-second-requires : goal.comparison_forms::put_or_nulls-second-second-requires
comparison_forms::put_or_nulls-second-second-requires t c =
    let two : length c.in_ok-lifted.lifted.inner.items ≡ 2 = inner_length (c.args.left.now ∷ c.args.right.now ∷ []) c.args.draft.now.depth c.in_ok-lifted.lifted c.in_ok-lifted.ensures in
    omega (arith, two)

pub comparison_forms::put_or_nulls-returns : goal.comparison_forms::put_or_nulls-returns
comparison_forms::put_or_nulls-returns t c =
    ok_or_nulls (question_of c.args.context.now) c.args.operator c.args.left.now c.args.right.now c.first-first.result c.second-second.result c.in_ok-lifted.lifted c.args.draft.now c.in_ok-lifted.ensures
    c.first-first.ensures c.second-second.ensures c.open.new.draft c.put.new.self c.put-2.new.self c.put_strict.new.draft c.put-3.new.self c.put_is_null.new.draft c.put_is_null-2.new.draft c.close.new.draft
    c.in_ok-open.ensures c.requires.other c.requires.of_nulls c.in_ok-put.ensures.ok c.in_ok-put-2.ensures.ok c.in_ok-put_strict.ensures c.in_ok-put-3.ensures.ok c.in_ok-put_is_null.ensures
    c.in_ok-put_is_null-2.ensures c.close.result c.close.ensures.values c.close.ensures.idle

pub comparison_forms::put_or_nulls-bind_operands-requires-clause-inside : goal.comparison_forms::put_or_nulls-bind_operands-requires-clause-inside
comparison_forms::put_or_nulls-bind_operands-requires-clause-inside t c =
    each (λ (operand : Operand). IsInside c.args.context.now.checked.now operand.source) (c.args.left.now ∷ c.args.right.now ∷ []) (put_inside c.args.context.now.checked.now c.args.context.now.ranges.now c.args.left.now c.requires.left, (put_inside c.args.context.now.checked.now c.args.context.now.ranges.now c.args.right.now c.requires.right, tt))

pub comparison_forms::put_or_nulls-bind_operands-requires-clause-valued : goal.comparison_forms::put_or_nulls-bind_operands-requires-clause-valued
comparison_forms::put_or_nulls-bind_operands-requires-clause-valued t c = λ all. (c.requires.left.valued, (c.requires.right.valued, tt))

pub comparison_forms::put_or_nulls-put_strict-requires : goal.comparison_forms::put_or_nulls-put_strict-requires
comparison_forms::put_or_nulls-put_strict-requires t c = (
  omega (arith, down_to c.args.context.now.checked.now (left_in c.args.context.now.checked.now (c.first-first.result ∷ c.second-second.result ∷ [])) (left_in c.args.context.now.checked.now (c.args.left.now ∷ c.args.right.now ∷ [])) 13 14 (lifted_two_left c.args.context.now.checked.now (c.args.left.now ∷ c.args.right.now ∷ []) c.args.draft.now.depth c.in_ok-lifted.lifted c.in_ok-lifted.ensures c.first-first.result c.second-second.result c.first-first.ensures c.second-second.ensures) (omega arith)),
  (c.requires.translated, (put_in c.args.context.now.checked.now c.args.context.now.ranges.now c.args.left.now c.args.right.now c.args.draft.now.depth c.in_ok-lifted.lifted 0 c.first-first.result c.in_ok-lifted.ensures c.requires.left c.requires.right c.first-first.ensures, (put_in c.args.context.now.checked.now c.args.context.now.ranges.now c.args.left.now c.args.right.now c.args.draft.now.depth c.in_ok-lifted.lifted 1 c.second-second.result c.in_ok-lifted.ensures c.requires.left c.requires.right c.second-second.ensures, alike_in c.args.left.now c.args.right.now c.first-first.result c.second-second.result c.args.draft.now.depth c.in_ok-lifted.lifted c.in_ok-lifted.ensures c.requires.alike c.first-first.ensures c.second-second.ensures))),
)

pub comparison_forms::put_or_nulls-put_is_null-requires : goal.comparison_forms::put_or_nulls-put_is_null-requires
comparison_forms::put_or_nulls-put_is_null-requires t c = (
  omega (arith, down_to c.args.context.now.checked.now (left_of c.args.context.now.checked.now c.first-first.result) (left_in c.args.context.now.checked.now (c.args.left.now ∷ c.args.right.now ∷ [])) 11 14 (lifted_one_left c.args.context.now.checked.now (c.args.left.now ∷ c.args.right.now ∷ []) c.args.draft.now.depth c.in_ok-lifted.lifted c.in_ok-lifted.ensures 0 c.first-first.result c.first-first.ensures) (omega arith)),
  (c.requires.translated, tested_value c.args.context.now.checked.now c.args.context.now.ranges.now c.first-first.result c.requires.alike.type_of (put_in c.args.context.now.checked.now c.args.context.now.ranges.now c.args.left.now c.args.right.now c.args.draft.now.depth c.in_ok-lifted.lifted 0 c.first-first.result c.in_ok-lifted.ensures c.requires.left c.requires.right c.first-first.ensures) (kind_in c.args.left.now c.args.right.now c.requires.alike.type_of c.args.draft.now.depth c.in_ok-lifted.lifted 0 c.first-first.result c.in_ok-lifted.ensures c.requires.alike.left_is c.requires.alike.right_is c.first-first.ensures)),
)

pub comparison_forms::put_or_nulls-put_is_null-requires-2 : goal.comparison_forms::put_or_nulls-put_is_null-requires-2
comparison_forms::put_or_nulls-put_is_null-requires-2 t c = (
  omega (arith, down_to c.args.context.now.checked.now (left_of c.args.context.now.checked.now c.second-second.result) (left_in c.args.context.now.checked.now (c.args.left.now ∷ c.args.right.now ∷ [])) 11 14 (lifted_one_left c.args.context.now.checked.now (c.args.left.now ∷ c.args.right.now ∷ []) c.args.draft.now.depth c.in_ok-lifted.lifted c.in_ok-lifted.ensures 1 c.second-second.result c.second-second.ensures) (omega arith)),
  (c.requires.translated, tested_value c.args.context.now.checked.now c.args.context.now.ranges.now c.second-second.result c.requires.alike.type_of (put_in c.args.context.now.checked.now c.args.context.now.ranges.now c.args.left.now c.args.right.now c.args.draft.now.depth c.in_ok-lifted.lifted 1 c.second-second.result c.in_ok-lifted.ensures c.requires.left c.requires.right c.second-second.ensures) (kind_in c.args.left.now c.args.right.now c.requires.alike.type_of c.args.draft.now.depth c.in_ok-lifted.lifted 1 c.second-second.result c.in_ok-lifted.ensures c.requires.alike.left_is c.requires.alike.right_is c.second-second.ensures)),
)

pub comparison_forms::put_or_nulls-close-requires : goal.comparison_forms::put_or_nulls-close-requires
comparison_forms::put_or_nulls-close-requires t c = (
  omega (arith, down_to c.args.context.now.checked.now (left_in c.args.context.now.checked.now c.in_ok-lifted.lifted.bound.items) (left_in c.args.context.now.checked.now (c.args.left.now ∷ c.args.right.now ∷ [])) 11 14 (lifted_bound_left c.args.context.now.checked.now (c.args.left.now ∷ c.args.right.now ∷ []) c.args.draft.now.depth c.in_ok-lifted.lifted c.in_ok-lifted.ensures) (omega arith)),
  (c.requires.translated, (all_put c.args.context.now.checked.now c.args.context.now.ranges.now c.args.left.now c.args.right.now c.args.draft.now.depth c.in_ok-lifted.lifted c.in_ok-lifted.ensures c.requires.left c.requires.right, omega (arith, c.in_ok-open.ensures.depth, c.in_ok-put.ensures.ok.depth, c.in_ok-put-2.ensures.ok.depth, c.in_ok-put_strict.ensures.grows.depth, c.in_ok-put-3.ensures.ok.depth, c.in_ok-put_is_null.ensures.grows.depth, c.in_ok-put_is_null-2.ensures.grows.depth))),
)

-- ---- comparison_forms::put_same

pub comparison_forms::put_same-returns : goal.comparison_forms::put_same-returns
comparison_forms::put_same-returns t c =
    ok_same (question_of c.args.context.now) c.args.left.now c.args.right.now c.compared_type.result c.args.draft.now c.put.new.self c.put_compared.new.draft c.put_compared-2.new.draft c.put_compared-2.result
    c.requires.alike c.compared_type.ensures (λ v w. let d = c.comparisons_are_decided.ensures.decided ComparisonOperator.Eq v w in (d.0, d.1.0, d.1.1)) c.in_ok-put.ensures.ok c.in_ok-put_compared.ensures c.put_compared-2.ensures

pub comparison_forms::put_same-compared_type-requires : goal.comparison_forms::put_same-compared_type-requires
comparison_forms::put_same-compared_type-requires t c = (c.requires.alike.type_of, c.requires.alike.left_is)

pub comparison_forms::put_same-put_compared-requires : goal.comparison_forms::put_same-put_compared-requires
comparison_forms::put_same-put_compared-requires t c = (
  omega (arith, down_to c.args.context.now.checked.now (left_of c.args.context.now.checked.now c.args.left.now) (left_in c.args.context.now.checked.now (c.args.left.now ∷ c.args.right.now ∷ [])) 12 13 (one_left c.args.context.now.checked.now (c.args.left.now ∷ c.args.right.now ∷ []) 0 c.args.left.now refl) (omega arith)),
  (c.requires.translated, (c.requires.left, (c.requires.alike.type_of, c.requires.alike.left_is))),
)

pub comparison_forms::put_same-put_compared-requires-2 : goal.comparison_forms::put_same-put_compared-requires-2
comparison_forms::put_same-put_compared-requires-2 t c = (
  omega (arith, down_to c.args.context.now.checked.now (left_of c.args.context.now.checked.now c.args.right.now) (left_in c.args.context.now.checked.now (c.args.left.now ∷ c.args.right.now ∷ [])) 12 13 (one_left c.args.context.now.checked.now (c.args.left.now ∷ c.args.right.now ∷ []) 1 c.args.right.now refl) (omega arith)),
  (c.requires.translated, (c.requires.right, (c.requires.alike.type_of, c.requires.alike.right_is))),
)

-- ---- comparison_forms::put_strict

pub comparison_forms::put_strict-returns : goal.comparison_forms::put_strict-returns
comparison_forms::put_strict-returns t c =
    ok_strict (question_of c.args.context.now) c.args.left.now c.args.right.now c.args.operator c.compared_type.result c.args.draft.now c.put.new.self c.put_compared.new.draft c.put_compared-2.new.draft
    c.put_compared-2.result c.requires.alike c.compared_type.ensures c.in_ok-put.ensures.ok c.in_ok-put_compared.ensures c.put_compared-2.ensures

pub comparison_forms::put_strict-compared_type-requires : goal.comparison_forms::put_strict-compared_type-requires
comparison_forms::put_strict-compared_type-requires t c = (c.requires.alike.type_of, c.requires.alike.left_is)

pub comparison_forms::put_strict-put_compared-requires : goal.comparison_forms::put_strict-put_compared-requires
comparison_forms::put_strict-put_compared-requires t c = (
  omega (arith, down_to c.args.context.now.checked.now (left_of c.args.context.now.checked.now c.args.left.now) (left_in c.args.context.now.checked.now (c.args.left.now ∷ c.args.right.now ∷ [])) 12 13 (one_left c.args.context.now.checked.now (c.args.left.now ∷ c.args.right.now ∷ []) 0 c.args.left.now refl) (omega arith)),
  (c.requires.translated, (c.requires.left, (c.requires.alike.type_of, c.requires.alike.left_is))),
)

pub comparison_forms::put_strict-put_compared-requires-2 : goal.comparison_forms::put_strict-put_compared-requires-2
comparison_forms::put_strict-put_compared-requires-2 t c = (
  omega (arith, down_to c.args.context.now.checked.now (left_of c.args.context.now.checked.now c.args.right.now) (left_in c.args.context.now.checked.now (c.args.left.now ∷ c.args.right.now ∷ [])) 12 13 (one_left c.args.context.now.checked.now (c.args.left.now ∷ c.args.right.now ∷ []) 1 c.args.right.now refl) (omega arith)),
  (c.requires.translated, (c.requires.right, (c.requires.alike.type_of, c.requires.alike.right_is))),
)

-- ---- in_path::put_has_member

pub in_path::put_has_member-overflow_sub-draft : goal.in_path::put_has_member-overflow_sub-draft
in_path::put_has_member-overflow_sub-draft t c =
    let m4 = c.put_kept_comparison.new.draft in
    let inner : m4.depth ≡ c.deepen.new.self.depth = c.in_ok-put_kept_comparison.ensures.grows.depth in
    let deep : c.deepen.new.self.depth ≡ c.put.new.self.depth + 1 = c.in_ok-deepen.ensures.ok.depth in
    omega (arith, inner, deep)

pub in_path::put_has_member-returns : goal.in_path::put_has_member-returns
in_path::put_has_member-returns t c =
    let m1 = c.put_member_path.new.draft in
    let m4 = c.put_kept_comparison.new.draft in
    let inner : m4.depth ≡ c.deepen.new.self.depth = c.in_ok-put_kept_comparison.ensures.grows.depth in
    let deep : c.deepen.new.self.depth ≡ c.put.new.self.depth + 1 = c.in_ok-deepen.ensures.ok.depth in
    has_member_put (question_of c.args.context.now) c.args.left.now c.member_of-member.result c.args.collection c.args.path c.in_ok-member_path.member_path c.args.draft.now m1 c.put.new.self c.deepen.new.self m4
    (record m4 { depth = m4.depth - 1 }) c.requires.leads c.in_ok-member_path.ensures c.member_of-member.ensures
    (by_node m1 c.put.new.self (SqlNode.Exists c.args.path c.args.draft.now.depth) refl c.in_ok-put.ensures.ok) c.in_ok-deepen.ensures.ok c.in_ok-put_kept_comparison.ensures refl refl (omega (arith, inner, deep))

pub in_path::put_has_member-member_of-member-requires-clause-collection : goal.in_path::put_has_member-member_of-member-requires-clause-collection
in_path::put_has_member-member_of-member-requires-clause-collection t c = beside_collection c.args.context.now.checked.now c.args.left.now.kind c.args.collection c.requires.members

pub in_path::put_has_member-put_kept_comparison-requires : goal.in_path::put_has_member-put_kept_comparison-requires
in_path::put_has_member-put_kept_comparison-requires t c = (
  omega (arith, down_to c.args.context.now.checked.now (left_in c.args.context.now.checked.now (c.args.left.now ∷ c.member_of-member.result ∷ [])) (left_of c.args.context.now.checked.now c.args.left.now) 17 18 (two_left c.args.context.now.checked.now c.args.left.now c.member_of-member.result (left_of c.args.context.now.checked.now c.args.left.now) (omega arith) (member_left c.args.context.now.checked.now c.args.collection c.in_ok-member_path.member_path c.member_of-member.result (left_of c.args.context.now.checked.now c.args.left.now) c.member_of-member.ensures)) (omega arith)),
  (c.requires.translated, (c.requires.tested, (member_tested c.args.context.now.checked.now c.args.context.now.ranges.now c.args.collection c.in_ok-member_path.member_path c.member_of-member.result c.member_of-member.ensures, member_compared c.args.context.now.checked.now c.args.left.now c.args.collection c.in_ok-member_path.member_path c.member_of-member.result c.requires.members c.member_of-member.ensures))),
)

-- ---- in_path::put_in_path

pub in_path::put_in_path-second-collection-requires : goal.in_path::put_in_path-second-collection-requires
in_path::put_in_path-second-collection-requires t c =
    first_child c.args.context.now.checked.now c.requires.translated.right c.args.place NodeKind.InPath (path_inside c.args.context.now.checked.now c.requires.translated.right c.args.place) c.requires.kind

pub in_path::put_in_path-put_path-requires-clause-path : goal.in_path::put_in_path-put_path-requires-clause-path
in_path::put_in_path-put_path-requires-clause-path t c =
    in_path_there (question_of c.args.context.now) c.args.context.now.ranges.now c.requires.translated.ranges c.requires.translated.right c.trees_have_one_type.ensures c.args.place c.requires.kind c.second-collection.result c.second-collection.ensures

pub in_path::put_in_path-at-requires-clause-there : goal.in_path::put_in_path-at-requires-clause-there
in_path::put_in_path-at-requires-clause-there t c =
    first_child c.args.context.now.checked.now c.requires.translated.right c.args.place NodeKind.InPath (path_inside c.args.context.now.checked.now c.requires.translated.right c.args.place) c.requires.kind

pub in_path::put_in_path-at-requires-clause-ranged : goal.in_path::put_in_path-at-requires-clause-ranged
in_path::put_in_path-at-requires-clause-ranged t c =
    has_range (question_of c.args.context.now) c.args.context.now.ranges.now c.requires.translated.ranges (c.args.place + 1) (first_child c.args.context.now.checked.now c.requires.translated.right c.args.place NodeKind.InPath (path_inside c.args.context.now.checked.now c.requires.translated.right c.args.place) c.requires.kind)

pub in_path::put_in_path-range-requires : goal.in_path::put_in_path-range-requires
in_path::put_in_path-range-requires t c =
    has_range (question_of c.args.context.now) c.args.context.now.ranges.now c.requires.translated.ranges c.second-collection.result (second_child c.args.context.now.checked.now c.requires.translated.right c.args.place NodeKind.InPath (path_inside c.args.context.now.checked.now c.requires.translated.right c.args.place) c.requires.kind c.second-collection.result c.second-collection.ensures)

pub in_path::put_in_path-returns : goal.in_path::put_in_path-returns
in_path::put_in_path-returns t c =
    let left_is = node_operand c.args.context.now.checked.now c.args.context.now.ranges.now c.at.result (c.args.place + 1) c.at.ensures.kind c.at.ensures.range in
    let is_second = found_there (λ (n : CheckedNode). n.stop ≡ c.second-collection.result) (slice_get c.args.context.now.checked.now.list.nodes (c.args.place + 1)) left_is.node left_is.at c.second-collection.ensures in
    ok_in_path (question_of c.args.context.now) c.args.context.now.ranges.now c.requires.translated.ranges c.requires.translated.right c.trees_have_one_type.ensures c.typed_trees_end_once_on_entities.ensures c.requires.translated.moment c.comparisons_are_decided.ensures.decided c.args.place c.second-collection.result c.requires.kind c.at.result c.at.ensures.source left_is is_second c.requires.faultless c.in_ok-path.path c.put_over_members.result c.args.draft.now c.put_path.new.draft c.put_over_members.new.draft c.in_ok-path.ensures c.range.result c.range.ensures c.put_unless_missing.new.draft c.in_ok-put_unless_missing.ensures c.put_over_members.ensures

pub in_path::put_in_path-put_over_members-requires : goal.in_path::put_in_path-put_over_members-requires
in_path::put_in_path-put_over_members-requires t c = (
  omega (arith, on_from c.args.context.now.checked.now (left_of c.args.context.now.checked.now c.at.result) (left_from c.args.context.now.checked.now c.args.place) 19 2 (at_on c.args.context.now.checked.now c.args.place (kind_inside c.args.context.now.checked.now c.args.place NodeKind.InPath c.requires.kind) c.at.result (c.args.place + 1) c.at.ensures.source (omega arith)) (omega arith)),
  (c.requires.translated, ((let left_is = node_operand c.args.context.now.checked.now c.args.context.now.ranges.now c.at.result (c.args.place + 1) c.at.ensures.kind c.at.ensures.range in let is_second = found_there (λ (n : CheckedNode). n.stop ≡ c.second-collection.result) (slice_get c.args.context.now.checked.now.list.nodes (c.args.place + 1)) left_is.node left_is.at c.second-collection.ensures in left_tested (question_of c.args.context.now) c.args.context.now.ranges.now c.requires.translated.ranges c.requires.translated.right c.trees_have_one_type.ensures c.typed_trees_end_once_on_entities.ensures c.requires.translated.moment c.comparisons_are_decided.ensures.decided c.args.place c.second-collection.result c.requires.kind c.at.result c.at.ensures.source left_is is_second c.requires.faultless), ((let left_is = node_operand c.args.context.now.checked.now c.args.context.now.ranges.now c.at.result (c.args.place + 1) c.at.ensures.kind c.at.ensures.range in let is_second = found_there (λ (n : CheckedNode). n.stop ≡ c.second-collection.result) (slice_get c.args.context.now.checked.now.list.nodes (c.args.place + 1)) left_is.node left_is.at c.second-collection.ensures in beside (question_of c.args.context.now) c.args.context.now.ranges.now c.requires.translated.ranges c.requires.translated.right c.trees_have_one_type.ensures c.typed_trees_end_once_on_entities.ensures c.requires.translated.moment c.comparisons_are_decided.ensures.decided c.args.place c.second-collection.result c.requires.kind c.at.result c.at.ensures.source left_is is_second), (path_on (question_of c.args.context.now) c.put_path.new.draft c.second-collection.result c.in_ok-path.path c.in_ok-path.ensures.leads c.put_unless_missing.new.draft (missing_front c.range.result.may_be_null c.in_ok-path.path) c.in_ok-put_unless_missing.ensures, (subst (IsInside c.args.context.now.checked.now) (sym c.at.ensures.source) (first_child c.args.context.now.checked.now c.requires.translated.right c.args.place NodeKind.InPath (path_inside c.args.context.now.checked.now c.requires.translated.right c.args.place) c.requires.kind), (let left_is = node_operand c.args.context.now.checked.now c.args.context.now.ranges.now c.at.result (c.args.place + 1) c.at.ensures.kind c.at.ensures.range in let is_second = found_there (λ (n : CheckedNode). n.stop ≡ c.second-collection.result) (slice_get c.args.context.now.checked.now.list.nodes (c.args.place + 1)) left_is.node left_is.at c.second-collection.ensures in left_faultless (question_of c.args.context.now) c.args.context.now.ranges.now c.requires.translated.ranges c.requires.translated.right c.trees_have_one_type.ensures c.typed_trees_end_once_on_entities.ensures c.requires.translated.moment c.comparisons_are_decided.ensures.decided c.args.place c.second-collection.result c.requires.kind c.at.result c.at.ensures.source left_is is_second c.requires.faultless)))))),
)

-- ---- in_path::put_in_path_code

pub in_path::put_in_path_code-second-collection-requires : goal.in_path::put_in_path_code-second-collection-requires
in_path::put_in_path_code-second-collection-requires t c =
    first_child c.args.context.now.checked.now c.requires.translated.right c.args.place NodeKind.InPath (path_inside c.args.context.now.checked.now c.requires.translated.right c.args.place) c.requires.kind

pub in_path::put_in_path_code-put_path-requires-clause-path : goal.in_path::put_in_path_code-put_path-requires-clause-path
in_path::put_in_path_code-put_path-requires-clause-path t c =
    in_path_there (question_of c.args.context.now) c.args.context.now.ranges.now c.requires.translated.ranges c.requires.translated.right c.trees_have_one_type.ensures c.args.place c.requires.kind c.second-collection.result c.second-collection.ensures

pub in_path::put_in_path_code-at-left-requires-clause-there : goal.in_path::put_in_path_code-at-left-requires-clause-there
in_path::put_in_path_code-at-left-requires-clause-there t c =
    first_child c.args.context.now.checked.now c.requires.translated.right c.args.place NodeKind.InPath (path_inside c.args.context.now.checked.now c.requires.translated.right c.args.place) c.requires.kind

pub in_path::put_in_path_code-at-left-requires-clause-ranged : goal.in_path::put_in_path_code-at-left-requires-clause-ranged
in_path::put_in_path_code-at-left-requires-clause-ranged t c =
    has_range (question_of c.args.context.now) c.args.context.now.ranges.now c.requires.translated.ranges (c.args.place + 1) (first_child c.args.context.now.checked.now c.requires.translated.right c.args.place NodeKind.InPath (path_inside c.args.context.now.checked.now c.requires.translated.right c.args.place) c.requires.kind)

pub in_path::put_in_path_code-range-requires : goal.in_path::put_in_path_code-range-requires
in_path::put_in_path_code-range-requires t c =
    has_range (question_of c.args.context.now) c.args.context.now.ranges.now c.requires.translated.ranges c.second-collection.result (second_child c.args.context.now.checked.now c.requires.translated.right c.args.place NodeKind.InPath (path_inside c.args.context.now.checked.now c.requires.translated.right c.args.place) c.requires.kind c.second-collection.result c.second-collection.ensures)

pub in_path::put_in_path_code-returns-then-is_truth : goal.in_path::put_in_path_code-returns-then-is_truth
in_path::put_in_path_code-returns-then-is_truth t c =
    on_ok c.put_truth_in_path_code.result (Puts (question_of c.args.context.now) c.put_path.new.draft c.put_truth_in_path_code.new.draft (OfPlace c.args.context.now.checked.now c.args.place) (IsInForm Form.Code)) (Puts (question_of c.args.context.now) c.args.draft.now c.put_truth_in_path_code.new.draft (OfPlace c.args.context.now.checked.now c.args.place) (IsInForm Form.Code))
    (λ p. after_nothing (question_of c.args.context.now) c.args.draft.now c.put_path.new.draft c.put_truth_in_path_code.new.draft (OfPlace c.args.context.now.checked.now c.args.place) (IsInForm Form.Code) c.in_ok-path.ensures.grows p) c.put_truth_in_path_code.ensures

pub in_path::put_in_path_code-returns-then-not-is_value : goal.in_path::put_in_path_code-returns-then-not-is_value
in_path::put_in_path_code-returns-then-not-is_value t c =
    let left_is = node_operand c.args.context.now.checked.now c.args.context.now.ranges.now c.at-left.result (c.args.place + 1) c.at-left.ensures.kind c.at-left.ensures.range in
    let is_second = found_there (λ (n : CheckedNode). n.stop ≡ c.second-collection.result) (slice_get c.args.context.now.checked.now.list.nodes (c.args.place + 1)) left_is.node left_is.at c.second-collection.ensures in
    ok_plain_code (question_of c.args.context.now) c.args.context.now.ranges.now c.requires.translated.ranges c.requires.translated.right c.trees_have_one_type.ensures c.typed_trees_end_once_on_entities.ensures c.requires.translated.moment c.comparisons_are_decided.ensures.decided c.args.place c.second-collection.result c.requires.kind c.at-left.result c.at-left.ensures.source left_is is_second c.in_ok-path.path c.range.result c.range.ensures c.put_has_member.result (not_so c.is_truth.result c.is_truth.ensures.1 c.if-is_truth.false) c.args.draft.now c.put_path.new.draft c.put_has_member.new.draft c.in_ok-path.ensures (λ type is. not_so c.is_value.result c.is_value.ensures.1 c.if-not-is_value.true (type, is)) c.put.new.self c.put_unless_missing.new.draft
    c.in_ok-put.ensures.ok c.in_ok-put_unless_missing.ensures c.put_has_member.ensures

pub in_path::put_in_path_code-lifted_left-requires-clause-inside : goal.in_path::put_in_path_code-lifted_left-requires-clause-inside
in_path::put_in_path_code-lifted_left-requires-clause-inside t c =
    subst (IsInside c.args.context.now.checked.now) (sym c.at-left.ensures.source) (first_child c.args.context.now.checked.now c.requires.translated.right c.args.place NodeKind.InPath (path_inside c.args.context.now.checked.now c.requires.translated.right c.args.place) c.requires.kind)

pub in_path::put_in_path_code-lifted_left-requires-clause-value : goal.in_path::put_in_path_code-lifted_left-requires-clause-value
in_path::put_in_path_code-lifted_left-requires-clause-value t c = c.is_value.ensures.0 c.if-not-is_value.false

pub in_path::put_in_path_code-put_faults-requires : goal.in_path::put_in_path_code-put_faults-requires
in_path::put_in_path_code-put_faults-requires t c = c.in_ok-lifted.ensures.few

pub in_path::put_in_path_code-first-requires : goal.in_path::put_in_path_code-first-requires
in_path::put_in_path_code-first-requires t c =
    let one : length c.in_ok-lifted.lifted.inner.items ≡ 1 = inner_length (c.at-left.result ∷ []) c.put_path.new.draft.depth c.in_ok-lifted.lifted c.in_ok-lifted.ensures in
    omega (arith, one)

pub in_path::put_in_path_code-returns : goal.in_path::put_in_path_code-returns
in_path::put_in_path_code-returns t c =
    let left_is = node_operand c.args.context.now.checked.now c.args.context.now.ranges.now c.at-left.result (c.args.place + 1) c.at-left.ensures.kind c.at-left.ensures.range in
    let is_second = found_there (λ (n : CheckedNode). n.stop ≡ c.second-collection.result) (slice_get c.args.context.now.checked.now.list.nodes (c.args.place + 1)) left_is.node left_is.at c.second-collection.ensures in
    let opened = path_opened (question_of c.args.context.now) c.in_ok-lifted.lifted c.put_path.new.draft c.open.new.draft c.second-collection.result c.in_ok-path.path c.in_ok-open.ensures c.in_ok-path.ensures.leads in
    let within = path_on (question_of c.args.context.now) c.open.new.draft c.second-collection.result c.in_ok-path.path opened c.put_faults.new.draft (faults_front None c.in_ok-lifted.lifted.level c.in_ok-lifted.lifted.bound.items) c.in_ok-put_faults.ensures in
    ok_lifted_code (question_of c.args.context.now) c.args.context.now.ranges.now c.requires.translated.ranges c.requires.translated.right c.trees_have_one_type.ensures c.typed_trees_end_once_on_entities.ensures c.requires.translated.moment c.comparisons_are_decided.ensures.decided c.args.place c.second-collection.result c.requires.kind c.at-left.result c.at-left.ensures.source left_is is_second c.in_ok-path.path c.range-2.result c.range-2.ensures c.close.result (not_so c.is_truth.result c.is_truth.ensures.1 c.if-is_truth.false) c.args.draft.now c.put_path.new.draft c.close.new.draft c.in_ok-path.ensures c.first.result c.in_ok-lifted.lifted c.in_ok-lifted.ensures c.first.ensures
    c.open.new.draft c.put_faults.new.draft c.put-2.new.self c.put_unless_missing-2.new.draft c.put_has_member-2.new.draft c.in_ok-open.ensures c.in_ok-put_faults.ensures within c.in_ok-put-2.ensures.ok c.in_ok-put_unless_missing-2.ensures c.in_ok-put_has_member.ensures c.close.ensures.values c.close.ensures.idle

pub in_path::put_in_path_code-range-requires-2 : goal.in_path::put_in_path_code-range-requires-2
in_path::put_in_path_code-range-requires-2 t c =
    has_range (question_of c.args.context.now) c.args.context.now.ranges.now c.requires.translated.ranges c.second-collection.result (second_child c.args.context.now.checked.now c.requires.translated.right c.args.place NodeKind.InPath (path_inside c.args.context.now.checked.now c.requires.translated.right c.args.place) c.requires.kind c.second-collection.result c.second-collection.ensures)

pub in_path::put_in_path_code-put_truth_in_path_code-requires : goal.in_path::put_in_path_code-put_truth_in_path_code-requires
in_path::put_in_path_code-put_truth_in_path_code-requires t c =
    (omega arith, (c.requires.translated, (c.requires.kind, ((let left_is = node_operand c.args.context.now.checked.now c.args.context.now.ranges.now c.at-left.result (c.args.place + 1) c.at-left.ensures.kind c.at-left.ensures.range in let is_second = found_there (λ (n : CheckedNode). n.stop ≡ c.second-collection.result) (slice_get c.args.context.now.checked.now.list.nodes (c.args.place + 1)) left_is.node left_is.at c.second-collection.ensures in left_boolean (question_of c.args.context.now) c.args.context.now.ranges.now c.requires.translated.ranges c.requires.translated.right c.trees_have_one_type.ensures c.typed_trees_end_once_on_entities.ensures c.requires.translated.moment c.comparisons_are_decided.ensures.decided c.args.place c.second-collection.result c.requires.kind c.at-left.result c.at-left.ensures.source left_is is_second (c.is_truth.ensures.0 c.if-is_truth.true)), (c.second-collection.ensures, c.in_ok-path.ensures.leads)))))

pub in_path::put_in_path_code-put_has_member-requires : goal.in_path::put_in_path_code-put_has_member-requires
in_path::put_in_path_code-put_has_member-requires t c = (
  omega (arith, on_from c.args.context.now.checked.now (left_of c.args.context.now.checked.now c.at-left.result) (left_from c.args.context.now.checked.now c.args.place) 18 2 (at_on c.args.context.now.checked.now c.args.place (kind_inside c.args.context.now.checked.now c.args.place NodeKind.InPath c.requires.kind) c.at-left.result (c.args.place + 1) c.at-left.ensures.source (omega arith)) (omega arith)),
  (c.requires.translated, ((let left_is = node_operand c.args.context.now.checked.now c.args.context.now.ranges.now c.at-left.result (c.args.place + 1) c.at-left.ensures.kind c.at-left.ensures.range in let is_second = found_there (λ (n : CheckedNode). n.stop ≡ c.second-collection.result) (slice_get c.args.context.now.checked.now.list.nodes (c.args.place + 1)) left_is.node left_is.at c.second-collection.ensures in left_tested_plainly (question_of c.args.context.now) c.args.context.now.ranges.now c.requires.translated.ranges c.requires.translated.right c.trees_have_one_type.ensures c.typed_trees_end_once_on_entities.ensures c.requires.translated.moment c.comparisons_are_decided.ensures.decided c.args.place c.second-collection.result c.requires.kind c.at-left.result c.at-left.ensures.source left_is is_second (not_so c.is_truth.result c.is_truth.ensures.1 c.if-is_truth.false)), ((let left_is = node_operand c.args.context.now.checked.now c.args.context.now.ranges.now c.at-left.result (c.args.place + 1) c.at-left.ensures.kind c.at-left.ensures.range in let is_second = found_there (λ (n : CheckedNode). n.stop ≡ c.second-collection.result) (slice_get c.args.context.now.checked.now.list.nodes (c.args.place + 1)) left_is.node left_is.at c.second-collection.ensures in beside (question_of c.args.context.now) c.args.context.now.ranges.now c.requires.translated.ranges c.requires.translated.right c.trees_have_one_type.ensures c.typed_trees_end_once_on_entities.ensures c.requires.translated.moment c.comparisons_are_decided.ensures.decided c.args.place c.second-collection.result c.requires.kind c.at-left.result c.at-left.ensures.source left_is is_second), (let marked = by_node c.put_path.new.draft c.put.new.self SqlNode.TruthCode refl c.in_ok-put.ensures.ok in path_on (question_of c.args.context.now) c.put.new.self c.second-collection.result c.in_ok-path.path (path_on (question_of c.args.context.now) c.put_path.new.draft c.second-collection.result c.in_ok-path.path c.in_ok-path.ensures.leads c.put.new.self (SqlNode.TruthCode ∷ []) marked) c.put_unless_missing.new.draft (missing_front c.range.result.may_be_null c.in_ok-path.path) c.in_ok-put_unless_missing.ensures)))),
)

pub in_path::put_in_path_code-put_has_member-requires-2 : goal.in_path::put_in_path_code-put_has_member-requires-2
in_path::put_in_path_code-put_has_member-requires-2 t c = (
  omega (arith, on_from c.args.context.now.checked.now (left_of c.args.context.now.checked.now c.first.result) (left_from c.args.context.now.checked.now c.args.place) 18 2 (omega (arith, lifted_left_left c.args.context.now.checked.now c.at-left.result c.put_path.new.draft.depth c.in_ok-lifted.lifted c.in_ok-lifted.ensures c.first.result c.first.ensures, (at_on c.args.context.now.checked.now c.args.place (kind_inside c.args.context.now.checked.now c.args.place NodeKind.InPath c.requires.kind) c.at-left.result (c.args.place + 1) c.at-left.ensures.source (omega arith)))) (omega arith)),
  (c.requires.translated, ((let left_is = node_operand c.args.context.now.checked.now c.args.context.now.ranges.now c.at-left.result (c.args.place + 1) c.at-left.ensures.kind c.at-left.ensures.range in let is_second = found_there (λ (n : CheckedNode). n.stop ≡ c.second-collection.result) (slice_get c.args.context.now.checked.now.list.nodes (c.args.place + 1)) left_is.node left_is.at c.second-collection.ensures in let value = c.is_value.ensures.0 c.if-not-is_value.false in tested_first c.args.context.now.checked.now c.args.context.now.ranges.now c.at-left.result c.first.result value.0 value.1 c.in_ok-lifted.lifted c.put_path.new.draft.depth c.in_ok-lifted.ensures c.first.ensures (left_tested_plainly (question_of c.args.context.now) c.args.context.now.ranges.now c.requires.translated.ranges c.requires.translated.right c.trees_have_one_type.ensures c.typed_trees_end_once_on_entities.ensures c.requires.translated.moment c.comparisons_are_decided.ensures.decided c.args.place c.second-collection.result c.requires.kind c.at-left.result c.at-left.ensures.source left_is is_second (not_so c.is_truth.result c.is_truth.ensures.1 c.if-is_truth.false))), ((let left_is = node_operand c.args.context.now.checked.now c.args.context.now.ranges.now c.at-left.result (c.args.place + 1) c.at-left.ensures.kind c.at-left.ensures.range in let is_second = found_there (λ (n : CheckedNode). n.stop ≡ c.second-collection.result) (slice_get c.args.context.now.checked.now.list.nodes (c.args.place + 1)) left_is.node left_is.at c.second-collection.ensures in let value = c.is_value.ensures.0 c.if-not-is_value.false in subst (λ (k : Kind). AreMembersBeside c.args.context.now.checked.now k c.second-collection.result) (sym (kind_first c.args.context.now.checked.now c.args.context.now.ranges.now c.at-left.result c.first.result value.0 value.1 c.in_ok-lifted.lifted c.put_path.new.draft.depth c.in_ok-lifted.ensures c.first.ensures)) (beside (question_of c.args.context.now) c.args.context.now.ranges.now c.requires.translated.ranges c.requires.translated.right c.trees_have_one_type.ensures c.typed_trees_end_once_on_entities.ensures c.requires.translated.moment c.comparisons_are_decided.ensures.decided c.args.place c.second-collection.result c.requires.kind c.at-left.result c.at-left.ensures.source left_is is_second)), (let opened = path_opened (question_of c.args.context.now) c.in_ok-lifted.lifted c.put_path.new.draft c.open.new.draft c.second-collection.result c.in_ok-path.path c.in_ok-open.ensures c.in_ok-path.ensures.leads in let within = path_on (question_of c.args.context.now) c.open.new.draft c.second-collection.result c.in_ok-path.path opened c.put_faults.new.draft (faults_front None c.in_ok-lifted.lifted.level c.in_ok-lifted.lifted.bound.items) c.in_ok-put_faults.ensures in path_on (question_of c.args.context.now) c.put-2.new.self c.second-collection.result c.in_ok-path.path (path_on (question_of c.args.context.now) c.put_faults.new.draft c.second-collection.result c.in_ok-path.path within c.put-2.new.self (SqlNode.TruthCode ∷ []) (by_node c.put_faults.new.draft c.put-2.new.self SqlNode.TruthCode refl c.in_ok-put-2.ensures.ok)) c.put_unless_missing-2.new.draft (missing_front c.range-2.result.may_be_null c.in_ok-path.path) c.in_ok-put_unless_missing-2.ensures)))),
)

pub in_path::put_in_path_code-close-requires : goal.in_path::put_in_path_code-close-requires
in_path::put_in_path_code-close-requires t c = (
  omega (arith, on_from c.args.context.now.checked.now (left_in c.args.context.now.checked.now c.in_ok-lifted.lifted.bound.items) (left_from c.args.context.now.checked.now c.args.place) 11 2 (omega (arith, bound_left_left c.args.context.now.checked.now c.at-left.result c.put_path.new.draft.depth c.in_ok-lifted.lifted c.in_ok-lifted.ensures, (at_on c.args.context.now.checked.now c.args.place (kind_inside c.args.context.now.checked.now c.args.place NodeKind.InPath c.requires.kind) c.at-left.result (c.args.place + 1) c.at-left.ensures.source (omega arith)))) (omega arith)),
  (c.requires.translated, ((let left_is = node_operand c.args.context.now.checked.now c.args.context.now.ranges.now c.at-left.result (c.args.place + 1) c.at-left.ensures.kind c.at-left.ensures.range in let is_second = found_there (λ (n : CheckedNode). n.stop ≡ c.second-collection.result) (slice_get c.args.context.now.checked.now.list.nodes (c.args.place + 1)) left_is.node left_is.at c.second-collection.ensures in bound_may_be_put c.args.context.now.checked.now c.args.context.now.ranges.now (c.at-left.result ∷ []) c.put_path.new.draft.depth c.in_ok-lifted.lifted c.in_ok-lifted.ensures (left_tested_plainly (question_of c.args.context.now) c.args.context.now.ranges.now c.requires.translated.ranges c.requires.translated.right c.trees_have_one_type.ensures c.typed_trees_end_once_on_entities.ensures c.requires.translated.moment c.comparisons_are_decided.ensures.decided c.args.place c.second-collection.result c.requires.kind c.at-left.result c.at-left.ensures.source left_is is_second (not_so c.is_truth.result c.is_truth.ensures.1 c.if-is_truth.false), tt)), omega (arith, c.in_ok-open.ensures.depth, c.in_ok-put_faults.ensures.depth, c.in_ok-put-2.ensures.ok.depth, c.in_ok-put_unless_missing-2.ensures.depth, c.in_ok-put_has_member.ensures.grows.depth))),
)

-- ---- in_path::put_kept_in_path

pub in_path::put_kept_in_path-second-collection-requires : goal.in_path::put_kept_in_path-second-collection-requires
in_path::put_kept_in_path-second-collection-requires t c =
    first_child c.args.context.now.checked.now c.requires.translated.right c.args.place NodeKind.InPath (path_inside c.args.context.now.checked.now c.requires.translated.right c.args.place) c.requires.kind

pub in_path::put_kept_in_path-put_path-requires-clause-path : goal.in_path::put_kept_in_path-put_path-requires-clause-path
in_path::put_kept_in_path-put_path-requires-clause-path t c =
    in_path_there (question_of c.args.context.now) c.args.context.now.ranges.now c.requires.translated.ranges c.requires.translated.right c.trees_have_one_type.ensures c.args.place c.requires.kind c.second-collection.result c.second-collection.ensures

pub in_path::put_kept_in_path-at-requires-clause-there : goal.in_path::put_kept_in_path-at-requires-clause-there
in_path::put_kept_in_path-at-requires-clause-there t c =
    first_child c.args.context.now.checked.now c.requires.translated.right c.args.place NodeKind.InPath (path_inside c.args.context.now.checked.now c.requires.translated.right c.args.place) c.requires.kind

pub in_path::put_kept_in_path-at-requires-clause-ranged : goal.in_path::put_kept_in_path-at-requires-clause-ranged
in_path::put_kept_in_path-at-requires-clause-ranged t c =
    has_range (question_of c.args.context.now) c.args.context.now.ranges.now c.requires.translated.ranges (c.args.place + 1) (first_child c.args.context.now.checked.now c.requires.translated.right c.args.place NodeKind.InPath (path_inside c.args.context.now.checked.now c.requires.translated.right c.args.place) c.requires.kind)

pub in_path::put_kept_in_path-returns : goal.in_path::put_kept_in_path-returns
in_path::put_kept_in_path-returns t c =
    let left_is = node_operand c.args.context.now.checked.now c.args.context.now.ranges.now c.at.result (c.args.place + 1) c.at.ensures.kind c.at.ensures.range in
    let is_second = found_there (λ (n : CheckedNode). n.stop ≡ c.second-collection.result) (slice_get c.args.context.now.checked.now.list.nodes (c.args.place + 1)) left_is.node left_is.at c.second-collection.ensures in
    ok_kept_in_path (question_of c.args.context.now) c.args.context.now.ranges.now c.requires.translated.ranges c.requires.translated.right c.trees_have_one_type.ensures c.typed_trees_end_once_on_entities.ensures c.requires.translated.moment c.comparisons_are_decided.ensures.decided c.args.place c.second-collection.result c.requires.kind c.at.result c.at.ensures.source left_is is_second c.requires.faultless c.in_ok-path.path c.put_over_members.result c.args.draft.now c.put_path.new.draft c.put_over_members.new.draft c.in_ok-path.ensures c.put_over_members.ensures

pub in_path::put_kept_in_path-put_over_members-requires : goal.in_path::put_kept_in_path-put_over_members-requires
in_path::put_kept_in_path-put_over_members-requires t c = (
  omega (arith, on_from c.args.context.now.checked.now (left_of c.args.context.now.checked.now c.at.result) (left_from c.args.context.now.checked.now c.args.place) 19 1 (at_on c.args.context.now.checked.now c.args.place (kind_inside c.args.context.now.checked.now c.args.place NodeKind.InPath c.requires.kind) c.at.result (c.args.place + 1) c.at.ensures.source (omega arith)) (omega arith)),
  (c.requires.translated, ((let left_is = node_operand c.args.context.now.checked.now c.args.context.now.ranges.now c.at.result (c.args.place + 1) c.at.ensures.kind c.at.ensures.range in let is_second = found_there (λ (n : CheckedNode). n.stop ≡ c.second-collection.result) (slice_get c.args.context.now.checked.now.list.nodes (c.args.place + 1)) left_is.node left_is.at c.second-collection.ensures in left_tested (question_of c.args.context.now) c.args.context.now.ranges.now c.requires.translated.ranges c.requires.translated.right c.trees_have_one_type.ensures c.typed_trees_end_once_on_entities.ensures c.requires.translated.moment c.comparisons_are_decided.ensures.decided c.args.place c.second-collection.result c.requires.kind c.at.result c.at.ensures.source left_is is_second c.requires.faultless), ((let left_is = node_operand c.args.context.now.checked.now c.args.context.now.ranges.now c.at.result (c.args.place + 1) c.at.ensures.kind c.at.ensures.range in let is_second = found_there (λ (n : CheckedNode). n.stop ≡ c.second-collection.result) (slice_get c.args.context.now.checked.now.list.nodes (c.args.place + 1)) left_is.node left_is.at c.second-collection.ensures in beside (question_of c.args.context.now) c.args.context.now.ranges.now c.requires.translated.ranges c.requires.translated.right c.trees_have_one_type.ensures c.typed_trees_end_once_on_entities.ensures c.requires.translated.moment c.comparisons_are_decided.ensures.decided c.args.place c.second-collection.result c.requires.kind c.at.result c.at.ensures.source left_is is_second), (c.in_ok-path.ensures.leads, (subst (IsInside c.args.context.now.checked.now) (sym c.at.ensures.source) (first_child c.args.context.now.checked.now c.requires.translated.right c.args.place NodeKind.InPath (path_inside c.args.context.now.checked.now c.requires.translated.right c.args.place) c.requires.kind), (let left_is = node_operand c.args.context.now.checked.now c.args.context.now.ranges.now c.at.result (c.args.place + 1) c.at.ensures.kind c.at.ensures.range in let is_second = found_there (λ (n : CheckedNode). n.stop ≡ c.second-collection.result) (slice_get c.args.context.now.checked.now.list.nodes (c.args.place + 1)) left_is.node left_is.at c.second-collection.ensures in left_faultless (question_of c.args.context.now) c.args.context.now.ranges.now c.requires.translated.ranges c.requires.translated.right c.trees_have_one_type.ensures c.typed_trees_end_once_on_entities.ensures c.requires.translated.moment c.comparisons_are_decided.ensures.decided c.args.place c.second-collection.result c.requires.kind c.at.result c.at.ensures.source left_is is_second c.requires.faultless)))))),
)

-- ---- in_path::put_over_members

pub in_path::put_over_members-returns-then-not-is_value : goal.in_path::put_over_members-returns-then-not-is_value
in_path::put_over_members-returns-then-not-is_value t c =
    ok_over_plain (question_of c.args.context.now) c.args.collection c.args.left.now c.put_has_member.result c.args.draft.now c.put_has_member.new.draft c.put_has_member.ensures

pub in_path::put_over_members-lifted_left-requires-clause-value : goal.in_path::put_over_members-lifted_left-requires-clause-value
in_path::put_over_members-lifted_left-requires-clause-value t c = c.is_value.ensures.0 c.if-not-is_value.false

pub in_path::put_over_members-first-requires : goal.in_path::put_over_members-first-requires
in_path::put_over_members-first-requires t c =
    let one : length c.in_ok-lifted.lifted.inner.items ≡ 1 = inner_length (c.args.left.now ∷ []) c.args.draft.now.depth c.in_ok-lifted.lifted c.in_ok-lifted.ensures in
    omega (arith, one)

pub in_path::put_over_members-returns : goal.in_path::put_over_members-returns
in_path::put_over_members-returns t c =
    ok_over_members (question_of c.args.context.now) c.args.collection c.args.left.now c.close.result c.args.draft.now c.close.new.draft c.first.result c.in_ok-lifted.lifted c.in_ok-lifted.ensures c.first.ensures c.open.new.draft c.put_has_member-2.new.draft c.in_ok-open.ensures
    c.in_ok-put_has_member.ensures c.close.ensures.values c.close.ensures.idle

pub in_path::put_over_members-put_has_member-requires : goal.in_path::put_over_members-put_has_member-requires
in_path::put_over_members-put_has_member-requires t c = (omega arith, (c.requires.translated, (c.requires.tested, (c.requires.members, c.requires.leads))))

pub in_path::put_over_members-put_has_member-requires-2 : goal.in_path::put_over_members-put_has_member-requires-2
in_path::put_over_members-put_has_member-requires-2 t c = (
  omega (arith, down_to c.args.context.now.checked.now (left_of c.args.context.now.checked.now c.first.result) (left_of c.args.context.now.checked.now c.args.left.now) 18 19 (lifted_left_left c.args.context.now.checked.now c.args.left.now c.args.draft.now.depth c.in_ok-lifted.lifted c.in_ok-lifted.ensures c.first.result c.first.ensures) (omega arith)),
  (c.requires.translated, ((let value = c.is_value.ensures.0 c.if-not-is_value.false in tested_first c.args.context.now.checked.now c.args.context.now.ranges.now c.args.left.now c.first.result value.0 value.1 c.in_ok-lifted.lifted c.args.draft.now.depth c.in_ok-lifted.ensures c.first.ensures c.requires.tested), ((let value = c.is_value.ensures.0 c.if-not-is_value.false in subst (λ (k : Kind). AreMembersBeside c.args.context.now.checked.now k c.args.collection) (sym (kind_first c.args.context.now.checked.now c.args.context.now.ranges.now c.args.left.now c.first.result value.0 value.1 c.in_ok-lifted.lifted c.args.draft.now.depth c.in_ok-lifted.ensures c.first.ensures)) c.requires.members), path_opened (question_of c.args.context.now) c.in_ok-lifted.lifted c.args.draft.now c.open.new.draft c.args.collection c.args.path c.in_ok-open.ensures c.requires.leads))),
)

pub in_path::put_over_members-close-requires : goal.in_path::put_over_members-close-requires
in_path::put_over_members-close-requires t c = (
  omega (arith, down_to c.args.context.now.checked.now (left_in c.args.context.now.checked.now c.in_ok-lifted.lifted.bound.items) (left_of c.args.context.now.checked.now c.args.left.now) 11 19 (bound_left_left c.args.context.now.checked.now c.args.left.now c.args.draft.now.depth c.in_ok-lifted.lifted c.in_ok-lifted.ensures) (omega arith)),
  (c.requires.translated, (bound_may_be_put c.args.context.now.checked.now c.args.context.now.ranges.now (c.args.left.now ∷ []) c.args.draft.now.depth c.in_ok-lifted.lifted c.in_ok-lifted.ensures (c.requires.tested, tt), omega (arith, c.in_ok-open.ensures.depth, c.in_ok-put_has_member.ensures.grows.depth))),
)

-- ---- in_path::put_truth_in_path_code

pub in_path::put_truth_in_path_code-range-requires : goal.in_path::put_truth_in_path_code-range-requires
in_path::put_truth_in_path_code-range-requires t c =
    has_range (question_of c.args.context.now) c.args.context.now.ranges.now c.requires.translated.ranges c.args.collection (second_child c.args.context.now.checked.now c.requires.translated.right c.args.place NodeKind.InPath (path_inside c.args.context.now.checked.now c.requires.translated.right c.args.place) c.requires.kind c.args.collection c.requires.second)

pub in_path::put_truth_in_path_code-member_of-member-requires-clause-collection : goal.in_path::put_truth_in_path_code-member_of-member-requires-clause-collection
in_path::put_truth_in_path_code-member_of-member-requires-clause-collection t c =
    let ranged = at_place c.args.context.now.ranges.now (c.args.place + 1) (has_range (question_of c.args.context.now) c.args.context.now.ranges.now c.requires.translated.ranges (c.args.place + 1) (first_child c.args.context.now.checked.now c.requires.translated.right c.args.place NodeKind.InPath (path_inside c.args.context.now.checked.now c.requires.translated.right c.args.place) c.requires.kind)) in
    let left = truth_operand (c.args.place + 1) ranged.0 in
    let left_is = is_truth_operand c.args.context.now.checked.now c.args.context.now.ranges.now (c.args.place + 1) ranged.0 c.requires.truth ranged.1 in
    let is_second = found_there (λ (n : CheckedNode). n.stop ≡ c.args.collection) (slice_get c.args.context.now.checked.now.list.nodes (c.args.place + 1)) left_is.node left_is.at c.requires.second in
    collection (question_of c.args.context.now) c.args.context.now.ranges.now c.requires.translated.ranges c.requires.translated.right c.trees_have_one_type.ensures c.typed_trees_end_once_on_entities.ensures c.requires.translated.moment c.comparisons_are_decided.ensures.decided c.args.place c.args.collection c.requires.kind left refl left_is is_second

pub in_path::put_truth_in_path_code-overflow_add-place : goal.in_path::put_truth_in_path_code-overflow_add-place
in_path::put_truth_in_path_code-overflow_add-place t c =
    let own = some_there (λ (n : CheckedNode). n.kind ≡ NodeKind.InPath) (slice_get c.args.context.now.checked.now.list.nodes c.args.place) c.requires.kind in
    let left = some_there (λ (n : CheckedNode). n.stop ≡ c.args.collection) (slice_get c.args.context.now.checked.now.list.nodes (c.args.place + 1)) c.requires.second in
    let below : c.args.place + 1 ≤ left.0.stop = ((path_inside c.args.context.now.checked.now c.requires.translated.right c.args.place own.0 own.1.0 own.1.1).1 left.0 left.1.0).1 in
    let is : left.0.stop ≡ c.args.collection = left.1.1 in
    omega (arith, below, is)

pub in_path::put_truth_in_path_code-overflow_sub-draft : goal.in_path::put_truth_in_path_code-overflow_sub-draft
in_path::put_truth_in_path_code-overflow_sub-draft t c =
    let d0 : c.deepen.new.self.depth ≡ c.put.new.self.depth + 1 = c.in_ok-deepen.ensures.ok.depth in
    let d1 : c.put-2.new.self.depth ≡ c.deepen.new.self.depth = c.in_ok-put-2.ensures.ok.depth in
    let d2 : c.put_code_comparison.new.draft.depth ≡ c.put-2.new.self.depth = c.in_ok-put_code_comparison.ensures.depth in
    let d3 : c.put-3.new.self.depth ≡ c.put_code_comparison.new.draft.depth = c.in_ok-put-3.ensures.ok.depth in
    let d4 : c.put_number.new.self.depth ≡ c.put-3.new.self.depth = c.in_ok-put_number.ensures.ok.depth in
    let d5 : c.put-4.new.self.depth ≡ c.put_number.new.self.depth = c.in_ok-put-4.ensures.ok.depth in
    let d6 : c.put-5.new.self.depth ≡ c.put-4.new.self.depth = c.in_ok-put-5.ensures.ok.depth in
    let d7 : c.put_unless_missing.new.draft.depth ≡ c.put-5.new.self.depth = c.in_ok-put_unless_missing.ensures.depth in
    let d8 : c.put_member_path.new.draft.depth ≡ c.put_unless_missing.new.draft.depth = c.in_ok-member_path.ensures.grows.depth in
    let d9 : c.put-6.new.self.depth ≡ c.put_member_path.new.draft.depth = c.in_ok-put-6.ensures.ok.depth in
    let d10 : c.deepen-2.new.self.depth ≡ c.put-6.new.self.depth + 1 = c.in_ok-deepen-2.ensures.ok.depth in
    let d11 : c.put_code_comparison-2.new.draft.depth ≡ c.deepen-2.new.self.depth = c.in_ok-put_code_comparison-2.ensures.depth in
    let d12 : c.put-7.new.self.depth ≡ c.put_code_comparison-2.new.draft.depth = c.in_ok-put-7.ensures.ok.depth in
    let d13 : c.put_operand.new.draft.depth ≡ c.put-7.new.self.depth = c.in_ok-put_operand.ensures.grows.depth in
    let d14 : c.put-8.new.self.depth ≡ c.put_operand.new.draft.depth = c.in_ok-put-8.ensures.ok.depth in
    omega (arith, d0, d1, d2, d3, d4, d5, d6, d7, d8, d9, d10, d11, d12, d13, d14)

pub in_path::put_truth_in_path_code-returns : goal.in_path::put_truth_in_path_code-returns
in_path::put_truth_in_path_code-returns t c =
    let ranged = at_place c.args.context.now.ranges.now (c.args.place + 1) (has_range (question_of c.args.context.now) c.args.context.now.ranges.now c.requires.translated.ranges (c.args.place + 1) (first_child c.args.context.now.checked.now c.requires.translated.right c.args.place NodeKind.InPath (path_inside c.args.context.now.checked.now c.requires.translated.right c.args.place) c.requires.kind)) in
    let left = truth_operand (c.args.place + 1) ranged.0 in
    let left_is = is_truth_operand c.args.context.now.checked.now c.args.context.now.ranges.now (c.args.place + 1) ranged.0 c.requires.truth ranged.1 in
    let is_second = found_there (λ (n : CheckedNode). n.stop ≡ c.args.collection) (slice_get c.args.context.now.checked.now.list.nodes (c.args.place + 1)) left_is.node left_is.at c.requires.second in
    let sides = beside (question_of c.args.context.now) c.args.context.now.ranges.now c.requires.translated.ranges c.requires.translated.right c.trees_have_one_type.ensures c.typed_trees_end_once_on_entities.ensures c.requires.translated.moment c.comparisons_are_decided.ensures.decided c.args.place c.args.collection c.requires.kind left refl left_is is_second in
    let is_truth = member_truth c.in_ok-member_path.member_path c.member_of-member.result.kind c.member_of-member.result.source c.member_of-member.ensures.at (member_compared c.args.context.now.checked.now left c.args.collection c.in_ok-member_path.member_path c.member_of-member.result sides c.member_of-member.ensures) in
    let d0 : c.deepen.new.self.depth ≡ c.put.new.self.depth + 1 = c.in_ok-deepen.ensures.ok.depth in
    let d1 : c.put-2.new.self.depth ≡ c.deepen.new.self.depth = c.in_ok-put-2.ensures.ok.depth in
    let d2 : c.put_code_comparison.new.draft.depth ≡ c.put-2.new.self.depth = c.in_ok-put_code_comparison.ensures.depth in
    let d3 : c.put-3.new.self.depth ≡ c.put_code_comparison.new.draft.depth = c.in_ok-put-3.ensures.ok.depth in
    let d4 : c.put_number.new.self.depth ≡ c.put-3.new.self.depth = c.in_ok-put_number.ensures.ok.depth in
    let d5 : c.put-4.new.self.depth ≡ c.put_number.new.self.depth = c.in_ok-put-4.ensures.ok.depth in
    let d6 : c.put-5.new.self.depth ≡ c.put-4.new.self.depth = c.in_ok-put-5.ensures.ok.depth in
    let d7 : c.put_unless_missing.new.draft.depth ≡ c.put-5.new.self.depth = c.in_ok-put_unless_missing.ensures.depth in
    let d8 : c.put_member_path.new.draft.depth ≡ c.put_unless_missing.new.draft.depth = c.in_ok-member_path.ensures.grows.depth in
    let d9 : c.put-6.new.self.depth ≡ c.put_member_path.new.draft.depth = c.in_ok-put-6.ensures.ok.depth in
    let d10 : c.deepen-2.new.self.depth ≡ c.put-6.new.self.depth + 1 = c.in_ok-deepen-2.ensures.ok.depth in
    let d11 : c.put_code_comparison-2.new.draft.depth ≡ c.deepen-2.new.self.depth = c.in_ok-put_code_comparison-2.ensures.depth in
    let d12 : c.put-7.new.self.depth ≡ c.put_code_comparison-2.new.draft.depth = c.in_ok-put-7.ensures.ok.depth in
    let d13 : c.put_operand.new.draft.depth ≡ c.put-7.new.self.depth = c.in_ok-put_operand.ensures.grows.depth in
    let d14 : c.put-8.new.self.depth ≡ c.put_operand.new.draft.depth = c.in_ok-put-8.ensures.ok.depth in
    let deep : 2 ≤ c.put-8.new.self.depth = omega (arith, d0, d1, d2, d3, d4, d5, d6, d7, d8, d9, d10, d11, d12, d13, d14) in
    ok_truth_in_path (question_of c.args.context.now) c.args.context.now.ranges.now c.requires.translated.ranges c.args.place c.args.collection c.args.path c.in_ok-member_path.member_path c.range.result c.range.ensures left c.member_of-member.result refl is_truth (members_truth c.args.context.now.checked.now left.kind c.args.collection sides refl) (comes_so (question_of c.args.context.now) c.args.context.now.ranges.now c.requires.translated.ranges c.requires.translated.right c.trees_have_one_type.ensures c.typed_trees_end_once_on_entities.ensures c.requires.translated.moment c.comparisons_are_decided.ensures.decided c.args.place c.args.collection c.requires.kind left refl left_is is_second)
    c.args.draft.now c.put.new.self c.deepen.new.self c.put-2.new.self c.put_code_comparison.new.draft c.put-3.new.self c.put_number.new.self c.put-4.new.self c.put-5.new.self c.put_unless_missing.new.draft
    c.put_member_path.new.draft c.put-6.new.self c.deepen-2.new.self c.put_code_comparison-2.new.draft c.put-7.new.self c.put_operand.new.draft c.put-8.new.self (record c.put-8.new.self { depth = c.put-8.new.self.depth - 2 })
    c.put_code.new.draft c.requires.leads
    (record {
      let_grows = c.in_ok-put.ensures.ok;
      deeper = c.in_ok-deepen.ensures.ok;
      case_grows = c.in_ok-put-2.ensures.ok;
      above_grows = c.in_ok-put_code_comparison.ensures;
      code_grows = c.in_ok-put-3.ensures.ok;
      three_grows = c.in_ok-put_number.ensures.ok;
      fault_grows = c.in_ok-put-4.ensures.ok;
      truth_grows = c.in_ok-put-5.ensures.ok;
      front = c.in_ok-put_unless_missing.ensures;
      member_path = c.in_ok-member_path.ensures;
      member_is = c.member_of-member.ensures;
      exists_grows = c.in_ok-put-6.ensures.ok;
      more_deeper = c.in_ok-deepen-2.ensures.ok;
      equal_grows = c.in_ok-put_code_comparison-2.ensures;
      member_code = c.in_ok-put-7.ensures.ok;
      value = c.in_ok-put_operand.ensures;
      bound_grows = c.in_ok-put-8.ensures.ok;
    })
    c.put_code.result refl refl (omega (arith, deep)) c.put_code.ensures

pub in_path::put_truth_in_path_code-put_operand-requires : goal.in_path::put_truth_in_path_code-put_operand-requires
in_path::put_truth_in_path_code-put_operand-requires t c = (
  omega (arith, on_from c.args.context.now.checked.now (left_of c.args.context.now.checked.now c.member_of-member.result) (left_from c.args.context.now.checked.now c.args.place) 10 1 (omega (arith, member_left c.args.context.now.checked.now c.args.collection c.in_ok-member_path.member_path c.member_of-member.result 0 c.member_of-member.ensures, nothing_on c.args.context.now.checked.now c.args.place (kind_inside c.args.context.now.checked.now c.args.place NodeKind.InPath c.requires.kind))) (omega arith)),
  (c.requires.translated, (let ranged = at_place c.args.context.now.ranges.now (c.args.place + 1) (has_range (question_of c.args.context.now) c.args.context.now.ranges.now c.requires.translated.ranges (c.args.place + 1) (first_child c.args.context.now.checked.now c.requires.translated.right c.args.place NodeKind.InPath (path_inside c.args.context.now.checked.now c.requires.translated.right c.args.place) c.requires.kind)) in let left = truth_operand (c.args.place + 1) ranged.0 in let left_is = is_truth_operand c.args.context.now.checked.now c.args.context.now.ranges.now (c.args.place + 1) ranged.0 c.requires.truth ranged.1 in let is_second = found_there (λ (n : CheckedNode). n.stop ≡ c.args.collection) (slice_get c.args.context.now.checked.now.list.nodes (c.args.place + 1)) left_is.node left_is.at c.requires.second in let sides = beside (question_of c.args.context.now) c.args.context.now.ranges.now c.requires.translated.ranges c.requires.translated.right c.trees_have_one_type.ensures c.typed_trees_end_once_on_entities.ensures c.requires.translated.moment c.comparisons_are_decided.ensures.decided c.args.place c.args.collection c.requires.kind left refl left_is is_second in let is_truth = member_truth c.in_ok-member_path.member_path c.member_of-member.result.kind c.member_of-member.result.source c.member_of-member.ensures.at (member_compared c.args.context.now.checked.now left c.args.collection c.in_ok-member_path.member_path c.member_of-member.result sides c.member_of-member.ensures) in tested_put c.args.context.now.checked.now c.args.context.now.ranges.now c.member_of-member.result SqlType.Truth is_truth (member_tested c.args.context.now.checked.now c.args.context.now.ranges.now c.args.collection c.in_ok-member_path.member_path c.member_of-member.result c.member_of-member.ensures))),
)

pub in_path::put_truth_in_path_code-put_code-requires : goal.in_path::put_truth_in_path_code-put_code-requires
in_path::put_truth_in_path_code-put_code-requires t c = (
  omega (arith, on_from c.args.context.now.checked.now (left_from c.args.context.now.checked.now (c.args.place + 1)) (left_from c.args.context.now.checked.now c.args.place) 6 1 (next_on c.args.context.now.checked.now c.args.place (kind_inside c.args.context.now.checked.now c.args.place NodeKind.InPath c.requires.kind)) (omega arith)),
  (c.requires.translated, boolean_truth (question_of c.args.context.now) (c.args.place + 1) c.requires.truth),
)

-- ---- keeps::put_decided

pub keeps::put_decided-faultless_terms-requires : goal.keeps::put_decided-faultless_terms-requires
keeps::put_decided-faultless_terms-requires t c =
    record {
      ranged = terms_ranged (question_of c.args.context.now) c.args.context.now.ranges.now c.requires.translated.ranges c.args.terms.now c.requires.truths;
    }

pub keeps::put_decided-split_at-requires : goal.keeps::put_decided-split_at-requires
keeps::put_decided-split_at-requires t c = c.faultless_terms.ensures.within

pub keeps::put_decided-returns-then-is_empty : goal.keeps::put_decided-returns-then-is_empty
keeps::put_decided-returns-then-is_empty t c =
    ok_same_terms (question_of c.args.context.now) c.args.form c.put_joined.result c.args.connective c.args.terms.now c.split_at.result.0.now c.args.draft.now c.put_joined.new.draft (only_front c.args.terms.now c.split_at.result.0.now c.split_at.result.1.now c.faultless_terms.result c.split_at.ensures.front c.split_at.ensures.back (empty_length c.split_at.result.1.now c.is_empty.result c.is_empty.ensures c.if-is_empty.true)) (c.put_joined.ensures c.args.connective c.requires.joins)

pub keeps::put_decided-returns-then-is_empty-2 : goal.keeps::put_decided-returns-then-is_empty-2
keeps::put_decided-returns-then-is_empty-2 t c =
    ok_same_terms (question_of c.args.context.now) c.args.form c.put_undecided.result c.args.connective c.args.terms.now c.split_at.result.1.now c.args.draft.now c.put_undecided.new.draft (only_rest c.args.terms.now c.split_at.result.0.now c.split_at.result.1.now c.faultless_terms.result c.split_at.ensures.front c.split_at.ensures.back (empty_length c.split_at.result.0.now c.is_empty-2.result c.is_empty-2.ensures c.if-is_empty-2.true)) c.put_undecided.ensures

pub keeps::put_decided-returns : goal.keeps::put_decided-returns
keeps::put_decided-returns t c =
    ok_joined (question_of c.args.context.now) c.args.form c.put_undecided-2.result c.args.context.now.ranges.now c.requires.translated.ranges (record { and_table = c.tables_are_connectives.ensures.and; or_table = c.tables_are_connectives.ensures.or }) SqlNode.Or c.args.connective c.requires.joins c.args.terms.now c.split_at.result.0.now c.split_at.result.1.now (two_parts c.args.terms.now c.split_at.result.0.now c.split_at.result.1.now c.faultless_terms.result c.split_at.ensures.front c.split_at.ensures.back (some_length c.split_at.result.0.now c.is_empty-2.result c.is_empty-2.ensures c.if-is_empty-2.false) (some_length c.split_at.result.1.now c.is_empty.result c.is_empty.ensures c.if-is_empty.false))
    (λ values. (front_faultless c.args.terms.now c.split_at.result.0.now c.split_at.result.1.now c.faultless_terms.result c.split_at.ensures.front c.split_at.ensures.back c.faultless_terms.ensures.within c.args.context.now.ranges.now c.faultless_terms.ensures.are)) (λ both. absurd (asked_not_both c.args.form c.requires.asked both)) c.args.draft.now c.put.new.self c.put_joined-2.new.draft c.put_undecided-2.new.draft c.in_ok-put.ensures.ok (c.in_ok-put_joined.ensures c.args.connective c.requires.joins) c.put_undecided-2.ensures

pub keeps::put_decided-put_joined-requires : goal.keeps::put_decided-put_joined-requires
keeps::put_decided-put_joined-requires t c = (
  omega (arith, down_to c.args.context.now.checked.now (left_among c.args.context.now.checked.now c.split_at.result.0.now) (left_among c.args.context.now.checked.now c.args.terms.now) (10 + length c.split_at.result.0.now) (12 + length c.args.terms.now) (front_terms c.args.context.now.checked.now c.args.terms.now c.split_at.result.0.now c.split_at.result.1.now (both_parts c.args.terms.now c.split_at.result.0.now c.split_at.result.1.now c.faultless_terms.result c.split_at.ensures.front c.split_at.ensures.back)) (omega (arith, parts_length c.args.terms.now c.split_at.result.0.now c.split_at.result.1.now (both_parts c.args.terms.now c.split_at.result.0.now c.split_at.result.1.now c.faultless_terms.result c.split_at.ensures.front c.split_at.ensures.back)))),
  (c.requires.translated, (subst (λ (xs : List ℕ). 0 < length xs) (only_front c.args.terms.now c.split_at.result.0.now c.split_at.result.1.now c.faultless_terms.result c.split_at.ensures.front c.split_at.ensures.back (empty_length c.split_at.result.1.now c.is_empty.result c.is_empty.ensures c.if-is_empty.true)) c.requires.some, (of_front c.args.terms.now c.split_at.result.0.now c.split_at.result.1.now c.faultless_terms.result c.split_at.ensures.front c.split_at.ensures.back (IsTruthAt c.args.context.now.checked.now) c.requires.truths, ((λ values. (front_faultless c.args.terms.now c.split_at.result.0.now c.split_at.result.1.now c.faultless_terms.result c.split_at.ensures.front c.split_at.ensures.back c.faultless_terms.ensures.within c.args.context.now.ranges.now c.faultless_terms.ensures.are)), (c.args.connective, c.requires.joins))))),
)

pub keeps::put_decided-put_undecided-requires : goal.keeps::put_decided-put_undecided-requires
keeps::put_decided-put_undecided-requires t c = (
  omega (arith, down_to c.args.context.now.checked.now (left_among c.args.context.now.checked.now c.split_at.result.1.now) (left_among c.args.context.now.checked.now c.args.terms.now) (11 + length c.split_at.result.1.now) (12 + length c.args.terms.now) (rest_terms c.args.context.now.checked.now c.args.terms.now c.split_at.result.0.now c.split_at.result.1.now (both_parts c.args.terms.now c.split_at.result.0.now c.split_at.result.1.now c.faultless_terms.result c.split_at.ensures.front c.split_at.ensures.back)) (omega (arith, parts_length c.args.terms.now c.split_at.result.0.now c.split_at.result.1.now (both_parts c.args.terms.now c.split_at.result.0.now c.split_at.result.1.now c.faultless_terms.result c.split_at.ensures.front c.split_at.ensures.back)))),
  (c.requires.translated, (subst (λ (xs : List ℕ). 0 < length xs) (only_rest c.args.terms.now c.split_at.result.0.now c.split_at.result.1.now c.faultless_terms.result c.split_at.ensures.front c.split_at.ensures.back (empty_length c.split_at.result.0.now c.is_empty-2.result c.is_empty-2.ensures c.if-is_empty-2.true)) c.requires.some, (of_rest c.args.terms.now c.split_at.result.0.now c.split_at.result.1.now c.faultless_terms.result c.split_at.ensures.front c.split_at.ensures.back (IsTruthAt c.args.context.now.checked.now) c.requires.truths, (c.requires.joins, c.requires.asked)))),
)

pub keeps::put_decided-put_joined-requires-2 : goal.keeps::put_decided-put_joined-requires-2
keeps::put_decided-put_joined-requires-2 t c = (
  omega (arith, down_to c.args.context.now.checked.now (left_among c.args.context.now.checked.now c.split_at.result.0.now) (left_among c.args.context.now.checked.now c.args.terms.now) (10 + length c.split_at.result.0.now) (12 + length c.args.terms.now) (front_terms c.args.context.now.checked.now c.args.terms.now c.split_at.result.0.now c.split_at.result.1.now (both_parts c.args.terms.now c.split_at.result.0.now c.split_at.result.1.now c.faultless_terms.result c.split_at.ensures.front c.split_at.ensures.back)) (omega (arith, parts_length c.args.terms.now c.split_at.result.0.now c.split_at.result.1.now (both_parts c.args.terms.now c.split_at.result.0.now c.split_at.result.1.now c.faultless_terms.result c.split_at.ensures.front c.split_at.ensures.back)))),
  (c.requires.translated, (some_length c.split_at.result.0.now c.is_empty-2.result c.is_empty-2.ensures c.if-is_empty-2.false, (of_front c.args.terms.now c.split_at.result.0.now c.split_at.result.1.now c.faultless_terms.result c.split_at.ensures.front c.split_at.ensures.back (IsTruthAt c.args.context.now.checked.now) c.requires.truths, ((λ values. (front_faultless c.args.terms.now c.split_at.result.0.now c.split_at.result.1.now c.faultless_terms.result c.split_at.ensures.front c.split_at.ensures.back c.faultless_terms.ensures.within c.args.context.now.ranges.now c.faultless_terms.ensures.are)), (c.args.connective, c.requires.joins))))),
)

pub keeps::put_decided-put_undecided-requires-2 : goal.keeps::put_decided-put_undecided-requires-2
keeps::put_decided-put_undecided-requires-2 t c = (
  omega (arith, down_to c.args.context.now.checked.now (left_among c.args.context.now.checked.now c.split_at.result.1.now) (left_among c.args.context.now.checked.now c.args.terms.now) (11 + length c.split_at.result.1.now) (12 + length c.args.terms.now) (rest_terms c.args.context.now.checked.now c.args.terms.now c.split_at.result.0.now c.split_at.result.1.now (both_parts c.args.terms.now c.split_at.result.0.now c.split_at.result.1.now c.faultless_terms.result c.split_at.ensures.front c.split_at.ensures.back)) (omega (arith, parts_length c.args.terms.now c.split_at.result.0.now c.split_at.result.1.now (both_parts c.args.terms.now c.split_at.result.0.now c.split_at.result.1.now c.faultless_terms.result c.split_at.ensures.front c.split_at.ensures.back)))),
  (c.requires.translated, (some_length c.split_at.result.1.now c.is_empty.result c.is_empty.ensures c.if-is_empty.false, (of_rest c.args.terms.now c.split_at.result.0.now c.split_at.result.1.now c.faultless_terms.result c.split_at.ensures.front c.split_at.ensures.back (IsTruthAt c.args.context.now.checked.now) c.requires.truths, (c.requires.joins, c.requires.asked)))),
)

-- ---- keeps::put_denies

pub keeps::put_denies-kind-requires : goal.keeps::put_denies-kind-requires
keeps::put_denies-kind-requires t c = truth_inside c.args.context.now.checked.now c.args.place c.requires.truth

pub keeps::put_denies-node-requires : goal.keeps::put_denies-node-requires
keeps::put_denies-node-requires t c = truth_inside c.args.context.now.checked.now c.args.place c.requires.truth

pub keeps::put_denies-returns-then-is_kind : goal.keeps::put_denies-returns-then-is_kind
keeps::put_denies-returns-then-is_kind t c =
    ok_null_asked (question_of c.args.context.now) c.args.context.now.ranges.now c.requires.translated.ranges c.typed_trees_end_once_on_entities.ensures c.requires.translated.moment c.args.place c.put.result c.requires.truth (kind_there c.args.context.now.checked.now c.args.place c.kind.result Kind.Null c.kind.ensures (c.is_kind.ensures.0 c.if-is_kind.true)) Form.Denies tt c.args.draft.now c.put.new.self c.put.ensures.ok

pub keeps::put_denies-returns-in-Not : goal.keeps::put_denies-returns-in-Not
keeps::put_denies-returns-in-Not t c =
    ok_not_denies (question_of c.args.context.now) c.args.context.now.ranges.now c.requires.translated.ranges c.typed_trees_end_once_on_entities.ensures c.requires.translated.moment c.args.place c.put_keeps.result (kind_here c.args.context.now.checked.now c.args.place c.node.result c.node.ensures NodeKind.Not c.in-Not.is) (not_below c.args.context.now.checked.now c.requires.translated.right c.trees_have_one_type.ensures c.args.place c.node.result c.node.ensures c.in-Not.is).truth c.args.draft.now c.put_keeps.new.draft c.put_keeps.ensures

pub keeps::put_denies-connective_at-requires : goal.keeps::put_denies-connective_at-requires
keeps::put_denies-connective_at-requires t c = truth_inside c.args.context.now.checked.now c.args.place c.requires.truth

pub keeps::put_denies-terms_of-requires-clause-there : goal.keeps::put_denies-terms_of-requires-clause-there
keeps::put_denies-terms_of-requires-clause-there t c = truth_inside c.args.context.now.checked.now c.args.place c.requires.truth

pub keeps::put_denies-terms_of-requires-clause-top : goal.keeps::put_denies-terms_of-requires-clause-top
keeps::put_denies-terms_of-requires-clause-top t c = c.in-Some.ensures.some

pub keeps::put_denies-may_fault-requires : goal.keeps::put_denies-may_fault-requires
keeps::put_denies-may_fault-requires t c = truth_ranged (question_of c.args.context.now) c.args.context.now.ranges.now c.requires.translated.ranges c.args.place c.requires.truth

pub keeps::put_denies-compared_at-requires-clause-there : goal.keeps::put_denies-compared_at-requires-clause-there
keeps::put_denies-compared_at-requires-clause-there t c = truth_inside c.args.context.now.checked.now c.args.place c.requires.truth

pub keeps::put_denies-returns-in-Some-compared_at : goal.keeps::put_denies-returns-in-Some-compared_at
keeps::put_denies-returns-in-Some-compared_at t c =
    ok_comparison (question_of c.args.context.now) c.args.context.now.ranges.now c.requires.translated.ranges c.typed_trees_end_once_on_entities.ensures c.requires.translated.moment c.args.place c.put_denied_comparison.result c.in-Some-compared_at.operator c.in-Some-compared_at.left c.in-Some-compared_at.right c.in-Some-compared_at.ensures.some c.args.draft.now c.put_denied_comparison.new.draft (faultless_there c.args.context.now.ranges.now c.args.place c.may_fault.result c.may_fault.ensures c.if-may_fault.false) (IsInForm Form.Denies) c.put_denied_comparison.ensures

pub keeps::put_denies-returns : goal.keeps::put_denies-returns
keeps::put_denies-returns t c =
    ok_denies_by_truth (question_of c.args.context.now) c.args.context.now.ranges.now c.requires.translated.ranges c.typed_trees_end_once_on_entities.ensures c.requires.translated.moment c.args.place c.put_truth.result c.requires.truth (faultless_there c.args.context.now.ranges.now c.args.place c.may_fault.result c.may_fault.ensures c.if-may_fault.false) c.args.draft.now c.put-2.new.self c.put_truth.new.draft c.in_ok-put.ensures.ok c.put_truth.ensures

pub keeps::put_denies-returns-in-Some : goal.keeps::put_denies-returns-in-Some
keeps::put_denies-returns-in-Some t c =
    elim c.match-connective.branch [
      | keeps::put_denies-in-Or w ↦
          subst (λ (r : Result (Unit {0}) AllocError). OnOk r (Puts (question_of c.args.context.now) c.args.draft.now c.match-connective.draft (OfPlace c.args.context.now.checked.now c.args.place) (IsInForm Form.Denies))) (sym w.result-is)
          (subst (λ (d : Draft). OnOk w.put_joined.result (Puts (question_of c.args.context.now) c.args.draft.now d (OfPlace c.args.context.now.checked.now c.args.place) (IsInForm Form.Denies))) (sym w.draft-is)
          (ok_chain (question_of c.args.context.now) Form.Denies w.put_joined.result LogicalOperator.Or c.args.place w.as_slice.result.now c.args.draft.now w.put_joined.new.draft (chain_is (question_of c.args.context.now) c.args.place w.as_slice.result.now c.in-Some.connective LogicalOperator.Or w.in-Or.is (subst (IsChain (question_of c.args.context.now) c.in-Some.connective c.args.place) (sym w.as_slice.ensures.value) c.in_ok-terms.ensures)) (w.put_joined.ensures LogicalOperator.Or tt)))
      | keeps::put_denies-in-And w ↦
          subst (λ (r : Result (Unit {0}) AllocError). OnOk r (Puts (question_of c.args.context.now) c.args.draft.now c.match-connective.draft (OfPlace c.args.context.now.checked.now c.args.place) (IsInForm Form.Denies))) (sym w.result-is)
          (subst (λ (d : Draft). OnOk w.put_decided.result (Puts (question_of c.args.context.now) c.args.draft.now d (OfPlace c.args.context.now.checked.now c.args.place) (IsInForm Form.Denies))) (sym w.draft-is)
          (ok_chain (question_of c.args.context.now) Form.Denies w.put_decided.result c.in-Some.connective c.args.place w.as_slice-in-And.result.now c.args.draft.now w.put_decided.new.draft (subst (IsChain (question_of c.args.context.now) c.in-Some.connective c.args.place) (sym w.as_slice-in-And.ensures.value) c.in_ok-terms.ensures) w.put_decided.ensures))
    ]

pub keeps::put_denies-put_keeps-requires : goal.keeps::put_denies-put_keeps-requires
keeps::put_denies-put_keeps-requires t c = (
  omega (arith, on_from c.args.context.now.checked.now (left_from c.args.context.now.checked.now (c.args.place + 1)) (left_from c.args.context.now.checked.now c.args.place) 8 8 (next_on c.args.context.now.checked.now c.args.place (truth_inside c.args.context.now.checked.now c.args.place c.requires.truth)) (omega arith)),
  (c.requires.translated, (not_below c.args.context.now.checked.now c.requires.translated.right c.trees_have_one_type.ensures c.args.place c.node.result c.node.ensures c.in-Not.is).truth),
)

pub keeps::put_denies-put_joined-requires : goal.keeps::put_denies-put_joined-requires
keeps::put_denies-put_joined-requires t c = (
  omega (arith, on_from c.args.context.now.checked.now (left_among c.args.context.now.checked.now c.as_slice.result.now) (left_from c.args.context.now.checked.now c.args.place) (10 + length c.as_slice.result.now) 8 (terms_left c.args.context.now.checked.now c.args.place (truth_inside c.args.context.now.checked.now c.args.place c.requires.truth) c.as_slice.result.now (subst (IsChain (question_of c.args.context.now) c.in-Some.connective c.args.place) (sym c.as_slice.ensures.value) c.in_ok-terms.ensures).after) (omega (arith, (subst (IsChain (question_of c.args.context.now) c.in-Some.connective c.args.place) (sym c.as_slice.ensures.value) c.in_ok-terms.ensures).few))),
  (c.requires.translated, ((chain_is (question_of c.args.context.now) c.args.place c.as_slice.result.now c.in-Some.connective LogicalOperator.Or c.in-Or.is (subst (IsChain (question_of c.args.context.now) c.in-Some.connective c.args.place) (sym c.as_slice.ensures.value) c.in_ok-terms.ensures)).some, ((chain_is (question_of c.args.context.now) c.args.place c.as_slice.result.now c.in-Some.connective LogicalOperator.Or c.in-Or.is (subst (IsChain (question_of c.args.context.now) c.in-Some.connective c.args.place) (sym c.as_slice.ensures.value) c.in_ok-terms.ensures)).truths, ((λ values. absurd values), (LogicalOperator.Or, tt))))),
)

pub keeps::put_denies-put_decided-requires : goal.keeps::put_denies-put_decided-requires
keeps::put_denies-put_decided-requires t c = (
  omega (arith, on_from c.args.context.now.checked.now (left_among c.args.context.now.checked.now c.as_slice-in-And.result.now) (left_from c.args.context.now.checked.now c.args.place) (12 + length c.as_slice-in-And.result.now) 8 (terms_left c.args.context.now.checked.now c.args.place (truth_inside c.args.context.now.checked.now c.args.place c.requires.truth) c.as_slice-in-And.result.now (subst (IsChain (question_of c.args.context.now) c.in-Some.connective c.args.place) (sym c.as_slice-in-And.ensures.value) c.in_ok-terms.ensures).after) (omega (arith, (subst (IsChain (question_of c.args.context.now) c.in-Some.connective c.args.place) (sym c.as_slice-in-And.ensures.value) c.in_ok-terms.ensures).few))),
  (c.requires.translated, ((subst (IsChain (question_of c.args.context.now) c.in-Some.connective c.args.place) (sym c.as_slice-in-And.ensures.value) c.in_ok-terms.ensures).some, ((subst (IsChain (question_of c.args.context.now) c.in-Some.connective c.args.place) (sym c.as_slice-in-And.ensures.value) c.in_ok-terms.ensures).truths, (subst (IsJoin Form.Denies SqlNode.Or) (sym c.in-And.is) tt, tt)))),
)

pub keeps::put_denies-put_has_code-requires : goal.keeps::put_denies-put_has_code-requires
keeps::put_denies-put_has_code-requires t c = (omega arith, (c.requires.translated, (c.requires.truth, tt)))

pub keeps::put_denies-put_denied_comparison-requires : goal.keeps::put_denies-put_denied_comparison-requires
keeps::put_denies-put_denied_comparison-requires t c = (
  omega (arith, on_from c.args.context.now.checked.now (left_in c.args.context.now.checked.now (c.in-Some-compared_at.left ∷ c.in-Some-compared_at.right ∷ [])) (left_from c.args.context.now.checked.now c.args.place) 17 8 (sides_left c.args.context.now.checked.now c.args.place (truth_inside c.args.context.now.checked.now c.args.place c.requires.truth) c.args.context.now.ranges.now (c.in-Some-compared_at.left ∷ c.in-Some-compared_at.right ∷ []) (c.in-Some-compared_at.ensures.some.left_is, (c.in-Some-compared_at.ensures.some.right_is, tt))) (omega arith)),
  (c.requires.translated, (plain_side (question_of c.args.context.now) c.args.context.now.ranges.now c.requires.translated.ranges c.args.place c.in-Some-compared_at.left (faultless_there c.args.context.now.ranges.now c.args.place c.may_fault.result c.may_fault.ensures c.if-may_fault.false) c.in-Some-compared_at.ensures.some.left_is, (plain_side (question_of c.args.context.now) c.args.context.now.ranges.now c.requires.translated.ranges c.args.place c.in-Some-compared_at.right (faultless_there c.args.context.now.ranges.now c.args.place c.may_fault.result c.may_fault.ensures c.if-may_fault.false) c.in-Some-compared_at.ensures.some.right_is, c.in-Some-compared_at.ensures.some.compared))),
)

pub keeps::put_denies-put_truth-requires : goal.keeps::put_denies-put_truth-requires
keeps::put_denies-put_truth-requires t c =
    (omega arith, (c.requires.translated, (c.requires.truth, faultless_there c.args.context.now.ranges.now c.args.place c.may_fault.result c.may_fault.ensures c.if-may_fault.false)))

-- ---- keeps::put_has_code

pub keeps::put_has_code-returns : goal.keeps::put_has_code-returns
keeps::put_has_code-returns t c =
    ok_has_code (question_of c.args.context.now) c.args.context.now.ranges.now c.requires.translated.ranges c.typed_trees_end_once_on_entities.ensures c.requires.translated.moment c.args.place c.put_number.result c.requires.truth c.args.form c.requires.asked c.args.draft.now c.put_is_code.new.draft c.put_code.new.draft c.put_number.new.self c.in_ok-put_is_code.ensures c.in_ok-put_code.ensures
    (subst (λ (d : Digit). OnOk c.put_number.result (GrowsBy c.put_code.new.draft c.put_number.new.self (SqlNode.Number d ∷ []) [] [])) c.asked_code.ensures c.put_number.ensures.ok)

pub keeps::put_has_code-put_code-requires : goal.keeps::put_has_code-put_code-requires
keeps::put_has_code-put_code-requires t c = (omega arith, (c.requires.translated, c.requires.truth))

-- ---- keeps::put_keeps

pub keeps::put_keeps-kind-requires : goal.keeps::put_keeps-kind-requires
keeps::put_keeps-kind-requires t c = truth_inside c.args.context.now.checked.now c.args.place c.requires.truth

pub keeps::put_keeps-node-requires : goal.keeps::put_keeps-node-requires
keeps::put_keeps-node-requires t c = truth_inside c.args.context.now.checked.now c.args.place c.requires.truth

pub keeps::put_keeps-returns-then-is_kind : goal.keeps::put_keeps-returns-then-is_kind
keeps::put_keeps-returns-then-is_kind t c =
    ok_null_asked (question_of c.args.context.now) c.args.context.now.ranges.now c.requires.translated.ranges c.typed_trees_end_once_on_entities.ensures c.requires.translated.moment c.args.place c.put.result c.requires.truth (kind_there c.args.context.now.checked.now c.args.place c.kind.result Kind.Null c.kind.ensures (c.is_kind.ensures.0 c.if-is_kind.true)) Form.Keeps tt c.args.draft.now c.put.new.self c.put.ensures.ok

pub keeps::put_keeps-returns-in-Not : goal.keeps::put_keeps-returns-in-Not
keeps::put_keeps-returns-in-Not t c =
    ok_not_keeps (question_of c.args.context.now) c.args.context.now.ranges.now c.requires.translated.ranges c.typed_trees_end_once_on_entities.ensures c.requires.translated.moment c.args.place c.put_denies.result (kind_here c.args.context.now.checked.now c.args.place c.node.result c.node.ensures NodeKind.Not c.in-Not.is) (not_below c.args.context.now.checked.now c.requires.translated.right c.trees_have_one_type.ensures c.args.place c.node.result c.node.ensures c.in-Not.is).truth c.args.draft.now c.put_denies.new.draft c.put_denies.ensures

pub keeps::put_keeps-connective_at-requires : goal.keeps::put_keeps-connective_at-requires
keeps::put_keeps-connective_at-requires t c = truth_inside c.args.context.now.checked.now c.args.place c.requires.truth

pub keeps::put_keeps-terms_of-requires-clause-there : goal.keeps::put_keeps-terms_of-requires-clause-there
keeps::put_keeps-terms_of-requires-clause-there t c = truth_inside c.args.context.now.checked.now c.args.place c.requires.truth

pub keeps::put_keeps-terms_of-requires-clause-top : goal.keeps::put_keeps-terms_of-requires-clause-top
keeps::put_keeps-terms_of-requires-clause-top t c = c.in-Some.ensures.some

pub keeps::put_keeps-may_fault-requires : goal.keeps::put_keeps-may_fault-requires
keeps::put_keeps-may_fault-requires t c = truth_ranged (question_of c.args.context.now) c.args.context.now.ranges.now c.requires.translated.ranges c.args.place c.requires.truth

pub keeps::put_keeps-compared_at-requires-clause-there : goal.keeps::put_keeps-compared_at-requires-clause-there
keeps::put_keeps-compared_at-requires-clause-there t c = truth_inside c.args.context.now.checked.now c.args.place c.requires.truth

pub keeps::put_keeps-returns-in-Some-compared_at : goal.keeps::put_keeps-returns-in-Some-compared_at
keeps::put_keeps-returns-in-Some-compared_at t c =
    ok_comparison (question_of c.args.context.now) c.args.context.now.ranges.now c.requires.translated.ranges c.typed_trees_end_once_on_entities.ensures c.requires.translated.moment c.args.place c.put_kept_comparison.result c.in-Some-compared_at.operator c.in-Some-compared_at.left c.in-Some-compared_at.right c.in-Some-compared_at.ensures.some c.args.draft.now c.put_kept_comparison.new.draft (faultless_there c.args.context.now.ranges.now c.args.place c.may_fault.result c.may_fault.ensures c.if-may_fault.false) (IsInForm Form.Keeps) c.put_kept_comparison.ensures

pub keeps::put_keeps-returns-in_default-kind : goal.keeps::put_keeps-returns-in_default-kind
keeps::put_keeps-returns-in_default-kind t c =
    ok_keeps_by_truth (question_of c.args.context.now) c.args.context.now.ranges.now c.requires.translated.ranges c.typed_trees_end_once_on_entities.ensures c.requires.translated.moment c.args.place c.put_truth.result c.requires.truth (faultless_there c.args.context.now.ranges.now c.args.place c.may_fault.result c.may_fault.ensures c.if-may_fault.false) c.args.draft.now c.put_truth.new.draft c.put_truth.ensures

pub keeps::put_keeps-node-requires-2 : goal.keeps::put_keeps-node-requires-2
keeps::put_keeps-node-requires-2 t c = truth_inside c.args.context.now.checked.now c.args.place c.requires.truth

pub keeps::put_keeps-returns-in-Some : goal.keeps::put_keeps-returns-in-Some
keeps::put_keeps-returns-in-Some t c =
    elim c.match-connective.branch [
      | keeps::put_keeps-in-And w ↦
          subst (λ (r : Result (Unit {0}) AllocError). OnOk r (Puts (question_of c.args.context.now) c.args.draft.now c.match-connective.draft (OfPlace c.args.context.now.checked.now c.args.place) (IsInForm Form.Keeps))) (sym w.result-is)
          (subst (λ (d : Draft). OnOk w.put_joined.result (Puts (question_of c.args.context.now) c.args.draft.now d (OfPlace c.args.context.now.checked.now c.args.place) (IsInForm Form.Keeps))) (sym w.draft-is)
          (ok_chain (question_of c.args.context.now) Form.Keeps w.put_joined.result LogicalOperator.And c.args.place w.as_slice.result.now c.args.draft.now w.put_joined.new.draft (chain_is (question_of c.args.context.now) c.args.place w.as_slice.result.now c.in-Some.connective LogicalOperator.And w.in-And.is (subst (IsChain (question_of c.args.context.now) c.in-Some.connective c.args.place) (sym w.as_slice.ensures.value) c.in_ok-terms.ensures)) (w.put_joined.ensures LogicalOperator.And tt)))
      | keeps::put_keeps-in-Or w ↦
          subst (λ (r : Result (Unit {0}) AllocError). OnOk r (Puts (question_of c.args.context.now) c.args.draft.now c.match-connective.draft (OfPlace c.args.context.now.checked.now c.args.place) (IsInForm Form.Keeps))) (sym w.result-is)
          (subst (λ (d : Draft). OnOk w.put_decided.result (Puts (question_of c.args.context.now) c.args.draft.now d (OfPlace c.args.context.now.checked.now c.args.place) (IsInForm Form.Keeps))) (sym w.draft-is)
          (ok_chain (question_of c.args.context.now) Form.Keeps w.put_decided.result c.in-Some.connective c.args.place w.as_slice-in-Or.result.now c.args.draft.now w.put_decided.new.draft (subst (IsChain (question_of c.args.context.now) c.in-Some.connective c.args.place) (sym w.as_slice-in-Or.ensures.value) c.in_ok-terms.ensures) w.put_decided.ensures))
    ]

pub keeps::put_keeps-put_denies-requires : goal.keeps::put_keeps-put_denies-requires
keeps::put_keeps-put_denies-requires t c = (
  omega (arith, on_from c.args.context.now.checked.now (left_from c.args.context.now.checked.now (c.args.place + 1)) (left_from c.args.context.now.checked.now c.args.place) 8 8 (next_on c.args.context.now.checked.now c.args.place (truth_inside c.args.context.now.checked.now c.args.place c.requires.truth)) (omega arith)),
  (c.requires.translated, (not_below c.args.context.now.checked.now c.requires.translated.right c.trees_have_one_type.ensures c.args.place c.node.result c.node.ensures c.in-Not.is).truth),
)

pub keeps::put_keeps-put_joined-requires : goal.keeps::put_keeps-put_joined-requires
keeps::put_keeps-put_joined-requires t c = (
  omega (arith, on_from c.args.context.now.checked.now (left_among c.args.context.now.checked.now c.as_slice.result.now) (left_from c.args.context.now.checked.now c.args.place) (10 + length c.as_slice.result.now) 8 (terms_left c.args.context.now.checked.now c.args.place (truth_inside c.args.context.now.checked.now c.args.place c.requires.truth) c.as_slice.result.now (subst (IsChain (question_of c.args.context.now) c.in-Some.connective c.args.place) (sym c.as_slice.ensures.value) c.in_ok-terms.ensures).after) (omega (arith, (subst (IsChain (question_of c.args.context.now) c.in-Some.connective c.args.place) (sym c.as_slice.ensures.value) c.in_ok-terms.ensures).few))),
  (c.requires.translated, ((chain_is (question_of c.args.context.now) c.args.place c.as_slice.result.now c.in-Some.connective LogicalOperator.And c.in-And.is (subst (IsChain (question_of c.args.context.now) c.in-Some.connective c.args.place) (sym c.as_slice.ensures.value) c.in_ok-terms.ensures)).some, ((chain_is (question_of c.args.context.now) c.args.place c.as_slice.result.now c.in-Some.connective LogicalOperator.And c.in-And.is (subst (IsChain (question_of c.args.context.now) c.in-Some.connective c.args.place) (sym c.as_slice.ensures.value) c.in_ok-terms.ensures)).truths, ((λ values. absurd values), (LogicalOperator.And, tt))))),
)

pub keeps::put_keeps-put_decided-requires : goal.keeps::put_keeps-put_decided-requires
keeps::put_keeps-put_decided-requires t c = (
  omega (arith, on_from c.args.context.now.checked.now (left_among c.args.context.now.checked.now c.as_slice-in-Or.result.now) (left_from c.args.context.now.checked.now c.args.place) (12 + length c.as_slice-in-Or.result.now) 8 (terms_left c.args.context.now.checked.now c.args.place (truth_inside c.args.context.now.checked.now c.args.place c.requires.truth) c.as_slice-in-Or.result.now (subst (IsChain (question_of c.args.context.now) c.in-Some.connective c.args.place) (sym c.as_slice-in-Or.ensures.value) c.in_ok-terms.ensures).after) (omega (arith, (subst (IsChain (question_of c.args.context.now) c.in-Some.connective c.args.place) (sym c.as_slice-in-Or.ensures.value) c.in_ok-terms.ensures).few))),
  (c.requires.translated, ((subst (IsChain (question_of c.args.context.now) c.in-Some.connective c.args.place) (sym c.as_slice-in-Or.ensures.value) c.in_ok-terms.ensures).some, ((subst (IsChain (question_of c.args.context.now) c.in-Some.connective c.args.place) (sym c.as_slice-in-Or.ensures.value) c.in_ok-terms.ensures).truths, (subst (IsJoin Form.Keeps SqlNode.Or) (sym c.in-Or.is) tt, tt)))),
)

pub keeps::put_keeps-put_has_code-requires : goal.keeps::put_keeps-put_has_code-requires
keeps::put_keeps-put_has_code-requires t c = (omega arith, (c.requires.translated, (c.requires.truth, tt)))

pub keeps::put_keeps-put_kept_comparison-requires : goal.keeps::put_keeps-put_kept_comparison-requires
keeps::put_keeps-put_kept_comparison-requires t c = (
  omega (arith, on_from c.args.context.now.checked.now (left_in c.args.context.now.checked.now (c.in-Some-compared_at.left ∷ c.in-Some-compared_at.right ∷ [])) (left_from c.args.context.now.checked.now c.args.place) 17 8 (sides_left c.args.context.now.checked.now c.args.place (truth_inside c.args.context.now.checked.now c.args.place c.requires.truth) c.args.context.now.ranges.now (c.in-Some-compared_at.left ∷ c.in-Some-compared_at.right ∷ []) (c.in-Some-compared_at.ensures.some.left_is, (c.in-Some-compared_at.ensures.some.right_is, tt))) (omega arith)),
  (c.requires.translated, (plain_side (question_of c.args.context.now) c.args.context.now.ranges.now c.requires.translated.ranges c.args.place c.in-Some-compared_at.left (faultless_there c.args.context.now.ranges.now c.args.place c.may_fault.result c.may_fault.ensures c.if-may_fault.false) c.in-Some-compared_at.ensures.some.left_is, (plain_side (question_of c.args.context.now) c.args.context.now.ranges.now c.requires.translated.ranges c.args.place c.in-Some-compared_at.right (faultless_there c.args.context.now.ranges.now c.args.place c.may_fault.result c.may_fault.ensures c.if-may_fault.false) c.in-Some-compared_at.ensures.some.right_is, c.in-Some-compared_at.ensures.some.compared))),
)

pub keeps::put_keeps-put_kept_list-requires : goal.keeps::put_keeps-put_kept_list-requires
keeps::put_keeps-put_kept_list-requires t c =
    (omega arith, (c.requires.translated, (kind_here c.args.context.now.checked.now c.args.place c.node-2.result c.node-2.ensures NodeKind.InList c.in-InList.is, faultless_there c.args.context.now.ranges.now c.args.place c.may_fault.result c.may_fault.ensures c.if-may_fault.false)))

pub keeps::put_keeps-put_kept_in_path-requires : goal.keeps::put_keeps-put_kept_in_path-requires
keeps::put_keeps-put_kept_in_path-requires t c =
    (omega arith, (c.requires.translated, (kind_here c.args.context.now.checked.now c.args.place c.node-2.result c.node-2.ensures NodeKind.InPath c.in-InPath.is, faultless_there c.args.context.now.ranges.now c.args.place c.may_fault.result c.may_fault.ensures c.if-may_fault.false)))

pub keeps::put_keeps-put_kept_lambda-requires : goal.keeps::put_keeps-put_kept_lambda-requires
keeps::put_keeps-put_kept_lambda-requires t c =
    (omega arith, (c.requires.translated, (kind_here c.args.context.now.checked.now c.args.place c.node-2.result c.node-2.ensures (NodeKind.Lambda c.in-Lambda.quantifier) c.in-Lambda.is, faultless_there c.args.context.now.ranges.now c.args.place c.may_fault.result c.may_fault.ensures c.if-may_fault.false)))

pub keeps::put_keeps-put_truth-requires : goal.keeps::put_keeps-put_truth-requires
keeps::put_keeps-put_truth-requires t c =
    (omega arith, (c.requires.translated, (c.requires.truth, faultless_there c.args.context.now.ranges.now c.args.place c.may_fault.result c.may_fault.ensures c.if-may_fault.false)))

-- ---- keeps::put_undecided

pub keeps::put_undecided-returns-then-terms-eq1 : goal.keeps::put_undecided-returns-then-terms-eq1
keeps::put_undecided-returns-then-terms-eq1 t c =
    ok_alone (question_of c.args.context.now) c.args.form c.put_form.result c.args.connective c.args.terms.now (get_or c.args.terms.now 0 0) c.args.draft.now c.put_form.new.draft (omega (arith, c.if-terms-eq1.true)) (slice_get-get_or c.args.terms.now 0 0 (omega (arith, c.if-terms-eq1.true))) c.put_form.ensures

pub keeps::put_undecided-returns : goal.keeps::put_undecided-returns
keeps::put_undecided-returns t c =
    ok_undecided (question_of c.args.context.now) c.args.form c.put_number.result c.args.connective c.requires.asked c.args.terms.now c.args.draft.now c.put_is_code.new.draft c.put_joined.new.draft c.put_number.new.self c.in_ok-put_is_code.ensures (c.in_ok-put_joined.ensures c.args.connective c.code_join.ensures)
    (subst (λ (d : Digit). OnOk c.put_number.result (GrowsBy c.put_joined.new.draft c.put_number.new.self (SqlNode.Number d ∷ []) [] [])) c.asked_code.ensures c.put_number.ensures.ok)

pub keeps::put_undecided-put_form-requires : goal.keeps::put_undecided-put_form-requires
keeps::put_undecided-put_form-requires t c = (
  omega (arith, down_to c.args.context.now.checked.now (left_from c.args.context.now.checked.now (get_or c.args.terms.now 0 0)) (left_among c.args.context.now.checked.now c.args.terms.now) 9 (11 + length c.args.terms.now) (term_left c.args.context.now.checked.now c.args.terms.now 0 (get_or c.args.terms.now 0 0) (slice_get-get_or c.args.terms.now 0 0 (omega (arith, c.if-terms-eq1.true)))) (omega arith)),
  (c.requires.translated, (at_all (IsTruthAt c.args.context.now.checked.now) c.args.terms.now 0 (get_or c.args.terms.now 0 0) c.requires.truths (slice_get-get_or c.args.terms.now 0 0 (omega (arith, c.if-terms-eq1.true))), (λ is. absurd (asked_no_truth c.args.form c.requires.asked is)))),
)

pub keeps::put_undecided-put_joined-requires : goal.keeps::put_undecided-put_joined-requires
keeps::put_undecided-put_joined-requires t c =
    (omega arith, (c.requires.translated, (c.requires.some, (c.requires.truths, ((λ values. absurd (code_values c.code_join.result c.args.connective c.code_join.ensures values)), (c.args.connective, c.code_join.ensures))))))

-- ---- lambda::put_body

pub lambda::put_body-overflow_sub-draft : goal.lambda::put_body-overflow_sub-draft
lambda::put_body-overflow_sub-draft t c =
    let m = c.deepen.new.self in
    let after = c.put_by.new.draft in
    let inner : after.depth ≡ m.depth = c.in_ok-put_by.ensures.grows.depth in
    let deep : m.depth ≡ c.args.draft.now.depth + 1 = c.in_ok-deepen.ensures.ok.depth in
    omega (arith, inner, deep)

pub lambda::put_body-returns : goal.lambda::put_body-returns
lambda::put_body-returns t c =
    let m = c.deepen.new.self in
    let after = c.put_by.new.draft in
    let inner : after.depth ≡ m.depth = c.in_ok-put_by.ensures.grows.depth in
    let deep : m.depth ≡ c.args.draft.now.depth + 1 = c.in_ok-deepen.ensures.ok.depth in
    let members = c.in_ok-deepen.ensures.ok.members ∙ c.in_ok-push.ensures.items in
    let popped = popped_one c.args.draft.now.members.items after.members.items c.pop-level.new.self.items c.args.draft.now.depth after.members.len c.pop-level.new.self.len c.pop-level.result (c.in_ok-put_by.ensures.grows.members ∙ members) c.pop-level.ensures.items c.pop-level.ensures.cases c.pop-level.ensures.rest in
    body_made (question_of c.args.context.now) c.args.draft.now m after (record after { depth = after.depth - 1; members = c.pop-level.new.self }) c.args.body popped.0 (IsInForm (body_form c.args.by_code)) c.in_ok-deepen.ensures.ok.tree members deep c.in_ok-put_by.ensures refl popped.1 (omega (arith, inner, deep))

pub lambda::put_body-put_by-requires : goal.lambda::put_body-put_by-requires
lambda::put_body-put_by-requires t c = (omega arith, (c.requires.translated, c.requires.truth))

-- ---- lambda::put_by

pub lambda::put_by-returns-then-by_code : goal.lambda::put_by-returns-then-by_code
lambda::put_by-returns-then-by_code t c =
    ok_by (question_of c.args.context.now) c.put_code.result c.args.by_code true c.args.place c.args.draft.now c.put_code.new.draft c.if-by_code.true c.put_code.ensures

pub lambda::put_by-returns-else-by_code : goal.lambda::put_by-returns-else-by_code
lambda::put_by-returns-else-by_code t c =
    ok_by (question_of c.args.context.now) c.put_keeps.result c.args.by_code false c.args.place c.args.draft.now c.put_keeps.new.draft c.if-by_code.false c.put_keeps.ensures

pub lambda::put_by-put_code-requires : goal.lambda::put_by-put_code-requires
lambda::put_by-put_code-requires t c = (omega arith, (c.requires.translated, c.requires.truth))

pub lambda::put_by-put_keeps-requires : goal.lambda::put_by-put_keeps-requires
lambda::put_by-put_keeps-requires t c = (omega arith, (c.requires.translated, c.requires.truth))

-- ---- lambda::put_decided_member

pub lambda::put_decided_member-second-body-requires : goal.lambda::put_decided_member-second-body-requires
lambda::put_decided_member-second-body-requires t c =
    let n = some_there (λ (n : CheckedNode). n.kind ≡ NodeKind.Lambda c.args.quantifier) (slice_get c.args.context.now.checked.now.list.nodes c.args.place) c.requires.kind in
    let over = some_there (λ (m : CheckedNode). IsStep m.kind) (slice_get c.args.context.now.checked.now.list.nodes (c.args.place + 1)) (lambda_path c.args.context.now.checked.now c.requires.translated.right c.trees_have_one_type.ensures c.args.place n.0 n.1.0 c.args.quantifier n.1.1) in
    slice_get_within c.args.context.now.checked.now.list.nodes (c.args.place + 1) over.0 over.1.0

pub lambda::put_decided_member-returns : goal.lambda::put_decided_member-returns
lambda::put_decided_member-returns t c =
    let n = some_there (λ (n : CheckedNode). n.kind ≡ NodeKind.Lambda c.args.quantifier) (slice_get c.args.context.now.checked.now.list.nodes c.args.place) c.requires.kind in
    let b = lambda_body c.args.context.now.checked.now c.requires.translated.right c.trees_have_one_type.ensures c.args.place n.0 n.1.0 c.args.quantifier n.1.1 c.second-body.result c.second-body.ensures in
    ok_decided (question_of c.args.context.now) c.args.context.now.ranges.now c.requires.translated.ranges c.typed_trees_end_once_on_entities.ensures c.requires.translated.moment c.args.quantifier c.args.place c.args.path c.second-body.result b.truth c.second-body.ensures c.put_number-2.result c.undecided_code.result c.undecided_code.ensures
    c.args.draft.now c.put.new.self c.put-2.new.self c.put-3.new.self c.put-4.new.self c.put_body.new.draft c.put_number.new.self c.put_number-2.new.self c.in_ok-put.ensures.ok c.in_ok-put-2.ensures.ok c.in_ok-put-3.ensures.ok c.in_ok-put-4.ensures.ok
    c.requires.leads c.in_ok-put_body.ensures c.in_ok-put_number.ensures.ok c.put_number-2.ensures.ok

pub lambda::put_decided_member-put_body-requires : goal.lambda::put_decided_member-put_body-requires
lambda::put_decided_member-put_body-requires t c = (
  omega (arith, on_from c.args.context.now.checked.now (left_from c.args.context.now.checked.now c.second-body.result) (left_from c.args.context.now.checked.now c.args.place) 10 1 (further_on c.args.context.now.checked.now c.args.place (kind_inside c.args.context.now.checked.now c.args.place (NodeKind.Lambda c.args.quantifier) c.requires.kind) c.second-body.result (second_after c.args.context.now.checked.now c.requires.translated.right c.args.place c.second-body.result c.second-body.ensures)) (omega arith)),
  (c.requires.translated, (let n = some_there (λ (n : CheckedNode). n.kind ≡ NodeKind.Lambda c.args.quantifier) (slice_get c.args.context.now.checked.now.list.nodes c.args.place) c.requires.kind in let b = lambda_body c.args.context.now.checked.now c.requires.translated.right c.trees_have_one_type.ensures c.args.place n.0 n.1.0 c.args.quantifier n.1.1 c.second-body.result c.second-body.ensures in b.truth)),
)

-- ---- lambda::put_kept_lambda

pub lambda::put_kept_lambda-put_path-requires-clause-path : goal.lambda::put_kept_lambda-put_path-requires-clause-path
lambda::put_kept_lambda-put_path-requires-clause-path t c =
    let n = some_there (λ (n : CheckedNode). n.kind ≡ NodeKind.Lambda c.args.quantifier) (slice_get c.args.context.now.checked.now.list.nodes c.args.place) c.requires.kind in
    lambda_path c.args.context.now.checked.now c.requires.translated.right c.trees_have_one_type.ensures c.args.place n.0 n.1.0 c.args.quantifier n.1.1

pub lambda::put_kept_lambda-returns-then-range : goal.lambda::put_kept_lambda-returns-then-range
lambda::put_kept_lambda-returns-then-range t c =
    let n = some_there (λ (n : CheckedNode). n.kind ≡ NodeKind.Lambda c.args.quantifier) (slice_get c.args.context.now.checked.now.list.nodes c.args.place) c.requires.kind in
    let kept = paths_by_laws (question_of c.args.context.now) c.requires.translated.moment c.what_fits_has_its_type.ensures c.entities_are_kept.ensures in
    let b = body_there (question_of c.args.context.now) c.args.context.now.ranges.now c.requires.translated.ranges c.requires.translated.right c.trees_have_one_type.ensures c.args.place n.0 n.1.0 c.args.quantifier n.1.1 c.requires.faultless in
    ok_kept_all (question_of c.args.context.now) c.trees_have_one_type.ensures c.typed_trees_end_once_on_entities.ensures c.requires.translated.moment kept c.args.context.now.ranges.now c.requires.translated.ranges c.args.quantifier c.args.place c.requires.kind c.in_ok-path.path c.put_members.result c.args.draft.now c.put_path.new.draft c.in_ok-path.ensures b.body b.truth b.faultless b.stops
    c.put.new.self c.put-then-range.new.self c.put-then-range-2.new.self c.put_members.new.draft c.in_ok-put.ensures.ok c.in_ok-put-2.ensures.ok c.in_ok-put-3.ensures.ok c.put_members.ensures

pub lambda::put_kept_lambda-returns : goal.lambda::put_kept_lambda-returns
lambda::put_kept_lambda-returns t c =
    let n = some_there (λ (n : CheckedNode). n.kind ≡ NodeKind.Lambda c.args.quantifier) (slice_get c.args.context.now.checked.now.list.nodes c.args.place) c.requires.kind in
    let kept = paths_by_laws (question_of c.args.context.now) c.requires.translated.moment c.what_fits_has_its_type.ensures c.entities_are_kept.ensures in
    let b = body_there (question_of c.args.context.now) c.args.context.now.ranges.now c.requires.translated.ranges c.requires.translated.right c.trees_have_one_type.ensures c.args.place n.0 n.1.0 c.args.quantifier n.1.1 c.requires.faultless in
    elim c.else-eq.branch [
      | lambda::put_kept_lambda-else-eq-via-else-eq w ↦ ok_kept_given (question_of c.args.context.now) c.trees_have_one_type.ensures c.typed_trees_end_once_on_entities.ensures c.requires.translated.moment kept c.args.context.now.ranges.now c.requires.translated.ranges c.args.quantifier c.args.place c.requires.kind c.in_ok-path.path c.put_members-2.result c.args.draft.now c.put_path.new.draft c.in_ok-path.ensures b.body b.truth b.faultless b.stops
          (null_any (question_of c.args.context.now) c.trees_have_one_type.ensures c.typed_trees_end_once_on_entities.ensures c.requires.translated.moment kept c.args.context.now.ranges.now c.requires.translated.ranges c.args.quantifier c.args.place c.requires.kind c.in_ok-path.path c.put_members-2.result c.args.draft.now c.put_path.new.draft c.in_ok-path.ensures (any_of c.args.quantifier (λ same. let reported : c.eq.result ≡ true = c.eq.ensures ∙ true_same of_quantifier_the_type c.args.quantifier Quantifier.All same in let clash : false ≡ true = sym w.if-eq.false ∙ reported in absurd (cc)))) c.put_members-2.new.draft c.put_members-2.ensures
      | lambda::put_kept_lambda-else-eq-via-then-eq+else-range w ↦ ok_kept_given (question_of c.args.context.now) c.trees_have_one_type.ensures c.typed_trees_end_once_on_entities.ensures c.requires.translated.moment kept c.args.context.now.ranges.now c.requires.translated.ranges c.args.quantifier c.args.place c.requires.kind c.in_ok-path.path c.put_members-2.result c.args.draft.now c.put_path.new.draft c.in_ok-path.ensures b.body b.truth b.faultless b.stops
          (null_never (question_of c.args.context.now) c.trees_have_one_type.ensures c.typed_trees_end_once_on_entities.ensures c.requires.translated.moment kept c.args.context.now.ranges.now c.requires.translated.ranges c.args.quantifier c.args.place c.requires.kind c.in_ok-path.path c.put_members-2.result c.args.draft.now c.put_path.new.draft c.in_ok-path.ensures w.range.result w.range.ensures w.if-range.false) c.put_members-2.new.draft c.put_members-2.ensures
    ]

pub lambda::put_kept_lambda-range-requires : goal.lambda::put_kept_lambda-range-requires
lambda::put_kept_lambda-range-requires t c =
    has_range (question_of c.args.context.now) c.args.context.now.ranges.now c.requires.translated.ranges (c.args.place + 1)
    (first_child c.args.context.now.checked.now c.requires.translated.right c.args.place (NodeKind.Lambda c.args.quantifier) (lambda_inside c.args.context.now.checked.now c.requires.translated.right c.args.place c.args.quantifier) c.requires.kind)

pub lambda::put_kept_lambda-put_members-requires : goal.lambda::put_kept_lambda-put_members-requires
lambda::put_kept_lambda-put_members-requires t c =
    (omega arith, (c.requires.translated, (c.requires.kind, (c.requires.faultless, path_on (question_of c.args.context.now) c.put-then-range.new.self (c.args.place + 1) c.in_ok-path.path (path_on (question_of c.args.context.now) c.put.new.self (c.args.place + 1) c.in_ok-path.path (path_on (question_of c.args.context.now) c.put_path.new.draft (c.args.place + 1) c.in_ok-path.path c.in_ok-path.ensures.leads c.put.new.self (SqlNode.And ∷ []) (by_node c.put_path.new.draft c.put.new.self SqlNode.And refl c.in_ok-put.ensures.ok)) c.put-then-range.new.self (SqlNode.Not ∷ []) (by_node c.put.new.self c.put-then-range.new.self SqlNode.Not refl c.in_ok-put-2.ensures.ok)) c.put-then-range-2.new.self (SqlNode.IsMissing c.in_ok-path.path ∷ []) (by_node c.put-then-range.new.self c.put-then-range-2.new.self (SqlNode.IsMissing c.in_ok-path.path) refl c.in_ok-put-3.ensures.ok)))))

pub lambda::put_kept_lambda-put_members-requires-2 : goal.lambda::put_kept_lambda-put_members-requires-2
lambda::put_kept_lambda-put_members-requires-2 t c = (omega arith, (c.requires.translated, (c.requires.kind, (c.requires.faultless, c.in_ok-path.ensures.leads))))

-- ---- lambda::put_lambda

pub lambda::put_lambda-put_path-requires-clause-path : goal.lambda::put_lambda-put_path-requires-clause-path
lambda::put_lambda-put_path-requires-clause-path t c =
    let n = some_there (λ (n : CheckedNode). n.kind ≡ NodeKind.Lambda c.args.quantifier) (slice_get c.args.context.now.checked.now.list.nodes c.args.place) c.requires.kind in
    lambda_path c.args.context.now.checked.now c.requires.translated.right c.trees_have_one_type.ensures c.args.place n.0 n.1.0 c.args.quantifier n.1.1

pub lambda::put_lambda-returns : goal.lambda::put_lambda-returns
lambda::put_lambda-returns t c =
    let kept = paths_by_laws (question_of c.args.context.now) c.requires.translated.moment c.what_fits_has_its_type.ensures c.entities_are_kept.ensures in
    ok_lambda (question_of c.args.context.now) c.trees_have_one_type.ensures c.typed_trees_end_once_on_entities.ensures c.requires.translated.moment kept c.args.context.now.ranges.now c.requires.translated.ranges c.args.quantifier c.args.place c.requires.kind c.in_ok-path.path c.put_members.result c.args.draft.now c.put_path.new.draft c.in_ok-path.ensures
    c.range.result c.range.ensures c.put_unless_missing.new.draft c.put_members.new.draft c.in_ok-put_unless_missing.ensures c.put_members.ensures

pub lambda::put_lambda-range-requires : goal.lambda::put_lambda-range-requires
lambda::put_lambda-range-requires t c =
    has_range (question_of c.args.context.now) c.args.context.now.ranges.now c.requires.translated.ranges (c.args.place + 1)
    (first_child c.args.context.now.checked.now c.requires.translated.right c.args.place (NodeKind.Lambda c.args.quantifier) (lambda_inside c.args.context.now.checked.now c.requires.translated.right c.args.place c.args.quantifier) c.requires.kind)

pub lambda::put_lambda-put_members-requires : goal.lambda::put_lambda-put_members-requires
lambda::put_lambda-put_members-requires t c =
    (omega arith, (c.requires.translated, (c.requires.kind, (c.requires.faultless, path_on (question_of c.args.context.now) c.put_path.new.draft (c.args.place + 1) c.in_ok-path.path c.in_ok-path.ensures.leads c.put_unless_missing.new.draft (missing_front c.range.result.may_be_null c.in_ok-path.path) c.in_ok-put_unless_missing.ensures))))

-- ---- lambda::put_lambda_code

pub lambda::put_lambda_code-put_path-requires-clause-path : goal.lambda::put_lambda_code-put_path-requires-clause-path
lambda::put_lambda_code-put_path-requires-clause-path t c =
    let n = some_there (λ (n : CheckedNode). n.kind ≡ NodeKind.Lambda c.args.quantifier) (slice_get c.args.context.now.checked.now.list.nodes c.args.place) c.requires.kind in
    lambda_path c.args.context.now.checked.now c.requires.translated.right c.trees_have_one_type.ensures c.args.place n.0 n.1.0 c.args.quantifier n.1.1

pub lambda::put_lambda_code-returns-then-range : goal.lambda::put_lambda_code-returns-then-range
lambda::put_lambda_code-returns-then-range t c =
    let kept = paths_by_laws (question_of c.args.context.now) c.requires.translated.moment c.what_fits_has_its_type.ensures c.entities_are_kept.ensures in
    ok_missing_code (question_of c.args.context.now) c.trees_have_one_type.ensures c.typed_trees_end_once_on_entities.ensures c.requires.translated.moment kept c.args.context.now.ranges.now c.requires.translated.ranges c.args.quantifier c.args.place c.requires.kind c.in_ok-path.path c.put_decided_member.result c.args.draft.now c.put_path.new.draft c.in_ok-path.ensures
    c.put.new.self c.put-then-range.new.self c.put_number.new.self c.put_decided_member.new.draft c.in_ok-put.ensures.ok c.in_ok-put-2.ensures.ok c.in_ok-put_number.ensures.ok c.put_decided_member.ensures

pub lambda::put_lambda_code-returns : goal.lambda::put_lambda_code-returns
lambda::put_lambda_code-returns t c =
    let kept = paths_by_laws (question_of c.args.context.now) c.requires.translated.moment c.what_fits_has_its_type.ensures c.entities_are_kept.ensures in
    ok_given_code (question_of c.args.context.now) c.trees_have_one_type.ensures c.typed_trees_end_once_on_entities.ensures c.requires.translated.moment kept c.args.context.now.ranges.now c.requires.translated.ranges c.args.quantifier c.args.place c.requires.kind c.in_ok-path.path c.put_decided_member-2.result c.args.draft.now c.put_path.new.draft c.in_ok-path.ensures
    c.range.result c.range.ensures c.if-range.false c.put_decided_member-2.new.draft c.put_decided_member-2.ensures

pub lambda::put_lambda_code-range-requires : goal.lambda::put_lambda_code-range-requires
lambda::put_lambda_code-range-requires t c =
    has_range (question_of c.args.context.now) c.args.context.now.ranges.now c.requires.translated.ranges (c.args.place + 1)
    (first_child c.args.context.now.checked.now c.requires.translated.right c.args.place (NodeKind.Lambda c.args.quantifier) (lambda_inside c.args.context.now.checked.now c.requires.translated.right c.args.place c.args.quantifier) c.requires.kind)

pub lambda::put_lambda_code-put_decided_member-requires : goal.lambda::put_lambda_code-put_decided_member-requires
lambda::put_lambda_code-put_decided_member-requires t c =
    (omega arith, (c.requires.translated, (c.requires.kind, path_on (question_of c.args.context.now) c.put-then-range.new.self (c.args.place + 1) c.in_ok-path.path (path_on (question_of c.args.context.now) c.put.new.self (c.args.place + 1) c.in_ok-path.path (path_on (question_of c.args.context.now) c.put_path.new.draft (c.args.place + 1) c.in_ok-path.path c.in_ok-path.ensures.leads c.put.new.self (SqlNode.Case ∷ []) (by_node c.put_path.new.draft c.put.new.self SqlNode.Case refl c.in_ok-put.ensures.ok)) c.put-then-range.new.self (SqlNode.IsMissing c.in_ok-path.path ∷ []) (by_node c.put.new.self c.put-then-range.new.self (SqlNode.IsMissing c.in_ok-path.path) refl c.in_ok-put-2.ensures.ok)) c.put_number.new.self (SqlNode.Number Digit.Two ∷ []) (by_node c.put-then-range.new.self c.put_number.new.self (SqlNode.Number Digit.Two) refl c.in_ok-put_number.ensures.ok))))

pub lambda::put_lambda_code-put_decided_member-requires-2 : goal.lambda::put_lambda_code-put_decided_member-requires-2
lambda::put_lambda_code-put_decided_member-requires-2 t c = (omega arith, (c.requires.translated, (c.requires.kind, c.in_ok-path.ensures.leads)))

-- ---- lambda::put_members

pub lambda::put_members-second-body-requires : goal.lambda::put_members-second-body-requires
lambda::put_members-second-body-requires t c =
    let n = some_there (λ (n : CheckedNode). n.kind ≡ NodeKind.Lambda c.args.quantifier) (slice_get c.args.context.now.checked.now.list.nodes c.args.place) c.requires.kind in
    let over = some_there (λ (m : CheckedNode). IsStep m.kind) (slice_get c.args.context.now.checked.now.list.nodes (c.args.place + 1)) (lambda_path c.args.context.now.checked.now c.requires.translated.right c.trees_have_one_type.ensures c.args.place n.0 n.1.0 c.args.quantifier n.1.1) in
    slice_get_within c.args.context.now.checked.now.list.nodes (c.args.place + 1) over.0 over.1.0

pub lambda::put_members-returns-in_ok-put-in-Any : goal.lambda::put_members-returns-in_ok-put-in-Any
lambda::put_members-returns-in_ok-put-in-Any t c =
    let n = some_there (λ (n : CheckedNode). n.kind ≡ NodeKind.Lambda c.args.quantifier) (slice_get c.args.context.now.checked.now.list.nodes c.args.place) c.requires.kind in
    let b = lambda_body c.args.context.now.checked.now c.requires.translated.right c.trees_have_one_type.ensures c.args.place n.0 n.1.0 c.args.quantifier n.1.1 c.second-body.result c.second-body.ensures in
    let plain = below_faultless (question_of c.args.context.now) c.args.context.now.ranges.now c.requires.translated.ranges c.args.place c.second-body.result c.requires.faultless b.below b.inside in
    ok_any (question_of c.args.context.now) c.args.context.now.ranges.now c.requires.translated.ranges c.typed_trees_end_once_on_entities.ensures c.requires.translated.moment c.args.quantifier c.args.place c.args.path c.second-body.result b.truth c.second-body.ensures c.put_body.result plain c.args.draft.now c.put.new.self c.put_body.new.draft c.in-Any.is c.in_ok-put-in-Any.ensures.ok c.requires.leads c.put_body.ensures

pub lambda::put_members-returns-in_ok-put-in-All-4 : goal.lambda::put_members-returns-in_ok-put-in-All-4
lambda::put_members-returns-in_ok-put-in-All-4 t c =
    let n = some_there (λ (n : CheckedNode). n.kind ≡ NodeKind.Lambda c.args.quantifier) (slice_get c.args.context.now.checked.now.list.nodes c.args.place) c.requires.kind in
    let b = lambda_body c.args.context.now.checked.now c.requires.translated.right c.trees_have_one_type.ensures c.args.place n.0 n.1.0 c.args.quantifier n.1.1 c.second-body.result c.second-body.ensures in
    let plain = below_faultless (question_of c.args.context.now) c.args.context.now.ranges.now c.requires.translated.ranges c.args.place c.second-body.result c.requires.faultless b.below b.inside in
    ok_all (question_of c.args.context.now) c.args.context.now.ranges.now c.requires.translated.ranges c.typed_trees_end_once_on_entities.ensures c.requires.translated.moment c.args.quantifier c.args.place c.args.path c.second-body.result b.truth c.second-body.ensures c.put_body-in-All.result plain c.args.draft.now c.put-in-All.new.self c.put-in-All-2.new.self c.put-in-All-3.new.self c.put-in-All-4.new.self c.put_body-in-All.new.draft c.in-All.is
    c.in_ok-put-in-All.ensures.ok c.in_ok-put-in-All-2.ensures.ok c.in_ok-put-in-All-3.ensures.ok c.in_ok-put-in-All-4.ensures.ok c.requires.leads c.put_body-in-All.ensures

pub lambda::put_members-put_body-requires : goal.lambda::put_members-put_body-requires
lambda::put_members-put_body-requires t c = (
  omega (arith, on_from c.args.context.now.checked.now (left_from c.args.context.now.checked.now c.second-body.result) (left_from c.args.context.now.checked.now c.args.place) 10 1 (further_on c.args.context.now.checked.now c.args.place (kind_inside c.args.context.now.checked.now c.args.place (NodeKind.Lambda c.args.quantifier) c.requires.kind) c.second-body.result (second_after c.args.context.now.checked.now c.requires.translated.right c.args.place c.second-body.result c.second-body.ensures)) (omega arith)),
  (c.requires.translated, (let n = some_there (λ (n : CheckedNode). n.kind ≡ NodeKind.Lambda c.args.quantifier) (slice_get c.args.context.now.checked.now.list.nodes c.args.place) c.requires.kind in let b = lambda_body c.args.context.now.checked.now c.requires.translated.right c.trees_have_one_type.ensures c.args.place n.0 n.1.0 c.args.quantifier n.1.1 c.second-body.result c.second-body.ensures in b.truth)),
)

pub lambda::put_members-put_body-requires-in-All : goal.lambda::put_members-put_body-requires-in-All
lambda::put_members-put_body-requires-in-All t c = (
  omega (arith, on_from c.args.context.now.checked.now (left_from c.args.context.now.checked.now c.second-body.result) (left_from c.args.context.now.checked.now c.args.place) 10 1 (further_on c.args.context.now.checked.now c.args.place (kind_inside c.args.context.now.checked.now c.args.place (NodeKind.Lambda c.args.quantifier) c.requires.kind) c.second-body.result (second_after c.args.context.now.checked.now c.requires.translated.right c.args.place c.second-body.result c.second-body.ensures)) (omega arith)),
  (c.requires.translated, (let n = some_there (λ (n : CheckedNode). n.kind ≡ NodeKind.Lambda c.args.quantifier) (slice_get c.args.context.now.checked.now.list.nodes c.args.place) c.requires.kind in let b = lambda_body c.args.context.now.checked.now c.requires.translated.right c.trees_have_one_type.ensures c.args.place n.0 n.1.0 c.args.quantifier n.1.1 c.second-body.result c.second-body.ensures in b.truth)),
)

-- ---- lift::Lifted::close

pub lift::Lifted::close-loop-place-init : goal.lift::Lifted::close-loop-place-init
lift::Lifted::close-loop-place-init t c =
    let same : c.len.result ≡ length c.args.self.now.bound.items = omega (arith, c.len.ensures, c.args.self.now.bound.ok.0) in
    record {
      put =
          subst
          (λ (n : ℕ). PutsAll (question_of c.args.context.now) (record c.args.draft.now { depth = c.args.draft.now.depth - length c.args.self.now.bound.items }) (record c.args.draft.now { depth = c.args.draft.now.depth - n })
          (AllHave c.args.context.now.checked.now []) 0)
          (sym same) (no_value_put (question_of c.args.context.now) (record c.args.draft.now { depth = c.args.draft.now.depth - length c.args.self.now.bound.items }));
      idle = λ none. ap (λ (n : ℕ). record c.args.draft.now { depth = c.args.draft.now.depth - n }) same;
    }

pub lift::Lifted::close-loop-place-preserved : goal.lift::Lifted::close-loop-place-preserved
lift::Lifted::close-loop-place-preserved t c =
    let at = slice_get_read c.args.self.now.bound.items (length c.args.self.now.bound.items) c.loop-place.place c.index.result.now refl (omega arith) c.index.ensures in
    record {
      put =
          one_value_put (question_of c.args.context.now) c.args.self.now.bound.items c.loop-place.place c.index.result.now
          (record c.args.draft.now { depth = c.args.draft.now.depth - length c.args.self.now.bound.items }) c.loop-place.draft c.put_operand.new.draft at c.loop-place.invariant.put c.in_ok-put_operand.ensures;
      idle = λ none. let never : ⊥ = omega (arith, none) in absurd never;
    }

pub lift::Lifted::close-put_operand-requires : goal.lift::Lifted::close-put_operand-requires
lift::Lifted::close-put_operand-requires t c = (
  omega (arith, down_to c.args.context.now.checked.now (left_of c.args.context.now.checked.now c.index.result.now) (left_in c.args.context.now.checked.now c.args.self.now.bound.items) 10 11 (one_left c.args.context.now.checked.now c.args.self.now.bound.items c.loop-place.place c.index.result.now (slice_get_read c.args.self.now.bound.items (length c.args.self.now.bound.items) c.loop-place.place c.index.result.now refl (omega arith) c.index.ensures)) (omega arith)),
  (c.requires.translated, subst (IsPut c.args.context.now.checked.now c.args.context.now.ranges.now) (sym c.index.ensures) (c.requires.put c.loop-place.place c.index.result.now (omega arith))),
)

-- ---- list_forms::put_among

pub list_forms::put_among-loop-place-init : goal.list_forms::put_among-loop-place-init
list_forms::put_among-loop-place-init t c =
    record {
      so =
          among_starts (question_of c.args.context.now) c.args.left.now c.args.items.now c.args.draft.now c.compared_type.result c.put.new.self c.put_compared.new.draft c.compared_type.ensures
          (by_node c.args.draft.now c.put.new.self (SqlNode.Among (length c.args.items.now) c.compared_type.result) refl c.in_ok-put.ensures.ok) c.in_ok-put_compared.ensures;
    }

pub list_forms::put_among-loop-place-preserved : goal.list_forms::put_among-loop-place-preserved
list_forms::put_among-loop-place-preserved t c =
    let items = c.args.items.now in
    let at = slice_get_read items (length items) c.loop-place.place c.index-items-place.result refl (omega arith) c.index-items-place.is in
    record {
      so =
          among_goes_on (question_of c.args.context.now) c.args.left.now items c.args.draft.now c.loop-place.draft c.put_compared-in-loop-place.new.draft c.loop-place.place c.index-items-place.result at
          c.loop-place.invariant.so c.in_ok-put_compared-2.ensures;
    }

pub list_forms::put_among-returns : goal.list_forms::put_among-returns
list_forms::put_among-returns t c =
    let items = c.args.items.now in
    let end : c.loop-place.place ≡ length items = omega arith in
    among_ends (question_of c.args.context.now) c.args.left.now items c.args.draft.now c.requires.constants.type_of c.loop-place.draft c.requires.constants.left_is c.requires.beside.compared
    (subst (λ (n : ℕ). AmongSoFar (question_of c.args.context.now) c.args.left.now items c.args.draft.now c.loop-place.draft n) end c.loop-place.invariant.so)

pub list_forms::put_among-compared_type-requires : goal.list_forms::put_among-compared_type-requires
list_forms::put_among-compared_type-requires t c = (c.requires.constants.type_of, c.requires.constants.left_is)

pub list_forms::put_among-put_compared-requires : goal.list_forms::put_among-put_compared-requires
list_forms::put_among-put_compared-requires t c = (
  omega (arith, down_to c.args.context.now.checked.now (left_of c.args.context.now.checked.now c.args.left.now) (left_in c.args.context.now.checked.now (c.args.left.now ∷ c.args.items.now)) 12 13 (one_left c.args.context.now.checked.now (c.args.left.now ∷ c.args.items.now) 0 c.args.left.now refl) (omega arith)),
  (c.requires.translated, (left_put c.args.context.now.checked.now c.args.context.now.ranges.now c.args.left.now c.args.items.now c.requires.constants c.requires.beside, (c.requires.constants.type_of, c.requires.constants.left_is))),
)

pub list_forms::put_among-put_compared-requires-in-loop-place : goal.list_forms::put_among-put_compared-requires-in-loop-place
list_forms::put_among-put_compared-requires-in-loop-place t c = (
  omega (arith, down_to c.args.context.now.checked.now (left_of c.args.context.now.checked.now c.index-items-place.result) (left_in c.args.context.now.checked.now (c.args.left.now ∷ c.args.items.now)) 12 13 (one_left c.args.context.now.checked.now (c.args.left.now ∷ c.args.items.now) (suc c.loop-place.place) c.index-items-place.result (slice_get_read c.args.items.now (length c.args.items.now) c.loop-place.place c.index-items-place.result refl (omega arith) c.index-items-place.is)) (omega arith)),
  (c.requires.translated, ((let items = c.args.items.now in let at = slice_get_read items (length items) c.loop-place.place c.index-items-place.result refl (omega arith) c.index-items-place.is in item_put c.args.context.now.checked.now c.args.context.now.ranges.now c.args.left.now items c.requires.constants c.requires.beside c.loop-place.place c.index-items-place.result at), (let items = c.args.items.now in let at = slice_get_read items (length items) c.loop-place.place c.index-items-place.result refl (omega arith) c.index-items-place.is in (c.requires.constants.type_of, item_value c.args.context.now.checked.now c.args.context.now.ranges.now c.args.left.now items c.requires.constants c.requires.beside c.loop-place.place c.index-items-place.result at)))),
)

-- ---- list_forms::put_codes

pub list_forms::put_codes-returns-then-is_empty : goal.list_forms::put_codes-returns-then-is_empty
list_forms::put_codes-returns-then-is_empty t c =
    ok_same_items c.put_number.result (λ (xs : List Operand). Puts (question_of c.args.context.now) c.args.draft.now c.put_number.new.self (EqualCodesOrNull c.args.context.now.checked.now c.args.left.now xs) AsCode) c.args.items.now [] (nil_from_length c.args.items.now (empty_length c.args.items.now c.is_empty.result c.is_empty.ensures c.if-is_empty.true))
    (ok_no_code (question_of c.args.context.now) c.args.left.now c.put_number.result c.args.draft.now c.put_number.new.self c.put_number.ensures.ok)

pub list_forms::put_codes-returns : goal.list_forms::put_codes-returns
list_forms::put_codes-returns t c = c.put_equal_codes.ensures

pub list_forms::put_codes-put_equal_codes-requires : goal.list_forms::put_codes-put_equal_codes-requires
list_forms::put_codes-put_equal_codes-requires t c =
    (omega arith, (c.requires.translated, (c.requires.left, (c.requires.items, (c.requires.compared, some_length c.args.items.now c.is_empty.result c.is_empty.ensures c.if-is_empty.false)))))

-- ---- list_forms::put_equal_codes

pub list_forms::put_equal_codes-split_at-requires : goal.list_forms::put_equal_codes-split_at-requires
list_forms::put_equal_codes-split_at-requires t c = omega arith

pub list_forms::put_equal_codes-returns-then-items-eq1 : goal.list_forms::put_equal_codes-returns-then-items-eq1
list_forms::put_equal_codes-returns-then-items-eq1 t c =
    ok_one_code (question_of c.args.context.now) c.args.left.now c.args.items.now c.index-items-0.result (omega (arith, c.if-items-eq1.true)) (slice_get_read c.args.items.now (length c.args.items.now) 0 c.index-items-0.result refl (omega (arith, c.if-items-eq1.true)) c.index-items-0.is) c.put_compared_code.result c.args.draft.now c.put_compared_code.new.draft c.put_compared_code.ensures

pub list_forms::put_equal_codes-returns : goal.list_forms::put_equal_codes-returns
list_forms::put_equal_codes-returns t c =
    ok_same_items c.put_equal_codes-2.result (λ (xs : List Operand). Puts (question_of c.args.context.now) c.args.draft.now c.put_equal_codes-2.new.draft (EqualCodesOrNull c.args.context.now.checked.now c.args.left.now xs) AsCode) c.args.items.now (c.split_at.result.0.now ++ c.split_at.result.1.now) (both_parts c.args.items.now c.split_at.result.0.now c.split_at.result.1.now (length c.args.items.now / 2) c.split_at.ensures.front c.split_at.ensures.back)
    (ok_both_codes (question_of c.args.context.now) c.args.left.now c.put_equal_codes-2.result c.tables_are_connectives.ensures.or c.split_at.result.0.now c.split_at.result.1.now (rest_some c.args.items.now c.split_at.result.0.now c.split_at.result.1.now (length c.args.items.now / 2) c.split_at.ensures.front c.split_at.ensures.back (omega (arith, c.requires.some, c.if-items-eq1.false))) c.args.draft.now c.put.new.self c.put_equal_codes.new.draft c.put_equal_codes-2.new.draft
    c.in_ok-put.ensures.ok c.in_ok-put_equal_codes.ensures c.put_equal_codes-2.ensures)

pub list_forms::put_equal_codes-put_compared_code-requires : goal.list_forms::put_equal_codes-put_compared_code-requires
list_forms::put_equal_codes-put_compared_code-requires t c = (
  omega (arith, down_to c.args.context.now.checked.now (left_in c.args.context.now.checked.now (c.args.left.now ∷ c.index-items-0.result ∷ [])) (left_in c.args.context.now.checked.now (c.args.left.now ∷ c.args.items.now)) 17 (18 + length c.args.items.now) (item_left c.args.context.now.checked.now c.args.left.now c.args.items.now 0 c.index-items-0.result (slice_get_read c.args.items.now (length c.args.items.now) 0 c.index-items-0.result refl (omega (arith, c.if-items-eq1.true)) c.index-items-0.is)) (omega arith)),
  (c.requires.translated, (c.requires.left, (at_all (IsFaulty c.args.context.now.checked.now c.args.context.now.ranges.now) c.args.items.now 0 c.index-items-0.result c.requires.items (slice_get_read c.args.items.now (length c.args.items.now) 0 c.index-items-0.result refl (omega (arith, c.if-items-eq1.true)) c.index-items-0.is), at_all (λ (item : Operand). AreCompared c.args.left.now.kind item.kind) c.args.items.now 0 c.index-items-0.result c.requires.compared (slice_get_read c.args.items.now (length c.args.items.now) 0 c.index-items-0.result refl (omega (arith, c.if-items-eq1.true)) c.index-items-0.is)))),
)

pub list_forms::put_equal_codes-put_equal_codes-requires : goal.list_forms::put_equal_codes-put_equal_codes-requires
list_forms::put_equal_codes-put_equal_codes-requires t c = (
  omega (arith, down_to c.args.context.now.checked.now (left_in c.args.context.now.checked.now (c.args.left.now ∷ c.split_at.result.0.now)) (left_in c.args.context.now.checked.now (c.args.left.now ∷ c.args.items.now)) (18 + length c.split_at.result.0.now) (18 + length c.args.items.now) (front_left c.args.context.now.checked.now c.args.left.now c.args.items.now c.split_at.result.0.now c.split_at.result.1.now (both_parts c.args.items.now c.split_at.result.0.now c.split_at.result.1.now (length c.args.items.now / 2) c.split_at.ensures.front c.split_at.ensures.back)) (omega (arith, parts_length c.args.items.now c.split_at.result.0.now c.split_at.result.1.now (both_parts c.args.items.now c.split_at.result.0.now c.split_at.result.1.now (length c.args.items.now / 2) c.split_at.ensures.front c.split_at.ensures.back), rest_some c.args.items.now c.split_at.result.0.now c.split_at.result.1.now (length c.args.items.now / 2) c.split_at.ensures.front c.split_at.ensures.back (omega (arith, c.requires.some, c.if-items-eq1.false))))),
  (c.requires.translated, (c.requires.left, (of_front c.args.items.now c.split_at.result.0.now c.split_at.result.1.now (length c.args.items.now / 2) c.split_at.ensures.front c.split_at.ensures.back (λ (item : Operand). IsFaulty c.args.context.now.checked.now c.args.context.now.ranges.now item) c.requires.items, (of_front c.args.items.now c.split_at.result.0.now c.split_at.result.1.now (length c.args.items.now / 2) c.split_at.ensures.front c.split_at.ensures.back (λ (item : Operand). AreCompared c.args.left.now.kind item.kind) c.requires.compared, front_some c.args.items.now c.split_at.result.0.now c.split_at.result.1.now (length c.args.items.now / 2) c.split_at.ensures.front c.split_at.ensures.back (omega (arith, c.requires.some, c.if-items-eq1.false)) (omega (arith, c.requires.some, c.if-items-eq1.false)))))),
)

pub list_forms::put_equal_codes-put_equal_codes-requires-2 : goal.list_forms::put_equal_codes-put_equal_codes-requires-2
list_forms::put_equal_codes-put_equal_codes-requires-2 t c = (
  omega (arith, down_to c.args.context.now.checked.now (left_in c.args.context.now.checked.now (c.args.left.now ∷ c.split_at.result.1.now)) (left_in c.args.context.now.checked.now (c.args.left.now ∷ c.args.items.now)) (18 + length c.split_at.result.1.now) (18 + length c.args.items.now) (rest_left c.args.context.now.checked.now c.args.left.now c.args.items.now c.split_at.result.0.now c.split_at.result.1.now (both_parts c.args.items.now c.split_at.result.0.now c.split_at.result.1.now (length c.args.items.now / 2) c.split_at.ensures.front c.split_at.ensures.back)) (omega (arith, parts_length c.args.items.now c.split_at.result.0.now c.split_at.result.1.now (both_parts c.args.items.now c.split_at.result.0.now c.split_at.result.1.now (length c.args.items.now / 2) c.split_at.ensures.front c.split_at.ensures.back), front_some c.args.items.now c.split_at.result.0.now c.split_at.result.1.now (length c.args.items.now / 2) c.split_at.ensures.front c.split_at.ensures.back (omega (arith, c.requires.some, c.if-items-eq1.false)) (omega (arith, c.requires.some, c.if-items-eq1.false))))),
  (c.requires.translated, (c.requires.left, (of_rest c.args.items.now c.split_at.result.0.now c.split_at.result.1.now (length c.args.items.now / 2) c.split_at.ensures.front c.split_at.ensures.back (λ (item : Operand). IsFaulty c.args.context.now.checked.now c.args.context.now.ranges.now item) c.requires.items, (of_rest c.args.items.now c.split_at.result.0.now c.split_at.result.1.now (length c.args.items.now / 2) c.split_at.ensures.front c.split_at.ensures.back (λ (item : Operand). AreCompared c.args.left.now.kind item.kind) c.requires.compared, rest_some c.args.items.now c.split_at.result.0.now c.split_at.result.1.now (length c.args.items.now / 2) c.split_at.ensures.front c.split_at.ensures.back (omega (arith, c.requires.some, c.if-items-eq1.false)))))),
)

-- ---- list_forms::put_equal_to_one

pub list_forms::put_equal_to_one-split_at-requires : goal.list_forms::put_equal_to_one-split_at-requires
list_forms::put_equal_to_one-split_at-requires t c = omega arith

pub list_forms::put_equal_to_one-returns-then-is_empty : goal.list_forms::put_equal_to_one-returns-then-is_empty
list_forms::put_equal_to_one-returns-then-is_empty t c =
    ok_same_items c.put.result (λ (xs : List Operand). Puts (question_of c.args.context.now) c.args.draft.now c.put.new.self (EqualsHas c.args.context.now.checked.now c.args.left.now xs) (IsInForm (kept_form c.args.kept))) c.args.items.now [] (nil_from_length c.args.items.now (empty_length c.args.items.now c.is_empty.result c.is_empty.ensures c.if-is_empty.true))
    (ok_none_equal (question_of c.args.context.now) c.args.left.now c.put.result c.args.kept c.args.draft.now c.put.new.self c.put.ensures.ok)

pub list_forms::put_equal_to_one-returns-then-kept : goal.list_forms::put_equal_to_one-returns-then-kept
list_forms::put_equal_to_one-returns-then-kept t c =
    ok_one_equal (question_of c.args.context.now) c.args.left.now c.args.items.now c.index-items-0.result (omega (arith, c.if-items-eq1.true)) (slice_get_read c.args.items.now (length c.args.items.now) 0 c.index-items-0.result refl (omega (arith, c.if-items-eq1.true)) c.index-items-0.is) c.put_kept_comparison.result c.args.draft.now c.put_kept_comparison.new.draft c.args.kept true c.if-kept.true c.put_kept_comparison.ensures

pub list_forms::put_equal_to_one-returns-else-kept : goal.list_forms::put_equal_to_one-returns-else-kept
list_forms::put_equal_to_one-returns-else-kept t c =
    ok_one_equal (question_of c.args.context.now) c.args.left.now c.args.items.now c.index-items-0-else-kept.result (omega (arith, c.if-items-eq1.true)) (slice_get_read c.args.items.now (length c.args.items.now) 0 c.index-items-0-else-kept.result refl (omega (arith, c.if-items-eq1.true)) c.index-items-0-else-kept.is) c.put_comparison.result c.args.draft.now c.put_comparison.new.draft c.args.kept false c.if-kept.false c.put_comparison.ensures

pub list_forms::put_equal_to_one-returns : goal.list_forms::put_equal_to_one-returns
list_forms::put_equal_to_one-returns t c =
    ok_same_items c.put_equal_to_one-2.result (λ (xs : List Operand). Puts (question_of c.args.context.now) c.args.draft.now c.put_equal_to_one-2.new.draft (EqualsHas c.args.context.now.checked.now c.args.left.now xs) (IsInForm (kept_form c.args.kept))) c.args.items.now (c.split_at.result.0.now ++ c.split_at.result.1.now) (both_parts c.args.items.now c.split_at.result.0.now c.split_at.result.1.now (length c.args.items.now / 2) c.split_at.ensures.front c.split_at.ensures.back)
    (ok_both_equal (question_of c.args.context.now) c.args.left.now c.put_equal_to_one-2.result c.args.kept c.split_at.result.0.now c.split_at.result.1.now c.args.draft.now c.put-2.new.self c.put_equal_to_one.new.draft c.put_equal_to_one-2.new.draft c.in_ok-put.ensures.ok
    c.in_ok-put_equal_to_one.ensures c.put_equal_to_one-2.ensures)

pub list_forms::put_equal_to_one-put_kept_comparison-requires : goal.list_forms::put_equal_to_one-put_kept_comparison-requires
list_forms::put_equal_to_one-put_kept_comparison-requires t c = (
  omega (arith, down_to c.args.context.now.checked.now (left_in c.args.context.now.checked.now (c.args.left.now ∷ c.index-items-0.result ∷ [])) (left_in c.args.context.now.checked.now (c.args.left.now ∷ c.args.items.now)) 17 (18 + length c.args.items.now) (item_left c.args.context.now.checked.now c.args.left.now c.args.items.now 0 c.index-items-0.result (slice_get_read c.args.items.now (length c.args.items.now) 0 c.index-items-0.result refl (omega (arith, c.if-items-eq1.true)) c.index-items-0.is)) (omega arith)),
  (c.requires.translated, (c.requires.beside.left_tested, (at_all (IsTested c.args.context.now.checked.now c.args.context.now.ranges.now) c.args.items.now 0 c.index-items-0.result c.requires.beside.tested (slice_get_read c.args.items.now (length c.args.items.now) 0 c.index-items-0.result refl (omega (arith, c.if-items-eq1.true)) c.index-items-0.is), at_all (λ (item : Operand). AreCompared c.args.left.now.kind item.kind) c.args.items.now 0 c.index-items-0.result c.requires.beside.compared (slice_get_read c.args.items.now (length c.args.items.now) 0 c.index-items-0.result refl (omega (arith, c.if-items-eq1.true)) c.index-items-0.is)))),
)

pub list_forms::put_equal_to_one-put_comparison-requires : goal.list_forms::put_equal_to_one-put_comparison-requires
list_forms::put_equal_to_one-put_comparison-requires t c = (
  omega (arith, down_to c.args.context.now.checked.now (left_in c.args.context.now.checked.now (c.args.left.now ∷ c.index-items-0-else-kept.result ∷ [])) (left_in c.args.context.now.checked.now (c.args.left.now ∷ c.args.items.now)) 16 (18 + length c.args.items.now) (item_left c.args.context.now.checked.now c.args.left.now c.args.items.now 0 c.index-items-0-else-kept.result (slice_get_read c.args.items.now (length c.args.items.now) 0 c.index-items-0-else-kept.result refl (omega (arith, c.if-items-eq1.true)) c.index-items-0-else-kept.is)) (omega arith)),
  (c.requires.translated, (c.requires.beside.left_tested, (at_all (IsTested c.args.context.now.checked.now c.args.context.now.ranges.now) c.args.items.now 0 c.index-items-0-else-kept.result c.requires.beside.tested (slice_get_read c.args.items.now (length c.args.items.now) 0 c.index-items-0-else-kept.result refl (omega (arith, c.if-items-eq1.true)) c.index-items-0-else-kept.is), at_all (λ (item : Operand). AreCompared c.args.left.now.kind item.kind) c.args.items.now 0 c.index-items-0-else-kept.result c.requires.beside.compared (slice_get_read c.args.items.now (length c.args.items.now) 0 c.index-items-0-else-kept.result refl (omega (arith, c.if-items-eq1.true)) c.index-items-0-else-kept.is)))),
)

pub list_forms::put_equal_to_one-put_equal_to_one-requires : goal.list_forms::put_equal_to_one-put_equal_to_one-requires
list_forms::put_equal_to_one-put_equal_to_one-requires t c = (
  omega (arith, down_to c.args.context.now.checked.now (left_in c.args.context.now.checked.now (c.args.left.now ∷ c.split_at.result.0.now)) (left_in c.args.context.now.checked.now (c.args.left.now ∷ c.args.items.now)) (18 + length c.split_at.result.0.now) (18 + length c.args.items.now) (front_left c.args.context.now.checked.now c.args.left.now c.args.items.now c.split_at.result.0.now c.split_at.result.1.now (both_parts c.args.items.now c.split_at.result.0.now c.split_at.result.1.now (length c.args.items.now / 2) c.split_at.ensures.front c.split_at.ensures.back)) (omega (arith, parts_length c.args.items.now c.split_at.result.0.now c.split_at.result.1.now (both_parts c.args.items.now c.split_at.result.0.now c.split_at.result.1.now (length c.args.items.now / 2) c.split_at.ensures.front c.split_at.ensures.back), rest_some c.args.items.now c.split_at.result.0.now c.split_at.result.1.now (length c.args.items.now / 2) c.split_at.ensures.front c.split_at.ensures.back (omega (arith, some_length c.args.items.now c.is_empty.result c.is_empty.ensures c.if-is_empty.false, c.if-items-eq1.false))))),
  (c.requires.translated, front_beside c.args.context.now.checked.now c.args.context.now.ranges.now c.args.left.now c.args.items.now c.split_at.result.0.now c.split_at.result.1.now (length c.args.items.now / 2) c.split_at.ensures.front c.split_at.ensures.back c.requires.beside),
)

pub list_forms::put_equal_to_one-put_equal_to_one-requires-2 : goal.list_forms::put_equal_to_one-put_equal_to_one-requires-2
list_forms::put_equal_to_one-put_equal_to_one-requires-2 t c = (
  omega (arith, down_to c.args.context.now.checked.now (left_in c.args.context.now.checked.now (c.args.left.now ∷ c.split_at.result.1.now)) (left_in c.args.context.now.checked.now (c.args.left.now ∷ c.args.items.now)) (18 + length c.split_at.result.1.now) (18 + length c.args.items.now) (rest_left c.args.context.now.checked.now c.args.left.now c.args.items.now c.split_at.result.0.now c.split_at.result.1.now (both_parts c.args.items.now c.split_at.result.0.now c.split_at.result.1.now (length c.args.items.now / 2) c.split_at.ensures.front c.split_at.ensures.back)) (omega (arith, parts_length c.args.items.now c.split_at.result.0.now c.split_at.result.1.now (both_parts c.args.items.now c.split_at.result.0.now c.split_at.result.1.now (length c.args.items.now / 2) c.split_at.ensures.front c.split_at.ensures.back), front_some c.args.items.now c.split_at.result.0.now c.split_at.result.1.now (length c.args.items.now / 2) c.split_at.ensures.front c.split_at.ensures.back (omega (arith, some_length c.args.items.now c.is_empty.result c.is_empty.ensures c.if-is_empty.false, c.if-items-eq1.false)) (omega (arith, some_length c.args.items.now c.is_empty.result c.is_empty.ensures c.if-is_empty.false, c.if-items-eq1.false))))),
  (c.requires.translated, rest_beside c.args.context.now.checked.now c.args.context.now.ranges.now c.args.left.now c.args.items.now c.split_at.result.0.now c.split_at.result.1.now (length c.args.items.now / 2) c.split_at.ensures.front c.split_at.ensures.back c.requires.beside),
)

-- ---- list_forms::put_kept_list

pub list_forms::put_kept_list-at-left-requires-clause-there : goal.list_forms::put_kept_list-at-left-requires-clause-there
list_forms::put_kept_list-at-left-requires-clause-there t c = list_child c.args.context.now.checked.now c.requires.translated.right c.args.place c.requires.list

pub list_forms::put_kept_list-at-left-requires-clause-ranged : goal.list_forms::put_kept_list-at-left-requires-clause-ranged
list_forms::put_kept_list-at-left-requires-clause-ranged t c =
    has_range (question_of c.args.context.now) c.args.context.now.ranges.now c.requires.translated.ranges (c.args.place + 1) (list_child c.args.context.now.checked.now c.requires.translated.right c.args.place c.requires.list)

pub list_forms::put_kept_list-is_of_constants-requires-clause-items : goal.list_forms::put_kept_list-is_of_constants-requires-clause-items
list_forms::put_kept_list-is_of_constants-requires-clause-items t c =
    (c.args.place, c.requires.list, subst (AreItemsOf c.args.context.now.checked.now c.args.context.now.ranges.now c.args.place) (sym c.as_slice.ensures.value) c.in_ok-items.ensures.items)

pub list_forms::put_kept_list-returns-then-is_of_constants : goal.list_forms::put_kept_list-returns-then-is_of_constants
list_forms::put_kept_list-returns-then-is_of_constants t c =
    let left_is = node_operand c.args.context.now.checked.now c.args.context.now.ranges.now c.at-left.result (c.args.place + 1) c.at-left.ensures.kind c.at-left.ensures.range in
    ok_among_kept (question_of c.args.context.now) c.args.context.now.ranges.now c.requires.translated.ranges c.requires.translated.right c.trees_have_one_type.ensures c.typed_trees_end_once_on_entities.ensures c.requires.translated.moment c.quoted_texts_have_one_number.ensures c.comparisons_are_decided.ensures.decided c.args.place c.requires.list c.at-left.result c.at-left.ensures.source left_is c.as_slice-then-is_of_constants.result.now (subst (AreItemsOf c.args.context.now.checked.now c.args.context.now.ranges.now c.args.place) (sym c.as_slice-then-is_of_constants.ensures.value) c.in_ok-items.ensures.items) c.requires.faultless c.put_among.result c.args.draft.now c.put_among.new.draft (subst (AreConstants c.args.context.now.checked.now c.at-left.result) (c.as_slice.ensures.value ∙ sym c.as_slice-then-is_of_constants.ensures.value) (c.is_of_constants.ensures c.if-is_of_constants.true)) c.put_among.ensures

pub list_forms::put_kept_list-returns : goal.list_forms::put_kept_list-returns
list_forms::put_kept_list-returns t c =
    let left_is = node_operand c.args.context.now.checked.now c.args.context.now.ranges.now c.at-left.result (c.args.place + 1) c.at-left.ensures.kind c.at-left.ensures.range in
    ok_list (question_of c.args.context.now) c.args.context.now.ranges.now c.requires.translated.ranges c.requires.translated.right c.trees_have_one_type.ensures c.typed_trees_end_once_on_entities.ensures c.requires.translated.moment c.quoted_texts_have_one_number.ensures c.comparisons_are_decided.ensures.decided c.args.place c.requires.list c.at-left.result c.at-left.ensures.source left_is c.as_slice-2.result.now (subst (AreItemsOf c.args.context.now.checked.now c.args.context.now.ranges.now c.args.place) (sym c.as_slice-2.ensures.value) c.in_ok-items.ensures.items) c.requires.faultless c.put_over_left.result c.args.draft.now c.put_over_left.new.draft (IsInForm Form.Keeps) c.put_over_left.ensures

pub list_forms::put_kept_list-items_of-requires-clause-list : goal.list_forms::put_kept_list-items_of-requires-clause-list
list_forms::put_kept_list-items_of-requires-clause-list t c = c.requires.list

pub list_forms::put_kept_list-put_among-requires : goal.list_forms::put_kept_list-put_among-requires
list_forms::put_kept_list-put_among-requires t c = (
  omega (arith, on_from c.args.context.now.checked.now (left_in c.args.context.now.checked.now (c.at-left.result ∷ c.as_slice-then-is_of_constants.result.now)) (left_from c.args.context.now.checked.now c.args.place) 13 2 (items_on c.args.context.now.checked.now c.args.place (kind_inside c.args.context.now.checked.now c.args.place NodeKind.InList c.requires.list) c.requires.translated.right c.args.context.now.ranges.now c.at-left.result c.as_slice-then-is_of_constants.result.now (at_on c.args.context.now.checked.now c.args.place (kind_inside c.args.context.now.checked.now c.args.place NodeKind.InList c.requires.list) c.at-left.result (c.args.place + 1) c.at-left.ensures.source (omega arith)) (subst (AreItemsOf c.args.context.now.checked.now c.args.context.now.ranges.now c.args.place) (sym c.as_slice-then-is_of_constants.ensures.value) c.in_ok-items.ensures.items)) (omega arith)),
  (c.requires.translated, (subst (AreConstants c.args.context.now.checked.now c.at-left.result) (c.as_slice.ensures.value ∙ sym c.as_slice-then-is_of_constants.ensures.value) (c.is_of_constants.ensures c.if-is_of_constants.true), (let left_is = node_operand c.args.context.now.checked.now c.args.context.now.ranges.now c.at-left.result (c.args.place + 1) c.at-left.ensures.kind c.at-left.ensures.range in of_list_answers_beside (question_of c.args.context.now) c.args.context.now.ranges.now c.requires.translated.ranges c.requires.translated.right c.trees_have_one_type.ensures c.typed_trees_end_once_on_entities.ensures c.requires.translated.moment c.quoted_texts_have_one_number.ensures c.comparisons_are_decided.ensures.decided c.args.place c.requires.list c.at-left.result c.at-left.ensures.source left_is c.as_slice-then-is_of_constants.result.now (subst (AreItemsOf c.args.context.now.checked.now c.args.context.now.ranges.now c.args.place) (sym c.as_slice-then-is_of_constants.ensures.value) c.in_ok-items.ensures.items) c.requires.faultless))),
)

pub list_forms::put_kept_list-put_over_left-requires : goal.list_forms::put_kept_list-put_over_left-requires
list_forms::put_kept_list-put_over_left-requires t c = (
  omega (arith, on_from c.args.context.now.checked.now (left_in c.args.context.now.checked.now (c.at-left.result ∷ c.as_slice-2.result.now)) (left_from c.args.context.now.checked.now c.args.place) (19 + length c.as_slice-2.result.now) 2 (items_on c.args.context.now.checked.now c.args.place (kind_inside c.args.context.now.checked.now c.args.place NodeKind.InList c.requires.list) c.requires.translated.right c.args.context.now.ranges.now c.at-left.result c.as_slice-2.result.now (at_on c.args.context.now.checked.now c.args.place (kind_inside c.args.context.now.checked.now c.args.place NodeKind.InList c.requires.list) c.at-left.result (c.args.place + 1) c.at-left.ensures.source (omega arith)) (subst (AreItemsOf c.args.context.now.checked.now c.args.context.now.ranges.now c.args.place) (sym c.as_slice-2.ensures.value) c.in_ok-items.ensures.items)) (omega (arith, c.in_ok-items.ensures.few, ap length c.as_slice-2.ensures.value))),
  (c.requires.translated, ((let left_is = node_operand c.args.context.now.checked.now c.args.context.now.ranges.now c.at-left.result (c.args.place + 1) c.at-left.ensures.kind c.at-left.ensures.range in of_list_answers_beside (question_of c.args.context.now) c.args.context.now.ranges.now c.requires.translated.ranges c.requires.translated.right c.trees_have_one_type.ensures c.typed_trees_end_once_on_entities.ensures c.requires.translated.moment c.quoted_texts_have_one_number.ensures c.comparisons_are_decided.ensures.decided c.args.place c.requires.list c.at-left.result c.at-left.ensures.source left_is c.as_slice-2.result.now (subst (AreItemsOf c.args.context.now.checked.now c.args.context.now.ranges.now c.args.place) (sym c.as_slice-2.ensures.value) c.in_ok-items.ensures.items) c.requires.faultless), (subst (IsInside c.args.context.now.checked.now) (sym c.at-left.ensures.source) (list_child c.args.context.now.checked.now c.requires.translated.right c.args.place c.requires.list), (let left_is = node_operand c.args.context.now.checked.now c.args.context.now.ranges.now c.at-left.result (c.args.place + 1) c.at-left.ensures.kind c.at-left.ensures.range in of_list_answers_left_faultless (question_of c.args.context.now) c.args.context.now.ranges.now c.requires.translated.ranges c.requires.translated.right c.trees_have_one_type.ensures c.typed_trees_end_once_on_entities.ensures c.requires.translated.moment c.quoted_texts_have_one_number.ensures c.comparisons_are_decided.ensures.decided c.args.place c.requires.list c.at-left.result c.at-left.ensures.source left_is c.as_slice-2.result.now (subst (AreItemsOf c.args.context.now.checked.now c.args.context.now.ranges.now c.args.place) (sym c.as_slice-2.ensures.value) c.in_ok-items.ensures.items) c.requires.faultless)))),
)

-- ---- list_forms::put_list

pub list_forms::put_list-at-left-requires-clause-there : goal.list_forms::put_list-at-left-requires-clause-there
list_forms::put_list-at-left-requires-clause-there t c = list_child c.args.context.now.checked.now c.requires.translated.right c.args.place c.requires.list

pub list_forms::put_list-at-left-requires-clause-ranged : goal.list_forms::put_list-at-left-requires-clause-ranged
list_forms::put_list-at-left-requires-clause-ranged t c =
    has_range (question_of c.args.context.now) c.args.context.now.ranges.now c.requires.translated.ranges (c.args.place + 1) (list_child c.args.context.now.checked.now c.requires.translated.right c.args.place c.requires.list)

pub list_forms::put_list-is_of_constants-requires-clause-items : goal.list_forms::put_list-is_of_constants-requires-clause-items
list_forms::put_list-is_of_constants-requires-clause-items t c =
    (c.args.place, c.requires.list, subst (AreItemsOf c.args.context.now.checked.now c.args.context.now.ranges.now c.args.place) (sym c.as_slice.ensures.value) c.in_ok-items.ensures.items)

pub list_forms::put_list-returns-then-is_of_constants : goal.list_forms::put_list-returns-then-is_of_constants
list_forms::put_list-returns-then-is_of_constants t c =
    let left_is = node_operand c.args.context.now.checked.now c.args.context.now.ranges.now c.at-left.result (c.args.place + 1) c.at-left.ensures.kind c.at-left.ensures.range in
    elim c.if-left.branch [
      | list_forms::put_list-then-left+in_ok-put w ↦ ok_among_truth (question_of c.args.context.now) c.args.context.now.ranges.now c.requires.translated.ranges c.requires.translated.right c.trees_have_one_type.ensures c.typed_trees_end_once_on_entities.ensures c.requires.translated.moment c.quoted_texts_have_one_number.ensures c.comparisons_are_decided.ensures.decided c.args.place c.requires.list c.at-left.result c.at-left.ensures.source left_is c.as_slice-then-is_of_constants.result.now (subst (AreItemsOf c.args.context.now.checked.now c.args.context.now.ranges.now c.args.place) (sym c.as_slice-then-is_of_constants.ensures.value) c.in_ok-items.ensures.items) c.requires.faultless c.put_among.result c.args.draft.now c.put_among.new.draft (subst (AreConstants c.args.context.now.checked.now c.at-left.result) (c.as_slice.ensures.value ∙ sym c.as_slice-then-is_of_constants.ensures.value) (c.is_of_constants.ensures c.if-is_of_constants.true)) c.if-left.draft (subst (λ (d : Draft). GrowsBy c.args.draft.now d (SqlNode.IsTrue ∷ []) [] []) (sym w.draft-is) w.in_ok-put.ensures.ok) c.put_among.ensures
      | list_forms::put_list-else-left w ↦ ok_among_plain (question_of c.args.context.now) c.args.context.now.ranges.now c.requires.translated.ranges c.requires.translated.right c.trees_have_one_type.ensures c.typed_trees_end_once_on_entities.ensures c.requires.translated.moment c.quoted_texts_have_one_number.ensures c.comparisons_are_decided.ensures.decided c.args.place c.requires.list c.at-left.result c.at-left.ensures.source left_is c.as_slice-then-is_of_constants.result.now (subst (AreItemsOf c.args.context.now.checked.now c.args.context.now.ranges.now c.args.place) (sym c.as_slice-then-is_of_constants.ensures.value) c.in_ok-items.ensures.items) c.requires.faultless c.put_among.result c.args.draft.now c.put_among.new.draft (subst (AreConstants c.args.context.now.checked.now c.at-left.result) (c.as_slice.ensures.value ∙ sym c.as_slice-then-is_of_constants.ensures.value) (c.is_of_constants.ensures c.if-is_of_constants.true)) w.if-left.false (subst (λ (d : Draft). OnOk c.put_among.result (Puts (question_of c.args.context.now) d c.put_among.new.draft (AmongHas c.args.context.now.checked.now c.at-left.result c.as_slice-then-is_of_constants.result.now) Itself)) w.draft-is c.put_among.ensures)
    ]

pub list_forms::put_list-returns : goal.list_forms::put_list-returns
list_forms::put_list-returns t c =
    let left_is = node_operand c.args.context.now.checked.now c.args.context.now.ranges.now c.at-left.result (c.args.place + 1) c.at-left.ensures.kind c.at-left.ensures.range in
    ok_list (question_of c.args.context.now) c.args.context.now.ranges.now c.requires.translated.ranges c.requires.translated.right c.trees_have_one_type.ensures c.typed_trees_end_once_on_entities.ensures c.requires.translated.moment c.quoted_texts_have_one_number.ensures c.comparisons_are_decided.ensures.decided c.args.place c.requires.list c.at-left.result c.at-left.ensures.source left_is c.as_slice-2.result.now (subst (AreItemsOf c.args.context.now.checked.now c.args.context.now.ranges.now c.args.place) (sym c.as_slice-2.ensures.value) c.in_ok-items.ensures.items) c.requires.faultless c.put_over_left.result c.args.draft.now c.put_over_left.new.draft (IsInForm Form.Truth) c.put_over_left.ensures

pub list_forms::put_list-items_of-requires-clause-list : goal.list_forms::put_list-items_of-requires-clause-list
list_forms::put_list-items_of-requires-clause-list t c = c.requires.list

pub list_forms::put_list-put_among-requires : goal.list_forms::put_list-put_among-requires
list_forms::put_list-put_among-requires t c = (
  omega (arith, on_from c.args.context.now.checked.now (left_in c.args.context.now.checked.now (c.at-left.result ∷ c.as_slice-then-is_of_constants.result.now)) (left_from c.args.context.now.checked.now c.args.place) 13 2 (items_on c.args.context.now.checked.now c.args.place (kind_inside c.args.context.now.checked.now c.args.place NodeKind.InList c.requires.list) c.requires.translated.right c.args.context.now.ranges.now c.at-left.result c.as_slice-then-is_of_constants.result.now (at_on c.args.context.now.checked.now c.args.place (kind_inside c.args.context.now.checked.now c.args.place NodeKind.InList c.requires.list) c.at-left.result (c.args.place + 1) c.at-left.ensures.source (omega arith)) (subst (AreItemsOf c.args.context.now.checked.now c.args.context.now.ranges.now c.args.place) (sym c.as_slice-then-is_of_constants.ensures.value) c.in_ok-items.ensures.items)) (omega arith)),
  (c.requires.translated, (subst (AreConstants c.args.context.now.checked.now c.at-left.result) (c.as_slice.ensures.value ∙ sym c.as_slice-then-is_of_constants.ensures.value) (c.is_of_constants.ensures c.if-is_of_constants.true), (let left_is = node_operand c.args.context.now.checked.now c.args.context.now.ranges.now c.at-left.result (c.args.place + 1) c.at-left.ensures.kind c.at-left.ensures.range in of_list_answers_beside (question_of c.args.context.now) c.args.context.now.ranges.now c.requires.translated.ranges c.requires.translated.right c.trees_have_one_type.ensures c.typed_trees_end_once_on_entities.ensures c.requires.translated.moment c.quoted_texts_have_one_number.ensures c.comparisons_are_decided.ensures.decided c.args.place c.requires.list c.at-left.result c.at-left.ensures.source left_is c.as_slice-then-is_of_constants.result.now (subst (AreItemsOf c.args.context.now.checked.now c.args.context.now.ranges.now c.args.place) (sym c.as_slice-then-is_of_constants.ensures.value) c.in_ok-items.ensures.items) c.requires.faultless))),
)

pub list_forms::put_list-put_over_left-requires : goal.list_forms::put_list-put_over_left-requires
list_forms::put_list-put_over_left-requires t c = (
  omega (arith, on_from c.args.context.now.checked.now (left_in c.args.context.now.checked.now (c.at-left.result ∷ c.as_slice-2.result.now)) (left_from c.args.context.now.checked.now c.args.place) (19 + length c.as_slice-2.result.now) 2 (items_on c.args.context.now.checked.now c.args.place (kind_inside c.args.context.now.checked.now c.args.place NodeKind.InList c.requires.list) c.requires.translated.right c.args.context.now.ranges.now c.at-left.result c.as_slice-2.result.now (at_on c.args.context.now.checked.now c.args.place (kind_inside c.args.context.now.checked.now c.args.place NodeKind.InList c.requires.list) c.at-left.result (c.args.place + 1) c.at-left.ensures.source (omega arith)) (subst (AreItemsOf c.args.context.now.checked.now c.args.context.now.ranges.now c.args.place) (sym c.as_slice-2.ensures.value) c.in_ok-items.ensures.items)) (omega (arith, c.in_ok-items.ensures.few, ap length c.as_slice-2.ensures.value))),
  (c.requires.translated, ((let left_is = node_operand c.args.context.now.checked.now c.args.context.now.ranges.now c.at-left.result (c.args.place + 1) c.at-left.ensures.kind c.at-left.ensures.range in of_list_answers_beside (question_of c.args.context.now) c.args.context.now.ranges.now c.requires.translated.ranges c.requires.translated.right c.trees_have_one_type.ensures c.typed_trees_end_once_on_entities.ensures c.requires.translated.moment c.quoted_texts_have_one_number.ensures c.comparisons_are_decided.ensures.decided c.args.place c.requires.list c.at-left.result c.at-left.ensures.source left_is c.as_slice-2.result.now (subst (AreItemsOf c.args.context.now.checked.now c.args.context.now.ranges.now c.args.place) (sym c.as_slice-2.ensures.value) c.in_ok-items.ensures.items) c.requires.faultless), (subst (IsInside c.args.context.now.checked.now) (sym c.at-left.ensures.source) (list_child c.args.context.now.checked.now c.requires.translated.right c.args.place c.requires.list), (let left_is = node_operand c.args.context.now.checked.now c.args.context.now.ranges.now c.at-left.result (c.args.place + 1) c.at-left.ensures.kind c.at-left.ensures.range in of_list_answers_left_faultless (question_of c.args.context.now) c.args.context.now.ranges.now c.requires.translated.ranges c.requires.translated.right c.trees_have_one_type.ensures c.typed_trees_end_once_on_entities.ensures c.requires.translated.moment c.quoted_texts_have_one_number.ensures c.comparisons_are_decided.ensures.decided c.args.place c.requires.list c.at-left.result c.at-left.ensures.source left_is c.as_slice-2.result.now (subst (AreItemsOf c.args.context.now.checked.now c.args.context.now.ranges.now c.args.place) (sym c.as_slice-2.ensures.value) c.in_ok-items.ensures.items) c.requires.faultless)))),
)

-- ---- list_forms::put_list_code

pub list_forms::put_list_code-at-left-requires-clause-there : goal.list_forms::put_list_code-at-left-requires-clause-there
list_forms::put_list_code-at-left-requires-clause-there t c = list_child c.args.context.now.checked.now c.requires.translated.right c.args.place c.requires.list

pub list_forms::put_list_code-at-left-requires-clause-ranged : goal.list_forms::put_list_code-at-left-requires-clause-ranged
list_forms::put_list_code-at-left-requires-clause-ranged t c =
    has_range (question_of c.args.context.now) c.args.context.now.ranges.now c.requires.translated.ranges (c.args.place + 1) (list_child c.args.context.now.checked.now c.requires.translated.right c.args.place c.requires.list)

pub list_forms::put_list_code-lifted_left-requires-clause-value : goal.list_forms::put_list_code-lifted_left-requires-clause-value
list_forms::put_list_code-lifted_left-requires-clause-value t c = c.is_value.ensures.0 c.if-not-is_value.false

pub list_forms::put_list_code-put_faults-requires : goal.list_forms::put_list_code-put_faults-requires
list_forms::put_list_code-put_faults-requires t c = c.in_ok-lifted.ensures.few

pub list_forms::put_list_code-first-requires : goal.list_forms::put_list_code-first-requires
list_forms::put_list_code-first-requires t c =
    let one : length c.in_ok-lifted.lifted.inner.items ≡ 1 = inner_length (c.at-left.result ∷ []) c.args.draft.now.depth c.in_ok-lifted.lifted c.in_ok-lifted.ensures in
    omega (arith, one)

pub list_forms::put_list_code-returns-then-is_truth : goal.list_forms::put_list_code-returns-then-is_truth
list_forms::put_list_code-returns-then-is_truth t c = c.put_truth_list_code.ensures

pub list_forms::put_list_code-returns-then-not-is_value : goal.list_forms::put_list_code-returns-then-not-is_value
list_forms::put_list_code-returns-then-not-is_value t c =
    let left_is = node_operand c.args.context.now.checked.now c.args.context.now.ranges.now c.at-left.result (c.args.place + 1) c.at-left.ensures.kind c.at-left.ensures.range in
    ok_list_plain_code (question_of c.args.context.now) c.args.context.now.ranges.now c.requires.translated.ranges c.requires.translated.right c.trees_have_one_type.ensures c.typed_trees_end_once_on_entities.ensures c.requires.translated.moment c.quoted_texts_have_one_number.ensures c.comparisons_are_decided.ensures.decided c.args.place c.requires.list c.at-left.result c.at-left.ensures.source left_is c.as_slice-then-not-is_value.result.now (subst (AreItemsOf c.args.context.now.checked.now c.args.context.now.ranges.now c.args.place) (sym c.as_slice-then-not-is_value.ensures.value) c.in_ok-items.ensures.items) c.put_codes.result (not_so c.is_truth.result c.is_truth.ensures.1 c.if-is_truth.false) c.args.draft.now c.put_codes.new.draft (λ type is. not_so c.is_value.result c.is_value.ensures.1 c.if-not-is_value.true (type, is)) c.put_codes.ensures

pub list_forms::put_list_code-returns : goal.list_forms::put_list_code-returns
list_forms::put_list_code-returns t c =
    let left_is = node_operand c.args.context.now.checked.now c.args.context.now.ranges.now c.at-left.result (c.args.place + 1) c.at-left.ensures.kind c.at-left.ensures.range in
    ok_list_code (question_of c.args.context.now) c.args.context.now.ranges.now c.requires.translated.ranges c.requires.translated.right c.trees_have_one_type.ensures c.typed_trees_end_once_on_entities.ensures c.requires.translated.moment c.quoted_texts_have_one_number.ensures c.comparisons_are_decided.ensures.decided c.args.place c.requires.list c.at-left.result c.at-left.ensures.source left_is c.as_slice-2.result.now (subst (AreItemsOf c.args.context.now.checked.now c.args.context.now.ranges.now c.args.place) (sym c.as_slice-2.ensures.value) c.in_ok-items.ensures.items) c.close.result (not_so c.is_truth.result c.is_truth.ensures.1 c.if-is_truth.false) c.args.draft.now c.close.new.draft c.first.result c.in_ok-lifted.lifted c.in_ok-lifted.ensures c.first.ensures c.open.new.draft c.put_faults.new.draft c.put_codes-2.new.draft c.in_ok-open.ensures
    c.in_ok-put_faults.ensures c.in_ok-put_codes.ensures c.close.ensures.values c.close.ensures.idle

pub list_forms::put_list_code-items_of-requires-clause-list : goal.list_forms::put_list_code-items_of-requires-clause-list
list_forms::put_list_code-items_of-requires-clause-list t c = c.requires.list

pub list_forms::put_list_code-put_truth_list_code-requires : goal.list_forms::put_list_code-put_truth_list_code-requires
list_forms::put_list_code-put_truth_list_code-requires t c =
    (omega arith, (c.requires.translated, ((c.requires.list, subst (AreItemsOf c.args.context.now.checked.now c.args.context.now.ranges.now c.args.place) (sym c.as_slice.ensures.value) c.in_ok-items.ensures.items), (let left_is = node_operand c.args.context.now.checked.now c.args.context.now.ranges.now c.at-left.result (c.args.place + 1) c.at-left.ensures.kind c.at-left.ensures.range in of_list_answers_left_boolean (question_of c.args.context.now) c.args.context.now.ranges.now c.requires.translated.ranges c.requires.translated.right c.trees_have_one_type.ensures c.typed_trees_end_once_on_entities.ensures c.requires.translated.moment c.quoted_texts_have_one_number.ensures c.comparisons_are_decided.ensures.decided c.args.place c.requires.list c.at-left.result c.at-left.ensures.source left_is c.as_slice.result.now (subst (AreItemsOf c.args.context.now.checked.now c.args.context.now.ranges.now c.args.place) (sym c.as_slice.ensures.value) c.in_ok-items.ensures.items) (c.is_truth.ensures.0 c.if-is_truth.true)))))

pub list_forms::put_list_code-put_codes-requires : goal.list_forms::put_list_code-put_codes-requires
list_forms::put_list_code-put_codes-requires t c = (
  omega (arith, on_from c.args.context.now.checked.now (left_in c.args.context.now.checked.now (c.at-left.result ∷ c.as_slice-then-not-is_value.result.now)) (left_from c.args.context.now.checked.now c.args.place) (19 + length c.as_slice-then-not-is_value.result.now) 2 (items_on c.args.context.now.checked.now c.args.place (kind_inside c.args.context.now.checked.now c.args.place NodeKind.InList c.requires.list) c.requires.translated.right c.args.context.now.ranges.now c.at-left.result c.as_slice-then-not-is_value.result.now (at_on c.args.context.now.checked.now c.args.place (kind_inside c.args.context.now.checked.now c.args.place NodeKind.InList c.requires.list) c.at-left.result (c.args.place + 1) c.at-left.ensures.source (omega arith)) (subst (AreItemsOf c.args.context.now.checked.now c.args.context.now.ranges.now c.args.place) (sym c.as_slice-then-not-is_value.ensures.value) c.in_ok-items.ensures.items)) (omega (arith, c.in_ok-items.ensures.few, ap length c.as_slice-then-not-is_value.ensures.value))),
  (c.requires.translated, ((let left_is = node_operand c.args.context.now.checked.now c.args.context.now.ranges.now c.at-left.result (c.args.place + 1) c.at-left.ensures.kind c.at-left.ensures.range in left_faulty (question_of c.args.context.now) c.args.context.now.ranges.now c.requires.translated.ranges c.requires.translated.right c.trees_have_one_type.ensures c.typed_trees_end_once_on_entities.ensures c.requires.translated.moment c.quoted_texts_have_one_number.ensures c.comparisons_are_decided.ensures.decided c.args.place c.requires.list c.at-left.result c.at-left.ensures.source left_is c.as_slice-then-not-is_value.result.now (subst (AreItemsOf c.args.context.now.checked.now c.args.context.now.ranges.now c.args.place) (sym c.as_slice-then-not-is_value.ensures.value) c.in_ok-items.ensures.items)), ((let left_is = node_operand c.args.context.now.checked.now c.args.context.now.ranges.now c.at-left.result (c.args.place + 1) c.at-left.ensures.kind c.at-left.ensures.range in items_faulty (question_of c.args.context.now) c.args.context.now.ranges.now c.requires.translated.ranges c.requires.translated.right c.trees_have_one_type.ensures c.typed_trees_end_once_on_entities.ensures c.requires.translated.moment c.quoted_texts_have_one_number.ensures c.comparisons_are_decided.ensures.decided c.args.place c.requires.list c.at-left.result c.at-left.ensures.source left_is c.as_slice-then-not-is_value.result.now (subst (AreItemsOf c.args.context.now.checked.now c.args.context.now.ranges.now c.args.place) (sym c.as_slice-then-not-is_value.ensures.value) c.in_ok-items.ensures.items)), (let left_is = node_operand c.args.context.now.checked.now c.args.context.now.ranges.now c.at-left.result (c.args.place + 1) c.at-left.ensures.kind c.at-left.ensures.range in items_compared (question_of c.args.context.now) c.args.context.now.ranges.now c.requires.translated.ranges c.requires.translated.right c.trees_have_one_type.ensures c.typed_trees_end_once_on_entities.ensures c.requires.translated.moment c.quoted_texts_have_one_number.ensures c.comparisons_are_decided.ensures.decided c.args.place c.requires.list c.at-left.result c.at-left.ensures.source left_is c.as_slice-then-not-is_value.result.now (subst (AreItemsOf c.args.context.now.checked.now c.args.context.now.ranges.now c.args.place) (sym c.as_slice-then-not-is_value.ensures.value) c.in_ok-items.ensures.items))))),
)

pub list_forms::put_list_code-put_codes-requires-2 : goal.list_forms::put_list_code-put_codes-requires-2
list_forms::put_list_code-put_codes-requires-2 t c = (
  omega (arith, on_from c.args.context.now.checked.now (left_in c.args.context.now.checked.now (c.first.result ∷ c.as_slice-2.result.now)) (left_from c.args.context.now.checked.now c.args.place) (19 + length c.as_slice-2.result.now) 2 (omega (arith, swap_left c.args.context.now.checked.now c.first.result c.at-left.result c.as_slice-2.result.now (lifted_left_left c.args.context.now.checked.now c.at-left.result c.args.draft.now.depth c.in_ok-lifted.lifted c.in_ok-lifted.ensures c.first.result c.first.ensures), (items_on c.args.context.now.checked.now c.args.place (kind_inside c.args.context.now.checked.now c.args.place NodeKind.InList c.requires.list) c.requires.translated.right c.args.context.now.ranges.now c.at-left.result c.as_slice-2.result.now (at_on c.args.context.now.checked.now c.args.place (kind_inside c.args.context.now.checked.now c.args.place NodeKind.InList c.requires.list) c.at-left.result (c.args.place + 1) c.at-left.ensures.source (omega arith)) (subst (AreItemsOf c.args.context.now.checked.now c.args.context.now.ranges.now c.args.place) (sym c.as_slice-2.ensures.value) c.in_ok-items.ensures.items)))) (omega (arith, c.in_ok-items.ensures.few, ap length c.as_slice-2.ensures.value))),
  (c.requires.translated, ((let left_is = node_operand c.args.context.now.checked.now c.args.context.now.ranges.now c.at-left.result (c.args.place + 1) c.at-left.ensures.kind c.at-left.ensures.range in let value = c.is_value.ensures.0 c.if-not-is_value.false in faulty_first c.args.context.now.checked.now c.args.context.now.ranges.now c.at-left.result c.first.result value.0 value.1 c.in_ok-lifted.lifted c.args.draft.now.depth c.in_ok-lifted.ensures c.first.ensures (not_so c.is_truth.result c.is_truth.ensures.1 c.if-is_truth.false) (kind_first c.args.context.now.checked.now c.args.context.now.ranges.now c.at-left.result c.first.result value.0 value.1 c.in_ok-lifted.lifted c.args.draft.now.depth c.in_ok-lifted.ensures c.first.ensures) (left_faulty (question_of c.args.context.now) c.args.context.now.ranges.now c.requires.translated.ranges c.requires.translated.right c.trees_have_one_type.ensures c.typed_trees_end_once_on_entities.ensures c.requires.translated.moment c.quoted_texts_have_one_number.ensures c.comparisons_are_decided.ensures.decided c.args.place c.requires.list c.at-left.result c.at-left.ensures.source left_is c.as_slice-2.result.now (subst (AreItemsOf c.args.context.now.checked.now c.args.context.now.ranges.now c.args.place) (sym c.as_slice-2.ensures.value) c.in_ok-items.ensures.items))), ((let left_is = node_operand c.args.context.now.checked.now c.args.context.now.ranges.now c.at-left.result (c.args.place + 1) c.at-left.ensures.kind c.at-left.ensures.range in let value = c.is_value.ensures.0 c.if-not-is_value.false in items_faulty (question_of c.args.context.now) c.args.context.now.ranges.now c.requires.translated.ranges c.requires.translated.right c.trees_have_one_type.ensures c.typed_trees_end_once_on_entities.ensures c.requires.translated.moment c.quoted_texts_have_one_number.ensures c.comparisons_are_decided.ensures.decided c.args.place c.requires.list c.at-left.result c.at-left.ensures.source left_is c.as_slice-2.result.now (subst (AreItemsOf c.args.context.now.checked.now c.args.context.now.ranges.now c.args.place) (sym c.as_slice-2.ensures.value) c.in_ok-items.ensures.items)), (let left_is = node_operand c.args.context.now.checked.now c.args.context.now.ranges.now c.at-left.result (c.args.place + 1) c.at-left.ensures.kind c.at-left.ensures.range in let value = c.is_value.ensures.0 c.if-not-is_value.false in subst (λ (k : Kind). AllByRecursion (λ (item : Operand). AreCompared k item.kind) c.as_slice-2.result.now) (sym (kind_first c.args.context.now.checked.now c.args.context.now.ranges.now c.at-left.result c.first.result value.0 value.1 c.in_ok-lifted.lifted c.args.draft.now.depth c.in_ok-lifted.ensures c.first.ensures)) (items_compared (question_of c.args.context.now) c.args.context.now.ranges.now c.requires.translated.ranges c.requires.translated.right c.trees_have_one_type.ensures c.typed_trees_end_once_on_entities.ensures c.requires.translated.moment c.quoted_texts_have_one_number.ensures c.comparisons_are_decided.ensures.decided c.args.place c.requires.list c.at-left.result c.at-left.ensures.source left_is c.as_slice-2.result.now (subst (AreItemsOf c.args.context.now.checked.now c.args.context.now.ranges.now c.args.place) (sym c.as_slice-2.ensures.value) c.in_ok-items.ensures.items)))))),
)

pub list_forms::put_list_code-close-requires : goal.list_forms::put_list_code-close-requires
list_forms::put_list_code-close-requires t c = (
  omega (arith, on_from c.args.context.now.checked.now (left_in c.args.context.now.checked.now c.in_ok-lifted.lifted.bound.items) (left_from c.args.context.now.checked.now c.args.place) 11 2 (omega (arith, bound_left_left c.args.context.now.checked.now c.at-left.result c.args.draft.now.depth c.in_ok-lifted.lifted c.in_ok-lifted.ensures, (at_on c.args.context.now.checked.now c.args.place (kind_inside c.args.context.now.checked.now c.args.place NodeKind.InList c.requires.list) c.at-left.result (c.args.place + 1) c.at-left.ensures.source (omega arith)))) (omega arith)),
  (c.requires.translated, ((let left_is = node_operand c.args.context.now.checked.now c.args.context.now.ranges.now c.at-left.result (c.args.place + 1) c.at-left.ensures.kind c.at-left.ensures.range in bound_may_be_put c.args.context.now.checked.now c.args.context.now.ranges.now (c.at-left.result ∷ []) c.args.draft.now.depth c.in_ok-lifted.lifted c.in_ok-lifted.ensures (untrue_tested c.args.context.now.checked.now c.args.context.now.ranges.now c.at-left.result (not_so c.is_truth.result c.is_truth.ensures.1 c.if-is_truth.false) (left_faulty (question_of c.args.context.now) c.args.context.now.ranges.now c.requires.translated.ranges c.requires.translated.right c.trees_have_one_type.ensures c.typed_trees_end_once_on_entities.ensures c.requires.translated.moment c.quoted_texts_have_one_number.ensures c.comparisons_are_decided.ensures.decided c.args.place c.requires.list c.at-left.result c.at-left.ensures.source left_is c.as_slice-2.result.now (subst (AreItemsOf c.args.context.now.checked.now c.args.context.now.ranges.now c.args.place) (sym c.as_slice-2.ensures.value) c.in_ok-items.ensures.items)), tt)), omega (arith, c.in_ok-open.ensures.depth, c.in_ok-put_faults.ensures.depth, c.in_ok-put_codes.ensures.grows.depth))),
)

-- ---- list_forms::put_over_left

pub list_forms::put_over_left-lifted_left-requires-clause-value : goal.list_forms::put_over_left-lifted_left-requires-clause-value
list_forms::put_over_left-lifted_left-requires-clause-value t c = c.is_value.ensures.0 c.if-not-is_value.false

pub list_forms::put_over_left-first-requires : goal.list_forms::put_over_left-first-requires
list_forms::put_over_left-first-requires t c =
    let one : length c.in_ok-lifted.lifted.inner.items ≡ 1 = inner_length (c.args.left.now ∷ []) c.args.draft.now.depth c.in_ok-lifted.lifted c.in_ok-lifted.ensures in
    omega (arith, one)

pub list_forms::put_over_left-returns : goal.list_forms::put_over_left-returns
list_forms::put_over_left-returns t c =
    ok_over_left (question_of c.args.context.now) c.args.left.now c.first.result c.args.items.now c.in_ok-lifted.lifted c.args.draft.now c.in_ok-lifted.ensures c.first.ensures (IsInForm (kept_form c.args.kept)) c.open.new.draft c.put_equal_to_one-2.new.draft c.close.new.draft c.in_ok-open.ensures c.close.result
    c.in_ok-put_equal_to_one.ensures c.close.ensures.values c.close.ensures.idle

pub list_forms::put_over_left-put_equal_to_one-requires : goal.list_forms::put_over_left-put_equal_to_one-requires
list_forms::put_over_left-put_equal_to_one-requires t c = (omega arith, (c.requires.translated, c.requires.beside))

pub list_forms::put_over_left-put_equal_to_one-requires-2 : goal.list_forms::put_over_left-put_equal_to_one-requires-2
list_forms::put_over_left-put_equal_to_one-requires-2 t c = (
  omega (arith, down_to c.args.context.now.checked.now (left_in c.args.context.now.checked.now (c.first.result ∷ c.args.items.now)) (left_in c.args.context.now.checked.now (c.args.left.now ∷ c.args.items.now)) (18 + length c.args.items.now) (19 + length c.args.items.now) (swap_left c.args.context.now.checked.now c.first.result c.args.left.now c.args.items.now (lifted_left_left c.args.context.now.checked.now c.args.left.now c.args.draft.now.depth c.in_ok-lifted.lifted c.in_ok-lifted.ensures c.first.result c.first.ensures)) (omega arith)),
  (c.requires.translated, (let value = c.is_value.ensures.0 c.if-not-is_value.false in beside_first c.args.context.now.checked.now c.args.context.now.ranges.now c.args.left.now c.first.result value.0 value.1 c.args.items.now c.in_ok-lifted.lifted c.args.draft.now.depth c.in_ok-lifted.ensures c.first.ensures c.requires.beside)),
)

pub list_forms::put_over_left-close-requires : goal.list_forms::put_over_left-close-requires
list_forms::put_over_left-close-requires t c = (
  omega (arith, down_to c.args.context.now.checked.now (left_in c.args.context.now.checked.now c.in_ok-lifted.lifted.bound.items) (left_in c.args.context.now.checked.now (c.args.left.now ∷ c.args.items.now)) 11 (19 + length c.args.items.now) (bound_beside_left c.args.context.now.checked.now c.args.left.now c.args.draft.now.depth c.in_ok-lifted.lifted c.in_ok-lifted.ensures c.args.items.now) (omega arith)),
  (c.requires.translated, (bound_may_be_put c.args.context.now.checked.now c.args.context.now.ranges.now (c.args.left.now ∷ []) c.args.draft.now.depth c.in_ok-lifted.lifted c.in_ok-lifted.ensures (c.requires.beside.left_tested, tt), omega (arith, c.in_ok-open.ensures.depth, c.in_ok-put_equal_to_one.ensures.grows.depth))),
)

-- ---- list_forms::put_truth_list_code

pub list_forms::put_truth_list_code-range-requires : goal.list_forms::put_truth_list_code-range-requires
list_forms::put_truth_list_code-range-requires t c =
    has_range (question_of c.args.context.now) c.args.context.now.ranges.now c.requires.translated.ranges (c.args.place + 1) (list_child c.args.context.now.checked.now c.requires.translated.right c.args.place c.requires.list.0)

pub list_forms::put_truth_list_code-overflow_sub-draft : goal.list_forms::put_truth_list_code-overflow_sub-draft
list_forms::put_truth_list_code-overflow_sub-draft t c =
    let deep : c.deepen.new.self.depth ≡ c.put-2.new.self.depth + 1 = c.in_ok-deepen.ensures.ok.depth in
    let kept : c.put_equal_codes.new.draft.depth ≡ c.deepen.new.self.depth = c.in_ok-put_equal_codes.ensures.grows.depth in
    omega (arith, deep, kept)

pub list_forms::put_truth_list_code-returns-then-is_empty : goal.list_forms::put_truth_list_code-returns-then-is_empty
list_forms::put_truth_list_code-returns-then-is_empty t c =
    let ranged = at_place c.args.context.now.ranges.now (c.args.place + 1) (has_range (question_of c.args.context.now) c.args.context.now.ranges.now c.requires.translated.ranges (c.args.place + 1) (list_child c.args.context.now.checked.now c.requires.translated.right c.args.place c.requires.list.0)) in
    let left = truth_operand (c.args.place + 1) ranged.0 in
    let left_is = is_truth_operand c.args.context.now.checked.now c.args.context.now.ranges.now (c.args.place + 1) ranged.0 c.requires.truth ranged.1 in
    ok_never (question_of c.args.context.now) c.args.place left refl refl c.put_code.result c.args.draft.now c.put_code.new.draft c.args.items.now (of_list_answers_comes_so (question_of c.args.context.now) c.args.context.now.ranges.now c.requires.translated.ranges c.requires.translated.right c.trees_have_one_type.ensures c.typed_trees_end_once_on_entities.ensures c.requires.translated.moment c.quoted_texts_have_one_number.ensures c.comparisons_are_decided.ensures.decided c.args.place c.requires.list.0 left refl left_is c.args.items.now c.requires.list.1) (empty_length c.args.items.now c.is_empty.result c.is_empty.ensures c.if-is_empty.true) c.put.new.self c.in_ok-put.ensures.ok c.put_code.ensures

pub list_forms::put_truth_list_code-returns : goal.list_forms::put_truth_list_code-returns
list_forms::put_truth_list_code-returns t c =
    let left = truth_operand (c.args.place + 1) c.range.result in
    let left_is = is_truth_operand c.args.context.now.checked.now c.args.context.now.ranges.now (c.args.place + 1) c.range.result c.requires.truth c.range.ensures in
    let deep : c.deepen.new.self.depth ≡ c.put-2.new.self.depth + 1 = c.in_ok-deepen.ensures.ok.depth in
    let kept : c.put_equal_codes.new.draft.depth ≡ c.deepen.new.self.depth = c.in_ok-put_equal_codes.ensures.grows.depth in
    ok_truth_list (question_of c.args.context.now) c.args.place left refl refl c.put_code-2.result c.args.draft.now c.put_code-2.new.draft c.args.items.now (of_list_answers_comes_so (question_of c.args.context.now) c.args.context.now.ranges.now c.requires.translated.ranges c.requires.translated.right c.trees_have_one_type.ensures c.typed_trees_end_once_on_entities.ensures c.requires.translated.moment c.quoted_texts_have_one_number.ensures c.comparisons_are_decided.ensures.decided c.args.place c.requires.list.0 left refl left_is c.args.items.now c.requires.list.1) (some_length c.args.items.now c.is_empty.result c.is_empty.ensures c.if-is_empty.false) (record { source = Source.Bound c.args.draft.now.depth; kind = Kind.Value SqlType.Truth; range = c.range.result }) refl refl refl c.put-2.new.self c.deepen.new.self c.put_equal_codes.new.draft (record c.put_equal_codes.new.draft { depth = c.put_equal_codes.new.draft.depth - 1 }) c.in_ok-put-2.ensures.ok c.in_ok-deepen.ensures.ok c.in_ok-put_equal_codes.ensures refl refl (omega (arith, deep, kept)) c.put_code-2.ensures

pub list_forms::put_truth_list_code-overflow_add-place-2 : goal.list_forms::put_truth_list_code-overflow_add-place-2
list_forms::put_truth_list_code-overflow_add-place-2 t c =
    let there = list_child c.args.context.now.checked.now c.requires.translated.right c.args.place c.requires.list.0 in
    search (rules, arith)

pub list_forms::put_truth_list_code-overflow_add-place-3 : goal.list_forms::put_truth_list_code-overflow_add-place-3
list_forms::put_truth_list_code-overflow_add-place-3 t c =
    let there = list_child c.args.context.now.checked.now c.requires.translated.right c.args.place c.requires.list.0 in
    search (rules, arith)

pub list_forms::put_truth_list_code-put_code-requires : goal.list_forms::put_truth_list_code-put_code-requires
list_forms::put_truth_list_code-put_code-requires t c = (
  omega (arith, on_from c.args.context.now.checked.now (left_from c.args.context.now.checked.now (c.args.place + 1)) (left_from c.args.context.now.checked.now c.args.place) 6 1 (next_on c.args.context.now.checked.now c.args.place (kind_inside c.args.context.now.checked.now c.args.place NodeKind.InList c.requires.list.0)) (omega arith)),
  (c.requires.translated, boolean_truth (question_of c.args.context.now) (c.args.place + 1) c.requires.truth),
)

pub list_forms::put_truth_list_code-put_equal_codes-requires : goal.list_forms::put_truth_list_code-put_equal_codes-requires
list_forms::put_truth_list_code-put_equal_codes-requires t c = (
  omega (arith, on_from c.args.context.now.checked.now (left_in c.args.context.now.checked.now ((record { source = Source.Bound c.args.draft.now.depth; kind = Kind.Value SqlType.Truth; range = c.range.result }) ∷ c.args.items.now)) (left_from c.args.context.now.checked.now c.args.place) (18 + length c.args.items.now) 1 (items_on c.args.context.now.checked.now c.args.place (kind_inside c.args.context.now.checked.now c.args.place NodeKind.InList c.requires.list.0) c.requires.translated.right c.args.context.now.ranges.now (record { source = Source.Bound c.args.draft.now.depth; kind = Kind.Value SqlType.Truth; range = c.range.result }) c.args.items.now (nothing_on c.args.context.now.checked.now c.args.place (kind_inside c.args.context.now.checked.now c.args.place NodeKind.InList c.requires.list.0)) c.requires.list.1) (omega (arith, items_few c.args.context.now.checked.now c.requires.translated.right c.args.context.now.ranges.now c.args.place c.args.items.now c.requires.list.1))),
  (c.requires.translated, (tt, ((let left = truth_operand (c.args.place + 1) c.range.result in let left_is = is_truth_operand c.args.context.now.checked.now c.args.context.now.ranges.now (c.args.place + 1) c.range.result c.requires.truth c.range.ensures in items_faulty (question_of c.args.context.now) c.args.context.now.ranges.now c.requires.translated.ranges c.requires.translated.right c.trees_have_one_type.ensures c.typed_trees_end_once_on_entities.ensures c.requires.translated.moment c.quoted_texts_have_one_number.ensures c.comparisons_are_decided.ensures.decided c.args.place c.requires.list.0 left refl left_is c.args.items.now c.requires.list.1), ((let left = truth_operand (c.args.place + 1) c.range.result in let left_is = is_truth_operand c.args.context.now.checked.now c.args.context.now.ranges.now (c.args.place + 1) c.range.result c.requires.truth c.range.ensures in items_compared (question_of c.args.context.now) c.args.context.now.ranges.now c.requires.translated.ranges c.requires.translated.right c.trees_have_one_type.ensures c.typed_trees_end_once_on_entities.ensures c.requires.translated.moment c.quoted_texts_have_one_number.ensures c.comparisons_are_decided.ensures.decided c.args.place c.requires.list.0 left refl left_is c.args.items.now c.requires.list.1), some_length c.args.items.now c.is_empty.result c.is_empty.ensures c.if-is_empty.false)))),
)

pub list_forms::put_truth_list_code-put_code-requires-2 : goal.list_forms::put_truth_list_code-put_code-requires-2
list_forms::put_truth_list_code-put_code-requires-2 t c = (
  omega (arith, on_from c.args.context.now.checked.now (left_from c.args.context.now.checked.now (c.args.place + 1)) (left_from c.args.context.now.checked.now c.args.place) 6 1 (next_on c.args.context.now.checked.now c.args.place (kind_inside c.args.context.now.checked.now c.args.place NodeKind.InList c.requires.list.0)) (omega arith)),
  (c.requires.translated, boolean_truth (question_of c.args.context.now) (c.args.place + 1) c.requires.truth),
)

-- ---- operand_forms::put_compared

pub operand_forms::put_compared-returns-then-eq : goal.operand_forms::put_compared-returns-then-eq
operand_forms::put_compared-returns-then-eq t c = c.put_instant.ensures

pub operand_forms::put_compared-returns-else-eq : goal.operand_forms::put_compared-returns-else-eq
operand_forms::put_compared-returns-else-eq t c =
    ok_compared (question_of c.args.context.now) c.args.operand.now c.args.draft.now c.put_operand.new.draft c.put_operand.result c.wanted-value_type.result (c.requires.value.1 ∙ ap (λ (t : SqlType). Kind.Value t) (sym (c.wanted-value_type.ensures c.requires.value.0 c.requires.value.1)))
    (λ moment.
    let reported : c.eq.result ≡ true = c.eq.ensures ∙ true_same of_sql_type_the_type c.wanted-value_type.result SqlType.Moment moment in
    let clash : false ≡ true = sym c.if-eq.false ∙ reported in
    absurd (cc))
    c.put_operand.ensures

pub operand_forms::put_compared-put_instant-requires : goal.operand_forms::put_compared-put_instant-requires
operand_forms::put_compared-put_instant-requires t c =
    (omega arith, (c.requires.translated, (c.requires.put, (let moment = same_true of_sql_type_the_type tt c.wanted-value_type.result SqlType.Moment (sym c.eq.ensures ∙ c.if-eq.true) in (c.requires.value.1 ∙ ap (λ (t : SqlType). Kind.Value t) (sym (c.wanted-value_type.ensures c.requires.value.0 c.requires.value.1))) ∙ ap (λ (t : SqlType). Kind.Value t) moment))))

pub operand_forms::put_compared-put_operand-requires : goal.operand_forms::put_compared-put_operand-requires
operand_forms::put_compared-put_operand-requires t c = (omega arith, (c.requires.translated, c.requires.put))

-- ---- operand_forms::put_instant

pub operand_forms::put_instant-returns-in-Now : goal.operand_forms::put_instant-returns-in-Now
operand_forms::put_instant-returns-in-Now t c =
    ok_now (question_of c.args.context.now) c.args.operand.now c.in-Node.place c.args.draft.now c.put_parameter.new.self c.put_parameter.result c.of_moment.result c.in-Node.is
    (there_found (λ (n : CheckedNode). n.kind ≡ NodeKind.Now) (slice_get c.args.context.now.checked.now.list.nodes c.in-Node.place) c.node.result c.node.ensures c.in-Now.is) c.of_moment.ensures c.put_parameter.ensures.ok

pub operand_forms::put_instant-offset_bounds-values-value : goal.operand_forms::put_instant-offset_bounds-values-value
operand_forms::put_instant-offset_bounds-values-value t c =
    let here =
    there_found (λ (n : CheckedNode). n.kind ≡ NodeKind.Literal c.in-Literal.kind c.in-Literal.value) (slice_get c.args.context.now.checked.now.list.nodes c.in-Node.place) c.node.result c.node.ensures
    c.in-Literal.is in
    let within : c.in-Literal.value < length c.values.result.now =
    subst (λ (vs : List Value). c.in-Literal.value < length vs) (sym c.values.ensures)
    (literal_within c.args.context.now.checked.now c.in-Node.place c.in-Literal.kind c.in-Literal.value here c.requires.translated.right) in
    search (rules, arith)

pub operand_forms::put_instant-bounds-values-value : goal.operand_forms::put_instant-bounds-values-value
operand_forms::put_instant-bounds-values-value t c =
    let here =
    there_found (λ (n : CheckedNode). n.kind ≡ NodeKind.Literal c.in-Literal.kind c.in-Literal.value) (slice_get c.args.context.now.checked.now.list.nodes c.in-Node.place) c.node.result c.node.ensures
    c.in-Literal.is in
    let within : c.in-Literal.value < length c.values.result.now =
    subst (λ (vs : List Value). c.in-Literal.value < length vs) (sym c.values.ensures)
    (literal_within c.args.context.now.checked.now c.in-Node.place c.in-Literal.kind c.in-Literal.value here c.requires.translated.right) in
    within

pub operand_forms::put_instant-returns-in-Moment : goal.operand_forms::put_instant-returns-in-Moment
operand_forms::put_instant-returns-in-Moment t c =
    let here =
    there_found (λ (n : CheckedNode). n.kind ≡ NodeKind.Literal c.in-Literal.kind c.in-Literal.value) (slice_get c.args.context.now.checked.now.list.nodes c.in-Node.place) c.node.result c.node.ensures
    c.in-Literal.is in
    let within : c.in-Literal.value < length c.args.context.now.checked.now.list.values =
    literal_within c.args.context.now.checked.now c.in-Node.place c.in-Literal.kind c.in-Literal.value here c.requires.translated.right in
    ok_literal_instant (question_of c.args.context.now) c.args.operand.now c.in-Node.place c.args.draft.now c.put_parameter-in-Moment.new.self c.put_parameter-in-Moment.result c.of_moment-in-Moment.result c.in-Node.is
    c.literals_have_one_value.ensures c.in-Literal.kind c.in-Literal.value here c.in-Moment.moment
    (literal_at c.args.context.now.checked.now.list.values c.values.result.now c.in-Literal.value c.index-values-value.result (Value.Moment c.in-Moment.moment) c.values.ensures within c.index-values-value.is c.in-Moment.is)
    c.of_moment-in-Moment.ensures c.put_parameter-in-Moment.ensures.ok

pub operand_forms::put_instant-returns : goal.operand_forms::put_instant-returns
operand_forms::put_instant-returns t c =
    ok_of_moment (question_of c.args.context.now) c.args.operand.now c.args.draft.now c.put.new.self c.put_operand.new.draft c.put_operand.result c.requires.moment c.in_ok-put.ensures.ok c.put_operand.ensures

pub operand_forms::put_instant-node-requires : goal.operand_forms::put_instant-node-requires
operand_forms::put_instant-node-requires t c = node_there c.args.context.now.checked.now c.args.context.now.ranges.now c.args.operand.now c.in-Node.place c.in-Node.is c.requires.put

pub operand_forms::put_instant-put_operand-requires : goal.operand_forms::put_instant-put_operand-requires
operand_forms::put_instant-put_operand-requires t c = (omega arith, (c.requires.translated, c.requires.put))

-- ---- operand_forms::put_is_null

pub operand_forms::put_is_null-returns-then-not-operand : goal.operand_forms::put_is_null-returns-then-not-operand
operand_forms::put_is_null-returns-then-not-operand t c =
    of_operand_answers_ok_never (question_of c.args.context.now) c.args.operand.now c.args.draft.now c.put.new.self c.put.result c.if-not-operand.true c.put.ensures.ok

pub operand_forms::put_is_null-returns-in-Place : goal.operand_forms::put_is_null-returns-in-Place
operand_forms::put_is_null-returns-in-Place t c =
    ok_missing (question_of c.args.context.now) c.args.operand.now c.args.draft.now c.put-in-Place.new.self c.put-in-Place.result c.in-Place.path c.in-Place.is c.put-in-Place.ensures.ok

pub operand_forms::put_is_null-put_path-requires : goal.operand_forms::put_is_null-put_path-requires
operand_forms::put_is_null-put_path-requires t c =
    let tested = node_tested c.args.context.now.checked.now c.args.context.now.ranges.now c.args.operand.now c.in-Node.place c.in-Structured.is c.in-Node.is c.requires.tested in
    record {
      translated = c.requires.translated;
      path = nullable_path (question_of c.args.context.now) c.args.context.now.ranges.now c.requires.translated.ranges c.requires.translated.right c.in-Node.place tested.node c.args.operand.now.range
          tested.at tested.range (sym tested.kind ∙ c.in-Structured.is) c.if-not-operand.false;
    }

pub operand_forms::put_is_null-returns-in-Null : goal.operand_forms::put_is_null-returns-in-Null
operand_forms::put_is_null-returns-in-Null t c =
    ok_always (question_of c.args.context.now) c.args.operand.now c.args.draft.now c.put-in-Null.new.self c.put-in-Null.result c.in-Null.is c.put-in-Null.ensures.ok

pub operand_forms::put_is_null-returns-in_ok-put-in-Value : goal.operand_forms::put_is_null-returns-in_ok-put-in-Value
operand_forms::put_is_null-returns-in_ok-put-in-Value t c =
    ok_null (question_of c.args.context.now) c.args.operand.now c.args.draft.now c.put_operand.new.draft c.put_operand.result c.put-in-Value.new.self c.in_ok-put-in-Value.ensures.ok c.put_operand.ensures

pub operand_forms::put_is_null-returns-in_ok-path-in-Node : goal.operand_forms::put_is_null-returns-in_ok-path-in-Node
operand_forms::put_is_null-returns-in_ok-path-in-Node t c =
    ok_path (question_of c.args.context.now) c.args.operand.now c.args.draft.now c.put-in-Node.new.self c.put-in-Node.result c.put_path.new.draft c.in-Node.place c.in_ok-path-in-Node.path c.in-Node.is
    c.in_ok-path-in-Node.ensures c.put-in-Node.ensures.ok

pub operand_forms::put_is_null-returns-in_default-source : goal.operand_forms::put_is_null-returns-in_default-source
operand_forms::put_is_null-returns-in_default-source t c =
    absurd (not_testable c.args.context.now.checked.now c.args.context.now.ranges.now c.args.operand.now c.in-Structured.is c.requires.tested (λ path is. c.in_default.not-Place path is) (λ place is. c.in_default-source.not-Node place is))

pub operand_forms::put_is_null-put_operand-requires : goal.operand_forms::put_is_null-put_operand-requires
operand_forms::put_is_null-put_operand-requires t c =
    (omega arith, (c.requires.translated, tested_put c.args.context.now.checked.now c.args.context.now.ranges.now c.args.operand.now c.in-Value.value_type c.in-Value.is c.requires.tested))

-- ---- operand_forms::put_operand

pub operand_forms::put_operand-returns-in-Node : goal.operand_forms::put_operand-returns-in-Node
operand_forms::put_operand-returns-in-Node t c =
    ok_node (question_of c.args.context.now) c.args.operand.now c.args.draft.now c.put_value.new.draft c.put_value.result c.in-Node.place c.in-Node.is c.put_value.ensures

pub operand_forms::put_operand-returns-in-Bound : goal.operand_forms::put_operand-returns-in-Bound
operand_forms::put_operand-returns-in-Bound t c = ok_bound (question_of c.args.context.now) c.args.operand.now c.args.draft.now c.put.new.self c.put.result c.in-Bound.level c.in-Bound.is c.put.ensures.ok

pub operand_forms::put_operand-returns-in_ok-put-in-Unfaulted : goal.operand_forms::put_operand-returns-in_ok-put-in-Unfaulted
operand_forms::put_operand-returns-in_ok-put-in-Unfaulted t c =
    ok_unfaulted (question_of c.args.context.now) c.args.operand.now c.args.draft.now c.put-in-Unfaulted-2.new.self c.put-in-Unfaulted-2.result c.put-in-Unfaulted.new.self c.in-Unfaulted.level
    c.in-Unfaulted.carrier c.in-Unfaulted.is c.in_ok-put-in-Unfaulted.ensures.ok c.put-in-Unfaulted-2.ensures.ok

pub operand_forms::put_operand-returns-in-Field : goal.operand_forms::put_operand-returns-in-Field
operand_forms::put_operand-returns-in-Field t c =
    ok_field (question_of c.args.context.now) c.args.operand.now c.args.draft.now c.put-in-Field.new.self c.put-in-Field.result c.in-Field.path c.in-Field.value_type c.in-Field.is c.put-in-Field.ensures.ok

pub operand_forms::put_operand-returns-in-Number : goal.operand_forms::put_operand-returns-in-Number
operand_forms::put_operand-returns-in-Number t c =
    ok_number (question_of c.args.context.now) c.args.operand.now c.args.draft.now c.put_enumeration_number.new.draft c.put_enumeration_number.result c.in-Number.value c.in-Number.is c.put_enumeration_number.ensures

pub operand_forms::put_operand-returns-in-Zero : goal.operand_forms::put_operand-returns-in-Zero
operand_forms::put_operand-returns-in-Zero t c = ok_zero (question_of c.args.context.now) c.args.operand.now c.args.draft.now c.put_number.new.self c.put_number.result c.in-Zero.is c.put_number.ensures.ok

pub operand_forms::put_operand-put_enumeration_number-requires : goal.operand_forms::put_operand-put_enumeration_number-requires
operand_forms::put_operand-put_enumeration_number-requires t c = subst (IsSourceOf c.args.context.now.checked.now c.args.context.now.ranges.now c.args.operand.now) c.in-Number.is c.requires.put.source

pub operand_forms::put_operand-returns-in-Place : goal.operand_forms::put_operand-returns-in-Place
operand_forms::put_operand-returns-in-Place t c =
    absurd (no_place c.args.context.now.checked.now c.args.context.now.ranges.now c.args.operand.now c.in-Place.path c.in-Place.is c.requires.put)

pub operand_forms::put_operand-put_value-requires : goal.operand_forms::put_operand-put_value-requires
operand_forms::put_operand-put_value-requires t c = (
  omega (arith, down_to c.args.context.now.checked.now (left_from c.args.context.now.checked.now c.in-Node.place) (left_of c.args.context.now.checked.now c.args.operand.now) 5 10 (node_left c.args.context.now.checked.now c.args.operand.now.source c.in-Node.place c.in-Node.is) (omega arith)),
  (c.requires.translated, (node_there c.args.context.now.checked.now c.args.context.now.ranges.now c.args.operand.now c.in-Node.place c.in-Node.is c.requires.put, (node_valued c.args.context.now.checked.now c.args.context.now.ranges.now c.args.operand.now c.in-Node.place c.in-Node.is c.requires.put, node_plain c.args.context.now.checked.now c.args.context.now.ranges.now c.args.operand.now c.in-Node.place c.in-Node.is c.requires.put))),
)

-- ---- terms::put_form

pub terms::put_form-returns-in-Truth : goal.terms::put_form-returns-in-Truth
terms::put_form-returns-in-Truth t c =
    ok_form (question_of c.args.context.now) c.args.form c.put_truth.result Form.Truth c.args.place c.args.draft.now c.put_truth.new.draft c.in-Truth.is c.put_truth.ensures

pub terms::put_form-returns-in-Code : goal.terms::put_form-returns-in-Code
terms::put_form-returns-in-Code t c = ok_form (question_of c.args.context.now) c.args.form c.put_code.result Form.Code c.args.place c.args.draft.now c.put_code.new.draft c.in-Code.is c.put_code.ensures

pub terms::put_form-returns-in-Keeps : goal.terms::put_form-returns-in-Keeps
terms::put_form-returns-in-Keeps t c =
    ok_form (question_of c.args.context.now) c.args.form c.put_keeps.result Form.Keeps c.args.place c.args.draft.now c.put_keeps.new.draft c.in-Keeps.is c.put_keeps.ensures

pub terms::put_form-returns-in-Denies : goal.terms::put_form-returns-in-Denies
terms::put_form-returns-in-Denies t c =
    ok_form (question_of c.args.context.now) c.args.form c.put_denies.result Form.Denies c.args.place c.args.draft.now c.put_denies.new.draft c.in-Denies.is c.put_denies.ensures

pub terms::put_form-put_truth-requires : goal.terms::put_form-put_truth-requires
terms::put_form-put_truth-requires t c = (omega arith, (c.requires.translated, (c.requires.truth, c.requires.faultless c.in-Truth.is)))

pub terms::put_form-put_code-requires : goal.terms::put_form-put_code-requires
terms::put_form-put_code-requires t c = (omega arith, (c.requires.translated, c.requires.truth))

pub terms::put_form-put_keeps-requires : goal.terms::put_form-put_keeps-requires
terms::put_form-put_keeps-requires t c = (omega arith, (c.requires.translated, c.requires.truth))

pub terms::put_form-put_denies-requires : goal.terms::put_form-put_denies-requires
terms::put_form-put_denies-requires t c = (omega arith, (c.requires.translated, c.requires.truth))

-- ---- terms::put_joined

pub terms::put_joined-split_at-requires : goal.terms::put_joined-split_at-requires
terms::put_joined-split_at-requires t c = omega arith

pub terms::put_joined-returns-then-terms-eq1 : goal.terms::put_joined-returns-then-terms-eq1
terms::put_joined-returns-then-terms-eq1 t c =
    λ connective is. ok_alone (question_of c.args.context.now) c.args.form c.put_form.result connective c.args.terms.now (get_or c.args.terms.now 0 0) c.args.draft.now c.put_form.new.draft (omega (arith, c.if-terms-eq1.true)) (slice_get-get_or c.args.terms.now 0 0 (omega (arith, c.if-terms-eq1.true))) c.put_form.ensures

pub terms::put_joined-returns : goal.terms::put_joined-returns
terms::put_joined-returns t c =
    λ connective is. ok_all_joined (question_of c.args.context.now) c.args.form c.put_joined-2.result c.args.context.now.ranges.now c.requires.translated.ranges (record { and_table = c.tables_are_connectives.ensures.and; or_table = c.tables_are_connectives.ensures.or }) c.args.join.now connective is c.args.terms.now c.split_at.result.0.now c.split_at.result.1.now
    (record { is = both_parts c.args.terms.now c.split_at.result.0.now c.split_at.result.1.now (length c.args.terms.now / 2) c.split_at.ensures.front c.split_at.ensures.back; some = front_some c.args.terms.now c.split_at.result.0.now c.split_at.result.1.now (length c.args.terms.now / 2) c.split_at.ensures.front c.split_at.ensures.back (omega (arith, c.requires.some, c.if-terms-eq1.false)) (omega (arith, c.requires.some, c.if-terms-eq1.false)); more = rest_some c.args.terms.now c.split_at.result.0.now c.split_at.result.1.now (length c.args.terms.now / 2) c.split_at.ensures.front c.split_at.ensures.back (omega (arith, c.requires.some, c.if-terms-eq1.false)) }) c.requires.faultless c.args.draft.now c.put.new.self c.put_joined.new.draft c.put_joined-2.new.draft c.in_ok-put.ensures.ok
    (c.in_ok-put_joined.ensures connective is) (c.put_joined-2.ensures connective is)

pub terms::put_joined-put_form-requires : goal.terms::put_joined-put_form-requires
terms::put_joined-put_form-requires t c = (
  omega (arith, down_to c.args.context.now.checked.now (left_from c.args.context.now.checked.now (get_or c.args.terms.now 0 0)) (left_among c.args.context.now.checked.now c.args.terms.now) 9 (10 + length c.args.terms.now) (term_left c.args.context.now.checked.now c.args.terms.now 0 (get_or c.args.terms.now 0 0) (slice_get-get_or c.args.terms.now 0 0 (omega (arith, c.if-terms-eq1.true)))) (omega arith)),
  (c.requires.translated, (at_all (IsTruthAt c.args.context.now.checked.now) c.args.terms.now 0 (get_or c.args.terms.now 0 0) c.requires.truths (slice_get-get_or c.args.terms.now 0 0 (omega (arith, c.if-terms-eq1.true))), (λ is. at_all (IsFaultless c.args.context.now.ranges.now) c.args.terms.now 0 (get_or c.args.terms.now 0 0) (c.requires.faultless (subst (λ (f : Form). IsOfValues f c.args.join.now) (sym is) tt)) (slice_get-get_or c.args.terms.now 0 0 (omega (arith, c.if-terms-eq1.true)))))),
)

pub terms::put_joined-put_joined-requires : goal.terms::put_joined-put_joined-requires
terms::put_joined-put_joined-requires t c = (
  omega (arith, down_to c.args.context.now.checked.now (left_among c.args.context.now.checked.now c.split_at.result.0.now) (left_among c.args.context.now.checked.now c.args.terms.now) (10 + length c.split_at.result.0.now) (10 + length c.args.terms.now) (front_terms c.args.context.now.checked.now c.args.terms.now c.split_at.result.0.now c.split_at.result.1.now (both_parts c.args.terms.now c.split_at.result.0.now c.split_at.result.1.now (length c.args.terms.now / 2) c.split_at.ensures.front c.split_at.ensures.back)) (omega (arith, parts_length c.args.terms.now c.split_at.result.0.now c.split_at.result.1.now (both_parts c.args.terms.now c.split_at.result.0.now c.split_at.result.1.now (length c.args.terms.now / 2) c.split_at.ensures.front c.split_at.ensures.back), rest_some c.args.terms.now c.split_at.result.0.now c.split_at.result.1.now (length c.args.terms.now / 2) c.split_at.ensures.front c.split_at.ensures.back (omega (arith, c.requires.some, c.if-terms-eq1.false))))),
  (c.requires.translated, (front_some c.args.terms.now c.split_at.result.0.now c.split_at.result.1.now (length c.args.terms.now / 2) c.split_at.ensures.front c.split_at.ensures.back (omega (arith, c.requires.some, c.if-terms-eq1.false)) (omega (arith, c.requires.some, c.if-terms-eq1.false)), (of_front c.args.terms.now c.split_at.result.0.now c.split_at.result.1.now (length c.args.terms.now / 2) c.split_at.ensures.front c.split_at.ensures.back (IsTruthAt c.args.context.now.checked.now) c.requires.truths, ((λ values. of_front c.args.terms.now c.split_at.result.0.now c.split_at.result.1.now (length c.args.terms.now / 2) c.split_at.ensures.front c.split_at.ensures.back (IsFaultless c.args.context.now.ranges.now) (c.requires.faultless values)), c.requires.joins)))),
)

pub terms::put_joined-put_joined-requires-2 : goal.terms::put_joined-put_joined-requires-2
terms::put_joined-put_joined-requires-2 t c = (
  omega (arith, down_to c.args.context.now.checked.now (left_among c.args.context.now.checked.now c.split_at.result.1.now) (left_among c.args.context.now.checked.now c.args.terms.now) (10 + length c.split_at.result.1.now) (10 + length c.args.terms.now) (rest_terms c.args.context.now.checked.now c.args.terms.now c.split_at.result.0.now c.split_at.result.1.now (both_parts c.args.terms.now c.split_at.result.0.now c.split_at.result.1.now (length c.args.terms.now / 2) c.split_at.ensures.front c.split_at.ensures.back)) (omega (arith, parts_length c.args.terms.now c.split_at.result.0.now c.split_at.result.1.now (both_parts c.args.terms.now c.split_at.result.0.now c.split_at.result.1.now (length c.args.terms.now / 2) c.split_at.ensures.front c.split_at.ensures.back), front_some c.args.terms.now c.split_at.result.0.now c.split_at.result.1.now (length c.args.terms.now / 2) c.split_at.ensures.front c.split_at.ensures.back (omega (arith, c.requires.some, c.if-terms-eq1.false)) (omega (arith, c.requires.some, c.if-terms-eq1.false))))),
  (c.requires.translated, (rest_some c.args.terms.now c.split_at.result.0.now c.split_at.result.1.now (length c.args.terms.now / 2) c.split_at.ensures.front c.split_at.ensures.back (omega (arith, c.requires.some, c.if-terms-eq1.false)), (of_rest c.args.terms.now c.split_at.result.0.now c.split_at.result.1.now (length c.args.terms.now / 2) c.split_at.ensures.front c.split_at.ensures.back (IsTruthAt c.args.context.now.checked.now) c.requires.truths, ((λ values. of_rest c.args.terms.now c.split_at.result.0.now c.split_at.result.1.now (length c.args.terms.now / 2) c.split_at.ensures.front c.split_at.ensures.back (IsFaultless c.args.context.now.ranges.now) (c.requires.faultless values)), c.requires.joins)))),
)

-- ---- truth::put_has

pub truth::put_has-returns : goal.truth::put_has-returns
truth::put_has-returns t c =
    ok_flags (question_of c.args.context.now) c.put_operand-2.result c.args.left.now c.args.right.now c.args.draft.now c.put.new.self c.put_operand.new.draft c.put_operand-2.new.draft c.in_ok-put.ensures.ok c.in_ok-put_operand.ensures c.put_operand-2.ensures

pub truth::put_has-put_operand-requires : goal.truth::put_has-put_operand-requires
truth::put_has-put_operand-requires t c = (
  omega (arith, down_to c.args.context.now.checked.now (left_of c.args.context.now.checked.now c.args.left.now) (left_in c.args.context.now.checked.now (c.args.left.now ∷ c.args.right.now ∷ [])) 10 11 (one_left c.args.context.now.checked.now (c.args.left.now ∷ c.args.right.now ∷ []) 0 c.args.left.now refl) (omega arith)),
  (c.requires.translated, c.requires.left),
)

pub truth::put_has-put_operand-requires-2 : goal.truth::put_has-put_operand-requires-2
truth::put_has-put_operand-requires-2 t c = (
  omega (arith, down_to c.args.context.now.checked.now (left_of c.args.context.now.checked.now c.args.right.now) (left_in c.args.context.now.checked.now (c.args.left.now ∷ c.args.right.now ∷ [])) 10 11 (one_left c.args.context.now.checked.now (c.args.left.now ∷ c.args.right.now ∷ []) 1 c.args.right.now refl) (omega arith)),
  (c.requires.translated, c.requires.right),
)

-- ---- truth::put_other_truth

pub truth::put_other_truth-put_any_item-requires-clause-kind : goal.truth::put_other_truth-put_any_item-requires-clause-kind
truth::put_other_truth-put_any_item-requires-clause-kind t c = subst (IsKindAt c.args.context.now.checked.now c.args.place) c.in-AnyItem.is c.requires.kind

pub truth::put_other_truth-second-requires : goal.truth::put_other_truth-second-requires
truth::put_other_truth-second-requires t c =
    first_child c.args.context.now.checked.now c.requires.translated.right c.args.place NodeKind.Has (flags_inside c.args.context.now.checked.now c.requires.translated.right c.args.place) (subst (IsKindAt c.args.context.now.checked.now c.args.place) c.in-Has.is c.requires.kind)

pub truth::put_other_truth-side-right-requires-clause-there : goal.truth::put_other_truth-side-right-requires-clause-there
truth::put_other_truth-side-right-requires-clause-there t c =
    second_child c.args.context.now.checked.now c.requires.translated.right c.args.place NodeKind.Has (flags_inside c.args.context.now.checked.now c.requires.translated.right c.args.place) (subst (IsKindAt c.args.context.now.checked.now c.args.place) c.in-Has.is c.requires.kind) c.second.result c.second.ensures

pub truth::put_other_truth-side-right-requires-clause-ranged : goal.truth::put_other_truth-side-right-requires-clause-ranged
truth::put_other_truth-side-right-requires-clause-ranged t c =
    has_range (question_of c.args.context.now) c.args.context.now.ranges.now c.requires.translated.ranges c.second.result (second_child c.args.context.now.checked.now c.requires.translated.right c.args.place NodeKind.Has (flags_inside c.args.context.now.checked.now c.requires.translated.right c.args.place) (subst (IsKindAt c.args.context.now.checked.now c.args.place) c.in-Has.is c.requires.kind) c.second.result c.second.ensures)

pub truth::put_other_truth-at-requires-clause-there : goal.truth::put_other_truth-at-requires-clause-there
truth::put_other_truth-at-requires-clause-there t c =
    first_child c.args.context.now.checked.now c.requires.translated.right c.args.place NodeKind.Has (flags_inside c.args.context.now.checked.now c.requires.translated.right c.args.place) (subst (IsKindAt c.args.context.now.checked.now c.args.place) c.in-Has.is c.requires.kind)

pub truth::put_other_truth-at-requires-clause-ranged : goal.truth::put_other_truth-at-requires-clause-ranged
truth::put_other_truth-at-requires-clause-ranged t c =
    has_range (question_of c.args.context.now) c.args.context.now.ranges.now c.requires.translated.ranges (c.args.place + 1) (first_child c.args.context.now.checked.now c.requires.translated.right c.args.place NodeKind.Has (flags_inside c.args.context.now.checked.now c.requires.translated.right c.args.place) (subst (IsKindAt c.args.context.now.checked.now c.args.place) c.in-Has.is c.requires.kind))

pub truth::put_other_truth-returns-in-Has : goal.truth::put_other_truth-returns-in-Has
truth::put_other_truth-returns-in-Has t c =
    ok_flags_node (question_of c.args.context.now) c.trees_have_one_type.ensures c.quoted_texts_have_one_number.ensures c.args.context.now.ranges.now c.requires.translated.ranges c.typed_trees_end_once_on_entities.ensures c.requires.translated.moment c.args.place c.at.result c.side-right.result c.at.ensures.source c.second.result c.side-right.ensures c.second.ensures (subst (IsKindAt c.args.context.now.checked.now c.args.place) c.in-Has.is c.requires.kind) c.put_has.result c.args.draft.now c.put_has.new.draft c.put_has.ensures

pub truth::put_other_truth-put_path_value-requires-clause-path : goal.truth::put_other_truth-put_path_value-requires-clause-path
truth::put_other_truth-put_path_value-requires-clause-path t c =
    kind_path c.args.context.now.checked.now c.args.place c.args.kind c.requires.kind (other_step c.args.kind c.requires.other c.in_default.not-AnyItem c.in_default.not-Has c.in_default.not-InList c.in_default.not-InPath (λ q is. c.in_default.not-Lambda q is))

pub truth::put_other_truth-put_path_value-requires-clause-value : goal.truth::put_other_truth-put_path_value-requires-clause-value
truth::put_other_truth-put_path_value-requires-clause-value t c = c.requires.boolean

pub truth::put_other_truth-put_has-requires : goal.truth::put_other_truth-put_has-requires
truth::put_other_truth-put_has-requires t c = (
  omega (arith, on_from c.args.context.now.checked.now (left_in c.args.context.now.checked.now (c.at.result ∷ c.side-right.result ∷ [])) (left_from c.args.context.now.checked.now c.args.place) 11 3 (two_on c.args.context.now.checked.now c.args.place (kind_inside c.args.context.now.checked.now c.args.place c.args.kind c.requires.kind) c.at.result c.side-right.result (at_on c.args.context.now.checked.now c.args.place (kind_inside c.args.context.now.checked.now c.args.place c.args.kind c.requires.kind) c.at.result (c.args.place + 1) c.at.ensures.source (omega arith)) (side_on c.args.context.now.checked.now c.args.place (kind_inside c.args.context.now.checked.now c.args.place c.args.kind c.requires.kind) c.args.context.now.ranges.now c.second.result c.side-right.result c.side-right.ensures (second_after c.args.context.now.checked.now c.requires.translated.right c.args.place c.second.result c.second.ensures))) (omega arith)),
  (c.requires.translated, ((let n = some_there (λ (found : CheckedNode). found.kind ≡ NodeKind.Has) (slice_get c.args.context.now.checked.now.list.nodes c.args.place) (subst (IsKindAt c.args.context.now.checked.now c.args.place) c.in-Has.is c.requires.kind) in let left = node_is_at c.args.context.now.checked.now c.args.context.now.ranges.now (c.args.place + 1) c.at.result c.at.ensures.source c.at.ensures.kind c.at.ensures.range in let both = flag_sides c.args.context.now.checked.now c.requires.translated.right c.trees_have_one_type.ensures c.args.context.now.ranges.now c.args.place n.0 n.1.0 c.at.result left.source left.is n.1.1 c.second.result c.side-right.result c.side-right.ensures c.second.ensures in both.left_put), (let n = some_there (λ (found : CheckedNode). found.kind ≡ NodeKind.Has) (slice_get c.args.context.now.checked.now.list.nodes c.args.place) (subst (IsKindAt c.args.context.now.checked.now c.args.place) c.in-Has.is c.requires.kind) in let left = node_is_at c.args.context.now.checked.now c.args.context.now.ranges.now (c.args.place + 1) c.at.result c.at.ensures.source c.at.ensures.kind c.at.ensures.range in let both = flag_sides c.args.context.now.checked.now c.requires.translated.right c.trees_have_one_type.ensures c.args.context.now.ranges.now c.args.place n.0 n.1.0 c.at.result left.source left.is n.1.1 c.second.result c.side-right.result c.side-right.ensures c.second.ensures in both.right_put))),
)

pub truth::put_other_truth-put_list-requires : goal.truth::put_other_truth-put_list-requires
truth::put_other_truth-put_list-requires t c = (omega arith, (c.requires.translated, (subst (IsKindAt c.args.context.now.checked.now c.args.place) c.in-InList.is c.requires.kind, c.requires.faultless)))

pub truth::put_other_truth-put_in_path-requires : goal.truth::put_other_truth-put_in_path-requires
truth::put_other_truth-put_in_path-requires t c =
    (omega arith, (c.requires.translated, (subst (IsKindAt c.args.context.now.checked.now c.args.place) c.in-InPath.is c.requires.kind, c.requires.faultless)))

pub truth::put_other_truth-put_lambda-requires : goal.truth::put_other_truth-put_lambda-requires
truth::put_other_truth-put_lambda-requires t c =
    (omega arith, (c.requires.translated, (subst (IsKindAt c.args.context.now.checked.now c.args.place) c.in-Lambda.is c.requires.kind, c.requires.faultless)))

-- ---- truth::put_truth

pub truth::put_truth-kind-requires : goal.truth::put_truth-kind-requires
truth::put_truth-kind-requires t c = truth_inside c.args.context.now.checked.now c.args.place c.requires.truth

pub truth::put_truth-returns-then-is_kind : goal.truth::put_truth-returns-then-is_kind
truth::put_truth-returns-then-is_kind t c =
    ok_null_truth (question_of c.args.context.now) c.args.context.now.ranges.now c.requires.translated.ranges c.typed_trees_end_once_on_entities.ensures c.requires.translated.moment c.args.place c.put.result c.requires.truth (kind_there c.args.context.now.checked.now c.args.place c.kind.result Kind.Null c.kind.ensures (c.is_kind.ensures.0 c.if-is_kind.true)) c.args.draft.now c.put.new.self c.put.ensures.ok

pub truth::put_truth-compared_at-requires-clause-there : goal.truth::put_truth-compared_at-requires-clause-there
truth::put_truth-compared_at-requires-clause-there t c = truth_inside c.args.context.now.checked.now c.args.place c.requires.truth

pub truth::put_truth-returns-in-Some : goal.truth::put_truth-returns-in-Some
truth::put_truth-returns-in-Some t c =
    ok_comparison (question_of c.args.context.now) c.args.context.now.ranges.now c.requires.translated.ranges c.typed_trees_end_once_on_entities.ensures c.requires.translated.moment c.args.place c.put_comparison.result c.in-Some.operator c.in-Some.left c.in-Some.right c.in-Some.ensures.some c.args.draft.now c.put_comparison.new.draft c.requires.faultless Itself c.put_comparison.ensures

pub truth::put_truth-connective_at-requires : goal.truth::put_truth-connective_at-requires
truth::put_truth-connective_at-requires t c = truth_inside c.args.context.now.checked.now c.args.place c.requires.truth

pub truth::put_truth-terms_of-requires-clause-there : goal.truth::put_truth-terms_of-requires-clause-there
truth::put_truth-terms_of-requires-clause-there t c = truth_inside c.args.context.now.checked.now c.args.place c.requires.truth

pub truth::put_truth-terms_of-requires-clause-top : goal.truth::put_truth-terms_of-requires-clause-top
truth::put_truth-terms_of-requires-clause-top t c = c.in-Some-connective_at.ensures.some

pub truth::put_truth-returns-in-Some-connective_at : goal.truth::put_truth-returns-in-Some-connective_at
truth::put_truth-returns-in-Some-connective_at t c =
    ok_chain (question_of c.args.context.now) Form.Truth c.put_joined.result c.in-Some-connective_at.connective c.args.place c.as_slice.result.now c.args.draft.now c.put_joined.new.draft (subst (IsChain (question_of c.args.context.now) c.in-Some-connective_at.connective c.args.place) (sym c.as_slice.ensures.value) c.in_ok-terms.ensures) (c.put_joined.ensures c.in-Some-connective_at.connective c.join_of.ensures)

pub truth::put_truth-node-requires : goal.truth::put_truth-node-requires
truth::put_truth-node-requires t c = truth_inside c.args.context.now.checked.now c.args.place c.requires.truth

pub truth::put_truth-put_literal-requires-clause-there : goal.truth::put_truth-put_literal-requires-clause-there
truth::put_truth-put_literal-requires-clause-there t c =
    literal_within c.args.context.now.checked.now c.args.place c.in-Literal.kind c.in-Literal.value (kind_here c.args.context.now.checked.now c.args.place c.node.result c.node.ensures (NodeKind.Literal c.in-Literal.kind c.in-Literal.value) c.in-Literal.is) c.requires.translated.right

pub truth::put_truth-put_literal-requires-clause-nul_free : goal.truth::put_truth-put_literal-requires-clause-nul_free
truth::put_truth-put_literal-requires-clause-nul_free t c = c.requires.translated.nul_free c.in-Literal.value

pub truth::put_truth-put_literal-requires-clause-spelled : goal.truth::put_truth-put_literal-requires-clause-spelled
truth::put_truth-put_literal-requires-clause-spelled t c =
    literal_spelled c.args.context.now.checked.now c.args.place c.in-Literal.kind c.in-Literal.value (kind_here c.args.context.now.checked.now c.args.place c.node.result c.node.ensures (NodeKind.Literal c.in-Literal.kind c.in-Literal.value) c.in-Literal.is) c.requires.translated.right

pub truth::put_truth-returns-in-Literal : goal.truth::put_truth-returns-in-Literal
truth::put_truth-returns-in-Literal t c =
    ok_literal (question_of c.args.context.now) c.args.context.now.ranges.now c.requires.translated.ranges c.typed_trees_end_once_on_entities.ensures c.requires.translated.moment c.args.place c.put_literal.result c.literals_have_one_value.ensures c.in-Literal.kind c.in-Literal.value (kind_here c.args.context.now.checked.now c.args.place c.node.result c.node.ensures (NodeKind.Literal c.in-Literal.kind c.in-Literal.value) c.in-Literal.is) c.args.draft.now c.put_literal.new.draft c.put_literal.ensures

pub truth::put_truth-returns-in_ok-put-in-Not : goal.truth::put_truth-returns-in_ok-put-in-Not
truth::put_truth-returns-in_ok-put-in-Not t c =
    let under = not_below c.args.context.now.checked.now c.requires.translated.right c.trees_have_one_type.ensures c.args.place c.node.result c.node.ensures c.in-Not.is in
    ok_not_truth (question_of c.args.context.now) c.args.context.now.ranges.now c.requires.translated.ranges c.typed_trees_end_once_on_entities.ensures c.requires.translated.moment c.args.place c.put_truth.result (kind_here c.args.context.now.checked.now c.args.place c.node.result c.node.ensures NodeKind.Not c.in-Not.is) under.truth (below_faultless (question_of c.args.context.now) c.args.context.now.ranges.now c.requires.translated.ranges c.args.place (c.args.place + 1) c.requires.faultless under.below under.inside) c.args.draft.now c.put-in-Not.new.self c.put_truth.new.draft c.in_ok-put-in-Not.ensures.ok c.put_truth.ensures

pub truth::put_truth-overflow_add-place : goal.truth::put_truth-overflow_add-place
truth::put_truth-overflow_add-place t c =
    let there = truth_inside c.args.context.now.checked.now c.args.place c.requires.truth in
    search (rules, arith)

pub truth::put_truth-put_comparison-requires : goal.truth::put_truth-put_comparison-requires
truth::put_truth-put_comparison-requires t c = (
  omega (arith, on_from c.args.context.now.checked.now (left_in c.args.context.now.checked.now (c.in-Some.left ∷ c.in-Some.right ∷ [])) (left_from c.args.context.now.checked.now c.args.place) 16 4 (sides_left c.args.context.now.checked.now c.args.place (truth_inside c.args.context.now.checked.now c.args.place c.requires.truth) c.args.context.now.ranges.now (c.in-Some.left ∷ c.in-Some.right ∷ []) (c.in-Some.ensures.some.left_is, (c.in-Some.ensures.some.right_is, tt))) (omega arith)),
  (c.requires.translated, (plain_side (question_of c.args.context.now) c.args.context.now.ranges.now c.requires.translated.ranges c.args.place c.in-Some.left c.requires.faultless c.in-Some.ensures.some.left_is, (plain_side (question_of c.args.context.now) c.args.context.now.ranges.now c.requires.translated.ranges c.args.place c.in-Some.right c.requires.faultless c.in-Some.ensures.some.right_is, c.in-Some.ensures.some.compared))),
)

pub truth::put_truth-put_joined-requires : goal.truth::put_truth-put_joined-requires
truth::put_truth-put_joined-requires t c = (
  omega (arith, on_from c.args.context.now.checked.now (left_among c.args.context.now.checked.now c.as_slice.result.now) (left_from c.args.context.now.checked.now c.args.place) (10 + length c.as_slice.result.now) 4 (terms_left c.args.context.now.checked.now c.args.place (truth_inside c.args.context.now.checked.now c.args.place c.requires.truth) c.as_slice.result.now (subst (IsChain (question_of c.args.context.now) c.in-Some-connective_at.connective c.args.place) (sym c.as_slice.ensures.value) c.in_ok-terms.ensures).after) (omega (arith, (subst (IsChain (question_of c.args.context.now) c.in-Some-connective_at.connective c.args.place) (sym c.as_slice.ensures.value) c.in_ok-terms.ensures).few))),
  (c.requires.translated, ((subst (IsChain (question_of c.args.context.now) c.in-Some-connective_at.connective c.args.place) (sym c.as_slice.ensures.value) c.in_ok-terms.ensures).some, ((subst (IsChain (question_of c.args.context.now) c.in-Some-connective_at.connective c.args.place) (sym c.as_slice.ensures.value) c.in_ok-terms.ensures).truths, ((λ values. chain_faultless (question_of c.args.context.now) c.args.context.now.ranges.now c.requires.translated.ranges c.in-Some-connective_at.connective c.args.place c.as_slice.result.now (subst (IsChain (question_of c.args.context.now) c.in-Some-connective_at.connective c.args.place) (sym c.as_slice.ensures.value) c.in_ok-terms.ensures) c.requires.faultless), (c.in-Some-connective_at.connective, c.join_of.ensures))))),
)

pub truth::put_truth-put_truth-requires : goal.truth::put_truth-put_truth-requires
truth::put_truth-put_truth-requires t c = (
  omega (arith, on_from c.args.context.now.checked.now (left_from c.args.context.now.checked.now (c.args.place + 1)) (left_from c.args.context.now.checked.now c.args.place) 4 4 (next_on c.args.context.now.checked.now c.args.place (truth_inside c.args.context.now.checked.now c.args.place c.requires.truth)) (omega arith)),
  (c.requires.translated, ((not_below c.args.context.now.checked.now c.requires.translated.right c.trees_have_one_type.ensures c.args.place c.node.result c.node.ensures c.in-Not.is).truth, (let under = not_below c.args.context.now.checked.now c.requires.translated.right c.trees_have_one_type.ensures c.args.place c.node.result c.node.ensures c.in-Not.is in below_faultless (question_of c.args.context.now) c.args.context.now.ranges.now c.requires.translated.ranges c.args.place (c.args.place + 1) c.requires.faultless under.below under.inside))),
)

pub truth::put_truth-put_call-requires : goal.truth::put_truth-put_call-requires
truth::put_truth-put_call-requires t c =
    (omega arith, (c.requires.translated, (kind_here c.args.context.now.checked.now c.args.place c.node.result c.node.ensures (NodeKind.Call c.in-Call.function) c.in-Call.is, faultless_plain c.args.context.now.checked.now c.args.context.now.ranges.now c.args.place c.requires.faultless)))

pub truth::put_truth-put_other_truth-requires : goal.truth::put_truth-put_other_truth-requires
truth::put_truth-put_other_truth-requires t c =
    (omega arith, (c.requires.translated, (kind_here c.args.context.now.checked.now c.args.place c.node.result c.node.ensures c.node.result.kind refl, (other_kind c.args.context.now.checked.now c.requires.translated.right c.args.place c.node.result c.node.ensures (boolean_of c.args.context.now.checked.now c.args.place c.node.result c.node.ensures (boolean_there c.args.context.now.checked.now c.args.place c.kind.result c.kind.ensures (λ null. not_so c.is_kind.result c.is_kind.ensures.1 c.if-is_kind.false null) c.requires.truth)) c.node.result.kind refl (found_there (λ (n : CheckedNode). ComparesNothing n.kind) (slice_get c.args.context.now.checked.now.list.nodes c.args.place) c.node.result c.node.ensures c.in_default.ensures.none) (λ connective is. c.in_default-connective_at.ensures.none connective (connective_here c.args.context.now.checked.now c.args.place c.node.result c.node.ensures connective is)) (λ k value is. c.in_default-kind.not-Literal k value is) c.in_default-kind.not-Not (λ function is. c.in_default-kind.not-Call function is), (boolean_there c.args.context.now.checked.now c.args.place c.kind.result c.kind.ensures (λ null. not_so c.is_kind.result c.is_kind.ensures.1 c.if-is_kind.false null) c.requires.truth, c.requires.faultless)))))

-- ---- value_forms::put_arithmetic

pub value_forms::put_arithmetic-at-left-requires-clause-there : goal.value_forms::put_arithmetic-at-left-requires-clause-there
value_forms::put_arithmetic-at-left-requires-clause-there t c =
    first_child c.args.context.now.checked.now c.requires.translated.right c.args.place (NodeKind.Binary (BinaryOperator.Arithmetic c.args.operator)) (operator_inside c.args.context.now.checked.now c.requires.translated.right c.args.place (BinaryOperator.Arithmetic c.args.operator)) c.requires.kind

pub value_forms::put_arithmetic-at-left-requires-clause-ranged : goal.value_forms::put_arithmetic-at-left-requires-clause-ranged
value_forms::put_arithmetic-at-left-requires-clause-ranged t c =
    has_range (question_of c.args.context.now) c.args.context.now.ranges.now c.requires.translated.ranges (c.args.place + 1) (first_child c.args.context.now.checked.now c.requires.translated.right c.args.place (NodeKind.Binary (BinaryOperator.Arithmetic c.args.operator)) (operator_inside c.args.context.now.checked.now c.requires.translated.right c.args.place (BinaryOperator.Arithmetic c.args.operator)) c.requires.kind)

pub value_forms::put_arithmetic-second-requires : goal.value_forms::put_arithmetic-second-requires
value_forms::put_arithmetic-second-requires t c =
    first_child c.args.context.now.checked.now c.requires.translated.right c.args.place (NodeKind.Binary (BinaryOperator.Arithmetic c.args.operator)) (operator_inside c.args.context.now.checked.now c.requires.translated.right c.args.place (BinaryOperator.Arithmetic c.args.operator)) c.requires.kind

pub value_forms::put_arithmetic-at-right-requires-clause-there : goal.value_forms::put_arithmetic-at-right-requires-clause-there
value_forms::put_arithmetic-at-right-requires-clause-there t c =
    second_child c.args.context.now.checked.now c.requires.translated.right c.args.place (NodeKind.Binary (BinaryOperator.Arithmetic c.args.operator)) (operator_inside c.args.context.now.checked.now c.requires.translated.right c.args.place (BinaryOperator.Arithmetic c.args.operator)) c.requires.kind c.second.result c.second.ensures

pub value_forms::put_arithmetic-at-right-requires-clause-ranged : goal.value_forms::put_arithmetic-at-right-requires-clause-ranged
value_forms::put_arithmetic-at-right-requires-clause-ranged t c =
    has_range (question_of c.args.context.now) c.args.context.now.ranges.now c.requires.translated.ranges c.second.result (second_child c.args.context.now.checked.now c.requires.translated.right c.args.place (NodeKind.Binary (BinaryOperator.Arithmetic c.args.operator)) (operator_inside c.args.context.now.checked.now c.requires.translated.right c.args.place (BinaryOperator.Arithmetic c.args.operator)) c.requires.kind c.second.result c.second.ensures)

pub value_forms::put_arithmetic-returns : goal.value_forms::put_arithmetic-returns
value_forms::put_arithmetic-returns t c =
    let n = some_there (λ (found : CheckedNode). found.kind ≡ NodeKind.Binary (BinaryOperator.Arithmetic c.args.operator)) (slice_get c.args.context.now.checked.now.list.nodes c.args.place) c.requires.kind in
    let left_at = node_is_at c.args.context.now.checked.now c.args.context.now.ranges.now (c.args.place + 1) c.at-left.result c.at-left.ensures.source c.at-left.ensures.kind c.at-left.ensures.range in
    let right_at = node_is_at c.args.context.now.checked.now c.args.context.now.ranges.now c.second.result c.at-right.result c.at-right.ensures.source c.at-right.ensures.kind c.at-right.ensures.range in
    ok_calculated_value (question_of c.args.context.now) c.args.context.now.ranges.now c.requires.translated.ranges c.typed_trees_end_once_on_entities.ensures c.requires.translated.moment c.args.place c.put_calculated.result c.args.draft.now c.args.operator c.at-left.result c.at-right.result
    (calculated_node (question_of c.args.context.now) c.args.context.now.ranges.now c.requires.translated.ranges c.requires.translated.right c.typed_trees_end_once_on_entities.ensures c.requires.translated.moment c.trees_have_one_type.ensures c.args.place (inside (λ (found : CheckedNode). found.kind ≡ NodeKind.Binary (BinaryOperator.Arithmetic c.args.operator)) c.args.context.now.checked.now.list.nodes c.args.place c.requires.kind) c.requires.number.0 c.requires.number.1 c.args.operator c.second.result c.requires.kind c.at-left.result c.at-right.result left_at.is right_at.is (found_there (λ (found : CheckedNode). found.stop ≡ c.second.result) (slice_get c.args.context.now.checked.now.list.nodes (c.args.place + 1)) left_at.is.node left_at.is.at c.second.ensures) c.at-left.ensures.source c.at-right.ensures.source) c.put_calculated.new.draft c.put_calculated.ensures

pub value_forms::put_arithmetic-put_calculated-requires : goal.value_forms::put_arithmetic-put_calculated-requires
value_forms::put_arithmetic-put_calculated-requires t c = (
  omega (arith, on_from c.args.context.now.checked.now (left_in c.args.context.now.checked.now (c.at-left.result ∷ c.at-right.result ∷ [])) (left_from c.args.context.now.checked.now c.args.place) 14 3 (two_on c.args.context.now.checked.now c.args.place (kind_inside c.args.context.now.checked.now c.args.place (NodeKind.Binary (BinaryOperator.Arithmetic c.args.operator)) c.requires.kind) c.at-left.result c.at-right.result (at_on c.args.context.now.checked.now c.args.place (kind_inside c.args.context.now.checked.now c.args.place (NodeKind.Binary (BinaryOperator.Arithmetic c.args.operator)) c.requires.kind) c.at-left.result (c.args.place + 1) c.at-left.ensures.source (omega arith)) (at_on c.args.context.now.checked.now c.args.place (kind_inside c.args.context.now.checked.now c.args.place (NodeKind.Binary (BinaryOperator.Arithmetic c.args.operator)) c.requires.kind) c.at-right.result c.second.result c.at-right.ensures.source (second_after c.args.context.now.checked.now c.requires.translated.right c.args.place c.second.result c.second.ensures))) (omega arith)),
  (c.requires.translated, ((let n = some_there (λ (found : CheckedNode). found.kind ≡ NodeKind.Binary (BinaryOperator.Arithmetic c.args.operator)) (slice_get c.args.context.now.checked.now.list.nodes c.args.place) c.requires.kind in let left_at = node_is_at c.args.context.now.checked.now c.args.context.now.ranges.now (c.args.place + 1) c.at-left.result c.at-left.ensures.source c.at-left.ensures.kind c.at-left.ensures.range in first_put c.args.context.now.checked.now c.requires.translated.right c.trees_have_one_type.ensures c.args.context.now.ranges.now c.args.place n.0 n.1.0 c.args.operator n.1.1 c.at-left.result left_at), ((let n = some_there (λ (found : CheckedNode). found.kind ≡ NodeKind.Binary (BinaryOperator.Arithmetic c.args.operator)) (slice_get c.args.context.now.checked.now.list.nodes c.args.place) c.requires.kind in let left_at = node_is_at c.args.context.now.checked.now c.args.context.now.ranges.now (c.args.place + 1) c.at-left.result c.at-left.ensures.source c.at-left.ensures.kind c.at-left.ensures.range in second_put c.args.context.now.checked.now c.requires.translated.right c.trees_have_one_type.ensures c.args.context.now.ranges.now c.args.place n.0 n.1.0 c.args.operator n.1.1 c.at-left.result left_at c.second.result c.at-right.result (found_there (λ (found : CheckedNode). found.stop ≡ c.second.result) (slice_get c.args.context.now.checked.now.list.nodes (c.args.place + 1)) left_at.is.node left_at.is.at c.second.ensures) (node_is_at c.args.context.now.checked.now c.args.context.now.ranges.now c.second.result c.at-right.result c.at-right.ensures.source c.at-right.ensures.kind c.at-right.ensures.range)), (inside (λ (found : CheckedNode). found.kind ≡ NodeKind.Binary (BinaryOperator.Arithmetic c.args.operator)) c.args.context.now.checked.now.list.nodes c.args.place c.requires.kind, (c.requires.number, (c.requires.translated.ranges.bounded (c.args.place + 1) c.at-left.result.range c.at-left.ensures.range, c.requires.translated.ranges.bounded c.second.result c.at-right.result.range c.at-right.ensures.range)))))),
)

-- ---- value_forms::put_value

pub value_forms::put_value-returns-in_default : goal.value_forms::put_value-returns-in_default
value_forms::put_value-returns-in_default t c =
    let null = null_there c.args.context.now.checked.now c.args.place c.requires.valued c.in_default.ensures.none in
    ok_null_value (question_of c.args.context.now) c.args.context.now.ranges.now c.requires.translated.ranges c.typed_trees_end_once_on_entities.ensures c.requires.translated.moment c.args.place c.put.result c.args.draft.now null.0 null.1 c.args.wanted c.put.new.self c.put.ensures.ok

pub value_forms::put_value-put_literal-requires-clause-there : goal.value_forms::put_value-put_literal-requires-clause-there
value_forms::put_value-put_literal-requires-clause-there t c =
    literal_within c.args.context.now.checked.now c.args.place c.in-Literal.kind c.in-Literal.value (kind_here c.args.context.now.checked.now c.args.place c.node.result c.node.ensures (NodeKind.Literal c.in-Literal.kind c.in-Literal.value) c.in-Literal.is) c.requires.translated.right

pub value_forms::put_value-put_literal-requires-clause-nul_free : goal.value_forms::put_value-put_literal-requires-clause-nul_free
value_forms::put_value-put_literal-requires-clause-nul_free t c = c.requires.translated.nul_free c.in-Literal.value

pub value_forms::put_value-put_literal-requires-clause-spelled : goal.value_forms::put_value-put_literal-requires-clause-spelled
value_forms::put_value-put_literal-requires-clause-spelled t c =
    literal_spelled c.args.context.now.checked.now c.args.place c.in-Literal.kind c.in-Literal.value (kind_here c.args.context.now.checked.now c.args.place c.node.result c.node.ensures (NodeKind.Literal c.in-Literal.kind c.in-Literal.value) c.in-Literal.is) c.requires.translated.right

pub value_forms::put_value-returns-in-Literal : goal.value_forms::put_value-returns-in-Literal
value_forms::put_value-returns-in-Literal t c =
    ok_literal (question_of c.args.context.now) c.args.context.now.ranges.now c.requires.translated.ranges c.typed_trees_end_once_on_entities.ensures c.requires.translated.moment c.args.place c.put_literal.result c.literals_have_one_value.ensures c.in-Literal.kind c.in-Literal.value (kind_here c.args.context.now.checked.now c.args.place c.node.result c.node.ensures (NodeKind.Literal c.in-Literal.kind c.in-Literal.value) c.in-Literal.is) c.args.draft.now c.put_literal.new.draft c.put_literal.ensures

pub value_forms::put_value-returns-in-Now : goal.value_forms::put_value-returns-in-Now
value_forms::put_value-returns-in-Now t c =
    ok_now_value (question_of c.args.context.now) c.args.context.now.ranges.now c.requires.translated.ranges c.typed_trees_end_once_on_entities.ensures c.requires.translated.moment c.args.place c.put_moment.result c.args.draft.now (kind_here c.args.context.now.checked.now c.args.place c.node.result c.node.ensures NodeKind.Now c.in-Now.is) c.put_moment.new.draft c.put_moment.ensures

pub value_forms::put_value-put_path-requires-clause-path : goal.value_forms::put_value-put_path-requires-clause-path
value_forms::put_value-put_path-requires-clause-path t c = counted_path c.args.context.now.checked.now c.requires.translated.right c.args.place c.node.result c.node.ensures c.in-Count.is

pub value_forms::put_value-returns-in_ok-path-in-Count : goal.value_forms::put_value-returns-in_ok-path-in-Count
value_forms::put_value-returns-in_ok-path-in-Count t c =
    ok_counted_value (question_of c.args.context.now) c.args.context.now.ranges.now c.requires.translated.ranges c.typed_trees_end_once_on_entities.ensures c.requires.translated.moment c.args.place c.put-in-Count.result c.args.draft.now (kind_here c.args.context.now.checked.now c.args.place c.node.result c.node.ensures NodeKind.Count c.in-Count.is) (quiet_faultless (question_of c.args.context.now) c.args.context.now.ranges.now c.requires.translated.ranges c.args.place c.node.result c.node.ensures (subst IsQuietKind (sym c.in-Count.is) tt)) c.put_path.new.draft c.put-in-Count.new.self c.in_ok-path-in-Count.path c.in_ok-path-in-Count.ensures c.put-in-Count.ensures.ok

pub value_forms::put_value-returns-in-Neg : goal.value_forms::put_value-returns-in-Neg
value_forms::put_value-returns-in-Neg t c =
    let number = negation_computed c.args.context.now.checked.now c.requires.translated.right c.args.place c.node.result c.node.ensures c.in-Neg.is (not_null c.args.context.now.checked.now c.args.place c.node.result c.node.ensures c.in-Some.value_type c.in-Some.ensures.some) in
    ok_calculated_value (question_of c.args.context.now) c.args.context.now.ranges.now c.requires.translated.ranges c.typed_trees_end_once_on_entities.ensures c.requires.translated.moment c.args.place c.put_calculated.result c.args.draft.now ArithmeticOperator.Sub c.zero.result c.at-operand.result
    (negated_node (question_of c.args.context.now) c.args.context.now.ranges.now c.requires.translated.ranges c.requires.translated.right c.typed_trees_end_once_on_entities.ensures c.requires.translated.moment c.trees_have_one_type.ensures c.args.place c.requires.there number.0 number.1 (kind_here c.args.context.now.checked.now c.args.place c.node.result c.node.ensures NodeKind.Neg c.in-Neg.is) c.zero.result c.at-operand.result (node_is_at c.args.context.now.checked.now c.args.context.now.ranges.now (c.args.place + 1) c.at-operand.result c.at-operand.ensures.source c.at-operand.ensures.kind c.at-operand.ensures.range).is c.at-operand.ensures.source c.zero.ensures.source (zero_low c.zero.result.range c.zero.ensures.range) (zero_high c.zero.result.range c.zero.ensures.range)) c.put_calculated.new.draft c.put_calculated.ensures

pub value_forms::put_value-put_path_value-requires-clause-path : goal.value_forms::put_value-put_path_value-requires-clause-path
value_forms::put_value-put_path_value-requires-clause-path t c =
    path_here c.args.context.now.checked.now c.requires.translated.right c.args.place c.node.result c.node.ensures (λ truth. not_so c.is_kind.result c.is_kind.ensures.1 c.if-is_kind.false (kind_found c.args.context.now.checked.now c.args.place c.node.result c.node.ensures c.kind.result c.kind.ensures ∙ truth)) (found_there (λ (n : CheckedNode). kind_of_type n.edm_type ≢ Kind.Structured) (slice_get c.args.context.now.checked.now.list.nodes c.args.place) c.node.result c.node.ensures c.requires.valued) (record { no_literal = λ k value is. c.in_default-kind.not-Literal k value is; no_now = c.in_default-kind.not-Now; no_count = c.in_default-kind.not-Count; no_neg = c.in_default-kind.not-Neg; no_binary = λ operator is. c.in_default-kind.not-Binary operator is; no_call = λ function is. c.in_default-kind.not-Call function is })

pub value_forms::put_value-put_path_value-requires-clause-value : goal.value_forms::put_value-put_path_value-requires-clause-value
value_forms::put_value-put_path_value-requires-clause-value t c = of_field c.args.context.now.checked.now c.args.place c.in-Some.value_type c.in-Some.ensures.some

pub value_forms::put_value-at-operand-requires-clause-there : goal.value_forms::put_value-at-operand-requires-clause-there
value_forms::put_value-at-operand-requires-clause-there t c = negated_child c.args.context.now.checked.now c.requires.translated.right c.args.place c.node.result c.node.ensures c.in-Neg.is

pub value_forms::put_value-at-operand-requires-clause-ranged : goal.value_forms::put_value-at-operand-requires-clause-ranged
value_forms::put_value-at-operand-requires-clause-ranged t c =
    has_range (question_of c.args.context.now) c.args.context.now.ranges.now c.requires.translated.ranges (c.args.place + 1) (negated_child c.args.context.now.checked.now c.requires.translated.right c.args.place c.node.result c.node.ensures c.in-Neg.is)

pub value_forms::put_value-put_truth-requires : goal.value_forms::put_value-put_truth-requires
value_forms::put_value-put_truth-requires t c =
    let s = some_there (λ (n : CheckedNode). kind_of_type n.edm_type ≢ Kind.Structured) (slice_get c.args.context.now.checked.now.list.nodes c.args.place) c.requires.valued in
    (omega arith, (c.requires.translated, (truth_at c.args.context.now.checked.now c.args.place c.kind.result c.kind.ensures (subst IsTruthKind (sym (c.is_kind.ensures.0 c.if-is_kind.true)) tt), plain_faultless (question_of c.args.context.now) c.args.context.now.ranges.now c.requires.translated.ranges c.args.place s.0 s.1.0 c.requires.plain (sym (kind_found c.args.context.now.checked.now c.args.place s.0 s.1.0 c.kind.result c.kind.ensures) ∙ (c.is_kind.ensures.0 c.if-is_kind.true)))))

pub value_forms::put_value-put_calculated-requires : goal.value_forms::put_value-put_calculated-requires
value_forms::put_value-put_calculated-requires t c = (
  omega (arith, on_from c.args.context.now.checked.now (left_in c.args.context.now.checked.now (c.zero.result ∷ c.at-operand.result ∷ [])) (left_from c.args.context.now.checked.now c.args.place) 14 5 (two_on c.args.context.now.checked.now c.args.place c.requires.there c.zero.result c.at-operand.result (subst (λ (s : Source). left_by c.args.context.now.checked.now s < left_from c.args.context.now.checked.now c.args.place) (sym c.zero.ensures.source) (nothing_on c.args.context.now.checked.now c.args.place c.requires.there)) (at_on c.args.context.now.checked.now c.args.place c.requires.there c.at-operand.result (c.args.place + 1) c.at-operand.ensures.source (omega arith))) (omega arith)),
  (c.requires.translated, (zero_may_be_put c.args.context.now.checked.now c.args.context.now.ranges.now c.zero.result c.zero.ensures.source c.zero.ensures.kind, (negated_put c.args.context.now.checked.now c.requires.translated.right c.trees_have_one_type.ensures c.args.context.now.ranges.now c.args.place c.node.result c.node.ensures c.in-Neg.is c.at-operand.result (node_is_at c.args.context.now.checked.now c.args.context.now.ranges.now (c.args.place + 1) c.at-operand.result c.at-operand.ensures.source c.at-operand.ensures.kind c.at-operand.ensures.range), (c.requires.there, (negation_computed c.args.context.now.checked.now c.requires.translated.right c.args.place c.node.result c.node.ensures c.in-Neg.is (not_null c.args.context.now.checked.now c.args.place c.node.result c.node.ensures c.in-Some.value_type c.in-Some.ensures.some), (zero_bounded c.zero.result.range c.zero.ensures.range, c.requires.translated.ranges.bounded (c.args.place + 1) c.at-operand.result.range c.at-operand.ensures.range)))))),
)

pub value_forms::put_value-put_arithmetic-requires : goal.value_forms::put_value-put_arithmetic-requires
value_forms::put_value-put_arithmetic-requires t c =
    (omega arith, (c.requires.translated, (kind_here c.args.context.now.checked.now c.args.place c.node.result c.node.ensures (NodeKind.Binary (BinaryOperator.Arithmetic c.in-Arithmetic.arithmetic)) (c.in-Binary.is ∙ ap NodeKind.Binary c.in-Arithmetic.is), operator_computed c.args.context.now.checked.now c.requires.translated.right c.args.place c.node.result c.node.ensures c.in-Binary.operator c.in-Binary.is (not_null c.args.context.now.checked.now c.args.place c.node.result c.node.ensures c.in-Some.value_type c.in-Some.ensures.some) (λ truth. not_so c.is_kind.result c.is_kind.ensures.1 c.if-is_kind.false (kind_found c.args.context.now.checked.now c.args.place c.node.result c.node.ensures c.kind.result c.kind.ensures ∙ truth)))))

pub value_forms::put_value-put_truth-requires-in_default-operator : goal.value_forms::put_value-put_truth-requires-in_default-operator
value_forms::put_value-put_truth-requires-in_default-operator t c =
    let number = operator_computed c.args.context.now.checked.now c.requires.translated.right c.args.place c.node.result c.node.ensures c.in-Binary.operator c.in-Binary.is (not_null c.args.context.now.checked.now c.args.place c.node.result c.node.ensures c.in-Some.value_type c.in-Some.ensures.some) (λ truth. not_so c.is_kind.result c.is_kind.ensures.1 c.if-is_kind.false (kind_found c.args.context.now.checked.now c.args.place c.node.result c.node.ensures c.kind.result c.kind.ensures ∙ truth)) in
    absurd (computed_by c.args.context.now.checked.now c.requires.translated.right c.args.place c.node.result c.node.ensures c.in-Binary.operator number.0 c.in-Binary.is number.1 (λ arithmetic is. c.in_default-operator.not-Arithmetic arithmetic is))

pub value_forms::put_value-put_call-requires : goal.value_forms::put_value-put_call-requires
value_forms::put_value-put_call-requires t c =
    (omega arith, (c.requires.translated, (kind_here c.args.context.now.checked.now c.args.place c.node.result c.node.ensures (NodeKind.Call c.in-Call.function) c.in-Call.is, c.requires.plain)))
