use Rattle.std.proofs.Common.{◌≤◌, ◌-◌}
use Rattle.filter_context.specs.private.ContextModel.{IsBeside}
use Rattle.odata_eval.specs.private.Spending.{CountedDatum, CountedNumber, CountedTruth, SpendsAt, Takes, datum_stop, stopped_by}
use Rattle.odata_eval.proofs.spending.Members.{MembersPaid}
use Rattle.odata_eval.proofs.walking.ItemSteps.{ListLeft}
use Rattle.odata_eval.proofs.walking.MembersAsked.{MembersLeft}
use Rattle.odata_eval.proofs.walking.Measures.{measure_at, rank_counted, rank_eager, rank_made_number, rank_made_truth, rank_number_operand, rank_numbers, rank_operand, rank_plain, rank_rest, rank_step, rank_test, rank_truth}
use Rattle.odata_eval.proofs.+evaluate.Given as goal

abbrev pub decreases-number_walk::number_operand_at : goal.decreases-number_walk::number_operand_at
decreases-number_walk::number_operand_at g l = measure_at l.context.now.list.nodes l.place rank_number_operand

abbrev pub decreases-number_walk::made_number_at : goal.decreases-number_walk::made_number_at
decreases-number_walk::made_number_at g l = measure_at l.context.now.list.nodes l.place rank_made_number

abbrev pub decreases-datum_walk::likely_stored_at : goal.decreases-datum_walk::likely_stored_at
decreases-datum_walk::likely_stored_at g l = measure_at l.context.now.list.nodes l.place rank_operand

abbrev pub decreases-datum_walk::counted_at : goal.decreases-datum_walk::counted_at
decreases-datum_walk::counted_at g l = measure_at l.context.now.list.nodes l.place rank_counted

abbrev pub decreases-truth_walk::side_at : goal.decreases-truth_walk::side_at
decreases-truth_walk::side_at g l = measure_at l.context.now.list.nodes l.place rank_counted

abbrev pub decreases-truth_walk::truth_at : goal.decreases-truth_walk::truth_at
decreases-truth_walk::truth_at g l = measure_at l.context.now.list.nodes l.place rank_truth

abbrev pub decreases-truth_walk::plain_truth_at : goal.decreases-truth_walk::plain_truth_at
decreases-truth_walk::plain_truth_at g l = measure_at l.context.now.list.nodes l.place rank_plain

abbrev pub decreases-truth_walk::numbers_truth_at : goal.decreases-truth_walk::numbers_truth_at
decreases-truth_walk::numbers_truth_at g l = measure_at l.context.now.list.nodes l.place rank_numbers

abbrev pub decreases-truth_walk::compared_truth_at : goal.decreases-truth_walk::compared_truth_at
decreases-truth_walk::compared_truth_at g l = measure_at l.context.now.list.nodes l.place rank_test

abbrev pub decreases-truth_walk::called_truth_at : goal.decreases-truth_walk::called_truth_at
decreases-truth_walk::called_truth_at g l = measure_at l.context.now.list.nodes l.place rank_test

abbrev pub decreases-truth_walk::numeric_truth_at : goal.decreases-truth_walk::numeric_truth_at
decreases-truth_walk::numeric_truth_at g l = measure_at l.context.now.list.nodes l.place rank_test

abbrev pub decreases-truth_walk::made_truth_at : goal.decreases-truth_walk::made_truth_at
decreases-truth_walk::made_truth_at g l = measure_at l.context.now.list.nodes l.place rank_made_truth

abbrev pub decreases-number_walk::number_at : goal.decreases-number_walk::number_at
decreases-number_walk::number_at g l = measure_at l.context.now.list.nodes l.place rank_numbers

abbrev pub decreases-datum_walk::eager_at : goal.decreases-datum_walk::eager_at
decreases-datum_walk::eager_at g l = measure_at l.context.now.list.nodes l.place rank_eager

abbrev pub decreases-truth_walk::logical_at : goal.decreases-truth_walk::logical_at
decreases-truth_walk::logical_at g l = measure_at l.context.now.list.nodes l.place rank_step

abbrev pub decreases-datum_walk::made_at : goal.decreases-datum_walk::made_at
decreases-datum_walk::made_at g l = measure_at l.context.now.list.nodes l.place rank_step

abbrev pub decreases-number_walk::numeric_at : goal.decreases-number_walk::numeric_at
decreases-number_walk::numeric_at g l = measure_at l.context.now.list.nodes l.place rank_step

abbrev pub decreases-number_walk::calculated_at : goal.decreases-number_walk::calculated_at
decreases-number_walk::calculated_at g l = measure_at l.context.now.list.nodes l.place rank_rest

abbrev pub decreases-datum_walk::compared_at : goal.decreases-datum_walk::compared_at
decreases-datum_walk::compared_at g l = measure_at l.context.now.list.nodes l.place rank_rest

abbrev pub decreases-datum_walk::called_at : goal.decreases-datum_walk::called_at
decreases-datum_walk::called_at g l = measure_at l.context.now.list.nodes l.place rank_rest

abbrev pub decreases-collection_walk::flags_at : goal.decreases-collection_walk::flags_at
decreases-collection_walk::flags_at g l = measure_at l.context.now.list.nodes l.place rank_rest

abbrev pub decreases-collection_walk::among_at : goal.decreases-collection_walk::among_at
decreases-collection_walk::among_at g l = measure_at l.context.now.list.nodes l.place rank_rest

abbrev pub decreases-collection_walk::listed_at : goal.decreases-collection_walk::listed_at
decreases-collection_walk::listed_at g l = measure_at l.context.now.list.nodes l.place rank_rest

abbrev pub decreases-truth_walk::connected_at : goal.decreases-truth_walk::connected_at
decreases-truth_walk::connected_at g l = measure_at l.context.now.list.nodes l.place rank_rest

abbrev pub decreases-lambda_walk::lambda_at : goal.decreases-lambda_walk::lambda_at
decreases-lambda_walk::lambda_at g l = measure_at l.context.now.list.nodes l.place rank_rest

abbrev pub decreases-lambda_walk::members_at : goal.decreases-lambda_walk::members_at
decreases-lambda_walk::members_at g l = measure_at l.context.now.list.nodes l.body.place rank_operand

abbrev pub invariant-truth_walk::truth_at-loop-at : goal.invariant-truth_walk::truth_at-loop-at
invariant-truth_walk::truth_at-loop-at g l = record {
  above : l.place ≤ l.at;
  within : l.at ≤ l.bottom;
  answers : CountedTruth l.context l.at l.answer;
  spent : SpendsAt l.context l.at (g.B.Counting.left l.fn.budget) (g.B.Counting.left l.budget) (stopped_by l.answer);
}

abbrev pub decreases-truth_walk::truth_at-loop-at : goal.decreases-truth_walk::truth_at-loop-at
decreases-truth_walk::truth_at-loop-at g l = l.at

abbrev pub invariant-number_walk::number_at-loop-at : goal.invariant-number_walk::number_at-loop-at
invariant-number_walk::number_at-loop-at g l = record {
  above : l.place ≤ l.at;
  within : l.at ≤ l.bottom;
  answers : CountedNumber l.context l.at l.answer;
  spent : SpendsAt l.context l.at (g.B.Counting.left l.fn.budget) (g.B.Counting.left l.budget) (stopped_by l.answer);
}

abbrev pub decreases-number_walk::number_at-loop-at : goal.decreases-number_walk::number_at-loop-at
decreases-number_walk::number_at-loop-at g l = l.at

abbrev pub invariant-datum_walk::eager_at-loop-at : goal.invariant-datum_walk::eager_at-loop-at
invariant-datum_walk::eager_at-loop-at g l = record {
  above : l.place ≤ l.at;
  within : l.at ≤ l.bottom;
  answers : CountedDatum l.context l.at l.answer;
  spent : SpendsAt l.context l.at (g.B.Counting.left l.fn.budget) (g.B.Counting.left l.budget) (datum_stop l.answer);
}

abbrev pub decreases-datum_walk::eager_at-loop-at : goal.decreases-datum_walk::eager_at-loop-at
decreases-datum_walk::eager_at-loop-at g l = l.at

-- the items before the index are none that is equal
abbrev pub invariant-collection_walk::listed_at-loop-at : goal.invariant-collection_walk::listed_at-loop-at
invariant-collection_walk::listed_at-loop-at g l = ListLeft l.context l.place l.own_stop l.at (Takes (g.B.Counting.left l.fn.budget) (g.B.Counting.left l.budget)) l.left

abbrev pub decreases-collection_walk::listed_at-loop-at : goal.decreases-collection_walk::listed_at-loop-at
decreases-collection_walk::listed_at-loop-at g l = l.own_stop - l.at

-- the members before the index are all undecided
abbrev pub invariant-lambda_walk::members_at-loop-at : goal.invariant-lambda_walk::members_at-loop-at
invariant-lambda_walk::members_at-loop-at g l = record {
  left : MembersLeft l.context l.body.place l.body.quantifier l.variable l.members l.at;
  paid : MembersPaid l.context l.body.place l.body.quantifier l.variable l.members l.at (g.B.Counting.left l.fn.budget) (g.B.Counting.left l.budget);
  beside : IsBeside l.bound l.context;
}
