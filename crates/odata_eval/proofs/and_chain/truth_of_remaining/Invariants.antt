use Rattle.std.proofs.Common.{◌≤◌, Ok}
use Rattle.odata_syntax.specs.declared.binary_operator.LogicalOperator.{LogicalOperator}
use Rattle.odata_filter_operations.specs.TruthGives.{truth_val}
use Rattle.odata_eval.specs.private.WalkAnswer.{AnswersTruth}
use Rattle.odata_meaning.specs.private.Decided.{IsDecided}
use Rattle.odata_eval.proofs.and_chain.truth_of_remaining.Given as goal

abbrev pub invariant-loop-at : goal.invariant-loop-at
invariant-loop-at l = record {
  within : l.at ≤ l.fn.remaining.ands;
  undecided : ¬ (IsDecided LogicalOperator.And (truth_val l.left));
  answers : AnswersTruth l.context l.at (Ok l.left);
}

abbrev pub decreases-loop-at : goal.decreases-loop-at
decreases-loop-at l = l.at
