use Rattle.std.proofs.Common.{ℕ, ◌<◌, Bool, Option, Result}
use Rattle.odata_filter_operations.specs.declared.eval_fault.EvalFault.{EvalFault}
use Rattle.odata_syntax.specs.declared.binary_operator.BinaryOperator.{BinaryOperator}
use Rattle.odata_syntax.specs.declared.binary_operator.LogicalOperator.{LogicalOperator}
use Rattle.filter_context.specs.private.Place.{HasOperator, TruthStands}
use Rattle.odata_eval.specs.private.WalkAnswer.{AnswersTruth}
use Rattle.odata_eval.proofs.and_chain.ask_plain_terms.Given as goal

-- the terms before this one are true
abbrev pub invariant-loop-truth : goal.invariant-loop-truth
invariant-loop-truth l = record {
  stands : TruthStands l.context l.term;
  ands : (k : ℕ) → k < l.at → HasOperator l.context.list k (BinaryOperator.Logical LogicalOperator.And);
  goes_up : (answer : Result (Option Bool) EvalFault) → AnswersTruth l.context l.term answer → AnswersTruth l.context l.at answer;
}

abbrev pub decreases-loop-truth : goal.decreases-loop-truth
decreases-loop-truth l = l.at
