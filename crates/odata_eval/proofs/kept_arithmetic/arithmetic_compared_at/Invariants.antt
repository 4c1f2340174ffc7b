use Rattle.std.proofs.Common.{◌≤◌, Ok}
use Rattle.odata_eval.specs.private.WalkAnswer.{AnswersNumber}
use Rattle.odata_eval.proofs.kept_arithmetic.arithmetic_compared_at.Given as goal

abbrev pub invariant-loop-at : goal.invariant-loop-at
invariant-loop-at l = record {
  above : l.top ≤ l.at;
  within : l.at ≤ l.bottom;
  answers : AnswersNumber l.context l.at (Ok l.number);
}

abbrev pub decreases-loop-at : goal.decreases-loop-at
decreases-loop-at l = l.at
