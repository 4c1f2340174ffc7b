use Rattle.std.proofs.Common.{◌∙◌}
use Rattle.row_judges.proofs.bounded_judge.BoundedJudge.judge_entity.Goals as goal

pub evaluate_within-requires-clause-covers : goal.evaluate_within-requires-clause-covers
evaluate_within-requires-clause-covers c path needed = c.requires.expansion path ∙ needed
