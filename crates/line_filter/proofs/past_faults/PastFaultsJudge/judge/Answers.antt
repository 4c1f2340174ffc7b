use Rattle.std.proofs.Common.{subst, sym}
use Rattle.line_filter.specs.LineItems.{SaysTheSame}
use Rattle.line_filter.specs.PastFaults.{past_faults}
use Rattle.line_filter.proofs.LineLaws.Passed.{past_faults-same, past_of}
use Rattle.line_filter.proofs.past_faults.PastFaultsJudge.judge.Goals as goal

pub returns-in-Ok-clause-said : goal.returns-in-Ok-clause-said
returns-in-Ok-clause-said g c =
    past_of (g.J.Judge.says c.args.self.now.judge) c.args.line.now c.in-Ok.judgment c.passed_over.result c.in-Ok.ensures.said c.passed_over.ensures.passed

pub returns-in-Ok-clause-same : goal.returns-in-Ok-clause-same
returns-in-Ok-clause-same g c =
    subst (λ j. SaysTheSame (past_faults (g.J.Judge.says c.args.self.now.judge)) (past_faults (g.J.Judge.says j))) (sym c.passed_over.ensures.same)
    (past_faults-same (g.J.Judge.says c.args.self.now.judge) (g.J.Judge.says c.judge.new.self) c.judge.ensures.same)

pub returns-in-Err-clause-same : goal.returns-in-Err-clause-same
returns-in-Err-clause-same g c =
    past_faults-same (g.J.Judge.says c.args.self.now.judge) (g.J.Judge.says c.judge.new.self) c.judge.ensures.same
