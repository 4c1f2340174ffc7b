use Rattle.std.proofs.Common.{subst, sym, take}
use Rattle.line_filter.specs.LineItems.{SaysTheSame}
use Rattle.line_filter.specs.PastFaults.{past_faults}
use Rattle.line_filter.proofs.LineLaws.Passed.{past_faults-same, past_of}
use Rattle.line_filter.proofs.past_faults.PastFaultsJudge.judge_at_front.Goals as goal

pub returns-in-Some-clause-said : goal.returns-in-Some-clause-said
returns-in-Some-clause-said g c =
    past_of (g.J.Judge.says c.args.self.now.judge) (take c.args.count c.args.bytes.now) c.in-Some.judgment c.passed_over.result c.in-Some.ensures.said c.passed_over.ensures.passed

pub returns-in-Some-clause-same : goal.returns-in-Some-clause-same
returns-in-Some-clause-same g c =
    subst (λ j. SaysTheSame (past_faults (g.J.Judge.says c.args.self.now.judge)) (past_faults (g.J.Judge.says j))) (sym c.passed_over.ensures.same)
    (past_faults-same (g.J.Judge.says c.args.self.now.judge) (g.J.Judge.says c.judge_at_front.new.self) c.judge_at_front.ensures.same)

pub returns-in-None-clause-same : goal.returns-in-None-clause-same
returns-in-None-clause-same g c =
    past_faults-same (g.J.Judge.says c.args.self.now.judge) (g.J.Judge.says c.judge_at_front.new.self) c.judge_at_front.ensures.same
