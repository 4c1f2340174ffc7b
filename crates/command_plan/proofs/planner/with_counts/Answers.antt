use Rattle.std.proofs.Common.{codes}
use Rattle.std.proofs.lemmas.Result.{IfOk-weaker}
use Rattle.command_plan.specs.CommandLine.{flag_rule}
use Rattle.command_plan.proofs.LineLemmas.PlanLemmas.{app_arg}
use Rattle.command_plan.proofs.planner.with_counts.Goals as goal

pub returns : goal.returns
returns c app is =
    let with_count = app_arg c.args.command c.in_ok-arg.field-0 c.flag-count.result app (flag_rule (codes "count"))
    c.flag-count.ensures.rule c.flag-count.ensures.local c.in_ok-arg.ensures is in
    IfOk-weaker c.arg-2.result _ _
    (λ d added. app_arg c.in_ok-arg.field-0 d c.flag-skip.result _ (flag_rule (codes "skip-faulty"))
    c.flag-skip.ensures.rule c.flag-skip.ensures.local added with_count) c.arg-2.ensures
