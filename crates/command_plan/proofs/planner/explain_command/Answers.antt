use Rattle.std.proofs.Common.{codes, false}
use Rattle.std.proofs.lemmas.Result.{IfOk-weaker}
use Rattle.command_plan.specs.CommandLine.{text_rule}
use Rattle.command_plan.proofs.LineLemmas.PlanLemmas.{app_arg}
use Rattle.command_plan.proofs.planner.explain_command.Goals as goal

pub returns : goal.returns
returns c =
    let with_rows = app_arg c.in_ok-command.command c.in_ok-arg.field-0 c.text_option-rows.result _ (text_rule (codes "rows") false)
    c.text_option-rows.ensures.rule c.text_option-rows.ensures.local c.in_ok-arg.ensures c.in_ok-command.ensures in
    let with_row = app_arg c.in_ok-arg.field-0 c.in_ok-arg-2.field-0 c.text_option-row.result _ (text_rule (codes "row") false)
    c.text_option-row.ensures.rule c.text_option-row.ensures.local c.in_ok-arg-2.ensures with_rows in
    IfOk-weaker c.arg-3.result _ _
    (λ d added. app_arg c.in_ok-arg-2.field-0 d c.text_option-now.result _ (text_rule (codes "now") false)
    c.text_option-now.ensures.rule c.text_option-now.ensures.local added with_row) c.arg-3.ensures
