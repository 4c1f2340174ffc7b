use Rattle.std.proofs.Common.{codes, false}
use Rattle.std.proofs.lemmas.Result.{IfOk-weaker}
use Rattle.command_plan.specs.CommandLine.{text_rule}
use Rattle.command_plan.proofs.LineLemmas.PlanLemmas.{app_arg}
use Rattle.command_plan.proofs.planner.with_form.Goals as goal

pub returns : goal.returns
returns c app is =
    let with_hints = app_arg c.args.command c.in_ok-arg.field-0 c.text_option-hints.result app (text_rule (codes "hints") false)
    c.text_option-hints.ensures.rule c.text_option-hints.ensures.local c.in_ok-arg.ensures is in
    IfOk-weaker c.arg-2.result _ _
    (λ d added. app_arg c.in_ok-arg.field-0 d c.text_option-format.result _ (text_rule (codes "format") false)
    c.text_option-format.ensures.rule c.text_option-format.ensures.local added with_hints) c.arg-2.ensures
