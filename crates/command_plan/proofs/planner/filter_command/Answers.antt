use Rattle.std.proofs.Common.{codes, false}
use Rattle.command_plan.specs.CommandLine.{flag_rule, repeated_rule, text_rule}
use Rattle.command_plan.proofs.LineLemmas.PlanLemmas.{app_arg}
use Rattle.command_plan.proofs.planner.filter_command.Goals as goal

pub returns : goal.returns
returns c =
    let with_rows = app_arg c.in_ok-verb_command.field-0 c.in_ok-arg.field-0 c.repeated_option-rows.result _ (repeated_rule (codes "rows"))
    c.repeated_option-rows.ensures.rule c.repeated_option-rows.ensures.local c.in_ok-arg.ensures c.in_ok-verb_command.ensures in
    let with_now = app_arg c.in_ok-arg.field-0 c.in_ok-arg-2.field-0 c.text_option-now.result _ (text_rule (codes "now") false)
    c.text_option-now.ensures.rule c.text_option-now.ensures.local c.in_ok-arg-2.ensures with_rows in
    let with_collection = app_arg c.in_ok-arg-2.field-0 c.in_ok-arg-3.field-0 c.flag-collection.result _ (flag_rule (codes "collection"))
    c.flag-collection.ensures.rule c.flag-collection.ensures.local c.in_ok-arg-3.ensures with_now in
    let with_items = app_arg c.in_ok-arg-3.field-0 c.in_ok-arg-4.field-0 c.flag-items.result _ (flag_rule (codes "items"))
    c.flag-items.ensures.rule c.flag-items.ensures.local c.in_ok-arg-4.ensures with_collection in
    let with_part = app_arg c.in_ok-arg-4.field-0 c.in_ok-command.command c.text_option-part.result _ (text_rule (codes "part") false)
    c.text_option-part.ensures.rule c.text_option-part.ensures.local c.in_ok-command.ensures with_items in
    c.with_counts.ensures _ with_part
