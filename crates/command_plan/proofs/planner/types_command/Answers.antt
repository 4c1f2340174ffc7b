use Rattle.std.proofs.Common.{codes, true}
use Rattle.clap.specs.Words.{new_app}
use Rattle.command_plan.specs.CommandLine.{text_rule}
use Rattle.command_plan.specs.private.Planner.{IsApp}
use Rattle.command_plan.proofs.LineLemmas.PlanLemmas.{app_about, app_after_help, app_arg, required_local, required_rule}
use Rattle.command_plan.proofs.planner.types_command.Goals as goal

pub returns : goal.returns
returns c =
    let schema_rule = text_rule (codes "schema") true in
    let schema_is = required_rule c.text_option.result c.required-schema.result (codes "schema")
    c.text_option.ensures.rule c.required-schema.ensures in
    let schema_local = required_local c.text_option.result c.required-schema.result
    c.text_option.ensures.local c.required-schema.ensures in
    let start : IsApp (new_app (codes "types")) c.new.result =
    record { whole = c.new.ensures.app; local = c.new.ensures.local } in
    let about = app_about c.new.result c.about.result _ _ c.about.ensures start in
    let ended = app_after_help c.about.result c.after_help.result _ _ c.after_help.ensures about in
    let one = app_arg c.after_help.result c.in_ok-command.command c.required-schema.result _ schema_rule
    schema_is schema_local c.in_ok-command.ensures ended in
    c.with_form.ensures _ one
