use Rattle.std.proofs.Common.{codes, true, false}
use Rattle.clap.specs.Words.{new_app}
use Rattle.command_plan.specs.CommandLine.{text_rule}
use Rattle.command_plan.specs.private.Planner.{IsApp}
use Rattle.command_plan.proofs.LineLemmas.PlanLemmas.{app_about, app_after_help, app_arg, required_local, required_rule}
use Rattle.command_plan.proofs.planner.verb_command.Goals as goal

pub returns : goal.returns
returns c =
    let schema_rule = text_rule (codes "schema") true in
    let type_rule = text_rule (codes "type") true in
    let filter_rule = text_rule (codes "filter") false in
    let query_rule = text_rule (codes "query") false in
    let schema_is = required_rule c.text_option.result c.required-schema.result (codes "schema")
    c.text_option.ensures.rule c.required-schema.ensures in
    let type_is = required_rule c.text_option-2.result c.required-named.result (codes "type")
    c.text_option-2.ensures.rule c.required-named.ensures in
    let schema_local = required_local c.text_option.result c.required-schema.result
    c.text_option.ensures.local c.required-schema.ensures in
    let type_local = required_local c.text_option-2.result c.required-named.result
    c.text_option-2.ensures.local c.required-named.ensures in
    let start : IsApp (new_app c.args.word.now) c.new.result =
    record { whole = c.new.ensures.app; local = c.new.ensures.local } in
    let about = app_about c.new.result c.about.result _ _ c.about.ensures start in
    let ended = app_after_help c.about.result c.after_help.result _ _ c.after_help.ensures about in
    let one = app_arg c.after_help.result c.in_ok-arg.field-0 c.required-schema.result _ schema_rule
    schema_is schema_local c.in_ok-arg.ensures ended in
    let two = app_arg c.in_ok-arg.field-0 c.in_ok-arg-2.field-0 c.required-named.result _ type_rule
    type_is type_local c.in_ok-arg-2.ensures one in
    let three = app_arg c.in_ok-arg-2.field-0 c.in_ok-arg-3.field-0 c.text_option-filter.result _ filter_rule
    c.text_option-filter.ensures.rule c.text_option-filter.ensures.local c.in_ok-arg-3.ensures two in
    let four = app_arg c.in_ok-arg-3.field-0 c.in_ok-command.command c.text_option-query.result _ query_rule
    c.text_option-query.ensures.rule c.text_option-query.ensures.local c.in_ok-command.ensures three in
    c.with_form.ensures _ four
