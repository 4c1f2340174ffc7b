use Rattle.std.proofs.Common.{refl}
use Rattle.clap.specs.declared.builder.action.ArgAction.TheVariants.{Append}
use Rattle.command_plan.proofs.LineLemmas.PlanLemmas.{option_local, option_rule}
use Rattle.command_plan.proofs.planner.repeated_option.Goals as goal

pub returns-clause-rule : goal.returns-clause-rule
returns-clause-rule c =
    option_rule c.new.result c.long.result c.value_name.result c.help.result c.action.result
    c.args.name c.args.help Append _
    c.new.ensures.rule c.long.ensures c.value_name.ensures refl c.help.ensures c.action.ensures

pub returns-clause-local : goal.returns-clause-local
returns-clause-local c =
    option_local c.new.result c.long.result c.value_name.result c.help.result c.action.result
    c.args.name c.args.help Append _
    c.new.ensures.optional.1 c.long.ensures c.value_name.ensures c.help.ensures c.action.ensures
