use Rattle.std.proofs.Common.{◌∙◌, sym, codes}
use Rattle.clap.specs.Words.{found_of, rows_of}
use Rattle.command_plan.proofs.LineLemmas.PlanLemmas.{part_of_filter, text_found}
use Rattle.command_plan.proofs.verb_values.part_text.Goals as goal

pub returns-in-Filter : goal.returns-in-Filter
returns-in-Filter c =
    let found = found_of c.args.matches.now in
    rw c.in-Filter.is (text_found found (codes "part") c.get_str.result c.get_str.ensures
    ∙ sym (part_of_filter (rows_of found)))
