use Rattle.std.proofs.Common.{◌∙◌, sym, codes}
use Rattle.clap.specs.Words.{found_of, rows_of}
use Rattle.command_plan.proofs.LineLemmas.PlanLemmas.{rows_given, text_found}
use Rattle.command_plan.proofs.verb_values.rows_file.Goals as goal

pub returns-in-Filter : goal.returns-in-Filter
returns-in-Filter c =
    let found = found_of c.args.matches.now in
    text_found found (codes "rows") c.get_str.result c.get_str.ensures ∙ sym (rows_given c.args.verb (rows_of found) c.in-Filter.is)
