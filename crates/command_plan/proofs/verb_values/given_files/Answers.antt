use Rattle.std.proofs.Common.{◌∙◌, sym, codes}
use Rattle.clap.specs.Words.{found_of, rows_of}
use Rattle.command_plan.proofs.LineLemmas.PlanLemmas.{files_found, files_given}
use Rattle.command_plan.proofs.verb_values.given_files.Goals as goal

pub returns-in-Filter : goal.returns-in-Filter
returns-in-Filter c =
    let found = found_of c.args.matches.now in
    files_found found (codes "rows") c.get_raw.result c.get_raw.ensures ∙ sym (files_given c.args.verb (rows_of found) c.in-Filter.is)
