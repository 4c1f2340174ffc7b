use Rattle.std.proofs.Common.{◌∙◌, sym, codes}
use Rattle.clap.specs.Words.{found_of, rows_of}
use Rattle.command_plan.proofs.LineLemmas.PlanLemmas.{of_explain, text_found}
use Rattle.command_plan.proofs.verb_values.explained_row.Goals as goal

pub returns-in-Explain : goal.returns-in-Explain
returns-in-Explain c =
    let found = found_of c.args.matches.now in
    rw c.in-Explain.is (text_found found (codes "row") c.get_str.result c.get_str.ensures
    ∙ sym (of_explain (rows_of found)).1)
