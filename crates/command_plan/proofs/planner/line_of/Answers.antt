use Rattle.std.proofs.Common.{codes}
use Rattle.clap.specs.Words.{found_of}
use Rattle.command_plan.proofs.LineLemmas.PlanLemmas.{text_found}
use Rattle.command_plan.proofs.planner.line_of.Goals as goal

pub returns-in-Ok-rows_files-clause-values : goal.returns-in-Ok-rows_files-clause-values
returns-in-Ok-rows_files-clause-values c =
    let found = found_of c.args.matches.now in
    record {
      plan = c.in-Ok.ensures.values;
      hints = text_found found (codes "hints") c.get_str-hints.result c.get_str-hints.ensures;
      format = text_found found (codes "format") c.get_str-format.result c.get_str-format.ensures;
      rows = rw c.in-Ok.ensures.verb c.in-Ok-rows_files.ensures;
      count = rw c.in-Ok.ensures.verb c.is_counted.ensures;
      skip_faulty = rw c.in-Ok.ensures.verb c.skips_faulty.ensures;
      items = rw c.in-Ok.ensures.verb c.writes_items.ensures;
      row = rw c.in-Ok.ensures.verb c.explained_row.ensures;
      part = rw c.in-Ok.ensures.verb c.part_text.ensures;
    }
