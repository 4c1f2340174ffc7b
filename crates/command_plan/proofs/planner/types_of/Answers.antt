use Rattle.std.proofs.Common.{refl, codes}
use Rattle.clap.specs.Words.{found_of}
use Rattle.command_plan.proofs.LineLemmas.PlanLemmas.{text_found, text_or_empty}
use Rattle.command_plan.proofs.planner.types_of.Goals as goal

pub returns : goal.returns
returns c =
    let found = found_of c.args.matches.now in
    record {
      schema = text_or_empty found (codes "schema") c.get_str.result c.unwrap_or.result _ c.get_str.ensures c.unwrap_or.ensures refl;
      hints = text_found found (codes "hints") c.get_str-2.result c.get_str-2.ensures;
      format = text_found found (codes "format") c.get_str-3.result c.get_str-3.ensures;
    }
