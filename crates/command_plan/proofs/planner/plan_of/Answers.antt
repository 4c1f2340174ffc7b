use Rattle.std.proofs.Common.{◌∙◌, refl, sym, ap₂, codes}
use Rattle.std.proofs.Math.Bool.{beq}
use Rattle.clap.specs.Words.{found_of}
use Rattle.command_plan.proofs.LineLemmas.PlanLemmas.{one_found, one_found-not, text_found, text_or_empty}
use Rattle.command_plan.proofs.planner.plan_of.Goals as goal

pub returns-then-is_some-clause-values : goal.returns-then-is_some-clause-values
returns-then-is_some-clause-values c =
    one_found-not (found_of c.args.matches.now) c.get_str-filter.result c.get_str-query.result
    c.get_str-filter.ensures c.get_str-query.ensures
    (sym (ap₂ beq c.is_some.ensures c.is_some-2.ensures) ∙ c.if-is_some.true)

pub returns-clause-values : goal.returns-clause-values
returns-clause-values c =
    let found = found_of c.args.matches.now in
    let filter = c.get_str-filter.result in
    let query = c.get_str-query.result in
    record {
      exactly_one = one_found filter query
          (sym (ap₂ beq c.is_some.ensures c.is_some-2.ensures) ∙ c.if-is_some.false);
      schema = text_or_empty found (codes "schema") c.get_str.result c.unwrap_or.result _
          c.get_str.ensures c.unwrap_or.ensures refl;
      named = text_or_empty found (codes "type") c.get_str-2.result c.unwrap_or-2.result _
          c.get_str-2.ensures c.unwrap_or-2.ensures refl;
      filter = text_found found (codes "filter") filter c.get_str-filter.ensures;
      query = text_found found (codes "query") query c.get_str-query.ensures;
      rows = c.rows_file.ensures;
      now = c.moment_text.ensures;
      collection = c.is_collection.ensures;
    }
