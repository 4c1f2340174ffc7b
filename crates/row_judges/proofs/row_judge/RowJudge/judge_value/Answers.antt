use Rattle.std.proofs.Common.{List, sym, ap, subst, ◌∙◌}
use Rattle.csdl_schema.specs.ExpansionView.{StepModel, paths_in}
use Rattle.serde_json.specs.View.{view}
use Rattle.row_judges.specs.private.ValueAnswer.{ReportsValue}
use Rattle.row_judges.proofs.RowLemmas.RowJudges.{fault_of_json, fits_of_row}
use Rattle.row_judges.proofs.row_judge.RowJudge.judge_value.Goals as goal

pub judge_entity-requires : goal.judge_entity-requires
judge_entity-requires c = record {
  schema = c.in-Ok.ensures.of_type.0 ∙ c.schema-schema.ensures;
  type_id = c.in-Ok.ensures.of_type.1 ∙ c.filtered_type-type_id.ensures.same;
  expansion = λ path. ap (λ (e : List StepModel). paths_in e path) (c.in-Ok.ensures.expansion ∙ c.expansion.ensures.same);
}

pub returns-in-Ok : goal.returns-in-Ok
returns-in-Ok c =
    subst (ReportsValue c.args.self.now.checked.now c.args.self.now.moment.now (view c.args.json.now)) (sym c.reported.ensures)
    (c.judge_entity.ensures.reported (view c.args.json.now)
    (fits_of_row (view c.args.json.now) c.in-Ok.entity c.schema-schema.result.now c.filtered_type-type_id.result c.expansion.result.now c.in-Ok.ensures.of_type.0 c.in-Ok.ensures.of_type.1 c.in-Ok.ensures.expansion
    c.in-Ok.ensures.fits))

pub returns-in-Err : goal.returns-in-Err
returns-in-Err c =
    fault_of_json c.args.self.now.checked.now c.args.self.now.moment.now (view c.args.json.now) c.in-Err.fault c.schema-schema.result.now c.filtered_type-type_id.result c.expansion.result.now
    c.schema-schema.ensures c.filtered_type-type_id.ensures.same c.expansion.ensures.same c.in-Err.ensures.first_fault
