use Rattle.std.proofs.Common.{List, Err, Result, sym, ap, subst, ◌∙◌}
use Rattle.csdl_schema.specs.ExpansionView.{StepModel, paths_in}
use Rattle.odata_eval.specs.declared.verdict.Verdict.{Verdict}
use Rattle.row_judges.specs.RowAnswer.{ReportsRow}
use Rattle.row_judges.specs.declared.bad_row.BadRow.{BadRow}
use Rattle.row_judges.specs.private.ValueAnswer.{ReportsValue}
use Rattle.row_judges.proofs.RowLemmas.RowJudges.{fits_of_row, row_reported, text_reported}
use Rattle.row_judges.proofs.row_judge.RowJudge.judge_text.Goals as goal

pub judge_entity-requires : goal.judge_entity-requires
judge_entity-requires c = record {
  schema = c.in-Ok.ensures.of_type.0 ∙ c.schema-schema.ensures;
  type_id = c.in-Ok.ensures.of_type.1 ∙ c.filtered_type-type_id.ensures.same;
  expansion = λ path. ap (λ (e : List StepModel). paths_in e path) (c.in-Ok.ensures.expansion ∙ c.expansion.ensures.same);
}

pub returns-in-Ok : goal.returns-in-Ok
returns-in-Ok c =
    let filter = c.args.self.now.checked.now in
    let now = c.args.self.now.moment.now in
    let read = c.in-Ok.ensures.fits in
    row_reported filter now c.args.row.now read.0 c.reported.result read.1
    (subst (ReportsValue filter now read.0) (sym c.reported.ensures)
    (c.judge_entity.ensures.reported read.0
    (fits_of_row read.0 c.in-Ok.entity c.schema-schema.result.now c.filtered_type-type_id.result c.expansion.result.now c.in-Ok.ensures.of_type.0 c.in-Ok.ensures.of_type.1 c.in-Ok.ensures.expansion read.2)))

pub returns-in-Err : goal.returns-in-Err
returns-in-Err c =
    let filter = c.args.self.now.checked.now in
    let now = c.args.self.now.moment.now in
    subst (λ (bad : BadRow). ReportsRow filter now c.args.row.now (Err bad)) (sym c.bad_text.ensures)
    (text_reported filter now c.args.row.now c.in-Err.fault c.schema-schema.result.now c.filtered_type-type_id.result c.expansion.result.now
    c.schema-schema.ensures c.filtered_type-type_id.ensures.same c.expansion.ensures.same c.in-Err.ensures.fault)
