use Rattle.std.proofs.Common.{List, Err, sym, ap, subst, ◌∙◌}
use Rattle.csdl_schema.specs.ExpansionView.{StepModel, paths_in}
use Rattle.row_judges.specs.RowCosts.{ReportsRowWithin}
use Rattle.row_judges.specs.declared.bad_row.BadRow.{BadRow}
use Rattle.row_judges.proofs.RowLemmas.BoundedValues.{ReportsValueWithin}
use Rattle.row_judges.proofs.RowLemmas.CostsBut.{whole_costs}
use Rattle.row_judges.proofs.RowLemmas.RowBounds.{answer_within_row, row_within, text_within}
use Rattle.row_judges.proofs.RowLemmas.RowJudges.{fits_of_row, row_of_filter, text_reported}
use Rattle.row_judges.proofs.bounded_judge.BoundedJudge.judge_text.Goals as goal

pub judge_entity-requires : goal.judge_entity-requires
judge_entity-requires c = record {
  schema = c.in-Ok.ensures.of_type.0 ∙ c.schema-schema.ensures;
  type_id = c.in-Ok.ensures.of_type.1 ∙ c.filtered_type-type_id.ensures.same;
  expansion = λ path. ap (λ (e : List StepModel). paths_in e path) (c.in-Ok.ensures.expansion ∙ c.expansion.ensures.same);
}

pub returns-in-Ok : goal.returns-in-Ok
returns-in-Ok c =
    let filter = c.args.self.now.checked.now in
    let now = c.args.self.now.moment.now in
    let most = c.args.self.now.most in
    let read = c.in-Ok.ensures.fits in
    let row = c.in-Ok.entity in
    let fits = fits_of_row read.0 row c.schema-schema.result.now c.filtered_type-type_id.result c.expansion.result.now c.in-Ok.ensures.of_type.0 c.in-Ok.ensures.of_type.1 c.in-Ok.ensures.expansion read.2 in
    let is_row = row_of_filter filter read.0 row (c.in-Ok.ensures.of_type.0 ∙ c.schema-schema.ensures) (c.in-Ok.ensures.of_type.1 ∙ c.filtered_type-type_id.ensures.same)
    (λ path. ap (λ (e : List StepModel). paths_in e path) (c.in-Ok.ensures.expansion ∙ c.expansion.ensures.same)) fits in
    row_within filter now c.args.row.now read.0 most c.reported.result read.1
    (subst (ReportsValueWithin filter now read.0 most) (sym c.reported.ensures)
    (answer_within_row filter now read.0 row most c.judge_entity.result (whole_costs filter now read.0 row is_row) c.judge_entity.ensures.outcome c.judge_entity.ensures.bound))

pub returns-in-Err : goal.returns-in-Err
returns-in-Err c =
    let filter = c.args.self.now.checked.now in
    let now = c.args.self.now.moment.now in
    let row = c.args.row.now in
    subst (λ (bad : BadRow). ReportsRowWithin filter now row c.args.self.now.most (Err bad)) (sym c.bad_text.ensures)
    (text_within filter now row c.args.self.now.most c.in-Err.fault
    (text_reported filter now row c.in-Err.fault c.schema-schema.result.now c.filtered_type-type_id.result c.expansion.result.now
    c.schema-schema.ensures c.filtered_type-type_id.ensures.same c.expansion.ensures.same c.in-Err.ensures.fault))
