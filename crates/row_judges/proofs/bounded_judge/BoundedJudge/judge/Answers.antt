use Rattle.std.proofs.Common.{◌≡◌, List, sym, ap, ◌∙◌, subst}
use Rattle.csdl_schema.specs.ExpansionView.{StepModel, paths_in}
use Rattle.csdl_schema.specs.PathSet.{PropertyPath}
use Rattle.row_judges.specs.RowCosts.{ReportsRowWithin}
use Rattle.row_judges.specs.private.ValueAnswer.{answer_reported}
use Rattle.row_judges.proofs.RowLemmas.CostsBut.{whole_costs}
use Rattle.row_judges.proofs.RowLemmas.RowBounds.{answer_within_row, row_within}
use Rattle.row_judges.proofs.RowLemmas.RowJudges.{row_of_filter}
use Rattle.row_judges.proofs.bounded_judge.BoundedJudge.judge.Goals as goal

pub judge_entity-requires : goal.judge_entity-requires
judge_entity-requires c = record {
  schema = c.in-Some.ensures.of_type.0 ∙ c.requires.schema;
  type_id = c.in-Some.ensures.of_type.1 ∙ c.requires.type_id;
  expansion = λ path. ap (λ (steps : List StepModel). paths_in steps path) (c.in-Some.ensures.expansion ∙ c.requires.whole c.in-Some.ensures.whole);
}

pub returns-in-Some : goal.returns-in-Some
returns-in-Some c =
    let filter = c.args.self.now.checked.now in
    let now = c.args.self.now.moment.now in
    let most = c.args.self.now.most in
    let row = c.in-Some.entity in
    let line = c.in-Some.ensures.row in
    let answer = c.judge_entity.result in
    let paths : (path : PropertyPath) → paths_in row.expansion path ≡ paths_in filter.expansion path = λ path. ap (λ (steps : List StepModel). paths_in steps path) (c.in-Some.ensures.expansion ∙ c.requires.whole c.in-Some.ensures.whole) in
    let is_row = row_of_filter filter line.json row (c.in-Some.ensures.of_type.0 ∙ c.requires.schema) (c.in-Some.ensures.of_type.1 ∙ c.requires.type_id) paths line.fits in
    subst (ReportsRowWithin filter now c.args.row.now most) (sym c.reported.ensures)
    (row_within filter now c.args.row.now line.json most (answer_reported answer) line.is_json
    (answer_within_row filter now line.json row most answer (whole_costs filter now line.json row is_row) c.judge_entity.ensures.outcome c.judge_entity.ensures.bound))
