use Rattle.std.proofs.Common.{List, sym, ap, ◌∙◌, subst}
use Rattle.csdl_schema.specs.ExpansionView.{StepModel, paths_in}
use Rattle.row_judges.specs.RowAnswer.{ReportsRow}
use Rattle.row_judges.specs.private.ValueAnswer.{answer_reported}
use Rattle.row_judges.proofs.RowLemmas.RowJudges.{row_reported}
use Rattle.row_judges.proofs.row_verdict.judge_row.Goals as goal

pub judge_entity-requires : goal.judge_entity-requires
judge_entity-requires c = record {
  schema = c.in-Some.ensures.of_type.0 ∙ c.requires.schema;
  type_id = c.in-Some.ensures.of_type.1 ∙ c.requires.type_id;
  expansion = λ path. ap (λ (steps : List StepModel). paths_in steps path) (c.in-Some.ensures.expansion ∙ c.requires.whole c.in-Some.ensures.whole);
}

pub returns-in-Some : goal.returns-in-Some
returns-in-Some c =
    let filter = c.args.checked.now in
    let now = c.args.now.now in
    let line = c.in-Some.ensures.row in
    subst (ReportsRow filter now c.args.row.now) (sym c.reported.ensures)
    (row_reported filter now c.args.row.now line.json (answer_reported c.judge_entity.result) line.is_json (c.judge_entity.ensures.reported line.json line.fits))
