use Rattle.std.proofs.Common.{◌∙◌}
use Rattle.row_judges.proofs.RowLemmas.RowJudges.{answer_of_row, row_of_filter}
use Rattle.row_judges.proofs.row_judge.RowJudge.judge_entity.Goals as goal

pub evaluate-requires-clause-covers : goal.evaluate-requires-clause-covers
evaluate-requires-clause-covers c path needed = c.requires.expansion path ∙ needed

pub returns-clause-reported : goal.returns-clause-reported
returns-clause-reported c json fits =
    let filter = c.args.self.now.checked.now in
    let row = c.args.entity.now in
    let is_row = row_of_filter filter json row c.requires.schema c.requires.type_id c.requires.expansion fits in
    answer_of_row filter c.args.self.now.moment.now json row c.evaluate.result is_row c.evaluate.ensures.outcome
