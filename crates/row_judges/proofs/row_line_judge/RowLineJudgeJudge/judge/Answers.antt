use Rattle.std.proofs.Common.{IfOk, subst}
use Rattle.row_judges.specs.RowJudgment.{JudgesRow}
use Rattle.row_judges.specs.RowLineJudge.{FilterNow}
use Rattle.row_judges.proofs.RowLemmas.RowJudges.{line_judged}
use Rattle.row_judges.proofs.row_line_judge.RowLineJudgeJudge.judge.Goals as goal

pub returns-clause-said : goal.returns-clause-said
returns-clause-said c =
    let filter = c.self.inside.rows.checked.now in
    let now = c.self.inside.rows.moment.now in
    let line = c.args.line.now in
    subst (λ (f : FilterNow). IfOk c.judgment_of.result (JudgesRow f.filter f.moment line)) c.self.view_is
    (line_judged filter now line c.judge_text.result c.judgment_of.result c.judge_text.ensures c.judgment_of.ensures)
