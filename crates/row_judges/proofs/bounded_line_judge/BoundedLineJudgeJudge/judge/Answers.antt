use Rattle.std.proofs.Common.{IfOk, subst}
use Rattle.row_judges.specs.RowCosts.{JudgesRowWithin}
use Rattle.row_judges.specs.private.BoundedLines.{FilterWithin}
use Rattle.row_judges.proofs.bounded_line_judge.BoundedLineJudgeJudge.judge.Goals as goal

pub returns-clause-said : goal.returns-clause-said
returns-clause-said c =
    let by = c.self.inside in
    let line = c.args.line.now in
    subst (λ (f : FilterWithin). IfOk c.judgment_within.result (JudgesRowWithin f.filter f.moment f.most line)) c.self.view_is
    (c.judgment_within.ensures by.checked.now by.moment.now line by.most c.judge_within.ensures.verdict)
