use Rattle.std.proofs.Common.{refl, sym, subst}
use Rattle.row_judges.specs.RowAnswer.{ReportsRow}
use Rattle.row_judges.specs.private.ValueAnswer.{answer_reported}
use Rattle.row_judges.proofs.RowLemmas.RowsInPlace.{line_reported}
use Rattle.row_judges.proofs.row_judge.RowJudge.judge_held.Goals as goal

pub answer_held-requires-clause-tests : goal.answer_held-requires-clause-tests
answer_held-requires-clause-tests c = λ some. absurd (some refl)

pub returns : goal.returns
returns c line read =
    subst (ReportsRow c.args.self.now.checked.now c.args.self.now.moment.now line) (sym c.reported.ensures) (line_reported c.args.self.now.checked.now c.args.self.now.moment.now c.args.rows.now (answer_reported c.answer_held.result) c.answer_held.ensures line read)
