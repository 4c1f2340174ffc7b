use Rattle.std.proofs.Common.{sym, subst, IfSome}
use Rattle.std.specs.Prelude.{take}
use Rattle.odata_eval.specs.TrueWhere.{AreWhole}
use Rattle.row_judges.specs.RowJudgment.{JudgesRow}
use Rattle.row_judges.specs.RowLineJudge.{FilterNow}
use Rattle.row_judges.proofs.RowLemmas.RowsInPlace.{rows_again}
use Rattle.row_judges.proofs.row_line_judge.RowLineJudgeJudge.judge_at_front.Goals as goal

pub invariant_of-self : goal.invariant_of-self
invariant_of-self c =
    (rows_again c.self.inside.rows.checked.now c.self.inside.type_rows c.read_at_front-reading.new.rows c.read_at_front-reading.ensures.same c.self.invariant.0, c.self.invariant.1)

pub judge_reading-requires-clause-rows : goal.judge_reading-requires-clause-rows
judge_reading-requires-clause-rows c =
    rows_again c.self.inside.rows.checked.now c.self.inside.type_rows c.read_at_front-reading.new.rows c.read_at_front-reading.ensures.same c.self.invariant.0

pub judge_reading-requires-clause-tests : goal.judge_reading-requires-clause-tests
judge_reading-requires-clause-tests c = subst (AreWhole c.self.inside.rows.checked.now) (sym c.as_slice.ensures.value) c.self.invariant.1

pub judge_reading-requires-clause-read : goal.judge_reading-requires-clause-read
judge_reading-requires-clause-read c = (take c.args.count c.args.bytes.now, c.read_at_front-reading.ensures.read)

pub returns-clause-said : goal.returns-clause-said
returns-clause-said c =
    let line = take c.args.count c.args.bytes.now in
    subst (λ (f : FilterNow). IfSome c.judge_reading.result (JudgesRow f.filter f.moment line)) c.self.view_is (c.judge_reading.ensures.said line c.read_at_front-reading.ensures.read)

pub returns-clause-not_blank : goal.returns-clause-not_blank
returns-clause-not_blank c = c.judge_reading.ensures.not_blank (take c.args.count c.args.bytes.now) c.read_at_front-reading.ensures.read
