use Rattle.std.proofs.Common.{sym, subst, IfSome}
use Rattle.line_filter.specs.Lines.{IsBlank}
use Rattle.edm_rows.specs.declared.type_rows.Reading.{Reading}
use Rattle.row_judges.specs.RowJudgment.{JudgesRow}
use Rattle.row_judges.specs.private.RowsInPlace.{IsRead}
use Rattle.row_judges.specs.private.ValueAnswer.{answer_reported}
use Rattle.row_judges.proofs.RowLemmas.BlankLines.{json_not_blank}
use Rattle.row_judges.proofs.RowLemmas.RowsInPlace.{answer_not_blank, answer_said, line_left_out, line_reported}
use Rattle.row_judges.proofs.row_judge.RowJudge.judge_reading.Goals as goal

pub answer_held-requires-clause-rows : goal.answer_held-requires-clause-rows
answer_held-requires-clause-rows c = c.requires.rows.names

pub answer_held-requires-clause-ready : goal.answer_held-requires-clause-ready
answer_held-requires-clause-ready c = (subst (λ (r : Reading). IsRead r c.requires.read.0 c.args.rows.now) c.in-Row.is c.requires.read.1).1

pub answer_held-requires-clause-whole : goal.answer_held-requires-clause-whole
answer_held-requires-clause-whole c = (subst (λ (r : Reading). IsRead r c.requires.read.0 c.args.rows.now) c.in-Row.is c.requires.read.1).0

pub leaves_out-requires-clause-whole : goal.leaves_out-requires-clause-whole
leaves_out-requires-clause-whole c = (subst (λ (r : Reading). IsRead r c.requires.read.0 c.args.rows.now) c.in-LeftOut.is c.requires.read.1).0

pub returns-in-Row-clause-said : goal.returns-in-Row-clause-said
returns-in-Row-clause-said c line read =
    let filter = c.args.self.now.checked.now in
    let now = c.args.self.now.moment.now in
    let row = (subst (λ (r : Reading). IsRead r line c.args.rows.now) c.in-Row.is read).2 in
    subst (λ o. IfSome o (JudgesRow filter now line)) (sym c.judgment_at_once.ensures) (answer_said filter now line c.answer_held.result (line_reported c.args.self.now.checked.now c.args.self.now.moment.now c.args.rows.now (answer_reported c.answer_held.result) c.answer_held.ensures line row))

pub returns-in-Row-clause-not_blank : goal.returns-in-Row-clause-not_blank
returns-in-Row-clause-not_blank c line read =
    let row = (subst (λ (r : Reading). IsRead r line c.args.rows.now) c.in-Row.is read).2 in
    subst (λ o. IfSome o (λ judgment. ¬ IsBlank line)) (sym c.judgment_at_once.ensures)
    (answer_not_blank c.args.self.now.checked.now c.args.self.now.moment.now line c.answer_held.result (line_reported c.args.self.now.checked.now c.args.self.now.moment.now c.args.rows.now (answer_reported c.answer_held.result) c.answer_held.ensures line row))

pub returns-in-LeftOut-clause-said : goal.returns-in-LeftOut-clause-said
returns-in-LeftOut-clause-said c line read = line_left_out c.args.self.now.checked.now c.args.self.now.moment.now c.args.rows.now c.leaves_out.ensures line (subst (λ (r : Reading). IsRead r line c.args.rows.now) c.in-LeftOut.is read).1

pub returns-in-LeftOut-clause-not_blank : goal.returns-in-LeftOut-clause-not_blank
returns-in-LeftOut-clause-not_blank c line read =
    let said = line_left_out c.args.self.now.checked.now c.args.self.now.moment.now c.args.rows.now c.leaves_out.ensures line (subst (λ (r : Reading). IsRead r line c.args.rows.now) c.in-LeftOut.is read).1 in
    json_not_blank line said.json said.is_json
