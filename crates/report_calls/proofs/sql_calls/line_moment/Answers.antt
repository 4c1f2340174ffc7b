use Rattle.std.proofs.Common.{◌∙◌, sym}
use Rattle.std.proofs.lemmas.Option.{none-some}
use Rattle.report_calls.proofs.SqlSteps.{empty_line, now_of_line, now_or_none}
use Rattle.report_calls.proofs.sql_calls.line_moment.Goals as goal

pub returns-then-is_empty : goal.returns-then-is_empty
returns-then-is_empty c =
    now_or_none c.args.checked.now c.args.line.now c.moment_for.result (empty_line c.args.line.now c.is_empty.result c.is_empty.ensures c.if-is_empty.true) c.moment_for.ensures.moment c.moment_for.ensures.needed
    c.moment_for.ensures.asks

pub returns-in-Some : goal.returns-in-Some
returns-in-Some c = now_of_line c.args.checked.now c.args.line.now c.in-Some.now c.is_empty.result c.is_empty.ensures c.if-is_empty.false c.in-Some.ensures.value

pub returns-in-None : goal.returns-in-None
returns-in-None c now value = none-some now (sym c.in-None.is ∙ c.read_moment.ensures.only now value)
