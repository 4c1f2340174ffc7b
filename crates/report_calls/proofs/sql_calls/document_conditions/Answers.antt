use Rattle.report_calls.proofs.SqlSteps.{empty_line, in_doc, in_named}
use Rattle.report_calls.proofs.sql_calls.document_conditions.Goals as goal

pub returns-then-is_empty : goal.returns-then-is_empty
returns-then-is_empty c =
    in_doc c.args.checked.now c.args.name.now c.args.dialect c.args.now.now c.conditions_over.result (empty_line c.args.name.now c.is_empty.result c.is_empty.ensures c.if-is_empty.true) c.conditions_over.ensures

pub returns : goal.returns
returns c =
    in_named c.args.checked.now c.args.name.now c.args.dialect c.args.now.now c.conditions_over-2.result c.is_empty.result c.is_empty.ensures c.if-is_empty.false c.conditions_over-2.ensures
