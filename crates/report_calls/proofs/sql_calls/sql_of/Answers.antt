use Rattle.report_calls.proofs.SqlSteps.{as_text}
use Rattle.report_calls.proofs.sql_calls.sql_of.Goals as goal

pub returns-in-Ok : goal.returns-in-Ok
returns-in-Ok c =
    as_text c.args.handle.now c.args.form c.args.how.now c.in-Ok.found.dialect c.in-Ok.found.conditions c.json_text.result c.in-Ok.ensures c.json_text.ensures
