use Rattle.report_calls.proofs.SqlSteps.{as_handle}
use Rattle.report_calls.proofs.sql_handles.sql_handle.Goals as goal

pub returns-in-Ok : goal.returns-in-Ok
returns-in-Ok c =
    as_handle c.args.filter.now c.args.form c.args.how.now c.in-Ok.found.dialect c.in-Ok.found.conditions c.held_conditions.result c.handle_of.result c.in-Ok.ensures c.held_conditions.ensures
    c.handle_of.ensures
