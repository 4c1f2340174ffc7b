use Rattle.report_calls.proofs.SqlSteps.{of_filter}
use Rattle.report_calls.proofs.sql_calls.conditions_of.Goals as goal

pub returns-in-Ok : goal.returns-in-Ok
returns-in-Ok c =
    of_filter c.args.handle.now c.in-Filter.held c.checked-checked.result c.args.form c.args.how.now c.in-Ok.how.now c.conditions_by.result c.in-Filter.is c.checked-checked.ensures c.in-Ok.ensures.cases.0 c.conditions_by.ensures
