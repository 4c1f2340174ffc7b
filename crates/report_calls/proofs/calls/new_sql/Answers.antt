use Rattle.report_calls.proofs.calls.new_sql.Goals as goal

pub returns : goal.returns
returns c = record { outcome = c.sql_handle.result; right = c.sql_handle.ensures; gives = c.give.ensures }
