use Rattle.report_calls.proofs.sql_calls.conditions_over.Goals as goal

pub returns-in-Ok : goal.returns-in-Ok
returns-in-Ok c = record {
  outcome = c.in-Ok.ensures.outcome;
  keep = c.in-Ok.ensures.keep;
  fault = c.in-Ok.ensures.fault;
  no_fault = c.in-Ok.ensures.no_fault;
  can_fault = c.in-Ok.ensures.can_fault;
  levels = c.in-Ok.ensures.levels;
}
