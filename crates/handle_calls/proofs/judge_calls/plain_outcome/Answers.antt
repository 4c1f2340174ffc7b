use Rattle.std.proofs.Common.{Err, None, sym, subst}
use Rattle.row_judges.specs.RowAnswer.{ReportsRow}
use Rattle.handle_calls.specs.RowCalls.{IsOutcomeAt}
use Rattle.call_handles.specs.declared.call_fault.Fault.{Fault}
use Rattle.handle_calls.proofs.RowSteps.{plain_row}
use Rattle.handle_calls.proofs.judge_calls.plain_outcome.Goals as goal

pub returns-in-Ok : goal.returns-in-Ok
returns-in-Ok c filter now row reported = (subst (ReportsRow filter now row) c.in-Ok.is reported, tt)

pub returns-in-Err : goal.returns-in-Err
returns-in-Err c filter now row reported =
    subst (λ (fault : Fault). IsOutcomeAt filter now None row (Err fault)) (sym c.row_fault.ensures)
    (plain_row filter now row c.in-Err.why (subst (ReportsRow filter now row) c.in-Err.is reported))
