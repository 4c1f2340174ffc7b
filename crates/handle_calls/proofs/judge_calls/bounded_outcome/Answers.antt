use Rattle.std.proofs.Common.{Option, Ok, Err, Some, refl, sym, subst}
use Rattle.odata_eval.specs.declared.verdict.Verdict.{Verdict}
use Rattle.row_judges.specs.RowCosts.{ReportsRowWithin}
use Rattle.handle_calls.specs.RowCalls.{IsOutcomeAt}
use Rattle.call_handles.specs.declared.call_fault.Fault.{Fault}
use Rattle.handle_calls.proofs.RowSteps.{bounded_row}
use Rattle.handle_calls.proofs.judge_calls.bounded_outcome.Goals as goal

pub returns-in-Some : goal.returns-in-Some
returns-in-Some c filter now row most reported =
    subst (λ (found : Option Verdict). ReportsRowWithin filter now row most (Ok found)) c.in-Some.is
    (subst (ReportsRowWithin filter now row most) c.in-Ok.is reported)

pub returns-in-None : goal.returns-in-None
returns-in-None c filter now row most reported = (
  refl,
  subst (λ (found : Option Verdict). ReportsRowWithin filter now row most (Ok found)) c.in-None.is
      (subst (ReportsRowWithin filter now row most) c.in-Ok.is reported),
)

pub returns-in-Err : goal.returns-in-Err
returns-in-Err c filter now row most reported =
    subst (λ (fault : Fault). IsOutcomeAt filter now (Some most) row (Err fault)) (sym c.row_fault.ensures)
    (bounded_row filter now row most c.in-Err.why (subst (ReportsRowWithin filter now row most) c.in-Err.is reported))
