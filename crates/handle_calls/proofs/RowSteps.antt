-- What holds at the moment for a filter, as what holds of the filter's handle and the judge.
use Rattle.std.proofs.Common.{◌≡◌, ℕ, List, [], ◌++◌, Result, Ok, Err, Option, None, Some, refl, subst, sym}
use Rattle.std.specs.Prelude.{Bool, true, false, IsFalse, IsSomeAnd, if◌then◌else◌}
use Rattle.edm_values.specs.MomentParts.{MomentParts}
use Rattle.line_filter.specs.Growth.{Grows}
use Rattle.line_filter.specs.Kept.{Stops}
use Rattle.line_filter.specs.declared.judge.Judgment.{Judgment}
use Rattle.line_filter.specs.declared.run_stop.RunStop.{RunStop}
use Rattle.line_filter.specs.declared.tally.Tally.{Tally}
use Rattle.odata_checked_filter.specs.Filter.{Filter}
use Rattle.odata_eval.specs.declared.verdict.Verdict.{Verdict}
use Rattle.row_judges.specs.RowAnswer.{ReportsRow, is_memory}
use Rattle.row_judges.specs.RowCosts.{ReportsRowWithin, rows_within}
use Rattle.row_judges.specs.RowJudgment.{JudgesRow}
use Rattle.row_judges.specs.declared.bad_row.BadRow.{BadRow}
use Rattle.row_judges.specs.declared.bounded_line_judge.BoundedFault.{BoundedFault}
use Rattle.handle_calls.specs.RowCalls.{IsOutcomeAt, IsOutcomeOn, IsRunAt, IsRunOver, stop_within}
use Rattle.call_handles.specs.Moments.{IsMomentFor}
use Rattle.handle_calls.specs.private.JudgeCalls.{fault_at_no_line, row_fault}
use Rattle.call_handles.specs.declared.call_fault.Fault.{Fault}

-- what is said at the moment that was taken, of the filter as it was put together
pub at_moment : (P : Filter → MomentParts → Type 0) (checked filter : Filter) (given : Option MomentParts) (now : MomentParts)
    → checked ≡ filter → IsMomentFor checked given now → P checked now → (x : MomentParts) × (IsMomentFor filter given x × P filter x)
at_moment P checked filter given now same moment reported =
    (now, (subst (λ (f : Filter). IsMomentFor f given now) same moment, subst (λ (f : Filter). P f now) same reported))

-- a run at that moment is one over the rows
pub run_there : (filter : Filter) (given : Option MomentParts) (bound : Option ℕ) (rows : List ℕ) (outcome : Result Tally Fault) (text : List ℕ)
    → (now : MomentParts) × (IsMomentFor filter given now × IsRunAt filter now bound rows outcome text) → IsRunOver filter given bound rows outcome text
run_there filter given bound rows (Ok tally) text run = run
run_there filter given None rows (Err Fault.MomentNeeded) text run = absurd run.1.1
run_there filter given (Some most) rows (Err Fault.MomentNeeded) text run = absurd run.1.1
run_there filter given bound rows (Err Fault.OtherKind) text run = run
run_there filter given bound rows (Err Fault.NotUtf8) text run = run
run_there filter given bound rows (Err Fault.Memory) text run = run
run_there filter given bound rows (Err Fault.UnknownType) text run = run
run_there filter given bound rows (Err Fault.NoFilter) text run = run
run_there filter given bound rows (Err Fault.NotAMoment) text run = run
run_there filter given bound rows (Err Fault.UnknownNumber) text run = run
run_there filter given bound rows (Err (Fault.TooSmall wanted)) text run = run
run_there filter given bound rows (Err (Fault.Schema why)) text run = run
run_there filter given bound rows (Err (Fault.Refused why)) text run = run
run_there filter given bound rows (Err (Fault.Query why)) text run = run
run_there filter given bound rows (Err (Fault.Whole why)) text run = run
run_there filter given bound rows (Err (Fault.Json line)) text run = run
run_there filter given bound rows (Err (Fault.Row line why)) text run = run
run_there filter given bound rows (Err (Fault.Evaluation line why)) text run = run
run_there filter given bound rows (Err (Fault.LineTooLong line)) text run = run
run_there filter given bound rows (Err (Fault.TooCostly line)) text run = run
run_there filter given bound rows (Err Fault.Unsayable) text run = run
run_there filter given bound rows (Err Fault.TooDeep) text run = run
run_there filter given bound rows (Err Fault.UnknownColumn) text run = run

-- an outcome at that moment is one on the row
pub outcome_there : (filter : Filter) (given : Option MomentParts) (bound : Option ℕ) (row : List ℕ) (outcome : Result Verdict Fault)
    → (now : MomentParts) × (IsMomentFor filter given now × IsOutcomeAt filter now bound row outcome)
    → IsOutcomeOn filter given bound row outcome
outcome_there filter given bound row (Ok verdict) there = there
outcome_there filter given bound row (Err Fault.MomentNeeded) there = absurd there.1.1
outcome_there filter given bound row (Err Fault.OtherKind) there = there
outcome_there filter given bound row (Err Fault.NotUtf8) there = there
outcome_there filter given bound row (Err Fault.Memory) there = there
outcome_there filter given bound row (Err Fault.UnknownType) there = there
outcome_there filter given bound row (Err Fault.NoFilter) there = there
outcome_there filter given bound row (Err Fault.NotAMoment) there = there
outcome_there filter given bound row (Err Fault.UnknownNumber) there = there
outcome_there filter given bound row (Err (Fault.TooSmall wanted)) there = there
outcome_there filter given bound row (Err (Fault.Schema why)) there = there
outcome_there filter given bound row (Err (Fault.Refused why)) there = there
outcome_there filter given bound row (Err (Fault.Query why)) there = there
outcome_there filter given bound row (Err (Fault.Whole why)) there = there
outcome_there filter given bound row (Err (Fault.Json line)) there = there
outcome_there filter given bound row (Err (Fault.Row line why)) there = there
outcome_there filter given bound row (Err (Fault.Evaluation line why)) there = there
outcome_there filter given bound row (Err (Fault.LineTooLong line)) there = there
outcome_there filter given bound row (Err (Fault.TooCostly line)) there = there
outcome_there filter given bound row (Err Fault.Unsayable) there = there
outcome_there filter given bound row (Err Fault.TooDeep) there = there
outcome_there filter given bound row (Err Fault.UnknownColumn) there = there

-- what is reported about a row without a bound, and within one: nothing where memory ran out
by_memory : (Says : Fault → Type 0) (why : BadRow) → Says Fault.Memory → (IsFalse (is_memory why) → Says (fault_at_no_line why)) → Says (row_fault why)
by_memory Says why of_memory known = by (is_memory why) refl
  where
    by : (b : Bool) → is_memory why ≡ b → Says (if b then Fault.Memory else fault_at_no_line why)
    by true is = of_memory
    by false is = known is

pub plain_row : (filter : Filter) (now : MomentParts) (row : List ℕ) (why : BadRow) → ReportsRow filter now row (Err why)
    → IsOutcomeAt filter now None row (Err (row_fault why))
plain_row filter now row why reported = by_memory (λ fault. IsOutcomeAt filter now None row (Err fault)) why tt (λ known. by why (reported known))
  where
    by : (bad : BadRow) → JudgesRow filter now row (Judgment.Fault bad) → IsOutcomeAt filter now None row (Err (fault_at_no_line bad))
    by BadRow.NotJson judges = (refl, judges)
    by (BadRow.NoEntity fault) judges = (refl, judges)
    by (BadRow.NoValue fault) judges = (refl, (judges, tt))

pub bounded_row : (filter : Filter) (now : MomentParts) (row : List ℕ) (most : ℕ) (why : BadRow)
    → ReportsRowWithin filter now row most (Err why) → IsOutcomeAt filter now (Some most) row (Err (row_fault why))
bounded_row filter now row most why reported = by_memory (λ fault. IsOutcomeAt filter now (Some most) row (Err fault)) why tt (by why reported)
  where
    by : (bad : BadRow) → ReportsRowWithin filter now row most (Err bad) → IsFalse (is_memory bad) → IsOutcomeAt filter now (Some most) row (Err (fault_at_no_line bad))
    by BadRow.NotJson judges known = (refl, judges known)
    by (BadRow.NoEntity fault) judges known = (refl, judges known)
    by (BadRow.NoValue fault) judges known = (refl, judges known)

-- ---- lines within a bound

-- a text that grew from nothing
pub from_nothing : (old new : List ℕ) (P : List ℕ → Type 0) → old ≡ [] → Grows old new P → P new
from_nothing old new P none (text, is, holds) = subst P (sym (subst (λ (o : List ℕ). new ≡ o ++ text) none is)) holds

-- a run that stopped at a line
stopped_so : (filter : Filter) (now : MomentParts) (most : ℕ) (rows text : List ℕ) (fault : Fault) (line : ℕ) (why : BoundedFault) → stop_within fault ≡ Some (RunStop.Fault line why)
    → IsSomeAnd (stop_within fault) (Stops (rows_within filter now most rows) text) → IsRunAt filter now (Some most) rows (Err fault) text
stopped_so filter now most rows text Fault.Memory line why is stops = absurd stops
stopped_so filter now most rows text _ line why is stops = stops

pub stopped_within : (filter : Filter) (now : MomentParts) (most : ℕ) (rows text : List ℕ) (fault : Fault) (line : ℕ) (why : BoundedFault) → stop_within fault ≡ Some (RunStop.Fault line why)
    → Stops (rows_within filter now most rows) text (RunStop.Fault line why) → IsRunAt filter now (Some most) rows (Err fault) text
stopped_within filter now most rows text fault line why is stops =
    stopped_so filter now most rows text fault line why is (subst (λ (o : Option (RunStop BoundedFault)). IsSomeAnd o (Stops (rows_within filter now most rows) text)) (sym is) stops)
