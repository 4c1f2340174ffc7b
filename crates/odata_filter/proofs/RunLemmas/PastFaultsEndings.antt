-- How a run past faults ends.
use Rattle.std.proofs.Common.{◌≡◌, ℕ, List, Option, Some, None, inr, refl, subst, sym}
use Rattle.std.specs.Prelude.{IsSomeAnd}
use Rattle.edm_values.specs.MomentParts.{MomentParts}
use Rattle.command_plan.specs.declared.command_line.Plan.{Plan}
use Rattle.line_filter.specs.Kept.{LineClass, Stops}
use Rattle.line_filter.specs.LineItems.{lines}
use Rattle.line_filter.specs.PastFaults.{past_faults}
use Rattle.line_filter.specs.declared.judge.Judgment.{Judgment}
use Rattle.line_filter.specs.declared.run_stop.RunStop.{RunStop}
use Rattle.odata_checked_filter.specs.Filter.{Filter}
use Rattle.odata_filter.specs.FailureStatus.{status_of}
use Rattle.odata_filter.specs.Run.{IsReady, LacksMoment, OverRows, StopsAtFault, Streams, WroteNothing}
use Rattle.filter_runs.specs.RunStops.{StopsBy, run_stop}
use Rattle.odata_filter.specs.RunsPastFaults.{FailsPastFaults, StopsPastFaults}
use Rattle.odata_filter.specs.declared.command.failure.Failure.{Failure}
use Rattle.filter_runs.specs.declared.run_fault.RunFault.{RunFault}
use Rattle.filter_runs.specs.declared.run_fault.RunFault.TheVariants.{Json, Row, Arithmetic, LineTooLong, NotACollection, Read, Write, Memory}
use Rattle.odata_filter.specs.private.RunFailures.{EndsOver, status_of_end}
use Rattle.odata_filter.proofs.RunLemmas.RowEndings.{over_from}
use Rattle.row_judges.specs.RowJudgment.{JudgesRow}
use Rattle.row_judges.specs.declared.bad_row.BadRow.{BadRow}

-- the plan lacks the moment
pub lacks_moment_past : (plan : Plan) (document : List ℕ) (failure : Failure) (s : Streams)
    → failure ≡ Failure.NoMoment → LacksMoment plan document → WroteNothing s → FailsPastFaults (status_of failure) plan document s
lacks_moment_past plan document failure s is lacks wrote =
    subst (λ (f : Failure). FailsPastFaults (status_of f) plan document s) (sym is) (inr (inr lacks), wrote)

module _ (plan : Plan) (document : List ℕ) (filter : Filter) (now : MomentParts) (is_ready : IsReady plan document filter now) (s : Streams) where
  abbrev SaysPastFaults : List ℕ → List ℕ → RunFault → Type 0
  SaysPastFaults bytes text fault = StopsBy (lines (past_faults (JudgesRow filter now)) bytes) text fault

  abbrev StopsThere : List ℕ → List ℕ → Type 0
  StopsThere bytes text = StopsAtFault (List ℕ) (lines (past_faults (JudgesRow filter now)) bytes) text

  stops_past : (fault : RunFault) → ((bytes text : List ℕ) → SaysPastFaults bytes text fault → StopsThere bytes text)
      → OverRows s (λ bytes text. SaysPastFaults bytes text fault) → StopsPastFaults plan document s
  stops_past fault at held = record {
    filter = filter;
    now = now;
    is_ready = is_ready;
    written = over_from s.rows s.old s.new (λ bytes text. SaysPastFaults bytes text fault) StopsThere at held;
  }

  -- some row is at fault
  row_at_fault : (fault : RunFault) (line : ℕ) (bad : BadRow) → run_stop fault ≡ Some (RunStop.Fault line bad)
      → OverRows s (λ bytes text. SaysPastFaults bytes text fault) → StopsPastFaults plan document s
  row_at_fault fault line bad reported held =
      stops_past fault
      (λ bytes text stops. (line, LineClass.judged (Judgment.Fault bad), (λ sound. sound), subst (λ t. IsSomeAnd t (Stops (lines (past_faults (JudgesRow filter now)) bytes) text)) reported stops)) held

  pub fails_past : (end : Option RunFault) → EndsOver SaysPastFaults end s → FailsPastFaults (status_of_end end) plan document s
  fails_past None held = (filter, now, is_ready)
  fails_past (Some (Json line)) held = row_at_fault (Json line) line BadRow.NotJson refl held
  fails_past (Some (Row line fault)) held = row_at_fault (Row line fault) line (BadRow.NoEntity fault) refl held
  fails_past (Some (Arithmetic line fault)) held = row_at_fault (Arithmetic line fault) line (BadRow.NoValue fault) refl held
  fails_past (Some (LineTooLong line)) held = stops_past (LineTooLong line) (λ bytes text stops. (line, LineClass.too_long, (λ sound. sound), stops)) held
  fails_past (Some NotACollection) held = stops_past NotACollection (λ bytes text stops. absurd stops) held
  fails_past (Some (Read line)) held = (filter, now, is_ready)
  fails_past (Some Write) held = (filter, now, is_ready)
  fails_past (Some (Memory line)) held = tt
