-- Verdicts of the code as values, and its answers as outcomes.
use Rattle.std.specs.Prelude.{true, false, Option, Some, None, Result, Ok, Err}
use Rattle.edm_values.specs.Val.{Val, null, boolean}
use Rattle.odata_filter_operations.specs.declared.eval_fault.EvalFault.{EvalFault}
use Rattle.odata_eval.specs.declared.verdict.Verdict.{Verdict}
use Rattle.odata_filter_operations.specs.FaultView.{fault_outcome}
use Rattle.odata_filter_operations.specs.Outcome.{Outcome, gives}

abbrev pub verdict_val : Verdict → Val
verdict_val Verdict.True = boolean true
verdict_val Verdict.False = boolean false
verdict_val Verdict.Null = null

-- the outcome that an answer reports; none when out of memory
abbrev pub reported_outcome : Result Verdict EvalFault → Option Outcome
reported_outcome (Ok verdict) = Some (gives (verdict_val verdict))
reported_outcome (Err fault) = fault_outcome fault

-- so of a bounded answer; none where it says only that the bound is too low
abbrev pub outcome_reported : Result (Option Verdict) EvalFault → Option Outcome
outcome_reported (Ok (Some verdict)) = Some (gives (verdict_val verdict))
outcome_reported (Ok None) = None
outcome_reported (Err fault) = fault_outcome fault
