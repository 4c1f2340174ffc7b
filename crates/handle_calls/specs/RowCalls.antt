-- The results of a judge: the verdict of a filter on a row, and the rows that the filter keeps.
use Rattle.std.specs.Prelude.{◌≡◌, ◌<◌, ◌≤◌, ℕ, IsUtf8, IsSomeAnd, Box, List, [], Option, None, Some, Result, Ok, Err}
use Rattle.std.specs.declared.alloc.Global.{Global}
use Rattle.edm_entities.specs.declared.row_fault.RowFault.{RowFault}
use Rattle.edm_values.specs.MomentLiteral.{MomentValue}
use Rattle.edm_values.specs.MomentParts.{MomentParts}
use Rattle.line_filter.specs.Kept.{Filters, Stops}
use Rattle.line_filter.specs.declared.judge.Judgment.{Judgment}
use Rattle.line_filter.specs.declared.run_stop.RunStop.{RunStop}
use Rattle.line_filter.specs.declared.tally.Tally.{Tally}
use Rattle.odata_checked_filter.specs.Calls.{UsesNow}
use Rattle.odata_checked_filter.specs.Filter.{Filter, tree_of_filter}
use Rattle.odata_eval.specs.declared.verdict.Verdict.{Verdict}
use Rattle.row_judges.specs.RowAnswer.{HasVerdict}
use Rattle.row_judges.specs.RowCosts.{RowCostIs, rows_within}
use Rattle.row_judges.specs.RowJudgment.{JudgesRow, rows_of}
use Rattle.row_judges.specs.declared.bad_row.BadRow.{BadRow}
use Rattle.row_judges.specs.declared.bounded_line_judge.BoundedFault.{BoundedFault}
use Rattle.call_handles.specs.Answers.{path_bytes}
use Rattle.call_handles.specs.Kinds.{IsFilterKind}
use Rattle.call_handles.specs.Moments.{IsMomentFor}
use Rattle.call_handles.specs.declared.call_fault.Fault.{Fault}
use Rattle.call_handles.specs.declared.handle.Handle.{Handle}
use Rattle.call_handles.specs.declared.handle.JudgeHandle.{JudgeHandle}

-- a judge of that filter, or of none, that has no moment and no bound, and was in no fault
abbrev pub IsNewJudge : Option (Box Filter Global) → Handle → Type 0
IsNewJudge own (Handle.Judge judge) =
    judge.value ≡ record { reader = tt; moment = None; bound = None; last = None; own = own }
IsNewJudge own handle = ⊥

abbrev pub IsNoMemory : Fault → Type 0
IsNoMemory Fault.Memory = Unit {0}
IsNoMemory fault = ⊥

-- a new judge of the filter that a handle is, or why there is none
abbrev pub IsJudgeOf : Handle → Handle → Type 0
IsJudgeOf (Handle.Filter filter) made =
    (own : Box Filter Global) × ((own.value ≡ filter) × IsNewJudge (Some own) made)
IsJudgeOf given made = ⊥

abbrev pub IsNoJudgeOf : Handle → Fault → Type 0
IsNoJudgeOf given Fault.OtherKind = ¬ IsFilterKind given
IsNoJudgeOf (Handle.Filter filter) Fault.Memory = Unit {0}
IsNoJudgeOf given fault = ⊥

-- the moment that a text spells, or why it spells none
abbrev pub IsMomentOf : List ℕ → Result MomentParts Fault → Type 0
IsMomentOf text (Ok now) = MomentValue text now
IsMomentOf text (Err Fault.NotUtf8) = ¬ IsUtf8 text
IsMomentOf text (Err Fault.NotAMoment) = (now : MomentParts) → ¬ MomentValue text now
IsMomentOf text (Err fault) = ⊥

-- the filter asks for a moment, and there is none
abbrev pub LacksMoment : Filter → Option MomentParts → Type 0
LacksMoment filter given = (given ≡ None) × UsesNow (tree_of_filter filter)

-- what the filter costs on the row is within the judge's bound, or above it; without a bound any cost is within
abbrev pub IsWithin : Option ℕ → Filter → MomentParts → List ℕ → Type 0
IsWithin None filter now row = Unit {0}
IsWithin (Some most) filter now row = RowCostIs filter now row (λ cost. cost ≤ most)

abbrev pub IsAbove : Option ℕ → Filter → MomentParts → List ℕ → Type 0
IsAbove None filter now row = ⊥
IsAbove (Some most) filter now row = RowCostIs filter now row (λ cost. most < cost)

-- the verdict of the filter on the row at a moment, within the bound, or why there is none; a row by itself has no
-- line, which is reported as 0
abbrev pub IsOutcomeAt : Filter → MomentParts → Option ℕ → List ℕ → Result Verdict Fault → Type 0
IsOutcomeAt filter now bound row (Ok verdict) = HasVerdict filter now row verdict × IsWithin bound filter now row
IsOutcomeAt filter now bound row (Err (Fault.Json line)) =
    (line ≡ 0) × JudgesRow filter now row (Judgment.Fault BadRow.NotJson)
IsOutcomeAt filter now bound row (Err (Fault.Row line fault)) =
    (line ≡ 0) × JudgesRow filter now row (Judgment.Fault (BadRow.NoEntity fault))
IsOutcomeAt filter now bound row (Err (Fault.Evaluation line fault)) =
    (line ≡ 0) × (JudgesRow filter now row (Judgment.Fault (BadRow.NoValue fault)) × IsWithin bound filter now row)
IsOutcomeAt filter now bound row (Err (Fault.TooCostly line)) = (line ≡ 0) × IsAbove bound filter now row
IsOutcomeAt filter now bound row (Err Fault.Memory) = Unit {0}
IsOutcomeAt filter now bound row (Err fault) = ⊥

-- that at the judge's moment; none where it lacks one
abbrev pub IsOutcomeOn : Filter → Option MomentParts → Option ℕ → List ℕ → Result Verdict Fault → Type 0
IsOutcomeOn filter given bound row (Err Fault.MomentNeeded) = LacksMoment filter given
IsOutcomeOn filter given bound row outcome =
    (now : MomentParts) × (IsMomentFor filter given now × IsOutcomeAt filter now bound row outcome)

-- the stop of a run over lines that a fault reports
abbrev pub stop_of : Fault → Option (RunStop BadRow)
stop_of (Fault.Json line) = Some (RunStop.Fault line BadRow.NotJson)
stop_of (Fault.Row line fault) = Some (RunStop.Fault line (BadRow.NoEntity fault))
stop_of (Fault.Evaluation line fault) = Some (RunStop.Fault line (BadRow.NoValue fault))
stop_of (Fault.LineTooLong line) = Some (RunStop.TooLong line)
stop_of fault = None

-- so it is within a bound, by which a line may be too costly
abbrev pub stop_within : Fault → Option (RunStop BoundedFault)
stop_within (Fault.Json line) = Some (RunStop.Fault line (BoundedFault.Row BadRow.NotJson))
stop_within (Fault.Row line fault) = Some (RunStop.Fault line (BoundedFault.Row (BadRow.NoEntity fault)))
stop_within (Fault.Evaluation line fault) = Some (RunStop.Fault line (BoundedFault.Row (BadRow.NoValue fault)))
stop_within (Fault.TooCostly line) = Some (RunStop.Fault line BoundedFault.TooCostly)
stop_within (Fault.LineTooLong line) = Some (RunStop.TooLong line)
stop_within fault = None

-- the text of the rows that the filter keeps at a moment, each within the bound if there is one, and how many; or of
-- those before the first line at fault; no text when out of memory
abbrev pub IsRunAt : Filter → MomentParts → Option ℕ → List ℕ → Result Tally Fault → List ℕ → Type 0
IsRunAt filter now bound rows (Err Fault.Memory) text = text ≡ []
IsRunAt filter now None rows (Ok tally) text = Filters (rows_of filter now rows) text tally
IsRunAt filter now None rows (Err fault) text = IsSomeAnd (stop_of fault) (Stops (rows_of filter now rows) text)
IsRunAt filter now (Some most) rows (Ok tally) text = Filters (rows_within filter now most rows) text tally
IsRunAt filter now (Some most) rows (Err fault) text =
    IsSomeAnd (stop_within fault) (Stops (rows_within filter now most rows) text)

-- that at the judge's moment; none where it lacks one
abbrev pub IsRunOver : Filter → Option MomentParts → Option ℕ → List ℕ → Result Tally Fault → List ℕ → Type 0
IsRunOver filter given bound rows (Err Fault.MomentNeeded) text = (text ≡ []) × LacksMoment filter given
IsRunOver filter given bound rows outcome text =
    (now : MomentParts) × (IsMomentFor filter given now × IsRunAt filter now bound rows outcome text)

-- what the judge stores for its path: a row's fault; where no row was judged, what it had
abbrev pub last_after : Option RowFault → Fault → Option RowFault
last_after last (Fault.Row line fault) = Some fault
last_after last Fault.MomentNeeded = last
last_after last fault = None

-- the judge stores that, and has the moment and the bound that it had
abbrev pub Keeps : JudgeHandle → JudgeHandle → Option RowFault → Type 0
Keeps old new last = new ≡ record old { last = last }

-- the path that it stores
abbrev pub path_kept : Option RowFault → List ℕ
path_kept (Some fault) = path_bytes fault
path_kept None = []
