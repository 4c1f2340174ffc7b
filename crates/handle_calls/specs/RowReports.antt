-- What each call about rows reports of what it borrows.
use Rattle.std.specs.Prelude.{◌≡◌, ◌⊎◌, ℕ, Box, List, length, Option, None, Some, Result, Ok, Err}
use Rattle.std.specs.declared.alloc.Global.{Global}
use Rattle.edm_entities.specs.declared.row_fault.RowFault.{RowFault}
use Rattle.edm_values.specs.MomentParts.{MomentParts}
use Rattle.line_filter.specs.declared.tally.Tally.{Tally}
use Rattle.odata_checked_filter.specs.Calls.{UsesNow}
use Rattle.odata_checked_filter.specs.Filter.{Filter, tree_of_filter}
use Rattle.odata_eval.specs.declared.verdict.Verdict.{Verdict}
use Rattle.call_handles.specs.Answers.{empty_answer, fault_answer, fault_status}
use Rattle.call_handles.specs.Outcomes.{IsReported, Makes}
use Rattle.handle_calls.specs.RowCalls.{IsJudgeOf, IsMomentOf, IsNewJudge, IsNoJudgeOf, IsNoMemory, IsOutcomeOn, IsRunOver}
use Rattle.handle_calls.specs.RowCalls.{Keeps, last_after, path_kept}
use Rattle.call_handles.specs.Texts.{IsTooSmall, IsWritten, Writes}
use Rattle.call_handles.specs.declared.answer.Answer.{Answer}
use Rattle.call_handles.specs.declared.call_fault.Fault.{Fault}
use Rattle.call_handles.specs.declared.handle.Handle.{Handle}
use Rattle.call_handles.specs.declared.handle.JudgeHandle.{JudgeHandle}
use Rattle.call_handles.specs.declared.owned.Owned.{Owned}

-- whether the filter asks for a moment
abbrev pub ReportsNeedOf : Filter → Answer → ℕ → Type 0
ReportsNeedOf filter answer status = (status ≡ 0)
    × ((UsesNow (tree_of_filter filter) × (answer ≡ record empty_answer { number = 1 }))
    ⊎ ((¬ UsesNow (tree_of_filter filter)) × (answer ≡ empty_answer)))

abbrev pub ReportsNeed : Handle → Answer → ℕ → Type 0
ReportsNeed (Handle.Filter filter) answer status = ReportsNeedOf filter answer status
ReportsNeed handle answer status = IsReported Fault.OtherKind answer status

-- making a judge, and one of a filter, which have no answer of their own
pub record MakesJudge (made : Owned) (status : ℕ) : Type 0 where
  pub answer : Answer
  pub makes : Makes (IsNewJudge None) IsNoMemory made.value answer status

pub record MakesJudgeOf (given : Handle) (made : Owned) (status : ℕ) : Type 0 where
  pub answer : Answer
  pub makes : Makes (IsJudgeOf given) (IsNoJudgeOf given) made.value answer status

-- the judge takes the moment, or is as it was
abbrev pub TakesMoment : Result MomentParts Fault → JudgeHandle → JudgeHandle → ℕ → Type 0
TakesMoment (Ok now) old new status = (new ≡ record old { moment = Some now }) × (status ≡ 0)
TakesMoment (Err fault) old new status = (new ≡ old) × (status ≡ fault_status fault)

-- setting a judge's moment
pub record SetsMomentOf (old new : JudgeHandle) (text : List ℕ) (status : ℕ) : Type 0 where
  pub outcome : Result MomentParts Fault
  pub right : IsMomentOf text outcome
  pub takes : TakesMoment outcome old new status

abbrev pub SetsMoment : Handle → Handle → List ℕ → ℕ → Type 0
SetsMoment (Handle.Judge old) (Handle.Judge new) text status = SetsMomentOf old.value new.value text status
SetsMoment old new text status = (new ≡ old) × (status ≡ fault_status Fault.OtherKind)

-- setting a judge's bound
abbrev pub SetsBound : Handle → Handle → ℕ → ℕ → Type 0
SetsBound (Handle.Judge old) (Handle.Judge new) most status =
    (new.value ≡ record old.value { bound = Some most }) × (status ≡ 0)
SetsBound old new most status = (new ≡ old) × (status ≡ fault_status Fault.OtherKind)

-- the number of a verdict
abbrev pub verdict_number : Verdict → ℕ
verdict_number Verdict.False = 0
verdict_number Verdict.True = 1
verdict_number Verdict.Null = 2

-- how a verdict, or a fault, is reported, and what the judge is then
abbrev pub ReportsVerdict : Result Verdict Fault → JudgeHandle → JudgeHandle → Answer → ℕ → Type 0
ReportsVerdict (Ok verdict) old new answer status =
    Keeps old new None × ((answer ≡ record empty_answer { verdict = verdict_number verdict }) × (status ≡ 0))
ReportsVerdict (Err fault) old new answer status = Keeps old new (last_after old.last fault)
    × IsReported fault answer status

-- judging a row
pub record JudgesOneBy
    (filter : Filter) (old new : JudgeHandle) (row : List ℕ) (answer : Answer) (status : ℕ)
    : Type 0 where
  pub outcome : Result Verdict Fault
  pub right : IsOutcomeOn filter old.moment old.bound row outcome
  pub reports : ReportsVerdict outcome old new answer status

abbrev pub JudgesOne : Handle → Handle → Handle → List ℕ → Answer → ℕ → Type 0
JudgesOne (Handle.Filter filter) (Handle.Judge old) (Handle.Judge new) row answer status =
    JudgesOneBy filter old.value new.value row answer status
JudgesOne filter old new row answer status = (new ≡ old) × IsReported Fault.OtherKind answer status

-- judging a row by the judge's own filter
abbrev pub JudgesOwn : Option (Box Filter Global) → JudgeHandle → JudgeHandle → List ℕ → Answer → ℕ → Type 0
JudgesOwn (Some filter) old new row answer status = JudgesOneBy filter.value old new row answer status
JudgesOwn None old new row answer status = (new ≡ old) × IsReported Fault.OtherKind answer status

abbrev pub JudgesNext : Handle → Handle → List ℕ → Answer → ℕ → Type 0
JudgesNext (Handle.Judge old) (Handle.Judge new) row answer status =
    JudgesOwn old.value.own old.value new.value row answer status
JudgesNext old new row answer status = (new ≡ old) × IsReported Fault.OtherKind answer status

-- the text is reported, and how many rows there were; where the buffer is too small, how long it is
abbrev pub ReportsTally : Tally → List ℕ → List ℕ → List ℕ → Answer → ℕ → Type 0
ReportsTally tally text old new answer status =
    (IsWritten text old new × ((status ≡ 0)
    × (answer ≡ record empty_answer { length = length text; rows = tally.rows; kept = tally.kept })))
    ⊎ (IsTooSmall text old new × IsReported (Fault.TooSmall (length text)) answer status)

-- the fault is reported, and the text before it, if the buffer takes that; its length is reported in either case
pub record ReportsStop (fault : Fault) (text old new : List ℕ) (answer : Answer) (status : ℕ) : Type 0 where
  pub written : IsWritten text old new ⊎ IsTooSmall text old new
  pub reported : answer ≡ record (fault_answer fault) { length = length text }
  pub by : status ≡ fault_status fault

abbrev pub ReportsRun : Result Tally Fault → List ℕ → List ℕ → List ℕ → Answer → ℕ → Type 0
ReportsRun (Ok tally) text old new answer status = ReportsTally tally text old new answer status
ReportsRun (Err fault) text old new answer status = ReportsStop fault text old new answer status

-- what the judge stores after a run
abbrev pub last_of_run : Option RowFault → Result Tally Fault → Option RowFault
last_of_run last (Ok tally) = None
last_of_run last (Err fault) = last_after last fault

-- judging lines
pub record FiltersBy
    (filter : Filter) (old new : JudgeHandle) (rows kept kept' : List ℕ) (answer : Answer) (status : ℕ)
    : Type 0 where
  pub outcome : Result Tally Fault
  pub text : List ℕ
  pub right : IsRunOver filter old.moment old.bound rows outcome text
  pub keeps : Keeps old new (last_of_run old.last outcome)
  pub reports : ReportsRun outcome text kept kept' answer status

abbrev pub FiltersLines : Handle → Handle → Handle → List ℕ → List ℕ → List ℕ → Answer → ℕ → Type 0
FiltersLines (Handle.Filter filter) (Handle.Judge old) (Handle.Judge new) rows kept kept' answer status =
    FiltersBy filter old.value new.value rows kept kept' answer status
FiltersLines filter old new rows kept kept' answer status =
    (new ≡ old) × ((kept' ≡ kept) × IsReported Fault.OtherKind answer status)

-- the path of the last fault
abbrev pub path_of_judge : Handle → Result (List ℕ) Fault
path_of_judge (Handle.Judge judge) = Ok (path_kept judge.value.last)
path_of_judge handle = Err Fault.OtherKind

abbrev pub ReportsPath : Handle → List ℕ → List ℕ → Answer → ℕ → Type 0
ReportsPath judge = Writes (path_of_judge judge)
